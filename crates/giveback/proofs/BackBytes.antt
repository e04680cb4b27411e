-- Giving back on bytes is the paper's, for every offset of a held block: seam 2 of the give-back.
use mathlib.Core.List.{List}
use mathlib.Core.Logic.{◌≢◌}
use mathlib.Core.Path.{◌∙◌, ◌≡◌, ap, sym}
use Prim.Native.Nat.{◌-◌, ℕ}
use native.Mathlib.Omega.{arith}
use Rattle.giveback.proofs.LargeBytes.{large-bytes}
use Rattle.giveback.proofs.SmallBytes.{small_bytes}
use Rattle.giveback.specs.GiveBack.{earned, give_back, put_back}
use Rattle.paper.proofs.keeps.BackKeeps.{give_back-large, give_back-small}
use Rattle.paper.proofs.runs.HeldPlaces.{held-large, held_small, held_at}
use Rattle.paper.proofs.runs.Neighbours.{run}
use Rattle.paper.proofs.reads.Stands.{Stands}
use Rattle.paper.specs.Blocks.{State}
use Rattle.paper.specs.GivingBack.{give_back as give_back-state}
use Rattle.paper.specs.Governed.{sheet}
use Rattle.paper.specs.Layout.{large}
use Rattle.paper.specs.Sheet.{write}
use Rattle.words.specs.Choice.{by<, if<-no, if<-yes}
use Rattle.words.specs.Words.{Bytes}

pub back-bytes : (s : State) (bs : List ℕ) → Stands s bs → Bytes bs → (offset : ℕ) → held_at s offset ≢ 0
    → give_back bs (offset - 4) (held_at s offset) ≡ write (sheet (give_back-state s offset).state) bs
unfolding give_back put_back
back-bytes s bs S B offset n =
    by< (held_at s offset) large
    (λ l. ap (λ (k : List ℕ). earned k (held_at s offset)) (if<-yes (held_at s offset) large _ _ l)
    ∙ small_bytes s bs S (offset - 4) (held_at s offset) (held_small s S.well_formed offset (omega arith) l)
    ∙ ap (λ (k : State). write (sheet k) bs) (sym (give_back-small s S.well_formed offset (omega arith) l)))
    (λ l. ap (λ (k : List ℕ). earned k (held_at s offset)) (if<-no (held_at s offset) large _ _ l)
    ∙ large-bytes s bs S B (offset - 4) (held_at s offset)
    (run s S.well_formed (offset - 4) (held_at s offset) (held-large s S.well_formed offset l))
    ∙ ap (λ (k : State). write (sheet k) bs) (sym (give_back-large s S.well_formed offset l)))
