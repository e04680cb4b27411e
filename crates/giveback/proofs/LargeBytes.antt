-- A large block given back on bytes is the paper's: the run touches R just where nothing stands above it.
use mathlib.Core.List.{List, [], ◌∷◌}
use mathlib.Core.Logic.{◌⊎◌, inl, inr}
use mathlib.Core.Path.{◌∙◌, ◌≡◌, ap}
use Prim.Native.Nat.{◌%◌, ◌+◌, ◌-◌, ◌≤◌, ℕ}
use native.Mathlib.Omega.{arith}
use Rattle.giveback.proofs.RestBytes.{rest-bytes}
use Rattle.giveback.proofs.RunBytes.{run-bytes}
use Rattle.giveback.proofs.RunReads.{near, run-start}
use Rattle.giveback.proofs.RunShape.{over-cases, run-to-R}
use Rattle.giveback.specs.Large.{give_back_large, join_rest, join_run}
use Rattle.giveback.specs.GiveBack.{earned}
use Rattle.paper.proofs.runs.Neighbours.{Run}
use Rattle.paper.proofs.reads.HeaderReads.{start-read}
use Rattle.paper.proofs.reads.Stands.{Stands}
use Rattle.paper.specs.Blocks.{Block, State, block, held, total}
use Rattle.paper.specs.GivingBack.{give_back_large as give_back_large-state}
use Rattle.paper.specs.Governed.{sheet}
use Rattle.paper.specs.Granting.{R}
use Rattle.paper.specs.Sheet.{write}
use Rattle.words.specs.Choice.{if=, if=-no, if=-yes}
use Rattle.words.specs.Words.{Bytes}

pub large-bytes : (s : State) (bs : List ℕ) → Stands s bs → Bytes bs → (q z : ℕ) → Run s q z
    → earned (give_back_large bs q z) z ≡ write (sheet (give_back_large-state s q z)) bs
unfolding give_back_large
large-bytes s bs S B q z r =
    let t : (q + z) % 4294967296 ≡ q + z = omega (arith, near s bs S q z r) in
    rw (run-start s bs S q z r, start-read s bs S, t) (go (over-cases s S.well_formed q z r))
  where
    go : ((r.up ≡ 0) × (r.over ≡ [])) ⊎ ((y : ℕ) × (ys : List Block) × (r.over ≡ block y held ∷ ys) × (72 ≤ y))
        → earned (if= (q + z) (R s) (join_rest bs (q - r.down) q) (join_run bs (q - r.down) q (q + z))) z
        ≡ write (sheet (give_back_large-state s q z)) bs
    go (inl o) =
        ap (λ (k : List ℕ). earned k z) (if=-yes (q + z) (R s) _ _ (omega (arith, run-to-R s S.well_formed q z r, ap total o.1, o.0)))
        ∙ rest-bytes s bs S q z r o.0 o.1
    go (inr o) =
        ap (λ (k : List ℕ). earned k z) (if=-no (q + z) (R s) _ _ (λ e. omega (arith, run-to-R s S.well_formed q z r, ap total o.2, o.3)))
        ∙ run-bytes s bs S B q z r o.0 o.1 o.2 o.3
