-- Along one list, for the loop of homing::prune: the whole list is the list from here, and each way out or on is one law.
use mathlib.Core.List.{List}
use mathlib.Core.Logic.{◌≢◌}
use mathlib.Core.Path.{◌≡◌, refl, sym, ap, ◌∙◌}
use Prim.Native.Nat.{ℕ, suc, ◌+◌, ◌-◌, ◌/◌, ◌≤◌, ◌<◌}
use native.Mathlib.Omega.{arith}
use lib.ListN.{length}
use Rattle.words.proofs.Laws.{put-length}
use Rattle.words.specs.Choice.{if<-no, if<-yes, if=-no, if=-yes}
use Rattle.words.specs.Sums.{plus}
use Rattle.words.specs.Words.{put_at, word_at}
use Rattle.paper.specs.Layout.{small_next_at}
use Rattle.homing.specs.Homing.{prune, pruned}

-- the code counts its steps, so the fuel is what is left
pub record Pruning (old : List ℕ) (first edge : ℕ) (bs : List ℕ) (gone at q : ℕ) : Type 0 where
  pub long : length bs ≡ length old
  pub same : pruned old first edge ≡ prune (length old / 8 - gone) bs edge at q

pub begins : (old : List ℕ) (first edge : ℕ) {q : ℕ} → q ≡ word_at 4 old first → Pruning old first edge old 0 first q
unfolding pruned
begins old first edge e =
    let all : length old / 8 ≡ length old / 8 - 0 = omega arith in record { long = refl; same = λ i. prune (all i) old edge first (sym e i) }

module _ {old : List ℕ} {first edge : ℕ} {bs : List ℕ} {gone at q : ℕ} (P : Pruning old first edge bs gone at q) where
  pub out : length old / 8 ≤ gone → bs ≡ pruned old first edge
  unfolding prune
  out h = let e : length old / 8 - gone ≡ 0 = omega arith in sym (P.same ∙ ap (λ (k : ℕ). prune k bs edge at q) e)

  module _ (n : gone < length old / 8) where
    abbrev left : ℕ
    left = length old / 8 - (gone + 1)

    step : prune (length old / 8 - gone) bs edge at q ≡ prune (suc left) bs edge at q
    step = let e : length old / 8 - gone ≡ suc (length old / 8 - (gone + 1)) = omega arith in ap (λ (k : ℕ). prune k bs edge at q) e

    -- the list ends here
    pub ends : q ≡ 0 → {new : List ℕ} → new ≡ put_at 4 bs at 0 → new ≡ pruned old first edge
    unfolding prune
    ends z e = e ∙ sym (P.same ∙ step ∙ if=-yes q 0 _ _ z)

    module _ (m : q ≢ 0) {next : ℕ} (en : next ≡ word_at 4 bs (q + small_next_at)) where
      -- what lies below the edge is left out
      pub leaves : q < edge → {new : List ℕ} {at' : ℕ} → new ≡ bs → at' ≡ at → Pruning old first edge new (gone + 1) at' next
      unfolding prune
      leaves l e ea =
          record {
            long = ap length e ∙ P.long;
            same = P.same ∙ step ∙ if=-no q 0 _ _ m ∙ if<-yes q edge _ _ l
                ∙ (λ i. prune left (sym e i) edge (sym ea i) (sym en i));
          }

      -- and what does not is led to
      pub stays : edge ≤ q → {new : List ℕ} {at' : ℕ} → new ≡ put_at 4 bs at q → at' ≡ plus q small_next_at
          → Pruning old first edge new (gone + 1) at' next
      unfolding prune
      stays l {new} {at'} e ea =
          record {
            long = ap length e ∙ put-length 4 bs at q ∙ P.long;
            same = P.same ∙ step ∙ if=-no q 0 _ _ m ∙ if<-no q edge _ _ l
                ∙ (λ i. prune left (sym e i) edge (sym ea i) (sym en i));
          }
