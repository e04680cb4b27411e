-- The eight lists one after the other, for the loop of homing::prune_all: all of them are those from here.
use mathlib.Core.List.{List}
use mathlib.Core.Path.{◌≡◌, refl, sym, ap, ◌∙◌}
use Prim.Native.Nat.{ℕ, suc, ◌+◌, ◌*◌, ◌-◌, ◌≤◌, ◌<◌}
use native.Mathlib.Omega.{arith}
use lib.ListN.{length}
use Rattle.paper.specs.Layout.{false_block}
use Rattle.homing.specs.Homing.{pruned, pruned_from}

pub record Bins (old : List ℕ) (edge : ℕ) (bs : List ℕ) (first : ℕ) : Type 0 where
  pub long : length bs ≡ length old
  pub fuel : ℕ
  pub due : first + 8 * fuel ≡ false_block
  pub same : pruned_from 8 old 32 edge ≡ pruned_from fuel bs first edge

pub begins : (old : List ℕ) (edge : ℕ) → Bins old edge old 32
begins old edge = record { long = refl; fuel = 8; due = refl; same = refl }

module _ {old : List ℕ} {edge : ℕ} {bs : List ℕ} {first : ℕ} (B : Bins old edge bs first) where
  pub done : false_block ≤ first → bs ≡ pruned_from 8 old 32 edge
  unfolding pruned_from
  done e = sym (B.same ∙ ap (λ (c : ℕ). pruned_from c bs first edge) none)
    where
      none : B.fuel ≡ 0
      none = omega (arith, B.due)

  pub goes_on : first < false_block → {new : List ℕ} → length new ≡ length bs → new ≡ pruned bs first edge → Bins old edge new (first + 8)
  unfolding pruned_from
  goes_on n {new} l e =
      record {
        long = l ∙ B.long;
        fuel = B.fuel - 1;
        due = omega (arith, B.due);
        same = B.same ∙ ap (λ (c : ℕ). pruned_from c bs first edge) more ∙ ap (λ (b : List ℕ). pruned_from (B.fuel - 1) b (first + 8) edge) (sym e);
      }
    where
      more : B.fuel ≡ suc (B.fuel - 1)
      more = omega (arith, B.due)
