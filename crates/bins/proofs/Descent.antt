-- Level by level down, for the loops of bins::down and bins::rehead: the whole way is the way from here, one level on or at its end.
use mathlib.Core.List.{List}
use mathlib.Core.Path.{◌≡◌, refl, sym, ap, ap₂, ◌∙◌}
use Prim.Native.Nat.{ℕ, suc, ◌+◌, ◌-◌, ◌≤◌, ◌<◌}
use native.Mathlib.Omega.{arith}
use lib.ListN.{length}
use Rattle.bins.specs.declared.chain.Bin.{Bin}
use Rattle.bins.specs.Find.{found, along, down_by, down}
use Rattle.bins.specs.Head.{relink, rehead_by}

-- what is found in the end, `at` being what was found on `level`
pub record Descending (bs : List ℕ) (bin : Bin) (to least level : ℕ) (at : Bin) : Type 0 where
  pub same : down bs bin to least ≡ down_by (level - to) bs at to least

pub starts : (bs : List ℕ) (bin : Bin) (to least : ℕ) → Descending bs bin to least bin.level bin
unfolding down
starts bs bin to least = record { same = refl }

module _ {bs : List ℕ} {bin : Bin} {to least level : ℕ} {at : Bin} (D : Descending bs bin to least level at) where
  pub one_down : to < level → {on : Bin} → on ≡ along bs (level - 1) at least → Descending bs bin to least (level - 1) on
  unfolding down_by
  one_down h {on} e =
      let k = level - 1 - to in
      let left : level - to ≡ suc k = omega arith in
      let here : to + k ≡ level - 1 = omega arith in
      record {
        same = D.same ∙ ap (λ (n : ℕ). down_by n bs at to least) left ∙ ap (λ (n : ℕ). down_by k bs (along bs n at least) to least) here
            ∙ ap (λ (b : Bin). down_by k bs b to least) (sym e);
      }

  pub there : level ≤ to → at ≡ down bs bin to least
  unfolding down_by
  there h = let none : level - to ≡ 0 = omega arith in sym (D.same ∙ rw none)

-- the bytes when all levels are relinked, `bs` being the bytes before that is done on `level`, where `before` stands
pub record Reheading (old-bytes : List ℕ) (top-level top-before size old new : ℕ) (bs : List ℕ) (level before : ℕ) : Type 0 where
  pub long : length bs ≡ length old-bytes
  pub same : rehead_by (top-level - 1) old-bytes top-before size old new ≡ rehead_by (level - 1) bs before size old new

pub begins : (bs : List ℕ) (level before size old new : ℕ) → Reheading bs level before size old new bs level before
begins bs level before size old new = record { long = refl; same = refl }

module _ {old-bytes : List ℕ} {top-level top-before size old new : ℕ} {bs : List ℕ} {level before : ℕ}
    (R : Reheading old-bytes top-level top-before size old new bs level before) where
  -- relinking from the level n on, k levels above the lowest, once the level over it is done
  abbrev below : List ℕ → ℕ → ℕ → List ℕ
  below ds n k = rehead_by k ds (along ds n (found n before old size) size).before size old new

  pub relinks-below : 1 < level → {cs : List ℕ} → length cs ≡ length bs → {here : ℕ} → cs ≡ relink bs here before old new → here ≡ level → {on : Bin}
      → on ≡ along cs (level - 1) (found (level - 1) before old size) size → Reheading old-bytes top-level top-before size old new cs (level - 1) on.before
  unfolding rehead_by
  relinks-below h {cs} l {here} e m {on} f =
      let k = level - 1 - 1 in
      let left : level - 1 ≡ suc k = omega arith in
      let there : suc (suc k) ≡ here = omega (arith, m) in
      record {
        long = l ∙ R.long;
        same = R.same ∙ ap (λ (n : ℕ). rehead_by n bs before size old new) left
            ∙ ap₂ (λ (m n : ℕ). below (relink bs m before old new) n k) there (sym left)
            ∙ ap (λ (ds : List ℕ). below ds (level - 1) k) (sym e)
            ∙ ap (λ (b : Bin). rehead_by k cs b.before size old new) (sym f);
      }

  pub relinked-all : level ≤ 1 → {cs : List ℕ} → cs ≡ relink bs 1 before old new → cs ≡ rehead_by (top-level - 1) old-bytes top-before size old new
  unfolding rehead_by
  relinked-all h {cs} e = let none : level - 1 ≡ 0 = omega arith in e ∙ sym (R.same ∙ rw none)
