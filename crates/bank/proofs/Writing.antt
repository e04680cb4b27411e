-- A record written byte by byte, for the loop of bank::write: the byte of kind and the first i bytes of the body stand at the part's start.
use mathlib.Core.List.{List, ◌∷◌}
use mathlib.Core.Path.{◌≡◌, refl, sym, ap, ◌∙◌}
use Prim.Native.Nat.{ℕ, suc, ◌+◌, ◌≤◌, ◌<◌}
use native.Mathlib.Omega.{arith}
use lib.ListN.{get_or, length, length-set, set}
use lib.Seq.{ext_get_or, get_or-set_other, get_or-set_same}
use Rattle.words.specs.Choice.{by=}

pub record Writing (part₀ : List ℕ) (kind : ℕ) (body part : List ℕ) (i : ℕ) : Type 0 where
  pub within : i ≤ length body
  pub long : length part ≡ length part₀
  pub there : (j : ℕ) → j ≤ i → j < length part → get_or part j 0 ≡ get_or (kind ∷ body) j 0

pub begins : (part : List ℕ) (kind : ℕ) (body : List ℕ) → Writing (set part 0 kind) kind body (set part 0 kind) 0
begins part kind body =
    record {
      within = omega arith;
      long = refl;
      there = λ j l m. let z : j ≡ 0 = omega arith in
          ap (λ (k : ℕ). get_or (set part 0 kind) k 0) z ∙ get_or-set_same part 0 kind 0 (omega (arith, length-set part 0 kind))
          ∙ ap (λ (k : ℕ). get_or (kind ∷ body) k 0) (sym z);
    }

module _ {part₀ : List ℕ} {kind : ℕ} {body part : List ℕ} {i : ℕ} (W : Writing part₀ kind body part i) where
  pub goes_on : i < length body → i + 1 < length part → Writing part₀ kind body (set part (i + 1) (get_or body i 0)) (i + 1)
  goes_on l m =
      record {
        within = omega arith;
        long = length-set part (i + 1) (get_or body i 0) ∙ W.long;
        there = λ j a b. by= j (i + 1)
            (λ e. let f : j ≡ suc i = omega arith in
            ap (λ (k : ℕ). get_or (set part (i + 1) (get_or body i 0)) k 0) e ∙ get_or-set_same part (i + 1) (get_or body i 0) 0 m
            ∙ ap (λ (k : ℕ). get_or (kind ∷ body) k 0) (sym f))
            (λ n. get_or-set_other part (i + 1) j (get_or body i 0) 0 n
            ∙ W.there j (omega arith) (omega (arith, length-set part (i + 1) (get_or body i 0))));
      }

-- from the part before its first byte was put
module _ (part₀ : List ℕ) (kind : ℕ) {body part : List ℕ} {i : ℕ} (W : Writing (set part₀ 0 kind) kind body part i) where
  pub same-long : length part ≡ length part₀
  same-long = W.long ∙ length-set part₀ 0 kind

  pub ends : length body ≤ i → length part₀ ≡ suc (length body) → part ≡ kind ∷ body
  ends l e = ext_get_or 0 part (kind ∷ body) (same-long ∙ e) (λ j m. W.there j (omega (arith, same-long, W.within)) m)
