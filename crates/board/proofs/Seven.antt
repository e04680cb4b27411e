-- Seven stores fill a list of seven numbers; another list stays.
use mathlib.Core.Logic.{◌≢◌}
use mathlib.Core.Path.{◌≡◌, refl, ap, sym, ◌∙◌}
use mathlib.Core.List.{List, [], ◌∷◌}
use Prim.Native.Nat.{ℕ}
use native.Mathlib.Omega.{arith}
use lib.ListN.{length, set}
use Rattle.paper.specs.declared.Figures.{Figures}
use Rattle.words.specs.Choice.{if=-yes, if=-no}
use Rattle.board.specs.Heard.{counted}
use Rattle.std.specs.declared.result.Result.TheVariants.{Ok, Err}
use Rattle.paper.specs.declared.Refusal.TheVariants.{ListLength}
use Rattle.paper.specs.Answers.{out, seven_of}

abbrev pub stored : Figures → List ℕ → List ℕ
stored f xs =
    let s0 = set xs 0 f.held_blocks in
    let s1 = set s0 1 f.held_bytes in
    let s2 = set s1 2 f.free_small in
    let s3 = set s2 3 f.free_large in
    let s4 = set s3 4 f.remainder in
    let s5 = set s4 5 f.free_word in
    set s5 6 f.largest

seven-stored : (f : Figures) (xs : List ℕ) → length xs ≡ 7 → stored f xs ≡ seven_of f
seven-stored f (a ∷ b ∷ c ∷ d ∷ e ∷ g ∷ h ∷ []) n = refl
seven-stored f (a ∷ b ∷ c ∷ d ∷ e ∷ g ∷ h ∷ i ∷ xs) n = absurd (omega (arith, n))
seven-stored f (a ∷ b ∷ c ∷ d ∷ e ∷ g ∷ []) n = absurd (omega (arith, n))
seven-stored f (a ∷ b ∷ c ∷ d ∷ e ∷ []) n = absurd (omega (arith, n))
seven-stored f (a ∷ b ∷ c ∷ d ∷ []) n = absurd (omega (arith, n))
seven-stored f (a ∷ b ∷ c ∷ []) n = absurd (omega (arith, n))
seven-stored f (a ∷ b ∷ []) n = absurd (omega (arith, n))
seven-stored f (a ∷ []) n = absurd (omega (arith, n))
seven-stored f [] n = absurd (omega (arith, n))

pub counted-stored : (f : Figures) (xs : List ℕ) → length xs ≡ 7 → counted f xs ≡ out (Ok f.held_blocks) (stored f xs)
unfolding counted
counted-stored f xs n = if=-yes _ _ _ _ n ∙ ap (λ (s : List ℕ). out (Ok f.held_blocks) s) (sym (seven-stored f xs n))

pub counted-refused : (f : Figures) (xs : List ℕ) → length xs ≢ 7 → counted f xs ≡ out (Err ListLength) xs
unfolding counted
counted-refused f xs n = if=-no _ _ _ _ n
