-- The tests of a member's words, by the words that were read.
use mathlib.Core.Bool.{Bool}
use mathlib.Core.List.{List}
use mathlib.Core.Path.{◌∙◌, ◌≡◌, sym}
use Prim.Native.Nat.{◌+◌, ℕ}
use lib.Dec.{eqb}
use borrow.Author.Tests.{eq-eqb, eqb-true}
use Rattle.guards.proofs.Guards.{pass-is}
use Rattle.guards.specs.Tests.{pass}
use Rattle.header.proofs.Laws.{link-true, true-link}
use Rattle.heads.specs.Heads.{size_at}
use Rattle.heads.specs.Links.{followed, link_word}
use Rattle.lists.specs.Lists.{large_tests, small_tests}
use Rattle.paper.specs.Layout.{next_at, previous_at}
use Rattle.words.specs.Words.{word_at}

pub small_is : (s : List ℕ) (z p q : ℕ) {y : ℕ} → y ≡ size_at s q → eqb y z ≡ pass (small_tests s z p q)
small_is s z p q {y} ey = pass-is (small_tests s z p q) (eqb y z) (λ k. (sym ey ∙ eqb-true _ _ k, tt)) (λ t. eq-eqb _ _ (ey ∙ t.0))

-- the last test: all before it have passed
pub large_is : (s : List ℕ) (z p q : ℕ) {r : Bool} {y v u d : ℕ} → y ≡ size_at s q → y ≡ z
    → v ≡ word_at 4 s (q + previous_at) → d ≡ link_word q p → v ≡ d → u ≡ word_at 4 s (q + next_at) → r ≡ eqb u (link_word q (followed q u))
    → r ≡ pass (large_tests s z p q)
large_is s z p q {r} ey size ev ed back eu er =
    pass-is (large_tests s z p q) r (λ k. (sym ey ∙ size, (sym ev ∙ back ∙ ed, (link-true q er eu k, tt)))) (λ t. true-link q er eu t.1.1.0)
