-- A link word is a signed distance: the word back is that of the negated one. And a link word leads where it should.
use Rattle.std.proofs.Common.{◌≡◌, ◌≢◌, ℕ, zero, suc, ◌≤◌, ◌<◌, true, refl, sym, ap, ◌∙◌, arith}
use lib.IntN.{ℤ, pos, negsuc, neg_ℤ}
use lib.Signed.{lt_z}
use borrow.Author.Tests.{ltb-true}
use mir.Syntax.{w32}
use mir.Val.{to_z, of_z, SFits}
use mir.ValLaws.{to_z-of_z}
use Rattle.words.specs.Choice.{if=-yes, if=-no, by=}
use Rattle.words.specs.Sums.{minus}
use Rattle.heads.specs.Links.{link_word, followed}

-- the bits of a number below zero
pub neg_bits : (d : ℤ) → SFits w32 d → lt_z (to_z w32 (of_z w32 d)) (pos 0) ≡ true → 2147483648 ≤ of_z w32 d
neg_bits (pos n) f h = absurd (omega (arith, ltb-true n 0 (rw (to_z-of_z w32 (pos n) f) at h)))
neg_bits (negsuc n) f h = omega (arith, f.sfits)

-- the word of the opposite, for the least number too, which has none
pub neg_word : (d : ℤ) → SFits w32 d → of_z w32 (neg_ℤ d) ≡ minus 0 (of_z w32 d)
neg_word (pos zero) f = omega arith
neg_word (pos (suc k)) f = omega (arith, f.sfits)
neg_word (negsuc k) f = omega (arith, f.sfits)

-- a link word, followed, leads to its end
pub follow-link : (from to : ℕ) → from < 4294967296 → to < 4294967296 → to ≢ from → followed from (link_word from to) ≡ to
unfolding link_word followed
follow-link from to h k n =
    by= to 0
    (λ e. ap (λ (w : ℕ). followed from w) (if=-yes to 0 0 (minus to from) e) ∙ if=-yes 0 0 _ _ refl ∙ sym e)
    (λ m. ap (λ (w : ℕ). followed from w) (if=-no to 0 0 (minus to from) m)
    ∙ if=-no (minus to from) 0 _ _ (omega arith) ∙ omega arith)
