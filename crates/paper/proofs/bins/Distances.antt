-- Link words inside a pool: each leads where it was made for, and two that are equal lead to one place.
use mathlib.Core.Logic.{◌≢◌}
use mathlib.Core.Path.{◌∙◌, ◌≡◌, ap, sym}
use Prim.Native.Nat.{◌%◌, ◌+◌, ◌-◌, ◌<◌, ◌^◌, ◌≤◌, ℕ}
use native.Mathlib.Omega.{arith}
use Rattle.heads.specs.Links.{followed, link_word}
use Rattle.words.specs.Choice.{by=, if=, if=-no, if=-yes, ifs}

-- ---- in a pool of at most 65,536 bytes
pub link_word-inj : (q v v' : ℕ) → q ≤ 65536 → v ≤ 65536 → v' ≤ 65536 → v ≢ q → v' ≢ q → link_word q v ≡ link_word q v' → v ≡ v'
unfolding link_word
link_word-inj q v v' a b c n n' e =
    by= v 0
    (λ z. by= v' 0 (λ z'. omega arith) (λ z'. let e' : 0 ≡ (v' + 4294967296 - q) % 4294967296 = simp ifs at e in omega arith))
    (λ z. by= v' 0 (λ z'. let e' : (v + 4294967296 - q) % 4294967296 ≡ 0 = simp ifs at e in omega arith)
    (λ z'. let e' : (v + 4294967296 - q) % 4294967296 ≡ (v' + 4294967296 - q) % 4294967296 = simp ifs at e in omega arith))

pub link_word-small : (q v : ℕ) → link_word q v < 256 ^ 4
unfolding link_word
link_word-small q v = by= v 0 (λ e. simp ifs (omega arith)) (λ e. simp ifs (omega arith))

pub followed-link_word : (q v : ℕ) → q ≤ 65536 → v ≤ 65536 → v ≢ q → followed q (link_word q v) ≡ v
unfolding followed link_word
followed-link_word q v a b n =
    by= v 0
    (λ e. if=-yes _ 0 _ _ (if=-yes v 0 _ _ e) ∙ sym e)
    (λ e. let d : if= v 0 0 ((v + 4294967296 - q) % 4294967296) ≡ (v + 4294967296 - q) % 4294967296 = if=-no v 0 _ _ e in
    if=-no _ 0 _ _ (λ z. omega (arith, sym d ∙ z)) ∙ ap (λ (w : ℕ). (q + w) % 4294967296) d ∙ omega arith)
