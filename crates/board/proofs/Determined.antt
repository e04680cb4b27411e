-- The statement of each call determines its outcome: two that it allows have the same number and leave the same bytes.
use mathlib.Core.Path.{◌≡◌, ap, sym, ◌∙◌}
use mathlib.Core.List.{List}
use Prim.Native.Nat.{ℕ, ◌/◌, ◌%◌}
use native.Mathlib.Omega.{arith}
use Rattle.board.specs.Heard.{Halves, halves, Left, left}
use Rattle.board.specs.Pistons.{LeftBoth, left_both}

-- a number is its two halves
pub same_number : (r r' : ℕ) → halves r ≡ halves r' → r ≡ r'
same_number r r' e =
    let u : r / 4294967296 ≡ r' / 4294967296 = ap (λ (h : Halves). h.upper) e in
    let l : r % 4294967296 ≡ r' % 4294967296 = ap (λ (h : Halves). h.lower) e in
    omega arith

-- of pool_inspect, pool_ask and bank_recall
pub answer-determined : (h : Halves) (r r' : ℕ) → h ≡ halves r → h ≡ halves r' → r ≡ r'
answer-determined h r r' e f = same_number r r' (sym e ∙ f)

-- of the pool's other five, of pool_convert and of pool_bring_in
pub outcome-determined : (o : Left) (r r' : ℕ) (a a' : List ℕ) → o ≡ left (halves r) a → o ≡ left (halves r') a' → (r ≡ r') × (a ≡ a')
outcome-determined o r r' a a' e f =
    let g : left (halves r) a ≡ left (halves r') a' = sym e ∙ f in
    (same_number r r' (ap (λ (x : Left). x.hears) g), ap (λ (x : Left). x.after) g)

-- of bank_set and bank_clear
pub both-determined : (o : LeftBoth) (r r' : ℕ) (p p' b b' : List ℕ) → o ≡ left_both (halves r) p b → o ≡ left_both (halves r') p' b'
    → (r ≡ r') × (p ≡ p') × (b ≡ b')
both-determined o r r' p p' b b' e f =
    let g : left_both (halves r) p b ≡ left_both (halves r') p' b' = sym e ∙ f in
    (same_number r r' (ap (λ (x : LeftBoth). x.hears) g), ap (λ (x : LeftBoth). x.pool) g, ap (λ (x : LeftBoth). x.bank) g)
