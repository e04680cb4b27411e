-- What the code makes of a head and takes a head apart into, as the paper's head words, for sizes that fit a pool.
use mathlib.Core.Bool.{Bool}
use mathlib.Core.Path.{◌≡◌, ◌∙◌, ap}
use Prim.Native.Nat.{◌%◌, ◌*◌, ◌+◌, ◌/◌, ◌≤◌, ℕ}
use native.Mathlib.Omega.{arith}
use lib.Dec.{eqb}
use mir.Val.{bool_byte}
use Rattle.heads.specs.Heads.{free_head, head_of, held_head, with_p, word_of}
use Rattle.heads.specs.declared.head.Head.{Head}
use Rattle.paper.specs.Blocks.{Kind, free, held, remainder}
use Rattle.paper.specs.Governed.{head_word, held_bit}

pub held_bit-le : (k : Kind) → held_bit k ≤ 1
held_bit-le held = omega arith
held_bit-le free = omega arith
held_bit-le remainder = omega arith

-- taken apart
pub head-of-word : (z : ℕ) (k : Kind) (P : ℕ) → P ≤ 1
    → ◌≡◌ {A = Head} (head_of (head_word z k P)) (record { size = z; p = eqb P 1; held = eqb (held_bit k) 1 })
unfolding head_of
head-of-word z k P l =
    let h = held_bit-le k in
    let a : (4 * z + 2 * P + held_bit k) / 4 ≡ z = omega arith in
    let b : (4 * z + 2 * P + held_bit k) / 2 % 2 ≡ P = omega arith in
    let c : (4 * z + 2 * P + held_bit k) % 2 ≡ held_bit k = omega arith in
    λ i. record { size = a i; p = eqb (b i) 1; held = eqb (c i) 1 }

-- made; the head of the remainder is that of a free block
pub held_head-is : (z : ℕ) → z ≤ 65536 → held_head z ≡ head_word z held 1
unfolding held_head word_of
held_head-is z l = omega arith

pub free_head-is : (z : ℕ) → z ≤ 65536 → free_head z ≡ head_word z free 1
unfolding free_head word_of
free_head-is z l = omega arith

-- a held block is told another P
pub with_p-held : (z P : ℕ) (p : Bool) → z ≤ 65536 → P ≤ 1 → with_p (head_word z held P) p ≡ head_word z held (bool_byte p)
unfolding with_p word_of
with_p-held z P p l m =
    let e : 4 * z % 4294967296 ≡ 4 * z = omega arith in
    ap (λ (h : Head). word_of (record { size = h.size; p = p; held = h.held })) (head-of-word z held P m) ∙ rw e
