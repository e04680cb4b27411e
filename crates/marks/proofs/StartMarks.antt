-- The mark of a start: what is put at a start is there, and every other start keeps its own; only a multiple of 8 within the set is ever marked.
use mathlib.Core.List.{List}
use mathlib.Core.Path.{◌∙◌, ◌≡◌, ap, sym}
use Prim.Native.Nat.{◌%◌, ◌/◌, ◌<◌, ◌^◌, ◌≤◌, ℕ}
use native.Mathlib.Nat.{zero-div}
use native.Mathlib.Omega.{arith}
use lib.ListN.{get_or-eq_default, get_or, get_or-replicate, length, length-replicate, replicate}
use Rattle.marks.proofs.Laws.{bit-out, has_other, has_same}
use Rattle.marks.specs.Marks.{bit_at, put_bit_at}
use Rattle.marks.specs.MarkSets.{mark_at}
use Rattle.words.specs.Choice.{by<, by=, if=, if=-no, if=-yes}

pub mark-put : (ws : List ℕ) (q c x : ℕ) → c < 2 → q / 8 / 64 < length ws → q % 8 ≡ 0 → mark_at (put_bit_at ws (q / 8) c) x ≡ if= q x c (mark_at ws x)
unfolding mark_at
mark-put ws q c x c2 l al =
    by= q x
    (λ e. if=-yes (x % 8) 0 _ _ (omega arith) ∙ ap (λ (v : ℕ). bit_at (put_bit_at ws (q / 8) c) (v / 8)) (sym e) ∙ has_same ws (q / 8) c c2 l
    ∙ sym (if=-yes q x _ _ e))
    (λ n. by= (x % 8) 0
    (λ a. if=-yes (x % 8) 0 _ _ a ∙ has_other ws (q / 8) c (x / 8) c2 l (λ e. n (omega arith)) ∙ sym (if=-no q x _ _ n ∙ if=-yes (x % 8) 0 _ _ a))
    (λ a. if=-no (x % 8) 0 _ _ a ∙ sym (if=-no q x _ _ n ∙ if=-no (x % 8) 0 _ _ a)))

pub mark-at-most-one : (ws : List ℕ) (x : ℕ) → mark_at ws x ≤ 1
unfolding mark_at bit_at
mark-at-most-one ws x =
    by= (x % 8) 0 (λ a. omega (arith, if=-yes {A = ℕ} (x % 8) 0 (bit_at ws (x / 8)) 0 a)) (λ a. omega (arith, if=-no {A = ℕ} (x % 8) 0 (bit_at ws (x / 8)) 0 a))

-- what is marked has a place in the set
pub marked-place : (ws : List ℕ) (q : ℕ) → 1 ≤ mark_at ws q → (q % 8 ≡ 0) × (q / 8 / 64 < length ws)
unfolding mark_at
marked-place ws q o =
    by= (q % 8) 0
    (λ a. by< (q / 8 / 64) (length ws) (λ l. (a, l))
    (λ l. absurd (omega (arith, if=-yes {A = ℕ} (q % 8) 0 (bit_at ws (q / 8)) 0 a, bit-out ws (q / 8) l))))
    (λ a. absurd (omega (arith, if=-no {A = ℕ} (q % 8) 0 (bit_at ws (q / 8)) 0 a)))

pub none-marked : (k x : ℕ) → mark_at (replicate k 0) x ≡ 0
unfolding mark_at bit_at
none-marked k x =
    by= (x % 8) 0
    (λ a. if=-yes (x % 8) 0 _ _ a ∙ ap (λ (v : ℕ). v / 2 ^ (x / 8 % 64) % 2) (zero-at (x / 8 / 64))
    ∙ ap (λ (v : ℕ). v % 2) (zero-div (2 ^ (x / 8 % 64))))
    (λ a. if=-no (x % 8) 0 _ _ a)
  where
    zero-at : (i : ℕ) → get_or {A = ℕ} (replicate k 0) i 0 ≡ 0
    zero-at i =
        by< i k (λ l. get_or-replicate k i 0 0 l)
        (λ l. let m : length {A = ℕ} (replicate k 0) ≤ i = omega (arith, length-replicate {A = ℕ} k 0) in get_or-eq_default (replicate k 0) 0 m)
