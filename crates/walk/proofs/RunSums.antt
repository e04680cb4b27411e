-- Sums over blocks: over the two runs they make the sum over the whole pool, where the remainder counts nothing; and none is more than the bytes.
use mathlib.Core.List.{List, [], ◌∷◌}
use mathlib.Core.Path.{◌≡◌}
use Prim.Native.Nat.{◌+◌, ◌-◌, ◌≤◌, ℕ}
use native.Mathlib.Omega.{arith}
use Rattle.classes.specs.Class.{class_of}
use Rattle.paper.proofs.runs.Splitting.{sum_of-append}
use Rattle.paper.specs.Blocks.{Block, State, block, blocks, free, held, remainder, size, total}
use Rattle.paper.specs.Counting.{free_large_one, free_small_one, held_one, in_class}
use Rattle.paper.specs.Layout.{large}
use Rattle.paper.specs.Runs.{held_size, sum_of}
use Rattle.paper.specs.Sound.{Sized}
use Rattle.words.specs.Choice.{by<, by=, if<-no, if<-yes, if=-no, if=-yes}

pub sum_both : (s : State) (f : Block → ℕ) → f (block s.rest remainder) ≡ 0 → sum_of f s.low + sum_of f s.high ≡ sum_of f (blocks s)
unfolding sum_of
sum_both s f e = omega (arith, sum_of-append f s.low (block s.rest remainder ∷ s.high))

-- of a block, f says no more than its bytes
abbrev pub AtMostSize : (Block → ℕ) → Type 0
AtMostSize f = (b : Block) → 1 ≤ size b → f b ≤ size b

pub sum-at-most : (f : Block → ℕ) → AtMostSize f → (xs : List Block) → Sized xs → sum_of f xs ≤ total xs
unfolding sum_of
sum-at-most f h [] s = omega arith
sum-at-most f h (b ∷ xs) s = omega (arith, h b (omega (arith, s.0)), sum-at-most f h xs s.1)

pub held-one-at-most : AtMostSize held_one
held-one-at-most (block z held) l = l
held-one-at-most (block z free) l = omega arith
held-one-at-most (block z remainder) l = omega arith

pub held-size-at-most : AtMostSize held_size
held-size-at-most (block z held) l = omega arith
held-size-at-most (block z free) l = omega arith
held-size-at-most (block z remainder) l = omega arith

pub free-small-at-most : AtMostSize free_small_one
free-small-at-most (block z held) l = omega arith
free-small-at-most (block z free) l = by< z large (λ h. omega (arith, if<-yes {A = ℕ} z large 1 0 h)) (λ h. omega (arith, if<-no {A = ℕ} z large 1 0 h))
free-small-at-most (block z remainder) l = omega arith

pub free-large-at-most : AtMostSize free_large_one
free-large-at-most (block z held) l = omega arith
free-large-at-most (block z free) l = by< z large (λ h. omega (arith, if<-yes {A = ℕ} z large 0 1 h)) (λ h. omega (arith, if<-no {A = ℕ} z large 0 1 h))
free-large-at-most (block z remainder) l = omega arith

pub in-class-at-most : (k : ℕ) → AtMostSize (in_class k)
in-class-at-most k (block z held) l =
    by= (class_of (z - 4)) k (λ e. omega (arith, if=-yes {A = ℕ} (class_of (z - 4)) k 1 0 e)) (λ n. omega (arith, if=-no {A = ℕ} (class_of (z - 4)) k 1 0 n))
in-class-at-most k (block z free) l = omega arith
in-class-at-most k (block z remainder) l = omega arith
