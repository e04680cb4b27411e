-- "168 to R: large blocks end to end, held or free. R to E: the remainder. E to n: small blocks end to end."
-- And the order of each bin, which the blocks do not fix.
use Rattle.std.specs.Prelude.{List, [], ◌∷◌, ◌++◌, ℕ, ◌+◌}
use Rattle.paper.specs.Layout.{blocks_at}

pub data Kind : Type 0 where
  held free remainder : Kind

-- a block is its size and its kind
pub data Block : Type 0 where
  block : ℕ → Kind → Block

-- top: how high the index is, 1 in layout 1 and 13 in layout 2. low: the large blocks from 168 up to R. rest: the remainder's size.
-- high: the small blocks from E up to n. bins z: the starts of the free blocks of size z, in the order of their list.
pub record State : Type 0 where
  pub top : ℕ
  pub low : List Block
  pub rest : ℕ
  pub high : List Block
  pub bins : ℕ → List ℕ

-- the same blocks and lists, with an index t high
abbrev pub with_top : ℕ → State → State
with_top t s = record { top = t; low = s.low; rest = s.rest; high = s.high; bins = s.bins }

abbrev pub size : Block → ℕ
size (block z k) = z

abbrev pub blocks : State → List Block
blocks s = s.low ++ block s.rest remainder ∷ s.high

abbrev pub total : List Block → ℕ
total [] = 0
total (b ∷ xs) = size b + total xs

-- n, where the last block ends
abbrev pub end : State → ℕ
end s = blocks_at + total (blocks s)

-- "The sum of all free sizes, remainder included."
abbrev pub free_sum : List Block → ℕ
free_sum [] = 0
free_sum (block z held ∷ xs) = free_sum xs
free_sum (block z free ∷ xs) = z + free_sum xs
free_sum (block z remainder ∷ xs) = z + free_sum xs
