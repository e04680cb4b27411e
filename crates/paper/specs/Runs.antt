-- Parts of a run of "blocks end to end", which starts at p: the blocks below a place, those from a place on, and what stands at a place.
use Rattle.std.specs.Prelude.{List, [], ◌∷◌, ◌++◌, ℕ, ◌+◌}
use Rattle.words.specs.Choice.{if=, if<}
use Rattle.paper.specs.Blocks.{held, free, remainder, Block, block, size}

-- the blocks that start below a
unfoldable pub under : List Block → ℕ → ℕ → List Block
under [] p a = []
under (b ∷ xs) p a = if< p a (b ∷ under xs (p + size b) a) []

-- the blocks that start at a or later
unfoldable pub from : List Block → ℕ → ℕ → List Block
from [] p a = []
from (b ∷ xs) p a = if< p a (from xs (p + size b) a) (b ∷ xs)

-- new blocks for those from a up to e
unfoldable pub replace : List Block → ℕ → ℕ → ℕ → List Block → List Block
replace xs p a e new = under xs p a ++ new ++ from xs p e

-- what f says of the block that starts at q, 0 where none does
unfoldable pub starts_at : (Block → ℕ) → List Block → ℕ → ℕ → ℕ
starts_at f [] p q = 0
starts_at f (b ∷ xs) p q = if= p q (f b) (starts_at f xs (p + size b) q)

-- what f says of the block that ends at q, 0 where none does
unfoldable pub ends_at : (Block → ℕ) → List Block → ℕ → ℕ → ℕ
ends_at f [] p q = 0
ends_at f (b ∷ xs) p q = if= (p + size b) q (f b) (ends_at f xs (p + size b) q)

-- the size of a held block, and of a free one; 0 of any other
abbrev pub held_size : Block → ℕ
held_size (block z held) = z
held_size (block z free) = 0
held_size (block z remainder) = 0

abbrev pub free_size : Block → ℕ
free_size (block z held) = 0
free_size (block z free) = z
free_size (block z remainder) = 0

-- the sum of what f says of each block
unfoldable pub sum_of : (Block → ℕ) → List Block → ℕ
sum_of f [] = 0
sum_of f (b ∷ xs) = f b + sum_of f xs
