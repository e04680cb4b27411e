-- "Bytes of the pool": the governed words of a state, by address; src/layout.rt draws them. A header word has 8 bytes, and its high half is 0.
use Rattle.std.specs.Prelude.{List, [], ◌∷◌, ℕ, suc, ◌+◌, ◌-◌, ◌*◌, ◌/◌, ◌%◌, min}
use Rattle.std.proofs.Math.Option.{Option, none, some}
use Rattle.std.specs.Int.Count.{count_trailing_zeros}
use Rattle.words.specs.Choice.{if=, if<}
use Rattle.heads.specs.Links.{link_word}
use Rattle.paper.specs.Layout.{false_block, blocks_at, large, small_next_at, previous_at, next_at, level_at, chain_at}
use Rattle.paper.specs.Blocks.{Kind, held, free, remainder, Block, block, State, size, blocks, total, end, free_sum}
use Rattle.paper.specs.Bins.{first, prev_in, next_in, seek}
use Rattle.paper.specs.Sheet.{Sheet}

-- "a is 1 for held"
abbrev pub held_bit : Kind → ℕ
held_bit held = 1
held_bit free = 0
held_bit remainder = 0

-- "P is 1 unless the block next below is a free large block": P of the block above b
abbrev pub flag_above : Block → ℕ
flag_above (block z held) = 1
flag_above (block z remainder) = 1
flag_above (block z free) = if< z large 1 0

-- "Head word = 4 × size + 2 × P + a"
abbrev pub head_word : ℕ → Kind → ℕ → ℕ
head_word z k P = 4 * z + 2 * P + held_bit k

abbrev pub link : ℕ → Option ℕ → Option ℕ
link p none = none
link p (some q) = some (link_word p q)

-- "A bin's first block has height 1 plus the trailing zero bits of size / 8, at most 13" (request 2026-04): up to which level the bin of size z
-- stands in an index t high. In layout 1, where t is 1, that is 1.
unfoldable pub height : ℕ → ℕ → ℕ
height t z = min t (suc (count_trailing_zeros 32 (z / 8)))

-- ---- the words of a block. t: how high the index is; n: no size is larger

module _ (t n : ℕ) (bins : ℕ → List ℕ) where
  -- the first of bin z, where it stands in level j
  unfoldable pub reach : ℕ → ℕ → ℕ
  reach j z = if< (height t z) j 0 (first (bins z))

  -- the first block of the next bin past size y that stands in level j, or 0
  unfoldable pub above : ℕ → ℕ → ℕ
  above j y = seek (reach j) n (suc y)

  -- level word and index words of the first block of a bin: it starts at p and has size y and height h. Level j's word stands 4 bytes
  -- below that of level j - 1, and level 1's is the chain word. d stands at the other words
  unfoldable pub index : Option ℕ → ℕ → ℕ → ℕ → ℕ → Option ℕ
  index d h p y o =
      if= o level_at (some h) (if< o (chain_at + 4 - 4 * h) d (if< chain_at o d (some (link_word p (above ((chain_at + 4 - o) / 4) y)))))

  -- word o of the free large block at p, of size z: links to both sides, the head again at its end, and the index words in a bin's first
  unfoldable pub large_word : ℕ → ℕ → ℕ → ℕ → Option ℕ
  large_word p z P o =
      if= o previous_at (link p (prev_in 0 (bins z) p))
      (if= o next_at (link p (next_in (bins z) p))
      (if= o (z - 4) (some (head_word z free P)) (if= (first (bins z)) p (index none (height t z) p z o) none)))

  -- "at +4, the next block of its bin as an offset in the pool, 0 at the end"
  unfoldable pub small_word : ℕ → ℕ → ℕ → Option ℕ
  small_word p z o = if= o small_next_at (next_in (bins z) p) none

  -- past the head, only a free block has governed words
  abbrev pub past_head : ℕ → ℕ → Kind → ℕ → ℕ → Option ℕ
  past_head p z held P o = none
  past_head p z remainder P o = none
  past_head p z free P o = if< z large (small_word p z o) (large_word p z P o)

  abbrev pub block_word : ℕ → Block → ℕ → ℕ → Option ℕ
  block_word p (block z k) P o = if= o 0 (some (head_word z k P)) (past_head p z k P o)

-- ---- the pool

-- the walk from p, where the flag P is due, to the block that has address a
unfoldable pub walk : (ℕ → Block → ℕ → ℕ → Option ℕ) → List Block → ℕ → ℕ → ℕ → Option ℕ
walk f [] p P a = none
walk f (b ∷ xs) p P a = if< a (p + size b) (f p b P (a - p)) (walk f xs (p + size b) (flag_above b) a)

-- "free word; 96; remainder start R; remainder end E; then the first block of each small bin 8, 16, .. 64, or 0"
unfoldable pub header_word : State → ℕ → ℕ
header_word s w =
    if= w 0 (free_sum (blocks s) - 4)
    (if= w 1 false_block (if= w 2 (blocks_at + total s.low) (if= w 3 (blocks_at + total s.low + s.rest) (first (s.bins (8 * (w - 3)))))))

unfoldable pub sheet : State → Sheet
sheet s a =
    if< a false_block (if= (a % 8) 0 (some (header_word s (a / 8))) (some 0))
    (if< a blocks_at (index s.top (end s) s.bins (some 0) s.top false_block 64 (a - false_block))
    (walk (block_word s.top (end s) s.bins) (blocks s) blocks_at 1 a))
