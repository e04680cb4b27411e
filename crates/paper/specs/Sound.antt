-- "A pool is sound if n is allowed and all this holds": some blocks and lists, well formed, give every governed byte its value.
use Rattle.std.specs.Prelude.{◌≡◌, ◌⊎◌, List, [], ◌∷◌, ℕ, ◌+◌, ◌%◌, ◌≤◌, length}
use Rattle.words.specs.Choice.{if=}
use Rattle.words.specs.Words.{word_at}
use Rattle.paper.specs.Layout.{large, blocks_at, false_block, level_at}
use Rattle.paper.specs.Allowed.{Allowed}
use Rattle.paper.specs.Blocks.{held, free, remainder, Block, block, State, size, blocks, end}
use Rattle.paper.specs.Bins.{count}
use Rattle.paper.specs.Sheet.{Holds}
use Rattle.paper.specs.Governed.{sheet}

-- "Every size is a multiple of 8", and "the remainder is at least 8 bytes, always".
abbrev pub Sized : List Block → Type 0
Sized [] = Unit {0}
Sized (b ∷ xs) = ((8 ≤ size b) × (size b % 8 ≡ 0)) × Sized xs

-- "Large blocks end to end, held or free. No two free ones touch, and the one just below R is held."
abbrev pub Low : List Block → Type 0
Low [] = Unit {0}
Low (block z held ∷ xs) = (large ≤ z) × Low xs
Low (block z remainder ∷ xs) = ⊥
Low (block z free ∷ []) = ⊥
Low (block z free ∷ block y held ∷ xs) = (large ≤ z) × (large ≤ y) × Low xs
Low (block z free ∷ block y free ∷ xs) = ⊥
Low (block z free ∷ block y remainder ∷ xs) = ⊥

-- "Small blocks end to end."
abbrev pub High : List Block → Type 0
High [] = Unit {0}
High (block z held ∷ xs) = (z ≤ 64) × High xs
High (block z free ∷ xs) = (z ≤ 64) × High xs
High (block z remainder ∷ xs) = ⊥

-- "E = n or a held block at E" (request 2026-06), of the small blocks from E on
abbrev pub HeldFirst : List Block → Type 0
HeldFirst [] = Unit {0}
HeldFirst (block z held ∷ xs) = Unit {0}
HeldFirst (block z free ∷ xs) = ⊥
HeldFirst (block z remainder ∷ xs) = ⊥

-- how many free blocks of size y start at q, of the blocks from p on: at most one
unfoldable pub free_at : List Block → ℕ → ℕ → ℕ → ℕ
free_at [] p y q = 0
free_at (block z held ∷ xs) p y q = free_at xs (p + z) y q
free_at (block z remainder ∷ xs) p y q = free_at xs (p + z) y q
free_at (block z free ∷ xs) p y q = if= z y (if= p q 1 0) 0 + free_at xs (p + z) y q

-- "All this": the layout is one of two, the runs of blocks are as they should be, and `listed`:
-- "Each free block but the remainder stands in its bin once, and nothing else does."
pub record WellFormed (s : State) : Type 0 where
  pub layout : (s.top ≡ 1) ⊎ (s.top ≡ 13)
  pub low_ok : Low s.low
  pub high_ok : High s.high
  pub sized : Sized (blocks s)
  pub fits : end s ≤ 65536
  pub listed : (y q : ℕ) → count q (s.bins y) ≡ free_at (blocks s) blocks_at y q

-- what is asked of the block at E: by the rule in force, and by the old rule, under which it could be free
abbrev pub Edge : State → Type 0
Edge s = HeldFirst s.high

abbrev pub OldEdge : State → Type 0
OldEdge s = Unit {0}

-- the blocks and lists are those of `state`, which the bytes determine; it tells the layout
pub record SoundBy (Rule : State → Type 0) (bs : List ℕ) : Type 0 where
  pub length_allowed : Allowed (length bs)
  pub state : State
  pub well_formed : WellFormed state
  pub edge : Rule state
  pub ends : end state ≡ length bs
  pub holds : Holds (sheet state) bs

abbrev pub Sound : List ℕ → Type 0
Sound bs = SoundBy Edge bs

-- "a pool sound under the old rule": for bring-in alone
abbrev pub OldSound : List ℕ → Type 0
OldSound bs = SoundBy OldEdge bs

-- "The false block's level word tells the layouts apart" (request 2026-04)
abbrev pub level_word : List ℕ → ℕ
level_word bs = word_at 4 bs (false_block + level_at)

-- sound, of one layout alone, which has an index t high
pub record SoundTo (t : ℕ) (bs : List ℕ) : Type 0 where
  pub is_sound : Sound bs
  pub is_top : is_sound.state.top ≡ t
