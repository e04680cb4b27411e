-- "Offset isn't 4 past the start of a held block": the block that an address is in, and what a call does by it.
-- "It must be a start in the walk from 168 or from E."
use Rattle.std.specs.Prelude.{List, [], ◌∷◌, ℕ, ◌+◌}
use Rattle.words.specs.Choice.{if=, if<}
use Rattle.paper.specs.declared.Found.{Found}
use Rattle.paper.specs.declared.Found.TheVariants.{Held, Free, Remainder, Nothing}
use Rattle.paper.specs.Layout.{blocks_at}
use Rattle.paper.specs.Blocks.{Kind, held, free, remainder, Block, block, State, blocks}
use Rattle.paper.specs.declared.Refusal.TheVariants.{NotHeld}
use Rattle.paper.specs.declared.Refusal.{Refusal}

-- a block of that kind, by where it starts and its size
abbrev pub found : Kind → ℕ → ℕ → Found
found held q z = Held q z
found free q z = Free q z
found remainder q z = Remainder q z

-- the block that the address a is in, of the blocks from p on
unfoldable pub block_at : List Block → ℕ → ℕ → Found
block_at [] p a = Nothing
block_at (block z k ∷ xs) p a = if< a (p + z) (found k p z) (block_at xs (p + z) a)

-- of a pool: nothing below 168, and nothing from n on
unfoldable pub look_up : State → ℕ → Found
look_up s a = if< a blocks_at Nothing (block_at (blocks s) blocks_at a)

-- refused, or done with the held block whose payload starts at the offset
module _ {A : Type 0} where
  abbrev pub by_offset : Found → (offset : ℕ) → (refused : Refusal → A) → (done : ℕ → ℕ → A) → A
  by_offset (Held q z) offset refused done = if= offset (q + 4) (done q z) (refused NotHeld)
  by_offset (Free q z) offset refused done = refused NotHeld
  by_offset (Remainder q z) offset refused done = refused NotHeld
  by_offset Nothing offset refused done = refused NotHeld
