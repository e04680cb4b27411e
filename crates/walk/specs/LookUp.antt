-- The model of looking an address up: from head to head, to the block that it is in.
use Rattle.std.specs.Prelude.{List, ℕ, zero, suc, ◌+◌}
use Rattle.words.specs.Choice.{if<, if=, when}
use Rattle.words.specs.Sums.{minus}
use Rattle.words.specs.Words.{word_at}
use Rattle.heads.specs.declared.head.Head.{Head}
use Rattle.paper.specs.declared.Found.{Found}
use Rattle.paper.specs.declared.Found.TheVariants.{Held, Free, Remainder, Nothing}
use Rattle.paper.specs.Layout.{start_at, end_at, blocks_at}
use Rattle.walk.specs.Blocks.{head_at}

-- the block whose head stands at `at`
unfoldable pub found_at : Head → ℕ → Found
found_at h at = when h.held (Held at h.size) (Free at h.size)

module _ (bs : List ℕ) (a : ℕ) where
  -- in at most k blocks
  unfoldable pub block_in : ℕ → ℕ → Found
  block_in zero at = Nothing
  block_in (suc k) at =
      let h = head_at bs at in
      let on = block_in k (at + h.size) in
      if= h.size 0 Nothing (if< a (at + h.size) (found_at h at) on)

  -- each block takes at least a byte, so that many suffice
  unfoldable pub block_at : ℕ → Found
  block_at from = block_in (suc a) from

unfoldable pub look_up : List ℕ → ℕ → Found
look_up bs a =
    let start = word_at 4 bs start_at in
    let end = word_at 4 bs end_at in
    if< a blocks_at Nothing
    (if< a start (block_at bs a blocks_at) (if< a end (Remainder start (minus end start)) (block_at bs a end)))
