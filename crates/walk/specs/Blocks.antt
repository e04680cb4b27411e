-- The model of every walk: something is worked out of the heads of the blocks between two positions, one after the other.
-- A block of size 0, which no sound pool has, ends the walk.
use Rattle.std.specs.Prelude.{List, ℕ, zero, suc, ◌+◌, length}
use Rattle.words.specs.Choice.{if<, if=}
use Rattle.words.specs.Words.{word_at}
use Rattle.heads.specs.declared.head.Head.{Head}
use Rattle.heads.specs.Heads.{head_of}

abbrev pub head_at : List ℕ → ℕ → Head
head_at bs at = head_of (word_at 4 bs at)

module _ {A : Type 0} (f : A → Head → A) (bs : List ℕ) where
  unfoldable pub along : ℕ → ℕ → ℕ → A → A
  along zero at to x = x
  along (suc k) at to x =
      let on = along k (at + (head_at bs at).size) to (f x (head_at bs at)) in
      if< at to (if= (head_at bs at).size 0 x on) x

  -- each block takes at least a byte, so `to` steps suffice
  unfoldable pub blocks_from : ℕ → ℕ → A → A
  blocks_from from to x = along (suc to) from to x

-- where the pool ends; none is longer than 65,536 bytes
unfoldable pub pool_end : List ℕ → ℕ
pool_end bs = if< (length bs) 65536 (length bs) 65536
