-- "Bytes 0 to 95, twelve 8-byte words"; "the false block: all zero, except level word 1 (at +12) and the chain word (at +64)", in layout 2 "level
-- word 13 and all thirteen words"; and the head of the remainder: the words that stand at fixed places, and the remainder's, as lists of tests.
-- That the index words are links is tested along the index.
use Rattle.std.specs.Prelude.{Bool, true, false, List, [], ◌∷◌, ℕ, zero, suc, ◌+◌, ◌-◌, ◌%◌, length}
use Rattle.words.specs.Choice.{if=}
use Rattle.words.specs.Words.{word_at}
use Rattle.heads.specs.Heads.{free_head}
use Rattle.levels.specs.Levels.{top_of}
use Rattle.paper.specs.Layout.{false_word_at, start_at, end_at, false_block, blocks_at, level_at, chain_at, levels}
use Rattle.guards.specs.Tests.{Test, same, less, holds}

module _ (bs : List ℕ) where
  abbrev pub R : ℕ
  R = word_at 4 bs start_at

  abbrev pub E : ℕ
  E = word_at 4 bs end_at

  -- k words from a on, st apart, are 0
  unfoldable pub cleared : ℕ → ℕ → ℕ → Bool
  cleared zero st a = true
  cleared (suc k) st a = let on = cleared k st (a + st) in if= (word_at 4 bs a) 0 on false

  -- of the remainder from a to b: where it stands, and its head
  abbrev pub rest_between : ℕ → ℕ → List Test
  rest_between a b =
      less (blocks_at - 1) a ∷ less (a + 7) b ∷ less b (suc (length bs)) ∷ same (a % 8) 0 ∷ same (b % 8) 0
      ∷ same (word_at 4 bs a) (free_head (b - a)) ∷ []

  abbrev pub rest_tests : List Test
  rest_tests = rest_between R E

  -- the level word is 1 or 13, and no words but the index's stand between it and the chain word
  abbrev pub reserved_tests : List Test
  reserved_tests =
      same (word_at 4 bs (false_block + level_at)) (top_of bs)
      ∷ holds (cleared (levels - top_of bs) 4 (false_block + 16))
      ∷ []

  -- the header's fixed words, the high halves among them, and the false block but its index words; and there is room for them
  abbrev pub false_tests : List Test
  false_tests =
      same (word_at 4 bs false_word_at) false_block
      ∷ same (word_at 4 bs (false_block + chain_at + 4)) 0
      ∷ holds (cleared 12 8 4)
      ∷ holds (cleared 3 4 false_block)
      ∷ less (blocks_at - 1) (length bs)
      ∷ reserved_tests
