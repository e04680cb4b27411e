-- The index over the bins, read along its lowest level: for each level above it, which start must come next. A block that stands on a level is the
-- one awaited there, and its word of that level tells the next one; so one pass along level 1 reads all levels.
use Rattle.std.specs.Prelude.{Bool, true, false, List, [], ◌∷◌, ℕ, zero, suc, ◌+◌, ◌-◌, get_or, replicate, set}
use Rattle.words.specs.Choice.{if=}
use Rattle.words.specs.Words.{word_at}
use Rattle.heads.specs.Links.{link_word, followed}
use Rattle.paper.specs.Governed.{height}
use Rattle.paper.specs.Layout.{false_block, level_at, levels}
use Rattle.levels.specs.Levels.{top_of, word_of}
use Rattle.guards.specs.Tests.{Test, same, less, guard}

-- what the levels from 2 on await
pub data Awaited : Type 0 where
  astray : Awaited
  awaiting : List ℕ → Awaited

module _ {A : Type 0} where
  abbrev pub if_awaiting : Awaited → A → (List ℕ → A) → A
  if_awaiting astray bad f = bad
  if_awaiting (awaiting ws) bad f = f ws

-- c levels, from the place i on, await nothing
unfoldable pub nothing : ℕ → ℕ → List ℕ → Bool
nothing zero i ws = true
nothing (suc c) i ws = let on = nothing c (i + 1) ws in if= (get_or ws i 0) 0 on false

-- at the end; an index one level high has no other levels
unfoldable pub ended : ℕ → List ℕ → Bool
ended t ws = if= t 1 true (nothing (levels - 1) 0 ws)

module _ (bs : List ℕ) where
  -- the block after f on level j
  abbrev pub next_on : ℕ → ℕ → ℕ
  next_on j f = followed f (word_at 4 bs (f + word_of j))

  -- the word of f on level j is written as a distance is: another word could lead to 0, which is no start
  abbrev pub link_test : ℕ → ℕ → Test
  link_test j f = same (word_at 4 bs (f + word_of j)) (link_word f (next_on j f))

  -- levels j, j + 1, .. , c of them: each awaits f, whose word tells the next
  unfoldable pub climb : ℕ → ℕ → ℕ → List ℕ → Awaited
  climb zero j f ws = awaiting ws
  climb (suc c) j f ws =
      let on = climb c (j + 1) f (set ws (j - 2) (next_on j f)) in
      guard (same (get_or ws (j - 2) 0) f ∷ link_test j f ∷ []) astray on

  -- levels 2 to h; nothing is higher than the index
  unfoldable pub climbed : ℕ → ℕ → List ℕ → Awaited
  climbed h f ws = guard (less h (suc levels) ∷ []) astray (climb (h - 1) 2 f ws)

  -- the block f, h levels high, which level 1 awaits
  unfoldable pub indexed : ℕ → ℕ → List ℕ → Awaited
  indexed h f ws = guard (link_test 1 f ∷ []) astray (climbed h f ws)

  -- at first every level awaits the false block, which is as high as the index
  abbrev pub false_indexed : Awaited
  false_indexed = indexed (top_of bs) false_block (replicate (levels - 1) false_block)

  -- the first block f, of size z, of the bin after size y, in an index t high: its size and its level word
  abbrev pub first_tests : ℕ → ℕ → ℕ → ℕ → List Test
  first_tests t y z f = less y z ∷ same (word_at 4 bs (f + level_at)) (height t z) ∷ []

  -- and its index words
  unfoldable pub first_indexed : ℕ → ℕ → ℕ → ℕ → List ℕ → Awaited
  first_indexed t y z f ws = guard (first_tests t y z f) astray (indexed (height t z) f ws)
