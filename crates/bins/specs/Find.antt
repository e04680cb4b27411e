-- The model of finding a bin along the levels of the index, on a list of bytes.
use Rattle.std.specs.Prelude.{Bool, List, ℕ, zero, suc, ◌+◌, ◌-◌, eqb}
use Rattle.words.specs.Choice.{if<, if=}
use Rattle.words.specs.Words.{word_at}
use Rattle.heads.specs.Heads.{head_of}
use Rattle.heads.specs.Links.{followed}
use Rattle.bins.specs.declared.chain.Bin.{Bin}
use Rattle.levels.specs.Levels.{start_of, top_of, word_of}
use Rattle.paper.specs.Governed.{height}
use Rattle.paper.specs.Layout.{false_block}

unfoldable pub size_at : List ℕ → ℕ → ℕ
size_at bs q = (head_of (word_at 4 bs q)).size

unfoldable pub linked_at : List ℕ → ℕ → ℕ → ℕ
linked_at bs q offset = followed q (word_at 4 bs (q + offset))

abbrev pub found : ℕ → ℕ → ℕ → ℕ → Bin
found level before first size = record { level = level; before = before; first = first; size = size }

-- from `first` on, with `before` behind it, whose size is `below`; no farther than to what `bin` found on the level above
unfoldable pub walk : ℕ → List ℕ → ℕ → Bin → ℕ → ℕ → ℕ → ℕ → Bin
walk zero bs level bin least before below first = found level before 0 0
walk (suc k) bs level bin least before below first =
    let on = walk k bs level bin least first (size_at bs first) (linked_at bs first (word_of level)) in
    if= first bin.first
    (found level before bin.first bin.size)
    (if< (size_at bs first) least
    (if< below (size_at bs first) on (found level before 0 0))
    (found level before first (size_at bs first)))

-- the sizes rise, so they come to `least` in time
unfoldable pub along : List ℕ → ℕ → Bin → ℕ → Bin
along bs level bin least = walk (suc least) bs level bin least bin.before 0 (linked_at bs bin.before (word_of level))

-- k levels down, to the level `to`
unfoldable pub down_by : ℕ → List ℕ → Bin → ℕ → ℕ → Bin
down_by zero bs bin to least = bin
down_by (suc k) bs bin to least = let at = along bs (to + k) bin least in down_by k bs at to least

unfoldable pub down : List ℕ → Bin → ℕ → ℕ → Bin
down bs bin to least = down_by (bin.level - to) bs bin to least

unfoldable pub search : List ℕ → ℕ → ℕ → ℕ → ℕ → Bin
search bs level before to least = down bs (along bs level (found level before 0 0) least) to least

unfoldable pub exact : List ℕ → ℕ → Bin
exact bs size = search bs (start_of (top_of bs) size) false_block (height (top_of bs) size) size

unfoldable pub find_on : List ℕ → Bin → ℕ → Bin
find_on bs bin least =
    let on = search bs bin.level bin.before 1 least in
    if= bin.level 1 (if= bin.first 0 bin on) on

-- there is no bin
unfoldable pub empty : List ℕ → Bool
empty bs = eqb (linked_at bs false_block (word_of 1)) 0

-- no bin was found
unfoldable pub none : Bin → Bool
none bin = eqb bin.first 0

-- the size of the bin that was found, 0 where there is none
unfoldable pub size : Bin → ℕ
size bin = bin.size
