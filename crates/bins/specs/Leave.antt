-- The model of leaving a bin, on a list of bytes.
use Rattle.std.specs.Prelude.{List, ◌≡◌, ℕ, ◌+◌}
use Rattle.words.specs.Choice.{if=}
use Rattle.words.specs.Sums.{minus}
use Rattle.words.specs.Words.{put_at}
use Rattle.levels.specs.Levels.{top_of, word_of}
use Rattle.paper.specs.Governed.{height}
use Rattle.paper.specs.Layout.{previous_at, next_at, level_at}
use Rattle.bins.specs.declared.chain.Bin.{Bin}
use Rattle.bins.specs.Find.{size_at, linked_at, exact}
use Rattle.bins.specs.Head.{rehead}
use Rattle.bins.specs.Keep.{words_at, put_words}

unfoldable pub leave_later : List ℕ → ℕ → ℕ → List ℕ
leave_later bs previous q =
    if= (linked_at bs q next_at) 0
    (put_at 4 bs (previous + next_at) 0)
    (put_at 4 (put_at 4 bs (previous + next_at) (minus (linked_at bs q next_at) previous))
    (linked_at bs q next_at + previous_at) (minus previous (linked_at bs q next_at)))

-- the only block of a bin, which is looked for once more where it was found below its highest level
unfoldable pub pass_over : List ℕ → Bin → List ℕ
pass_over bs bin =
    if= bin.level (height (top_of bs) bin.size)
    (rehead bs bin bin.size bin.first 0)
    (rehead bs (exact bs bin.size) bin.size bin.first 0)

-- the second takes over level word and index words
unfoldable pub leave_first : List ℕ → Bin → ℕ → ℕ → List ℕ
leave_first bs bin size q =
    let second = linked_at bs q next_at in
    if= second 0
    (rehead bs bin size q 0)
    (rehead (put_at 4 (put_at 4 bs (second + previous_at) 0) (second + level_at) bin.level) bin size q second)

-- the second block of a bin, or else the first
unfoldable pub used_in : List ℕ → Bin → ℕ
used_in bs bin = if= (linked_at bs bin.first next_at) 0 bin.first (linked_at bs bin.first next_at)

unfoldable pub take_out : List ℕ → Bin → List ℕ
take_out bs bin =
    if= (linked_at bs bin.first next_at) 0
    (pass_over bs bin)
    (leave_later bs bin.first (linked_at bs bin.first next_at))

-- which block was taken out, and the bytes afterwards
pub record TakenOut (bs : List ℕ) (bin : Bin) (q : ℕ) (cs : List ℕ) : Type 0 where
  pub block : q ≡ used_in bs bin
  pub after : cs ≡ take_out bs bin

unfoldable pub leave : List ℕ → ℕ → List ℕ
leave bs q =
    if= (linked_at bs q previous_at) 0
    (leave_first bs (exact bs (size_at bs q)) (size_at bs q) q)
    (leave_later bs (linked_at bs q previous_at) q)

-- the links, the level word and the h lowest index words of the block r as they stand in old
unfoldable pub restored : List ℕ → List ℕ → ℕ → ℕ → List ℕ
restored old bs r h =
    put_words (put_words bs r previous_at (words_at old r previous_at 3)) r (word_of h) (words_at old r (word_of h) h)

unfoldable pub leave_both : List ℕ → ℕ → ℕ → List ℕ
leave_both bs below above = restored bs (leave (leave bs below) above) above (height (top_of bs) (size_at bs above))
