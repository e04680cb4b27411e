-- The model of the move, on a list of bytes: what is stored along level 1 of the index, so that it gets another height.
use Rattle.std.specs.Prelude.{List, ℕ, zero, suc, ◌+◌, ◌-◌, get_or, replicate, set}
use Rattle.words.specs.Choice.{if<, if=}
use Rattle.words.specs.Words.{put_at}
use Rattle.heads.specs.Links.{link_word}
use Rattle.paper.specs.Governed.{height}
use Rattle.paper.specs.Layout.{chain_at, false_block, level_at, levels}
use Rattle.levels.specs.Levels.{word_of}
use Rattle.bins.specs.Find.{linked_at, size_at}

-- the pool's bytes, and for each level from 2 on the last block so far that stands on it
pub record Moving : Type 0 where
  pub bytes : List ℕ
  pub lasts : List ℕ

abbrev pub moving : List ℕ → List ℕ → Moving
moving bs ls = record { bytes = bs; lasts = ls }

abbrev pub last_on : ℕ → List ℕ → ℕ
last_on j ls = get_or ls (j - 2) 0

-- on level j the last one leads to f, and f is the last one now
unfoldable pub lead : ℕ → ℕ → Moving → Moving
lead j f m =
    moving (put_at 4 m.bytes (last_on j m.lasts + word_of j) (link_word (last_on j m.lasts) f)) (set m.lasts (j - 2) f)

-- on levels j, j + 1, .. , c of them
unfoldable pub climb : ℕ → ℕ → ℕ → Moving → Moving
climb zero j f m = m
climb (suc c) j f m = climb c (j + 1) f (lead j f m)

-- the first block f, h levels high: its level word, and levels 2 to h; nothing is higher than the index
unfoldable pub stand : ℕ → ℕ → Moving → Moving
stand h f m =
    let on = climb (h - 1) 2 f (moving (put_at 4 m.bytes (f + level_at) h) m.lasts) in
    if< levels h m on

-- no size is that large, so a pass along rising sizes ends in time
abbrev pub sizes : ℕ
sizes = 4294967296

-- from the first block f on, of the bin after size y, to an index t high
unfoldable pub pass : ℕ → ℕ → ℕ → ℕ → Moving → Moving
pass zero t y f m = m
pass (suc k) t y f m =
    let z = size_at m.bytes f in
    let m' = stand (height t z) f m in
    let on = pass k t z (linked_at m'.bytes f chain_at) m' in
    if= f 0 m (if< y z on m)

-- levels j, j + 1, .. , c of them: nothing comes past the last one
unfoldable pub closed : ℕ → ℕ → List ℕ → List ℕ → List ℕ
closed zero j ls bs = bs
closed (suc c) j ls bs = closed c (j + 1) ls (put_at 4 bs (last_on j ls + word_of j) 0)

-- at first the false block is the last one on every level
abbrev pub passed : List ℕ → ℕ → Moving
passed bs t = pass sizes t 64 (linked_at bs false_block chain_at) (moving bs (replicate (levels - 1) false_block))

unfoldable pub moved : List ℕ → ℕ → List ℕ
moved bs t = put_at 4 (closed (levels - 1) 2 (passed bs t).lasts (passed bs t).bytes) (false_block + level_at) t
