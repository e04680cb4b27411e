-- The model of a bin that gets another first block, or its first, or loses its only one, on a list of bytes. 0 stands for none.
use Rattle.std.specs.Prelude.{List, ℕ, zero, suc, ◌+◌, ◌-◌}
use Rattle.words.specs.Choice.{if=}
use Rattle.words.specs.Words.{put_at}
use Rattle.heads.specs.Links.{link_word}
use Rattle.levels.specs.Levels.{word_of}
use Rattle.bins.specs.declared.chain.Bin.{Bin}
use Rattle.bins.specs.Find.{linked_at, found, along}

unfoldable pub after : List ℕ → ℕ → ℕ → ℕ → ℕ
after bs index before old = if= old 0 (linked_at bs before index) (linked_at bs old index)

unfoldable pub relink : List ℕ → ℕ → ℕ → ℕ → ℕ → List ℕ
relink bs level before old new =
    let next = after bs (word_of level) before old in
    if= new 0
    (put_at 4 bs (before + word_of level) (link_word before next))
    (put_at 4 (put_at 4 bs (new + word_of level) (link_word new next)) (before + word_of level) (link_word before new))

-- on the level k + 1, where `before` stands, and all below
unfoldable pub rehead_by : ℕ → List ℕ → ℕ → ℕ → ℕ → ℕ → List ℕ
rehead_by zero bs before size old new = relink bs 1 before old new
rehead_by (suc k) bs before size old new =
    let cs = relink bs (suc (suc k)) before old new in
    rehead_by k cs (along cs (suc k) (found (suc k) before old size) size).before size old new

unfoldable pub rehead : List ℕ → Bin → ℕ → ℕ → ℕ → List ℕ
rehead bs bin size old new = rehead_by (bin.level - 1) bs bin.before size old new
