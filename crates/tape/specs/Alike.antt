-- "One tape answers alike on both, apart from the layout letter" (request 2026-04): two runs that print the same lines, but for the letters
-- of lay outs, and end in pools with the same blocks and lists.
use Rattle.std.specs.Prelude.{◌≡◌, ◌⊎◌, List, [], ◌∷◌, ◌++◌, map, ℕ, ◌+◌, take as first_of}
use Rattle.words.specs.Choice.{if=}
use Rattle.paper.specs.Blocks.{with_top}
use Rattle.paper.specs.Layout.{levels}
use Rattle.paper.specs.Sound.{Sound}
use Rattle.lines.specs.Lines.{line_of}
use Rattle.tape.specs.Run.{Run}

-- a line but for its record's number
pub record Line : Type 0 where
  pub letter : ℕ
  pub numbers : List ℕ

abbrev pub line : ℕ → List ℕ → Line
line letter numbers = record { letter = letter; numbers = numbers }

-- the lines as they are printed, numbered from nth on
unfoldable pub printed : (nth : ℕ) → List Line → List ℕ
printed nth [] = []
printed nth (l ∷ ls) = line_of nth l.letter l.numbers ++ printed (nth + 1) ls

-- M for L and L for M
unfoldable pub other_letter : ℕ → ℕ
other_letter c = if= c 76 77 (if= c 77 76 c)

abbrev pub relettered : Line → Line
relettered l = line (other_letter l.letter) l.numbers

-- the index of the other layout
unfoldable pub other_top : ℕ → ℕ
other_top t = if= t 1 levels 1

-- two pools: both empty, or both sound with the same blocks and lists, in the two layouts
abbrev pub SamePools : List ℕ → List ℕ → Type 0
SamePools bs bs' = ((bs ≡ []) × (bs' ≡ [])) ⊎ ((S : Sound bs) × (S' : Sound bs') × (S'.state ≡ with_top (other_top S.state.top) S.state))

abbrev pub last_pool : Run → List ℕ
last_pool r = first_of r.last.n r.last.buffer

pub record AlikeRuns (r r' : Run) : Type 0 where
  pub nth : ℕ
  pub lines : List Line
  pub prints : r.text ≡ printed nth lines
  pub prints' : r'.text ≡ printed nth (map relettered lines)
  pub same_size : r'.last.n ≡ r.last.n
  pub same_pools : SamePools (last_pool r) (last_pool r')
