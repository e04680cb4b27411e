-- A page: lent bytes and the place where the next text goes. Putting is total: past the end nothing is put, and the place stays.
use Rattle.std.specs.Prelude.{List, [], ◌∷◌, ℕ, ◌+◌, length, set}
use Rattle.words.specs.Choice.{if<}

pub record Page : Type 0 where
  pub place : ℕ
  pub bytes : List ℕ

abbrev pub page : ℕ → List ℕ → Page
page at bytes = record { place = at; bytes = bytes }

unfoldable pub put_one : Page → ℕ → Page
put_one p b = if< p.place (length p.bytes) (page (p.place + 1) (set p.bytes p.place b)) p

-- a text, one byte after the other
unfoldable pub put : Page → List ℕ → Page
put p [] = p
put p (b ∷ text) = put (put_one p b) text
