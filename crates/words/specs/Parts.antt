-- A part of a list of bytes, put in the place of as many others.
use Rattle.std.specs.Prelude.{ℕ, ◌+◌, List, ◌++◌, length, take as firsts, drop}

abbrev pub replaced_part : List ℕ → ℕ → List ℕ → List ℕ
replaced_part bs a part = firsts a bs ++ (part ++ drop (a + length part) bs)
