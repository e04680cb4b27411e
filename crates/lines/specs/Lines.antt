-- "Each line: record number from 1, letter L, T, G, S or X, refusal number, value (for S done: the seven figures)."
-- "Tape kind 5 lays out layout 2, 4-byte body, letter M" (request 2026-04).
use Rattle.std.specs.Prelude.{Ok, Err, List, [], ◌∷◌, ◌++◌, ℕ}
use Rattle.paper.specs.Answers.{Answer, Tally, code, number, seven_of, value}
use Rattle.records.specs.declared.request.Request.{Request}
use Rattle.records.specs.declared.request.Request.TheVariants.{LayOut, LayOutIndexed, Take, GiveBack, Figures}
use Rattle.text.specs.Numeral.{numeral}

abbrev pub space : ℕ
space = 32

abbrev pub newline : ℕ
newline = 10

-- the letter of a request's line, L, M, T, G or S
abbrev pub letter_of : Request → ℕ
letter_of (LayOut n) = 76
letter_of (LayOutIndexed n) = 77
letter_of (Take size) = 84
letter_of (GiveBack offset) = 71
letter_of Figures = 83

-- the record's number and letter
unfoldable pub begin_of : (nth letter : ℕ) → List ℕ
begin_of nth letter = numeral nth ++ (space ∷ letter ∷ [])

-- each number after a space, and the line's end
unfoldable pub rest_of : List ℕ → List ℕ
rest_of [] = newline ∷ []
rest_of (v ∷ vs) = (space ∷ numeral v) ++ rest_of vs

unfoldable pub line_of : (nth letter : ℕ) → List ℕ → List ℕ
line_of nth letter numbers = begin_of nth letter ++ rest_of numbers

-- the numbers that an answer prints: the refusal number and the value
abbrev pub answered : Answer → List ℕ
answered a = number a ∷ value a ∷ []

-- "Refused figures are seven zeros, printed on the tape as one 0."
abbrev pub tallied : Tally → List ℕ
tallied (Ok f) = 0 ∷ seven_of f
tallied (Err k) = code k ∷ 0 ∷ []
