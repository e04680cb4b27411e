-- The worked tape of "The request tape", from its bytes to its lines: by the law that a run's lines are those of the run over states, and
-- that run by computing. It holds whatever the buffer has in it at first.
use mathlib.Core.List.{List, [], ◌∷◌, ◌++◌}
use mathlib.Core.Option.{none}
use mathlib.Core.Path.{◌≡◌, refl, ap, ◌∙◌}
use Prim.Native.Char.{code}
use Prim.Native.Nat.{ℕ}
use Prim.Native.String.{String}
use Prim.Native.String as text
use native.Mathlib.Omega.{arith}
use lib.ListN.{length}
use Rattle.words.specs.Choice.{if<, if=, when}
use Rattle.words.specs.Words.{Bytes, digits_at, word_at}
use Rattle.heads.specs.Heads.{block_size}
use Rattle.text.specs.Numeral.{numeral, numeral_with}
use Rattle.paper.proofs.cases.WorkedTape.{last, requests, worked-figures}
use Rattle.paper.specs.declared.Figures.{Figures}
use Rattle.paper.specs.Allowed.{allowed}
use Rattle.paper.specs.Bins.{enter, first, leave, rebin, seek, used}
use Rattle.paper.specs.Counting.{figures}
use Rattle.paper.specs.Fresh.{fresh}
use Rattle.paper.specs.GivingBack.{give_back, give_back_large, give_back_small, left, settle}
use Rattle.paper.specs.Granting.{choose, choose_large, choose_small, cut_high, cut_low, smallest_bin, take, take_first, take_part, take_whole}
use Rattle.paper.specs.LookingUp.{block_at, look_up}
use Rattle.paper.specs.Runs.{ends_at, from, replace, starts_at, sum_of, under}
use Rattle.records.specs.Records.{read_at, with_body}
use Rattle.lines.specs.Lines.{begin_of, line_of, rest_of}
use Rattle.tape.specs.Alike.{printed}
use Rattle.tape.specs.Run.{run_of}
use Rattle.tape.proofs.States.{laid_state, serve_state, states_from, tape-by-states}
use Rattle.paper.specs.Answers.{seven_of}

-- L 1024, T 10, T 100, T 61, T 200, G 172, T 32, T 72, G 172, G 276, T 100, G 556, S: a row each
pub worked : List ℕ
worked =
    1 ∷ 0 ∷ 4 ∷ 0 ∷ 0 ∷
    2 ∷ 10 ∷ 0 ∷ 0 ∷ 0 ∷
    2 ∷ 100 ∷ 0 ∷ 0 ∷ 0 ∷
    2 ∷ 61 ∷ 0 ∷ 0 ∷ 0 ∷
    2 ∷ 200 ∷ 0 ∷ 0 ∷ 0 ∷
    3 ∷ 172 ∷ 0 ∷ 0 ∷ 0 ∷
    2 ∷ 32 ∷ 0 ∷ 0 ∷ 0 ∷
    2 ∷ 72 ∷ 0 ∷ 0 ∷ 0 ∷
    3 ∷ 172 ∷ 0 ∷ 0 ∷ 0 ∷
    3 ∷ 20 ∷ 1 ∷ 0 ∷ 0 ∷
    2 ∷ 100 ∷ 0 ∷ 0 ∷ 0 ∷
    3 ∷ 44 ∷ 2 ∷ 0 ∷ 0 ∷
    4 ∷ []

-- the characters of a text, and a newline
abbrev line : String → List ℕ
line text.[] = 10 ∷ []
line (text.◌∷◌ c s) = code c ∷ line s

-- all but the last
first-lines : List ℕ
first-lines =
    line "1 L 0 1024" ++
    line "2 T 0 1012" ++
    line "3 T 0 172" ++
    line "4 T 0 276" ++
    line "5 T 0 348" ++
    line "6 G 0 100" ++
    line "7 T 0 972" ++
    line "8 T 0 556" ++
    line "9 G 5 0" ++
    line "10 G 0 68" ++
    line "11 T 0 172" ++
    line "12 G 0 76"

pub worked-lines : List ℕ
worked-lines = first-lines ++ line "13 S 0 4 368 0 1 416 484 404"

-- the line of the figures, and nothing after it
abbrev line_of_figures : Figures → List ℕ
line_of_figures f = line_of 13 83 (0 ∷ seven_of f) ++ []

-- the run over states, up to the figures of its last state
computed : printed 1 (states_from 65536 (length worked) worked 0 none).lines ≡ first-lines ++ line_of_figures (figures (last (fresh 1 1024) requests))
unfolding worked first-lines requests if< if= when word_at digits_at block_size numeral numeral_with allowed enter first leave rebin seek used fresh give_back give_back_large give_back_small left settle block_at look_up choose choose_large choose_small cut_high cut_low smallest_bin take take_first take_part take_whole ends_at from replace starts_at sum_of under begin_of line_of rest_of read_at with_body states_from serve_state laid_state printed
computed = refl

last_line : line_of_figures (figures (last (fresh 1 1024) requests)) ≡ line "13 S 0 4 368 0 1 416 484 404"
unfolding if< if= when numeral numeral_with begin_of line_of rest_of
last_line = ap line_of_figures worked-figures

pub worked-tape : (buffer : List ℕ) → Bytes buffer → length buffer ≡ 65536 → (run_of worked buffer).text ≡ worked-lines
unfolding worked worked-lines
worked-tape buffer h l =
    (tape-by-states worked buffer h (omega arith)).same ∙ ap (λ (room : ℕ). printed 1 (states_from room (length worked) worked 0 none).lines) l ∙ computed
    ∙ ap (λ (text : List ℕ). first-lines ++ text) last_line
