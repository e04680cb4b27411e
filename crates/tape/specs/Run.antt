-- The run of a tape. "The run stops at the first record it cannot read (other kind, short body); that refusal is the record's own,
-- and what earlier records did to the pool stays. The program reads a tape of at most 32,768 bytes; a longer one prints only `0 X 7 0`.
-- An unreadable record prints X, 7, 0 and is last. An empty tape prints nothing."
use Rattle.std.specs.Prelude.{List, [], ◌∷◌, ◌++◌, ℕ, zero, suc, ◌+◌, length, drop}
use Rattle.words.specs.Choice.{if<}
use Rattle.records.specs.declared.request.Request.{Request}
use Rattle.std.specs.Prelude.{None, Some}
use Rattle.records.specs.Records.{Record, read_at}
use Rattle.lines.specs.Lines.{line_of, letter_of}
use Rattle.tape.specs.Serve.{Pool, pool, serve}
use Rattle.paper.specs.Answers.{code}
use Rattle.paper.specs.declared.Refusal.TheVariants.{Unreadable}

-- the lines that are printed, and the pool at the end
pub record Run : Type 0 where
  pub text : List ℕ
  pub last : Pool

abbrev pub run : List ℕ → Pool → Run
run text p = record { text = text; last = p }

-- a line, and what comes after it
abbrev pub then : List ℕ → Run → Run
then line r = run (line ++ r.text) r.last

-- the line of a record that cannot be read: X, 7, 0
abbrev pub x_line : (nth : ℕ) → List ℕ
x_line nth = line_of nth 88 (code Unreadable ∷ 0 ∷ [])

abbrev pub by_record : Record → (Request → ℕ → Run) → Run → Run
by_record (Some (request, next)) served stopped = served request next
by_record None served stopped = stopped

-- the run from a place of the tape on, by record number nth; `left` bounds the records that are left
unfoldable pub run_from : (left : ℕ) (tape : List ℕ) (at nth : ℕ) (p : Pool) → Run
run_from zero tape at nth p = run [] p
run_from (suc left) tape at nth p =
    if< at (length tape)
    (by_record (read_at tape at)
    (λ request next.
    then (line_of nth (letter_of request) (serve p request).numbers) (run_from left tape next (nth + 1) (serve p request).after))
    (run (x_line nth) p))
    (run [] p)

-- the longest tape that is run
abbrev pub longest : ℕ
longest = 32768

-- the run of a whole tape: a record has at least one byte, so the tape's length bounds the records
unfoldable pub run_of : (tape buffer : List ℕ) → Run
run_of tape buffer =
    if< longest (length tape) (run (x_line 0) (pool 0 buffer)) (run_from (length tape) tape 0 1 (pool 0 buffer))

-- what a run leaves: how many bytes its lines are, the buffer, and the lines at the start of `out`, whose other bytes stay
pub record Left : Type 0 where
  pub count : ℕ
  pub buffer : List ℕ
  pub out : List ℕ

abbrev pub left : (count : ℕ) (buffer out : List ℕ) → Left
left count buffer out = record { count = count; buffer = buffer; out = out }

unfoldable pub leaves : Run → List ℕ → Left
leaves r out = left (length r.text) r.last.buffer (r.text ++ drop (length r.text) out)
