-- "A record is one byte of kind, then a body whose length the kind fixes. 1 = lay out, 2 = take, 3 = give back, each with a 4-byte number; 4 = figures, no body."
-- "Tape kind 5 lays out layout 2, 4-byte body" (request 2026-04).
use Rattle.std.specs.Prelude.{Option, None, Some, List, ℕ, ◌+◌, ◌-◌, length, get_or}
use Rattle.words.specs.Choice.{if<, if=}
use Rattle.words.specs.Words.{word_at}
use Rattle.records.specs.declared.request.Request.{Request}
use Rattle.records.specs.declared.request.Request.TheVariants.{LayOut, LayOutIndexed, Take, GiveBack, Figures}

-- what stands at a place of the tape: a whole request with the place of the next record, or none that can be read
abbrev pub Record : Type 0
Record = Option (Request × ℕ)

abbrev pub whole : Request → ℕ → Record
whole request next = Some (request, next)

abbrev pub kind_of : Request → ℕ
kind_of (LayOut n) = 1
kind_of (Take size) = 2
kind_of (GiveBack offset) = 3
kind_of Figures = 4
kind_of (LayOutIndexed n) = 5

-- a kind with a body: the record's number is v, and the next record's place is next
unfoldable pub with_body : (kind v next : ℕ) → Record
with_body kind v next =
    if= kind (kind_of (LayOut v)) (whole (LayOut v) next)
    (if= kind (kind_of (Take v)) (whole (Take v) next)
    (if= kind (kind_of (GiveBack v)) (whole (GiveBack v) next)
    (if= kind (kind_of (LayOutIndexed v)) (whole (LayOutIndexed v) next) None)))

-- the record at a place of the tape
unfoldable pub read_at : List ℕ → ℕ → Record
read_at tape at =
    let kind = get_or tape at 0 in
    let body = at + 1 in
    if< at (length tape)
    (if= kind (kind_of Figures) (whole Figures body)
    (if< (length tape - body) 4 None (with_body kind (word_at 4 tape body) (body + 4))))
    None
