-- "One tape answers alike on both, apart from the layout letter" (request 2026-04): a tape with each lay-out record turned into the other kind.
use Rattle.std.specs.Prelude.{None, Some, List, ℕ, zero, suc, length, set}
use Rattle.records.specs.declared.request.Request.{Request}
use Rattle.records.specs.declared.request.Request.TheVariants.{LayOut, LayOutIndexed, Take, GiveBack, Figures}
use Rattle.records.specs.Records.{Record, kind_of, read_at}

-- the same request, but for the layout
abbrev pub other : Request → Request
other (LayOut n) = LayOutIndexed n
other (LayOutIndexed n) = LayOut n
other (Take size) = Take size
other (GiveBack offset) = GiveBack offset
other Figures = Figures

abbrev pub turn : Record → (Request → ℕ → List ℕ) → List ℕ → List ℕ
turn (Some (request, next)) whole stopped = whole request next
turn None whole stopped = stopped

-- the records from a place on; `left` bounds how many they are
unfoldable pub turned_from : (left : ℕ) (tape : List ℕ) (at : ℕ) → List ℕ
turned_from zero tape at = tape
turned_from (suc left) tape at =
    turn (read_at tape at) (λ request next. set (turned_from left tape next) at (kind_of (other request))) tape

-- a record has at least one byte, so the tape's length bounds the records
unfoldable pub turned : List ℕ → List ℕ
turned tape = turned_from (length tape) tape 0
