-- "A record is one byte of kind and a body: kind 1 has 8 bytes of tab bits, kind 2 has 16, kind 3 has 32."
use Rattle.std.specs.Prelude.{Bool, false, List, ℕ, suc, eqb, get_or, length, Option, Some, None}
use Rattle.words.specs.Choice.{if<, if=}
use Rattle.bank.specs.declared.kinds.Kind.{Kind}
use Rattle.bank.specs.declared.kinds.Kind.TheVariants.{Eight, Sixteen, ThirtyTwo}
use Rattle.bank.specs.declared.kinds.UnknownKind.{UnknownKind}
use Rattle.std.specs.declared.result.Result.{Result}
use Rattle.std.specs.declared.result.Result.TheVariants.{Ok, Err}

-- the number of each kind, and how many bytes its body has
abbrev pub number_of : Kind → ℕ
number_of Eight = 1
number_of Sixteen = 2
number_of ThirtyTwo = 3

abbrev pub body_of : Kind → ℕ
body_of Eight = 8
body_of Sixteen = 16
body_of ThirtyTwo = 32

-- what a number says: a kind, or that it is none
abbrev pub Known : Type 0
Known = Result Kind UnknownKind

-- the kind of a number
unfoldable pub kind_of : ℕ → Known
kind_of number =
    if= number (number_of Eight) (Ok Eight)
    (if= number (number_of Sixteen) (Ok Sixteen) (if= number (number_of ThirtyTwo) (Ok ThirtyTwo) (Err (record { 0 = number }))))

-- a known kind, and a body as long as it says
abbrev pub fits : Known → ℕ → Bool
fits (Ok k) long = eqb long (body_of k)
fits (Err u) long = false

unfoldable pub is_record : ℕ → List ℕ → Bool
is_record kind body = fits (kind_of kind) (length body)

-- how many of so many bytes are a record of that kind: its byte of kind and its body; none where it "doesn't read (other kind, or longer than its
-- payload)"
abbrev pub reads : Known → ℕ → Option ℕ
reads (Ok k) long = if< long (suc (body_of k)) None (Some (suc (body_of k)))
reads (Err u) long = None

-- of a payload, whose first byte is the kind
unfoldable pub record_in : List ℕ → Option ℕ
record_in payload = reads (kind_of (get_or payload 0 0)) (length payload)
