-- The calls of the piston bank (request 2026-03): what each answers, and every byte of the pool and every number of the bank afterwards. They are
-- said in the words of the pool's own calls. The bank is 32 numbers: 0 for an empty piston, else where the record's payload starts.
use Rattle.std.specs.Prelude.{List, ◌∷◌, ℕ, ◌+◌, ◌-◌, Option, Some, None, drop, get_or, length, set as put, take as firsts}
use Rattle.words.specs.Choice.{if<, if=, when}
use Rattle.words.specs.Parts.{replaced_part}
use Rattle.pool.specs.Calls.{inspect, take, give_back, ask_all, part}
use Rattle.bank.specs.declared.recalling.Place.{Place}
use Rattle.bank.specs.Records.{is_record, record_in}
use Rattle.std.specs.declared.result.Result.{Result}
use Rattle.std.specs.declared.result.Result.TheVariants.{Ok, Err}
use Rattle.paper.specs.declared.Refusal.{Refusal}
use Rattle.paper.specs.declared.Refusal.TheVariants.{NoPiston, NoRecord, NotNamed}
use Rattle.paper.specs.Answers.{Answer}

-- ---- the refusals

module _ {A : Type 0} where
  -- why a call is refused, if it is
  abbrev pub refused : Result A Refusal → Option Refusal
  refused (Ok v) = None
  refused (Err k) = Some k

  -- what a refusal makes, or what stands where there is none
  abbrev pub by_refusal : Option Refusal → (Refusal → A) → A → A
  by_refusal (Some k) told done = told k
  by_refusal None told done = done

-- of two tests the first that refuses
abbrev pub or_else : Option Refusal → Option Refusal → Option Refusal
or_else a b = by_refusal a Some b

-- "10 for a piston above 31", before what is asked next
unfoldable pub past : ℕ → Option Refusal → Option Refusal
past piston next = if< piston 32 next (Some NoPiston)

-- "12 for a bank that names an offset not held, or one offset twice", by what asking about the whole bank answers
abbrev pub named : Answer → Option Refusal
named (Ok v) = None
named (Err k) = Some NotNamed

-- "11 for an unknown kind or wrong body length"
unfoldable pub no_record : ℕ → List ℕ → Option Refusal
no_record kind body = when (is_record kind body) None (Some NoRecord)

-- "order 1, 2, 10, 12": what every call asks first, the whole bank's names included
unfoldable pub refusal : (pool bank : List ℕ) (piston : ℕ) → Option Refusal
refusal bs bank piston = or_else (refused (inspect bs)) (past piston (named (ask_all bs bank piston)))

-- ---- what a call leaves

pub record After : Type 0 where
  pub answer : Answer
  pub pool : List ℕ
  pub bank : List ℕ

abbrev pub after : Answer → List ℕ → List ℕ → After
after a bs bank = record { answer = a; pool = bs; bank = bank }

-- "then gives the old one back": an empty piston has none
unfoldable pub released : List ℕ → ℕ → List ℕ
released bs old = if= old 0 bs (give_back bs old).after

-- ---- set

-- by what take answered: "writes it, then gives the old one back"; or "with no room, the old setting stays"
abbrev pub stored : (bs bank : List ℕ) (piston : ℕ) (r : List ℕ) → Answer → List ℕ → After
stored bs bank piston r (Ok q) taken =
    after (Ok (length bs)) (released (replaced_part taken q r) (get_or bank piston 0)) (put bank piston q)
stored bs bank piston r (Err k) taken = after (Err k) bs bank

-- "Setting a piston takes a new block, .."
unfoldable pub store : (bs bank : List ℕ) (piston : ℕ) (r : List ℕ) → After
store bs bank piston r = stored bs bank piston r (take bs (length r)).answer (take bs (length r)).after

-- "order 1, 2, 10, 12, 11, 4"
unfoldable pub set : (bs bank : List ℕ) (piston kind : ℕ) (body : List ℕ) → After
set bs bank piston kind body =
    let why = or_else (refusal bs bank piston) (no_record kind body) in
    by_refusal why (λ k. after (Err k) bs bank) (store bs bank piston (kind ∷ body))

-- ---- clear

unfoldable pub clear : (bs bank : List ℕ) (piston : ℕ) → After
clear bs bank piston =
    by_refusal (refusal bs bank piston) (λ k. after (Err k) bs bank)
    (after (Ok (length bs)) (released bs (get_or bank piston 0)) (put bank piston 0))

-- ---- recall

-- "the empty part at the pool's end"
abbrev pub nothing : List ℕ → Option Refusal → Place
nothing bs why = record { refusal = why; from = length bs; to = length bs }

-- the record of so many bytes at an offset; "12 for .. a recalled record that doesn't read"
abbrev pub record_at : List ℕ → ℕ → Option ℕ → Place
record_at bs offset (Some long) = record { refusal = None; from = offset; to = offset + long }
record_at bs offset None = nothing bs (Some NotNamed)

-- why it is refused, if it is, and where in the pool the record starts and ends
unfoldable pub recall : (bs bank : List ℕ) (piston : ℕ) → Place
recall bs bank piston =
    let offset = get_or bank piston 0 in
    by_refusal (refusal bs bank piston) (λ k. nothing bs (Some k))
    (if= offset 0 (nothing bs None) (record_at bs offset (record_in (part bs offset))))

-- the bytes of the part
abbrev pub shown : List ℕ → Place → List ℕ
shown bs p = firsts (p.to - p.from) (drop p.from bs)

-- why it is refused, or how many bytes it has
abbrev pub asked : Place → Answer
asked p = by_refusal p.refusal Err (Ok (p.to - p.from))
