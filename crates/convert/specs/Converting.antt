-- Request 2026-05: "a move of a sound pool from layout 1 to 2 and the reverse, in the same buffer. Held payloads, blocks and the order of every bin
-- stay." What the call answers, and every byte afterwards.
use Rattle.std.specs.Prelude.{List, ℕ, length}
use Rattle.words.specs.Choice.{if=}
use Rattle.paper.specs.Blocks.{State, with_top}
use Rattle.paper.specs.Calls.{Reading, misfit, broken, sound, unchanged}
use Rattle.paper.specs.Fresh.{layout_top}
use Rattle.paper.specs.Governed.{sheet}
use Rattle.paper.specs.Sheet.{write}
use Rattle.reading.specs.Read.{read}
use Rattle.std.specs.declared.result.Result.{Result}
use Rattle.std.specs.declared.result.Result.TheVariants.{Ok, Err}
use Rattle.paper.specs.declared.Refusal.{Refusal}
use Rattle.paper.specs.declared.Refusal.TheVariants.{NoLayout, NotAllowed, NotSound, OtherLayout}
use Rattle.paper.specs.Answers.{Answer, out, Out}

unfoldable pub other : ℕ → ℕ
other layout = if= layout 1 2 1

-- the same blocks and lists, in the other layout than `old`
abbrev pub relaid : State → ℕ → State
relaid s old = with_top (layout_top (other old)) s

-- the new sheet over the old bytes
abbrev pub moves : State → List ℕ → ℕ → Out
moves s bs old = out (Ok (length bs)) (write (sheet (relaid s old)) bs)

-- "order 1, 8, 2, 13", and "13 when the pool isn't of the layout named as old"
abbrev pub convert_call : Reading → List ℕ → ℕ → Out
convert_call misfit bs old = unchanged bs NotAllowed
convert_call broken bs old = if= (layout_top old) 0 (unchanged bs NoLayout) (unchanged bs NotSound)
convert_call (sound s) bs old =
    if= (layout_top old) 0 (unchanged bs NoLayout) (if= s.top (layout_top old) (moves s bs old) (unchanged bs OtherLayout))

unfoldable pub convert : List ℕ → ℕ → Out
convert bs old = convert_call (read bs) bs old

-- refused, or not
abbrev pub said : Answer → Result (Unit {0}) Refusal
said (Ok v) = Ok tt
said (Err k) = Err k

unfoldable pub checked : List ℕ → ℕ → Result (Unit {0}) Refusal
checked bs old = said (convert bs old).answer
