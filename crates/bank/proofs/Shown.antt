-- The bytes of the part that a recall gives: none where it is empty, else the start of the held payload.
use mathlib.Core.List.{List, []}
use mathlib.Core.Path.{◌≡◌, ap, sym, ◌∙◌}
use Prim.Native.Nat.{ℕ, ◌+◌, ◌-◌, ◌≤◌}
use native.Mathlib.Omega.{arith}
use lib.ListN.{drop, length, take as firsts}
use lib.Seq.{take-take}
use Rattle.words.specs.Words.{Bytes}
use Rattle.pool.proofs.Holding.{Held, held-there}
use Rattle.bank.specs.Calls.{shown}
use Rattle.paper.specs.declared.Refusal.{Refusal}
use Rattle.std.specs.declared.option.Option.{Option}

pub nothing-shown : (bs : List ℕ) (n : ℕ) (k : Option Refusal) → shown bs (record { refusal = k; from = n; to = n }) ≡ []
nothing-shown bs n k = let e : n - n ≡ 0 = omega arith in ap (λ (z : ℕ). firsts z (drop n bs)) e

pub record-shown : (bs : List ℕ) → Bytes bs → (o : ℕ) (payload : List ℕ) → Held bs o payload → (z : ℕ) (k : Option Refusal) → z ≤ length payload
    → shown bs (record { refusal = k; from = o; to = o + z }) ≡ firsts z payload
record-shown bs bytes o payload h z k l =
    let e : o + z - o ≡ z = omega arith in
    ap (λ (m : ℕ). firsts m (drop o bs)) e ∙ sym (take-take z (length payload) (drop o bs) l)
    ∙ ap (firsts z) (held-there bs bytes o payload h).from-there
