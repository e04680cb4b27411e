-- What the code asks of the pool for a call: its answer, put into the bank's order, and the payload that the piston names.
use mathlib.Core.List.{List}
use mathlib.Core.Logic.{◌≢◌}
use mathlib.Core.Path.{◌≡◌, ap, sym, ◌∙◌}
use Prim.Native.Nat.{ℕ, ◌+◌, ◌-◌, ◌≤◌}
use native.Mathlib.Omega.{arith}
use lib.ListN.{drop, get_or, length, take as firsts}
use Rattle.words.specs.Choice.{if=-no}
use Rattle.words.specs.Words.{Bytes}
use Rattle.pool.proofs.Holding.{held-there}
use Rattle.pool.proofs.Named.{asked-held, asked-told}
use Rattle.pool.specs.Calls.{ask, ask_all, part}
use Rattle.bank.specs.Asks.{Asks}
use Rattle.bank.specs.Calls.{past, refusal, refused}
use Rattle.bank.proofs.Refusals.{past-first, past-next, refusal-named, refusal-unnamed, refusal-unread}
use Rattle.std.specs.declared.option.Option.TheVariants.{None, Some}
use Rattle.std.specs.declared.result.Result.{Result}
use Rattle.std.specs.declared.result.Result.TheVariants.{Ok, Err}
use Rattle.paper.specs.Answers.{Answer}
use Rattle.paper.specs.declared.Refusal.TheVariants.{NotHeld, NotNamed}
use Rattle.paper.specs.declared.Refusal.{Refusal}

module _ (bs bank : List ℕ) (piston : ℕ) where
  -- a refused call is told nothing
  asks-refused : (k : Refusal) → refusal bs bank piston ≡ Some k → Asks bs bank piston (Err k)
  asks-refused k e = record { first = sym e; told = λ long f. absurd (let z : ◌≡◌ {A = ℕ} 0 1 = cc in omega arith) }

  pub asks-unread : (k : Refusal) → ask_all bs bank piston ≡ Err k → k ≢ NotHeld → Asks bs bank piston (Err k)
  asks-unread k e n = asks-refused k (refusal-unread bs bank piston k e n)

  -- by what the code asks of the piston
  module _ {r : Result (Unit {0}) Refusal} (p : refused r ≡ past piston None) where
    module _ (v : ℕ) (e : ask_all bs bank piston ≡ Ok v) where
      pub asks-past : (k : Refusal) → r ≡ Err k → Asks bs bank piston (Err k)
      asks-past k f = asks-refused k (refusal-named bs bank piston v e ∙ sym p ∙ ap refused f)

      pub asks-done : (u : Unit {0}) → r ≡ Ok u → Asks bs bank piston (Ok v)
      asks-done u f =
          record {
            first = sym (refusal-named bs bank piston v e ∙ sym p ∙ ap refused f);
            told = λ long g. asked-told bs bank piston v e ∙ g;
          }

    module _ (e : ask_all bs bank piston ≡ Err NotHeld) where
      pub asks-past-unnamed : (k : Refusal) → r ≡ Err k → Asks bs bank piston (Err k)
      asks-past-unnamed k f = asks-refused k (refusal-unnamed bs bank piston e ∙ past-first piston (Some NotNamed) k (sym p ∙ ap refused f))

      pub asks-unnamed : (u : Unit {0}) → r ≡ Ok u → Asks bs bank piston (Err NotNamed)
      asks-unnamed u f = asks-refused NotNamed (refusal-unnamed bs bank piston e ∙ past-next piston (Some NotNamed) (sym p ∙ ap refused f))

  -- ---- what an answer says

  module _ {r : Answer} (a : Asks bs bank piston r) where
    pub asked-refuses : (k : Refusal) → r ≡ Err k → refusal bs bank piston ≡ Some k
    asked-refuses k e = sym a.first ∙ ap refused e

    module _ {long : ℕ} (e : r ≡ Ok long) where
      pub asked-passes : refusal bs bank piston ≡ None
      asked-passes = sym a.first ∙ ap refused e

      -- the payload that it names, as a part of the pool
      pub record Payload : Type 0 where
        pub within : get_or bank piston 0 + long ≤ length bs
        pub is-part : firsts (get_or bank piston 0 + long - get_or bank piston 0) (drop (get_or bank piston 0) bs) ≡ part bs (get_or bank piston 0)

      pub asked-payload : get_or bank piston 0 ≢ 0 → Bytes bs → Payload
      asked-payload n bytes =
          let o = get_or bank piston 0 in
          let x : ask bs o ≡ Ok long = sym (if=-no o 0 (Ok 0) (ask bs o) n) ∙ a.told long e in
          let h = asked-held bs bytes o long x in
          let there = held-there bs bytes o h.0 h.1 in
          let d : Ok (length h.0) ≡ Ok long = sym h.1.asked ∙ x in
          let l : length h.0 ≡ long = cc in
          let m : o + long - o ≡ length h.0 = omega (arith, l) in
          record { within = omega (arith, there.within, l); is-part = ap (λ (k : ℕ). firsts k (drop o bs)) m ∙ there.from-there ∙ sym h.1.lent }
