-- The run theorem: "After any run of set, clear and recall, from an empty bank on a fresh pool that only the bank uses, each piston shows its
-- latest accepted setting." It holds beside well-behaved neighbours too. By induction on the steps: each keeps the bank.
use mathlib.Core.List.{List, [], ◌∷◌}
use mathlib.Core.Logic.{◌⊎◌, inl}
use mathlib.Core.Path.{◌≡◌, refl}
use Prim.Native.Nat.{ℕ}
use lib.ListN.{get_or, get_or-replicate, length, length-replicate, replicate, get_or-eq_default}
use native.Mathlib.Omega.{arith}
use Rattle.words.specs.Choice.{by<}
use Rattle.words.specs.Words.{Bytes}
use Rattle.paper.specs.Allowed.{Allowed}
use Rattle.pool.proofs.Accepting.{Accepted, laid-out-accepted}
use Rattle.pool.specs.Calls.{lay_out}
use Rattle.bank.specs.Run.{AllMade, Behaves, Call, Fair, Ran, Shows, Step, acted, acts, alone, bank_after, calls, empty, latest, pool_after, run}
use Rattle.bank.proofs.Banks.{Bank, bank-stays, recalls}
use Rattle.bank.proofs.CallsKeep.{call-keeps}
use Rattle.bank.proofs.Neighbours.{act-leaves}

-- what a run has left, by what each piston showed before
pub record RunKept (shows : ℕ → List ℕ) (r : Ran) : Type 0 where
  pub bank-is : Bank r.pool r.bank (λ i. latest i (shows i) r.lines)
  pub fair : Fair r.lines

pub run-keeps : (bs bank : List ℕ) (shows : ℕ → List ℕ) → Bank bs bank shows → (xs : List Step) → Behaves bs bank xs → RunKept shows (run bs bank xs)
unfolding run Behaves latest
run-keeps bs bank shows B [] b = record { bank-is = B; fair = tt }
run-keeps bs bank shows B (calls c ∷ xs) b =
    let k = call-keeps bs bank shows B c b.0 in
    let on = run-keeps (pool_after bs bank c) (bank_after bs bank c) _ k.keeps xs b.1 in
    record { bank-is = on.bank-is; fair = (k.fair, on.fair) }
run-keeps bs bank shows B (acts a ∷ xs) b =
    let k = act-leaves bs bank B.accepted a b.0 in
    run-keeps (acted bs a) bank shows (bank-stays bs bank shows B (acted bs a) k.accepted k.stays) xs b.1

-- ---- from an empty bank

empty-bank : (bs : List ℕ) → Accepted bs → Bank bs empty (λ i. [])
unfolding empty
empty-bank bs A =
    record {
      accepted = A;
      pistons = length-replicate {A = ℕ} 32 0;
      each = λ i. inl (zero-at i, refl);
      apart = λ i j n. absurd (n (zero-at i));
    }
  where
    zero-at : (i : ℕ) → ◌≡◌ {A = ℕ} (get_or (replicate 32 0) i 0) 0
    zero-at i =
        by< i 32 (λ l. get_or-replicate 32 i 0 0 l) (λ l. get_or-eq_default (replicate 32 0) 0 {n = i} (omega (arith, length-replicate {A = ℕ} 32 0)))

pub run-shows : (bs : List ℕ) → Accepted bs → (xs : List Step) → Behaves bs empty xs → Shows (run bs empty xs)
run-shows bs A xs b =
    let k = run-keeps bs empty (λ i. []) (empty-bank bs A) xs b in
    record {
      accepted_recall = λ p l. (recalls _ _ _ k.bank-is p l).accepted;
      latest_setting = λ p l. (recalls _ _ _ k.bank-is p l).bytes;
      fair_answers = k.fair;
    }

-- ---- "on a fresh pool that only the bank uses"

alone-behaves : (bs bank : List ℕ) (cs : List Call) → AllMade cs → Behaves bs bank (alone cs)
unfolding Behaves
alone-behaves bs bank [] m = tt
alone-behaves bs bank (c ∷ cs) m = (m.0, alone-behaves (pool_after bs bank c) (bank_after bs bank c) cs m.1)

pub fresh-run-shows : (buffer : List ℕ) → Bytes buffer → Allowed (length buffer) → (layout : ℕ) → (layout ≡ 1) ⊎ (layout ≡ 2) → (cs : List Call)
    → AllMade cs → Shows (run (lay_out buffer layout).after empty (alone cs))
fresh-run-shows buffer bytes a layout named cs m =
    run-shows (lay_out buffer layout).after (laid-out-accepted buffer bytes a layout named) (alone cs)
    (alone-behaves (lay_out buffer layout).after empty cs m)
