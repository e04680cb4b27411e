-- Every call of the bank keeps it: whatever it answers, each piston then shows what a list of the calls and their answers says. And what it may
-- answer: neither 1 nor 2, and no 12.
use mathlib.Core.Bool.{Bool, true, false}
use mathlib.Core.List.{List, [], ◌∷◌}
use mathlib.Core.Logic.{◌⊎◌, inl, inr}
use mathlib.Core.Path.{◌≡◌, refl, ap, sym, subst}
use Prim.Native.Nat.{ℕ, zero, suc, ◌<◌}
use native.Mathlib.Omega.{arith}
use lib.ListN.{get_or, length, set as put}
use Rattle.words.specs.Choice.{by<, if=, when-no, when-yes}
use Rattle.words.specs.Words.{Bytes}
use Rattle.pool.proofs.Granted.{refused-for-room}
use Rattle.pool.specs.Calls.{take}
use Rattle.bank.specs.Calls.{After, by_refusal, clear, no_record, recall, refusal, refused, released, set, store, stored}
use Rattle.bank.specs.declared.recalling.Place.{Place}
use Rattle.bank.specs.Records.{is_record}
use Rattle.bank.specs.Run.{Call, Made, accepted, answered, bank_after, clears, pool_after, recalls, sets}
use Rattle.bank.proofs.Banks.{Bank, bank-changes, bank-names, bank-shows}
use Rattle.bank.proofs.Banks as banks
use Rattle.bank.proofs.Outcomes.{clear-done, clear-refused, set-no-record, set-refused, set-stores}
use Rattle.bank.proofs.Finding.{by-first}
use Rattle.bank.proofs.Refusals.{none-refused, past-refused}
use Rattle.bank.proofs.Stored.{released-accepted, released-stays, stored-keeps}
use Rattle.std.specs.declared.result.Result.TheVariants.{Ok, Err}
use Rattle.paper.specs.declared.Refusal.TheVariants.{NoPiston, NoRecord, NoRoom}
use Rattle.paper.specs.Answers.{Answer}
use Rattle.paper.specs.declared.Refusal.{Refusal}
use Rattle.std.specs.declared.option.Option.{Option}
use Rattle.std.specs.declared.option.Option.TheVariants.{None, Some}

-- one of the answers that a call may have
abbrev pub FairAnswer : Option Refusal → Type 0
FairAnswer why = (why ≡ None) ⊎ (why ≡ Some NoRoom) ⊎ (why ≡ Some NoPiston) ⊎ (why ≡ Some NoRecord)

-- the bank after a call, by why it was refused, if it was, and by what each piston shows if it was accepted
pub record Kept (bs bank : List ℕ) (why : Option Refusal) (old new : ℕ → List ℕ) : Type 0 where
  pub keeps : Bank bs bank (λ i. by_refusal why (λ k. old i) (new i))
  pub fair : FairAnswer why

module _ (bs bank : List ℕ) (old new : ℕ → List ℕ) where
  accepted-kept : Bank bs bank new → Kept bs bank None old new
  accepted-kept B = record { keeps = B; fair = inl refl }

  refused-kept : (k : Refusal) → FairAnswer (Some k) → Bank bs bank old → Kept bs bank (Some k) old new
  refused-kept k f B = record { keeps = B; fair = f }

-- what a call left, by its outcome
abbrev KeptBy : After → (old new : ℕ → List ℕ) → Type 0
KeptBy a old new = Kept a.pool a.bank (refused a.answer) old new

left : {old new : ℕ → List ℕ} {a b : After} → a ≡ b → KeptBy b old new → KeptBy a old new
left {old} {new} e k = subst (λ (x : After). KeptBy x old new) (sym e) k

module _ (bs bank : List ℕ) (shows : ℕ → List ℕ) (B : Bank bs bank shows) where
  -- ---- what is asked first: 10, or nothing

  module _ (p : ℕ) where
    abbrev First : Type 0
    First = ((p < 32) × (refusal bs bank p ≡ None)) ⊎ (refusal bs bank p ≡ Some NoPiston)

    first-asked : First
    first-asked =
        by< p 32 (λ l. inl (l, none-refused bs bank B.accepted (bank-names bs bank shows B) p l))
        (λ l. inr (past-refused bs bank B.accepted (bank-names bs bank shows B) p l))

    -- ---- clear

    pub clear-keeps : KeptBy (clear bs bank p) shows (λ i. if= p i [] (shows i))
    clear-keeps = go first-asked
      where
        go : First → KeptBy (clear bs bank p) shows (λ i. if= p i [] (shows i))
        go (inl l) =
            let old = get_or bank p 0 in
            left (clear-done bs bank p l.1 (released bs old) refl)
            (accepted-kept (released bs old) (put bank p 0) shows (λ i. if= p i [] (shows i))
            (bank-changes bs bank shows B (released bs old) (released-accepted bs B.accepted old) p l.0 0 [] (inl (refl, refl))
            (λ i n m. released-stays bs B.accepted old (get_or bank i 0) (λ k same. n (B.apart i p m same)))
            (λ i n m. m)))
        go (inr e) = left (clear-refused bs bank p NoPiston e) (refused-kept bs bank shows _ NoPiston (inr (inr (inl refl))) B)

    -- ---- set

    module _ (kind : ℕ) (body : List ℕ) (made : (kind < 256) × Bytes body) where
      abbrev shown-then : ℕ → List ℕ
      shown-then i = if= p i (kind ∷ body) (shows i)

      bytes : Bytes (kind ∷ body)
      bytes zero = made.0
      bytes (suc i) = made.1 i

      -- by what take answered
      store_keeps : p < 32 → is_record kind body ≡ true → KeptBy (store bs bank p (kind ∷ body)) shows shown-then
      unfolding store
      store_keeps l is = go (take bs (length (kind ∷ body))).answer refl
        where
          go : (a : Answer) → (take bs (length (kind ∷ body))).answer ≡ a
              → KeptBy (stored bs bank p (kind ∷ body) a (take bs (length (kind ∷ body))).after) shows shown-then
          go (Ok q) e = accepted-kept _ _ shows shown-then (stored-keeps bs bank shows B p l kind body is bytes q e)
          go (Err k) e =
              let r : k ≡ NoRoom = refused-for-room bs B.accepted (length (kind ∷ body)) (omega arith) k e in
              refused-kept bs bank shows shown-then k (inr (inl (ap Some r))) B

      pub set_keeps : KeptBy (set bs bank p kind body) shows shown-then
      unfolding no_record
      set_keeps = go first-asked (is_record kind body) refl
        where
          go : First → (b : Bool) → is_record kind body ≡ b → KeptBy (set bs bank p kind body) shows shown-then
          go (inr e) b is =
              left (set-refused bs bank p kind body NoPiston e) (refused-kept bs bank shows shown-then NoPiston (inr (inr (inl refl))) B)
          go (inl l) false is =
              left (set-no-record bs bank p kind body l.1 NoRecord (when-no _ None (Some NoRecord) is))
              (refused-kept bs bank shows shown-then NoRecord (inr (inr (inr refl))) B)
          go (inl l) true is =
              left (set-stores bs bank p kind body l.1 (when-yes _ None (Some NoRecord) is)) (store_keeps l.0 is)

    -- ---- recall

    pub recall-keeps : Kept bs bank (recall bs bank p).refusal shows shows
    recall-keeps = go first-asked
      where
        told : {w : Option Refusal} → (recall bs bank p).refusal ≡ w → Kept bs bank w shows shows
            → Kept bs bank (recall bs bank p).refusal shows shows
        told e k = subst (λ (w : Option Refusal). Kept bs bank w shows shows) (sym e) k

        go : First → Kept bs bank (recall bs bank p).refusal shows shows
        go (inl l) = told (banks.recalls bs bank shows B p l.0).accepted (accepted-kept bs bank shows shows B)
        go (inr e) =
            told (ap (λ (x : Place). x.refusal) (by-first bs bank p (Some NoPiston) e))
            (refused-kept bs bank shows shows NoPiston (inr (inr (inl refl))) B)

  -- ---- any call

  pub call-keeps : (c : Call) → Made c → Kept (pool_after bs bank c) (bank_after bs bank c) (answered bs bank c) shows (λ i. accepted i (shows i) c)
  call-keeps (sets p kind body) made = set_keeps p kind body made
  call-keeps (clears p) made = clear-keeps p
  call-keeps (recalls p) made = recall-keeps p
