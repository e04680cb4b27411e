-- What a call finds when it reads the pool, as a function: `Reads bs (read bs)` holds of all bytes, and of no other reading (proofs/Readings).
-- Every call reads by the rule in force; bring-in alone reads by the old one.
use Rattle.std.specs.Prelude.{Bool, true, false, ◌≡◌, refl, List, [], ◌∷◌, ℕ, zero, suc, ◌<◌, length}
use Rattle.std.proofs.Math.Decide.{dec_lt}
use Rattle.std.proofs.Common.{arith}
use Rattle.words.specs.Words.{Bytes}
use Rattle.paper.specs.Allowed.{allowed}
use Rattle.paper.specs.Blocks.{State}
use Rattle.paper.specs.Calls.{Reading, misfit, broken, sound, by_reading}
use Rattle.paper.specs.Sound.{SoundBy}
use Rattle.paper.specs.declared.Refusal.{Refusal}
use Rattle.std.specs.declared.result.Result.{Result}
use Rattle.std.specs.declared.result.Result.TheVariants.{Ok, Err}
use Rattle.inspect.specs.Inspection.{edge_held, inspected, old_inspected}
use Rattle.inspect.proofs.Decide.{accepted-sound, old-accepted-sound}

-- a lent buffer is a list of bytes; of any other list nothing is said
abbrev pub bytes? : (bs : List ℕ) → Dec (Bytes bs)
bytes? [] = yes (λ i. omega arith)
bytes? (b ∷ bs) = both (dec_lt b 256) (bytes? bs)
  where
    both : Dec (b < 256) → Dec (Bytes bs) → Dec (Bytes (b ∷ bs))
    both (yes h) (yes k) = yes (elim [ zero ↦ h | suc i ↦ k i ])
    both (yes h) (no k) = no (λ all. k (λ i. all (suc i)))
    both (no h) k = no (λ all. h (all 0))

-- by a test that only sound pools pass
module _ {Rule : State → Type 0} (test : List ℕ → Bool) (only : (bs : List ℕ) → Bytes bs → test bs ≡ true → SoundBy Rule bs) where
  abbrev pub read_tested : (bs : List ℕ) → Dec (Bytes bs) → (b : Bool) → test bs ≡ b → Reading
  read_tested bs (yes bytes) true e = sound (only bs bytes e).state
  read_tested bs (no k) true e = broken
  read_tested bs d false e = broken

  abbrev pub read_allowed : List ℕ → Bool → Reading
  read_allowed bs false = misfit
  read_allowed bs true = read_tested bs (bytes? bs) (test bs) refl

  abbrev pub read_by : List ℕ → Reading
  read_by bs = read_allowed bs (allowed (length bs))

-- by the rule in force
unfoldable pub read : List ℕ → Reading
read bs = read_by inspected accepted-sound bs

-- by the old rule
unfoldable pub old_read : List ℕ → Reading
old_read bs = read_by old_inspected old-accepted-sound bs

-- refused as the reading is, or not
abbrev pub said : Reading → Result (Unit {0}) Refusal
said x = by_reading x Err (λ s. Ok tt)

-- "Tests run in the order 1, 2, then the call's own": what the first two say
unfoldable pub checked : List ℕ → Result (Unit {0}) Refusal
checked bs = said (read bs)

unfoldable pub old_checked : List ℕ → Result (Unit {0}) Refusal
old_checked bs = said (old_read bs)

-- by one or the other
unfoldable pub checked_by : Bool → List ℕ → Result (Unit {0}) Refusal
checked_by true bs = old_checked bs
checked_by false bs = checked bs

-- the test of the block at E, which the old rule does not ask
unfoldable pub edge_ok : Bool → List ℕ → Bool
edge_ok true bs = true
edge_ok false bs = edge_held bs
