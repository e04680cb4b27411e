-- Demand 3, over the public call: "Inspection accepts a pool exactly if it could have come about honestly: some buffer of that length, laid
-- out, then some takes and give-backs, ends in these very bytes. Writing inside a held payload never spoils an accepted pool." And for each
-- layout by itself (request 2026-04): the level word tells which one an accepted pool has, and it is honest in that one.
use mathlib.Core.Path.{◌≡◌, refl}
use mathlib.Core.List.{List}
use mathlib.Core.Logic.{◌⊎◌}
use Prim.Native.Nat.{ℕ}
use lib.ListN.{length}
use Rattle.words.specs.Choice.{if=}
use Rattle.words.specs.Words.{Bytes}
use Rattle.paper.specs.Allowed.{Allowed}
use Rattle.paper.specs.Calls.{Reading, Reads, misfit, broken, sound, inspect_call}
use Rattle.paper.specs.Fresh.{layout_top}
use Rattle.paper.specs.Honest.{Honest}
use Rattle.paper.specs.Sound.{Sound, level_word}
use Rattle.paper.proofs.honest.Accepted.{accepted-honest, accepted-layout, honest-accepted}
use Rattle.paper.proofs.reads.PayloadWrites.{SameOutside, sound-same-outside}
use Rattle.reading.specs.Read.{read}
use Rattle.pool.specs.Calls.{inspect}
use Rattle.reading.proofs.Readings.{reads, by-reading}
use Rattle.std.specs.declared.result.Result.TheVariants.{Ok, Err}
use Rattle.paper.specs.declared.Refusal.TheVariants.{NotAllowed, NotSound}

module _ (bs : List ℕ) (bytes : Bytes bs) where
  -- the answer is the one of the pool's only reading
  inspect-by : (x : Reading) → Reads bs x → inspect bs ≡ inspect_call x bs
  unfolding inspect
  inspect-by x k = by-reading bs bytes Err (λ s. Ok (length bs)) x k

  pub refused-1 : (Allowed (length bs) → ⊥) → inspect bs ≡ Err NotAllowed
  refused-1 h = inspect-by misfit h

  pub refused-2 : Allowed (length bs) → (Sound bs → ⊥) → inspect bs ≡ Err NotSound
  refused-2 a h = inspect-by broken (a, h)

  pub accepted-sound-pools : (S : Sound bs) → inspect bs ≡ Ok (length bs)
  accepted-sound-pools S = inspect-by (sound S.state) (S, refl)

  pub accepted-is-honest : (layout : ℕ) → (layout ≡ 1) ⊎ (layout ≡ 2) → inspect bs ≡ Ok (length bs) → level_word bs ≡ layout_top layout → Honest layout bs
  unfolding inspect
  accepted-is-honest layout named h t = accepted-honest bs bytes layout named (read bs) (reads bs bytes) h t

  pub honest-is-accepted : (layout : ℕ) → Honest layout bs → (inspect bs ≡ Ok (length bs)) × (level_word bs ≡ layout_top layout)
  unfolding inspect
  honest-is-accepted layout h = honest-accepted bs bytes layout (read bs) (reads bs bytes) h

  -- so there is no accepted pool beside these
  pub accepted-has-a-layout : inspect bs ≡ Ok (length bs) → (level_word bs ≡ layout_top 1) ⊎ (level_word bs ≡ layout_top 2)
  unfolding inspect layout_top if=
  accepted-has-a-layout h = accepted-layout bs (read bs) (reads bs bytes) h

-- bytes that differ only inside held payloads
pub payload-writes : (bs bs' : List ℕ) → Bytes bs' → (S : Sound bs) → length bs' ≡ length bs → SameOutside S.state bs bs'
    → inspect bs' ≡ Ok (length bs')
payload-writes bs bs' bytes S l same = accepted-sound-pools bs' bytes (sound-same-outside bs bs' S l same).0
