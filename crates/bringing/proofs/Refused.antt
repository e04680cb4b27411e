-- Each refusal, exactly when the rule says so: 1, then 2 by the old rule; a refusal returns 0 beside its number and changes nothing. And every
-- other call refuses with 2 what is sound by the old rule alone.
use mathlib.Core.List.{List}
use mathlib.Core.Path.{◌≡◌, refl, ap, subst}
use Prim.Native.Nat.{ℕ}
use native.Mathlib.Omega.{arith}
use lib.ListN.{length}
use Rattle.words.specs.Words.{Bytes}
use Rattle.inspect.proofs.Decide.{less, one_state}
use Rattle.paper.specs.Allowed.{Allowed}
use Rattle.paper.specs.Calls.{Reading, ReadsBy, ask_all_call, ask_call, broken, class_count_call, figures_call, give_back_call, inspect_call, misfit, sound, take_call}
use Rattle.paper.specs.GoingHome.{free_first, go_home}
use Rattle.paper.specs.Governed.{sheet}
use Rattle.paper.specs.Sheet.{write}
use Rattle.paper.specs.Sound.{Edge, OldEdge, OldSound, Sound}
use Rattle.pool.specs.Calls.{ask, ask_all, class_count, figures, give_back, inspect, take}
use Rattle.reading.specs.Read.{old_read, read}
use Rattle.reading.proofs.Readings.{old-reading-unique, old-reads, reading-unique, reads}
use Rattle.bringing.specs.BringingIn.{bring_in, bring_in_call}
use Rattle.std.specs.declared.result.Result.TheVariants.{Ok, Err}
use Rattle.paper.specs.declared.Refusal.TheVariants.{NotAllowed, NotSound}
use Rattle.paper.specs.Answers.{code, number, out, Out, value}
use Rattle.paper.specs.declared.Refusal.{Refusal}

module _ (bs : List ℕ) (bytes : Bytes bs) where
  -- the outcome is the one of the pool's only reading by the old rule
  by-reading : (x : Reading) → ReadsBy OldEdge bs x → bring_in bs ≡ bring_in_call x bs
  unfolding bring_in
  by-reading x k = ap (λ (y : Reading). bring_in_call y bs) (old-reading-unique bs (old_read bs) x (old-reads bs bytes) k)

  pub refused-1 : (Allowed (length bs) → ⊥) → bring_in bs ≡ out (Err NotAllowed) bs
  refused-1 h = by-reading misfit h

  pub refused-2 : Allowed (length bs) → (OldSound bs → ⊥) → bring_in bs ≡ out (Err NotSound) bs
  refused-2 a h = by-reading broken (a, h)

  pub brought-in-else : (S : OldSound bs) → bring_in bs ≡ out (Ok (free_first S.state.high)) (write (sheet (go_home S.state)) bs)
  brought-in-else S = by-reading (sound S.state) (S, refl)

-- an outcome that is refused changes nothing
abbrev Unchanged : List ℕ → Out → Type 0
Unchanged bs o = (k : Refusal) → o.answer ≡ Err k → o.after ≡ bs

stays : (bs : List ℕ) (x : Reading) → Unchanged bs (bring_in_call x bs)
stays bs misfit k e = refl
stays bs broken k e = refl
stays bs (sound s) k e = absurd (let z : ◌≡◌ {A = ℕ} 0 1 = cc in omega arith)

-- "A refusal returns 0 beside its number and changes nothing."
pub refused-changes-nothing : (bs : List ℕ) (k : Refusal) → (bring_in bs).answer ≡ Err k
    → (number (bring_in bs).answer ≡ code k) × (value (bring_in bs).answer ≡ 0) × ((bring_in bs).after ≡ bs)
unfolding bring_in
refused-changes-nothing bs k e = (ap number e, ap value e, stays bs (old_read bs) k e)

-- ---- every other call, on a pool that is sound by the old rule and has a free block at E

module _ (bs : List ℕ) (bytes : Bytes bs) (S : OldSound bs) (free-at-edge : Edge S.state → ⊥) where
  not-sound-now : Sound bs → ⊥
  not-sound-now T = free-at-edge (subst Edge (one_state bs (less bs T) S) T.edge)

  pub reads-broken : read bs ≡ broken
  reads-broken = reading-unique bs (read bs) broken (reads bs bytes) (S.length_allowed, not-sound-now)

  pub inspect-refuses : inspect bs ≡ Err NotSound
  unfolding inspect
  inspect-refuses = ap (λ (x : Reading). inspect_call x bs) reads-broken

  pub take-refuses : (size : ℕ) → take bs size ≡ out (Err NotSound) bs
  unfolding take
  take-refuses size = ap (λ (x : Reading). take_call x bs size) reads-broken

  pub give-back-refuses : (offset : ℕ) → give_back bs offset ≡ out (Err NotSound) bs
  unfolding give_back
  give-back-refuses offset = ap (λ (x : Reading). give_back_call x bs offset) reads-broken

  pub ask-refuses : (offset : ℕ) → ask bs offset ≡ Err NotSound
  unfolding ask
  ask-refuses offset = ap (λ (x : Reading). ask_call x offset) reads-broken

  pub ask-all-refuses : (offsets : List ℕ) (place : ℕ) → ask_all bs offsets place ≡ Err NotSound
  unfolding ask_all
  ask-all-refuses offsets place = ap (λ (x : Reading). ask_all_call x offsets place) reads-broken

  pub figures-refuse : figures bs ≡ Err NotSound
  unfolding figures
  figures-refuse = ap figures_call reads-broken

  pub class-count-refuses : (cs : List ℕ) → class_count bs cs ≡ out (Err NotSound) cs
  unfolding class_count
  class-count-refuses cs = ap (λ (x : Reading). class_count_call x cs) reads-broken
