-- The inspection, with marks as bits, accepts the sound pools and no others, by the rule in force as by the old one; and a pool stands for one state.
use mathlib.Core.Bool.{Bool, false, true}
use mathlib.Core.List.{List}
use mathlib.Core.Path.{◌∙◌, ◌≡◌, refl, sym}
use Prim.Native.Nat.{◌<◌, ℕ}
use native.Mathlib.Omega.{arith}
use lib.ListN.{get_or-eq_default, get_or, length}
use Rattle.accept.proofs.Exact.{all_sound, only-sound}
use Rattle.accept.proofs.Simulation.{sim-inspect}
use Rattle.guards.proofs.Guards.{no_both}
use Rattle.inspect.proofs.AtEdge.{edge-every, edge-only}
use Rattle.inspect.specs.Contract.{OldInspected}
use Rattle.inspect.specs.Inspection.{edge_held, inspected, old_inspected}
use Rattle.paper.proofs.reads.Unique.{same-state}
use Rattle.paper.specs.Blocks.{State}
use Rattle.paper.specs.Sound.{Edge, OldSound, Sound, SoundBy}
use Rattle.words.specs.Choice.{by<, when, when-no, when-yes}
use Rattle.words.specs.Words.{Bytes}

module _ (bs : List ℕ) where
  -- ---- by the old rule

  pub old-accepted-sound : Bytes bs → old_inspected bs ≡ true → OldSound bs
  unfolding old_inspected
  old-accepted-sound by h = only-sound bs by (sim-inspect bs ∙ h)

  pub old-sound-accepted : OldSound bs → old_inspected bs ≡ true
  unfolding old_inspected
  old-sound-accepted S = sym (sim-inspect bs) ∙ all_sound bs S

  -- ---- by the rule in force, which asks one thing more

  abbrev pub more : (S : OldSound bs) → Edge S.state → Sound bs
  more S g =
      record {
        length_allowed = S.length_allowed;
        state = S.state;
        well_formed = S.well_formed;
        edge = g;
        ends = S.ends;
        holds = S.holds;
      }

  abbrev pub less : Sound bs → OldSound bs
  less S =
      record {
        length_allowed = S.length_allowed;
        state = S.state;
        well_formed = S.well_formed;
        edge = tt;
        ends = S.ends;
        holds = S.holds;
      }

  both : (c : Bool) → edge_held bs ≡ c → when c (old_inspected bs) false ≡ true → (edge_held bs ≡ true) × (old_inspected bs ≡ true)
  both true e h = (e, sym (when-yes true (old_inspected bs) false refl) ∙ h)
  both false e h = absurd (no_both (sym (when-no false (old_inspected bs) false refl) ∙ h))

  pub accepted-sound : Bytes bs → inspected bs ≡ true → Sound bs
  unfolding inspected
  accepted-sound by h =
      let b = both (edge_held bs) refl h in
      let S = old-accepted-sound by b.1 in
      more S (edge-only bs S b.0)

  pub sound-accepted : Sound bs → inspected bs ≡ true
  unfolding inspected
  sound-accepted S =
      when-yes (edge_held bs) (old_inspected bs) false (edge-every bs (less S) S.edge) ∙ old-sound-accepted (less S)

  pub one_state : {Rule : State → Type 0} (S S' : SoundBy Rule bs) → S.state ≡ S'.state
  one_state S S' = same-state bs S.state S'.state S.well_formed S'.well_formed (sym S.ends) (sym S'.ends) S.holds S'.holds

-- ---- the promise of the public call: a slice's elements are bytes

pub old-inspection : (bs : List ℕ) (r : Bool) → ((i : ℕ) → i < length bs → get_or bs i 0 < 256) → r ≡ old_inspected bs → OldInspected r bs
old-inspection bs r h e =
    record { same = e; only = λ t. old-accepted-sound bs bytes (sym e ∙ t); every = λ S. e ∙ old-sound-accepted bs S }
  where
    bytes : Bytes bs
    bytes i = by< i (length bs) (λ l. h i l) (λ l. let z : get_or bs i 0 ≡ 0 = get_or-eq_default bs 0 l in omega arith)
