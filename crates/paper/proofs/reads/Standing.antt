-- A pool that stands for a state is sound, with that state; and a sound pool stands for its state.
use mathlib.Core.List.{List}
use mathlib.Core.Path.{◌≡◌, refl, sym}
use Prim.Native.Nat.{ℕ}
use native.Mathlib.Omega.{arith}
use lib.ListN.{length}
use Rattle.paper.proofs.reads.Readings.{end-big}
use Rattle.paper.proofs.reads.Stands.{StandsBy}
use Rattle.paper.proofs.reads.Unique.{same-state}
use Rattle.paper.proofs.runs.Walk.{sized-eight}
use Rattle.paper.specs.Allowed.{Allowed}
use Rattle.paper.specs.Blocks.{State, blocks}
use Rattle.paper.specs.Sound.{SoundBy}

module _ {Rule : State → Type 0} where
  pub stands-allowed : (s : State) (bs : List ℕ) → StandsBy Rule s bs → Allowed (length bs)
  stands-allowed s bs S =
      record {
        least = omega (arith, S.ends, end-big bs s S.well_formed (sym S.ends) S.holds);
        most = omega (arith, S.ends, S.well_formed.fits);
        eights = omega (arith, S.ends, sized-eight (blocks s) S.well_formed.sized);
      }

  -- sound, with these blocks and lists
  pub stands-sound : (s : State) (bs : List ℕ) → StandsBy Rule s bs → (S : SoundBy Rule bs) × (S.state ≡ s)
  stands-sound s bs S = (
    record {
      length_allowed = stands-allowed s bs S;
      state = s;
      well_formed = S.well_formed;
      edge = S.edge;
      ends = S.ends;
      holds = S.holds;
    },
    refl,
  )

  pub sound-stands : (bs : List ℕ) (S : SoundBy Rule bs) → StandsBy Rule S.state bs
  sound-stands bs S =
      record { well_formed = S.well_formed; edge = S.edge; ends = S.ends; holds = S.holds }

  -- however the pool was found sound
  pub stands_same : (s s' : State) (bs : List ℕ) → StandsBy Rule s bs → StandsBy Rule s' bs → s ≡ s'
  stands_same s s' bs S S' =
      same-state bs s s' S.well_formed S'.well_formed (sym S.ends) (sym S'.ends) S.holds S'.holds

  pub sound-same : (s : State) (bs : List ℕ) → StandsBy Rule s bs → (S : SoundBy Rule bs) → S.state ≡ s
  sound-same s bs T S = stands_same S.state s bs (sound-stands bs S) T
