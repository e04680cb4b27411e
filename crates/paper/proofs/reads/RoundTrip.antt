-- The state of a pool, written over any buffer as long, is read from it again, and the governed bytes are the sheet's: what is written
-- holds the sheet, and a pool has one state.
use mathlib.Core.List.{List}
use mathlib.Core.Option.{some}
use mathlib.Core.Path.{◌∙◌, ◌≡◌, ap, sym}
use Prim.Native.Nat.{◌%◌, ◌*◌, ◌/◌, ◌<◌, ℕ}
use native.Mathlib.Omega.{arith}
use lib.ListN.{get_or, length}
use Rattle.paper.proofs.reads.Standing.{sound-same, stands-sound}
use Rattle.paper.proofs.reads.Stands.{Stands, StandsBy}
use Rattle.paper.proofs.sheet.Written.{get_or-write, holds-write, length-write}
use Rattle.paper.specs.Blocks.{State, end}
use Rattle.paper.specs.Governed.{sheet}
use Rattle.paper.specs.Sheet.{Holds, Sheet, byte, octet, pick, write}
use Rattle.paper.specs.Sound.{Sound, WellFormed}

pub write-stands : {Rule : State → Type 0} (s : State) → WellFormed s → Rule s → (bs : List ℕ) → end s ≡ length bs → StandsBy Rule s (write (sheet s) bs)
write-stands s W g bs e =
    record { well_formed = W; edge = g; ends = e ∙ sym (length-write (sheet s) bs); holds = holds-write (sheet s) bs }

-- a governed byte is the sheet's
pub write-governed : (g : Sheet) (bs : List ℕ) (i v : ℕ) → i < length bs → g (i / 4 * 4) ≡ some v → get_or (write g bs) i 0 ≡ octet v (i % 4)
unfolding byte
write-governed g bs i v b e = get_or-write g bs i b ∙ ap (λ o. pick o (i % 4) (get_or bs i 0)) e

pub holds-governed : (g : Sheet) (bs : List ℕ) (i v : ℕ) → Holds g bs → i < length bs → g (i / 4 * 4) ≡ some v → get_or bs i 0 ≡ octet v (i % 4)
unfolding Holds
holds-governed g bs i v h b e = ap (λ (t : List ℕ). get_or t i 0) (sym h) ∙ write-governed g bs i v b e

module _ (p : List ℕ) (S : Sound p) (b : List ℕ) (l : length b ≡ length p) where
  pub written_stands : Stands S.state (write (sheet S.state) b)
  written_stands = write-stands S.state S.well_formed S.edge b (S.ends ∙ sym l)

  pub written-sound : (T : Sound (write (sheet S.state) b)) × (T.state ≡ S.state)
  written-sound = stands-sound S.state (write (sheet S.state) b) written_stands

  -- whatever is read from it
  pub round_trip : (T : Sound (write (sheet S.state) b)) → T.state ≡ S.state
  round_trip = sound-same S.state (write (sheet S.state) b) written_stands

  -- each governed byte is that of p
  pub round-trip-governed : (i v : ℕ) → i < length p → sheet S.state (i / 4 * 4) ≡ some v → get_or (write (sheet S.state) b) i 0 ≡ get_or p i 0
  round-trip-governed i v m e =
      write-governed (sheet S.state) b i v (omega arith) e ∙ sym (holds-governed (sheet S.state) p i v S.holds m e)
