-- The one reading of a pool is the one that `read` finds, and by the old rule the one that `old_read` finds; so what a call answers goes by any
-- reading that the pool has.
use mathlib.Core.Path.{◌≡◌}
use mathlib.Core.List.{List}
use Prim.Native.Nat.{ℕ}
use Rattle.words.specs.Words.{Bytes}
use Rattle.paper.specs.Blocks.{State}
use Rattle.paper.specs.Calls.{Reading, Reads, ReadsBy, by_reading}
use Rattle.paper.specs.Sound.{Edge, OldEdge}
use Rattle.inspect.specs.Inspection.{inspected, old_inspected}
use Rattle.inspect.proofs.Decide.{accepted-sound, old-accepted-sound, old-sound-accepted, sound-accepted}
use Rattle.reading.proofs.Tested.{by-any, reads-by, unique-by}
use Rattle.reading.specs.Read.{old_read, read}
use Rattle.paper.specs.declared.Refusal.{Refusal}

pub reading-unique : (bs : List ℕ) (x y : Reading) → Reads bs x → Reads bs y → x ≡ y
reading-unique = unique-by Edge

pub old-reading-unique : (bs : List ℕ) (x y : Reading) → ReadsBy OldEdge bs x → ReadsBy OldEdge bs y → x ≡ y
old-reading-unique = unique-by OldEdge

module _ (bs : List ℕ) (bytes : Bytes bs) where
  pub reads : Reads bs (read bs)
  unfolding read
  reads = reads-by inspected accepted-sound bs (sound-accepted bs) bytes

  pub by-reading : {A : Type 0} (f : Refusal → A) (g : State → A) (x : Reading) → Reads bs x → by_reading (read bs) f g ≡ by_reading x f g
  unfolding read
  by-reading f g x k = by-any inspected accepted-sound bs (sound-accepted bs) bytes f g x k

  pub old-reads : ReadsBy OldEdge bs (old_read bs)
  unfolding old_read
  old-reads = reads-by old_inspected old-accepted-sound bs (old-sound-accepted bs) bytes

  pub by-old-reading : {A : Type 0} (f : Refusal → A) (g : State → A) (x : Reading) → ReadsBy OldEdge bs x → by_reading (old_read bs) f g ≡ by_reading x f g
  unfolding old_read
  by-old-reading f g x k = by-any old_inspected old-accepted-sound bs (old-sound-accepted bs) bytes f g x k
