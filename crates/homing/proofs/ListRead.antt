-- What a pool reads of its small lists: each leads along its members, of which there are fewer than the pool has words of 8 bytes.
use mathlib.Core.List.{List}
use mathlib.Core.Option.{Option, some}
use mathlib.Core.Path.{◌∙◌, ◌≡◌, sym}
use Prim.Native.Nat.{◌+◌, ◌/◌, ◌<◌, ◌≤◌, ℕ}
use native.Mathlib.Omega.{arith}
use lib.ListN.{length}
use Rattle.homing.proofs.Chain.{Starts, chain-of, next-listed}
use Rattle.homing.proofs.FewListed.{few-listed}
use Rattle.homing.proofs.Pruned.{Leads}
use Rattle.paper.proofs.bins.Listed.{Loose, loose, start}
use Rattle.paper.proofs.reads.Readings.{next-reads}
use Rattle.paper.specs.Bins.{next_in}
use Rattle.paper.specs.Blocks.{State, blocks, end}
use Rattle.paper.specs.Governed.{sheet}
use Rattle.paper.specs.Layout.{blocks_at, large, small_next_at}
use Rattle.paper.specs.Sheet.{Holds}
use Rattle.paper.specs.Sound.{WellFormed}
use Rattle.words.specs.Words.{word_at}

same_some : (o : Option ℕ) (v w : ℕ) → o ≡ some v → o ≡ some w → v ≡ w
same_some o v w e k = cc

pub list-starts : (s : State) → Loose s → end s ≤ 65536 → (z : ℕ) → Starts (s.bins z)
list-starts s L fits z =
    record {
      once = L.once z;
      each = λ q o. let st = start s L z q o in (omega arith, omega arith, omega arith);
    }

module _ (s : State) (bs : List ℕ) (W : WellFormed s) (l : end s ≡ length bs) (h : Holds (sheet s) bs) where
  pub list-leads : (z : ℕ) → z < large → Leads bs (s.bins z)
  list-leads z m =
      chain-of (λ q v. word_at 4 bs (q + small_next_at) ≡ v) (s.bins z) ((loose s W).once z)
      (λ q v e. let r = next-reads bs s W (sym l) h z q (next-listed (s.bins z) q v e) in
      r.4 m ∙ same_some (next_in (s.bins z) q) r.0 v r.1 e)

  pub list-short : (z : ℕ) → length (s.bins z) < length bs / 8
  list-short z =
      omega (arith, l, few-listed (blocks s) blocks_at z (s.bins z) W.sized (λ q. omega (arith, W.listed z q)))
