-- A pool that was just laid out is well formed and ends at n: it has one block, the remainder, and every bin is empty.
use mathlib.Core.Logic.{◌⊎◌}
use mathlib.Core.Path.{◌≡◌}
use Prim.Native.Nat.{ℕ}
use native.Mathlib.Omega.{arith}
use Rattle.paper.proofs.bins.Bins.{count-nil}
use Rattle.paper.specs.Allowed.{Allowed}
use Rattle.paper.specs.Blocks.{end}
use Rattle.paper.specs.Fresh.{fresh}
use Rattle.paper.specs.Sound.{Edge, WellFormed, free_at}

module _ (t n : ℕ) (a : Allowed n) where
  pub fresh-ends : end (fresh t n) ≡ n
  unfolding fresh
  fresh-ends = omega (arith, a.least)

  pub fresh-well-formed : (t ≡ 1) ⊎ (t ≡ 13) → WellFormed (fresh t n)
  unfolding fresh free_at
  fresh-well-formed l =
      record {
        layout = l;
        low_ok = tt;
        high_ok = tt;
        sized = ((omega (arith, a.least), omega (arith, a.least, a.eights)), tt);
        fits = omega (arith, a.least, a.most);
        listed = λ y q. count-nil q;
      }

pub fresh-edge : (t n : ℕ) → Edge (fresh t n)
unfolding fresh
fresh-edge t n = tt

pub fresh-sound : (t n : ℕ) → (t ≡ 1) ⊎ (t ≡ 13) → Allowed n → WellFormed (fresh t n) × (end (fresh t n) ≡ n)
fresh-sound t n l a = (fresh-well-formed t n a l, fresh-ends t n a)
