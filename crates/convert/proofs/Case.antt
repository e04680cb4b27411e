-- A pool of layout 1 that has a reserved byte, so what is said of these is not said of nothing: a free block of 80 bytes, which reaches level 2, whose
-- word there is the one at +60.
use mathlib.Core.List.{List, [], ◌∷◌}
use mathlib.Core.Logic.{inl}
use mathlib.Core.Path.{◌≡◌, refl, sym, ◌∙◌, ap}
use Prim.Native.Nat.{ℕ, ◌+◌}
use native.Mathlib.Omega.{arith}
use lib.Count.{count_trailing_zeros}
use Rattle.words.specs.Choice.{by=, if=, if=-no, if=-yes}
use Rattle.paper.specs.Bins.{count, first}
use Rattle.paper.specs.Blocks.{State, block, blocks, free, held}
use Rattle.paper.specs.Governed.{height}
use Rattle.paper.specs.Layout.{blocks_at}
use Rattle.paper.specs.Sound.{WellFormed, free_at}
use Rattle.convert.specs.Reserved.{Reserved}

pub bin : ℕ → List ℕ
bin z = if= z 80 (168 ∷ []) []

pub s : State
s = record { top = 1; low = block 80 free ∷ block 72 held ∷ []; rest = 8; high = []; bins = bin }

listed : (y q : ℕ) → count q (bin y) ≡ free_at (blocks s) blocks_at y q
unfolding bin s count free_at
listed y q =
    by= y 80 (λ e. ap (count q) (if=-yes y 80 _ _ e) ∙ sym (ap (λ (k : ℕ). k + 0) (if=-yes 80 y _ _ (sym e))))
    (λ n. ap (count q) (if=-no y 80 _ _ n) ∙ sym (ap (λ (k : ℕ). k + 0) (if=-no 80 y _ _ (λ e. n (sym e)))))

pub formed : WellFormed s
unfolding s
formed =
    record {
      layout = inl refl;
      low_ok = (omega arith, omega arith, tt);
      high_ok = tt;
      sized = ((omega arith, refl), ((omega arith, refl), ((omega arith, refl), tt)));
      fits = omega arith;
      listed = listed;
    }

pub reserved : Reserved s 228
unfolding s bin if= first height count_trailing_zeros
reserved = (80, 168, omega arith, refl, omega arith, omega arith, omega arith)
