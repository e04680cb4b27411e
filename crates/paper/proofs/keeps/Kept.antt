-- What a call keeps of a state: it is well formed still, ends where it ended, has its layout, and no free block stands at E. By runs: one run
-- of blocks is another, of the same size in all, and the bins follow the free blocks of that run.
use mathlib.Core.List.{List, ◌∷◌}
use mathlib.Core.Path.{◌∙◌, ◌≡◌, ap, refl, sym}
use Prim.Native.Nat.{◌%◌, ◌+◌, ◌≤◌, ℕ}
use native.Mathlib.Omega.{arith}
use Rattle.paper.proofs.bins.Listed.{free_at-append}
use Rattle.paper.proofs.runs.Splitting.{starts-append, starts-cons}
use Rattle.paper.proofs.runs.Walk.{sized-append, sized-parts, total-append}
use Rattle.paper.specs.Bins.{count}
use Rattle.paper.specs.Blocks.{Block, State, block, blocks, end, remainder, total}
use Rattle.paper.specs.Granting.{E, R}
use Rattle.paper.specs.Layout.{blocks_at}
use Rattle.paper.specs.Runs.{held_size, starts_at}
use Rattle.paper.specs.Sound.{Edge, HeldFirst, High, Low, Sized, WellFormed, free_at}
use Rattle.words.specs.Choice.{if=-same}

-- all but the edge, as between two steps of a call
pub record Shaped (s s' : State) : Type 0 where
  pub well_formed : WellFormed s'
  pub ends : end s' ≡ end s
  pub same-top : s'.top ≡ s.top

pub shaped-then : (s s' s'' : State) → Shaped s s' → Shaped s' s'' → Shaped s s''
shaped-then s s' s'' h k =
    record { well_formed = k.well_formed; ends = k.ends ∙ h.ends; same-top = k.same-top ∙ h.same-top }

pub record Kept (s s' : State) : Type 0 where
  pub well_formed : WellFormed s'
  pub ends : end s' ≡ end s
  pub same-top : s'.top ≡ s.top
  pub edge : Edge s → Edge s'

pub kept-shaped : (s s' : State) → Shaped s s' → (Edge s → Edge s') → Kept s s'
kept-shaped s s' h e = record { well_formed = h.well_formed; ends = h.ends; same-top = h.same-top; edge = e }

pub kept_same : (s : State) → WellFormed s → Kept s s
kept_same s W = record { well_formed = W; ends = refl; same-top = refl; edge = λ e. e }

-- the free blocks of a state are those of its two runs
pub free_at-runs : (s : State) (y q : ℕ) → free_at (blocks s) blocks_at y q ≡ free_at s.low blocks_at y q + free_at s.high (E s) y q
unfolding free_at
free_at-runs s y q = free_at-append s.low (block s.rest remainder ∷ s.high) blocks_at y q

pub end-runs : (s : State) → end s ≡ E s + total s.high
end-runs s = omega (arith, total-append s.low (block s.rest remainder ∷ s.high))

module _ (s : State) (W : WellFormed s) where
  pub sized-low : Sized s.low
  sized-low = (sized-parts s.low (block s.rest remainder ∷ s.high) W.sized).0

  pub sized-rest : (8 ≤ s.rest) × (s.rest % 8 ≡ 0)
  sized-rest = (sized-parts s.low (block s.rest remainder ∷ s.high) W.sized).1.0

  pub sized-high : Sized s.high
  sized-high = (sized-parts s.low (block s.rest remainder ∷ s.high) W.sized).1.1

  -- the held blocks of a state are those of its two runs
  pub held-runs : (x : ℕ) → starts_at held_size (blocks s) blocks_at x ≡ starts_at held_size s.low blocks_at x + starts_at held_size s.high (E s) x
  held-runs x =
      starts-append held_size s.low (block s.rest remainder ∷ s.high) blocks_at x sized-low
      ∙ omega (
        arith,
        starts-cons held_size (block s.rest remainder) s.high (R s) x (omega (arith, sized-rest)),
        if=-same {A = ℕ} (R s) x 0,
      )

  -- other runs, a remainder of another size, and other lists
  module _ (lo : List Block) (r : ℕ) (hi : List Block) (bins' : ℕ → List ℕ) where
    abbrev pub changed : State
    changed = record { top = s.top; low = lo; rest = r; high = hi; bins = bins' }

    pub shaped-by : Low lo → High hi → Sized lo → ((8 ≤ r) × (r % 8 ≡ 0)) → Sized hi
        → total lo + r + total hi ≡ total s.low + s.rest + total s.high
        → ((y q : ℕ) → count q (bins' y) ≡ free_at lo blocks_at y q + free_at hi (blocks_at + total lo + r) y q)
        → Shaped s changed
    shaped-by l h sl sr sh t c =
        let e : end changed ≡ end s = omega (arith, end-runs s, end-runs changed) in
        record {
          well_formed =
              record {
                layout = W.layout;
                low_ok = l;
                high_ok = h;
                sized = sized-append lo (block r remainder ∷ hi) sl (sr, sh);
                fits = omega (arith, W.fits, e);
                listed = λ y q. c y q ∙ sym (free_at-runs changed y q);
              };
          ends = e;
          same-top = refl;
        }

    pub kept_by : Low lo → High hi → Sized lo → ((8 ≤ r) × (r % 8 ≡ 0)) → Sized hi
        → total lo + r + total hi ≡ total s.low + s.rest + total s.high
        → ((y q : ℕ) → count q (bins' y) ≡ free_at lo blocks_at y q + free_at hi (blocks_at + total lo + r) y q)
        → (Edge s → HeldFirst hi)
        → Kept s changed
    kept_by l h sl sr sh t c e = kept-shaped s changed (shaped-by l h sl sr sh t c) e

  -- another low run of the same size in all
  pub kept_low : (lo : List Block) (bins' : ℕ → List ℕ) → Low lo → Sized lo → total lo ≡ total s.low
      → ((y q : ℕ) → count q (bins' y) + free_at s.low blocks_at y q ≡ count q (s.bins y) + free_at lo blocks_at y q)
      → Kept s (record { top = s.top; low = lo; rest = s.rest; high = s.high; bins = bins' })
  kept_low lo bins' l sl t c =
      kept_by lo s.rest s.high bins' l W.high_ok sl sized-rest sized-high (omega arith)
      (λ y q. omega (arith, c y q, W.listed y q, free_at-runs s y q, ap (λ (k : ℕ). free_at s.high (blocks_at + k + s.rest) y q) t))
      (λ e. e)

  -- another high run of the same size in all
  pub shaped-high : (hi : List Block) (bins' : ℕ → List ℕ) → High hi → Sized hi → total hi ≡ total s.high
      → ((y q : ℕ) → count q (bins' y) + free_at s.high (E s) y q ≡ count q (s.bins y) + free_at hi (E s) y q)
      → Shaped s (record { top = s.top; low = s.low; rest = s.rest; high = hi; bins = bins' })
  shaped-high hi bins' h sh t c =
      shaped-by s.low s.rest hi bins' W.low_ok h sized-low sized-rest sh (omega arith)
      (λ y q. omega (arith, c y q, W.listed y q, free_at-runs s y q))
