-- The first of the small blocks gone, all at once: the remainder ends where the others begin, and the small bins are without what lies below
-- that place. The state is well formed still, whatever kinds the blocks were that are gone.
use mathlib.Core.List.{List, ◌++◌}
use mathlib.Core.Path.{◌∙◌, ◌≡◌, ap, subst}
use Prim.Native.Nat.{◌+◌, ◌<◌, ◌≤◌, ℕ}
use native.Mathlib.Omega.{arith}
use Rattle.paper.proofs.bins.Listed.{free_at-append, free_at-below, free_at-in}
use Rattle.paper.proofs.home.Below.{count-not-below, large-not-below, small-not-below, small_not_below}
use Rattle.paper.proofs.keeps.Kept.{Shaped, free_at-runs, shaped-by, sized-high, sized-low, sized-rest}
use Rattle.paper.proofs.runs.LowHigh.{high_parts}
use Rattle.paper.proofs.runs.Places.{high_small, low-large}
use Rattle.paper.proofs.runs.Walk.{in-high, in-sized, sized-eight, sized-parts, total-append}
use Rattle.paper.specs.Bins.{count}
use Rattle.paper.specs.Blocks.{Block, State, block, free, total}
use Rattle.paper.specs.Granting.{E}
use Rattle.paper.specs.Layout.{blocks_at, large}
use Rattle.paper.specs.Sound.{High, Low, Sized, WellFormed, free_at}
use Rattle.words.specs.Choice.{by<, by=, if<-no, if<-yes}

-- `gone` are gone, `above` stay
abbrev pub edged : State → List Block → List Block → State
edged s gone above =
    record {
      top = s.top;
      low = s.low;
      rest = s.rest + total gone;
      high = above;
      bins = small_not_below (E s + total gone) s.bins;
    }

-- ---- no free block of a size that the run does not have, and none past its end

pub low-no-small : (xs : List Block) (p y q : ℕ) → Low xs → y < large → free_at xs p y q ≡ 0
low-no-small xs p y q l m =
    by= (free_at xs p y q) 0 (λ e. e)
    (λ n. let i = free_at-in xs p 1 y q (omega arith) in absurd (omega (arith, low-large xs p 1 q y free i.0 l i.1)))

pub high-no-large : (xs : List Block) (p y q : ℕ) → High xs → large ≤ y → free_at xs p y q ≡ 0
high-no-large xs p y q l m =
    by= (free_at xs p y q) 0 (λ e. e)
    (λ n. let i = free_at-in xs p 1 y q (omega arith) in absurd (omega (arith, high_small xs p 1 q y free i.0 l i.1)))

pub none-past : (xs : List Block) (p y q : ℕ) → Sized xs → p + total xs ≤ q → free_at xs p y q ≡ 0
none-past xs p y q S l =
    by= (free_at xs p y q) 0 (λ e. e)
    (λ n. let i = free_at-in xs p 1 y q (omega arith) in
    absurd (omega (arith, in-high xs p 1 q (block y free) i.0 i.1, in-sized xs p 1 q (block y free) i.0 S i.1)))

module _ (s : State) (W : WellFormed s) (gone above : List Block) (is : s.high ≡ gone ++ above) where
  sizes : Sized gone × Sized above
  sizes = sized-parts gone above (subst Sized is (sized-high s W))

  shapes : High gone × High above
  shapes = high_parts gone above (subst High is W.high_ok)

  abbrev e : ℕ
  e = E s + total gone

  high-free : (y q : ℕ) → free_at s.high (E s) y q ≡ free_at gone (E s) y q + free_at above (E s + total gone) y q
  high-free y q = ap (λ (l : List Block). free_at l (E s) y q) is ∙ free_at-append gone above (E s) y q

  listed-now : (y q : ℕ) → count q (small_not_below e s.bins y) ≡ free_at s.low blocks_at y q + free_at above e y q
  listed-now y q =
      by< y large
      (λ m. ap (count q) (small-not-below e s.bins y m) ∙ count-not-below e q (s.bins y)
      ∙ by< q e
      (λ l. if<-yes q e _ _ l ∙ omega (arith, low-no-small s.low blocks_at y q W.low_ok m, free_at-below above e y q l))
      (λ l. if<-no q e _ _ l ∙ omega (arith, W.listed y q, free_at-runs s y q, high-free y q, none-past gone (E s) y q sizes.0 l)))
      (λ m. ap (count q) (large-not-below e s.bins y m)
      ∙ omega (arith, W.listed y q, free_at-runs s y q, high-free y q, high-no-large gone (E s) y q shapes.0 m))

  pub edged-shaped : Shaped s (edged s gone above)
  edged-shaped =
      shaped-by s W s.low (s.rest + total gone) above (small_not_below e s.bins) W.low_ok shapes.1 (sized-low s W)
      (omega (arith, sized-rest s W), omega (arith, sized-rest s W, sized-eight gone sizes.0)) sizes.1
      (omega (arith, ap total is, total-append gone above))
      (λ y q. listed-now y q ∙ ap (λ (k : ℕ). free_at s.low blocks_at y q + free_at above k y q) (omega arith))
