-- What goes home was free: every held block stays, where it was and as large.
use mathlib.Core.List.{List, [], ◌∷◌}
use mathlib.Core.Path.{◌∙◌, ◌≡◌, ap, refl}
use Prim.Native.Nat.{◌+◌, ℕ}
use native.Mathlib.Omega.{arith}
use Rattle.paper.proofs.home.OneHome.{one_home-shaped, sized-edge}
use Rattle.paper.proofs.keeps.Kept.{held-runs}
use Rattle.paper.proofs.runs.HeldPlaces.{held_at}
use Rattle.paper.proofs.runs.Splitting.{starts-cons}
use Rattle.paper.specs.Blocks.{Block, State, block, blocks, free, held, remainder, total}
use Rattle.paper.specs.GoingHome.{go_home, home_by, one_home}
use Rattle.paper.specs.Granting.{E}
use Rattle.paper.specs.Layout.{blocks_at}
use Rattle.paper.specs.Runs.{held_size, starts_at}
use Rattle.paper.specs.Sound.{WellFormed}
use Rattle.words.specs.Choice.{if<, if=-same}

one-held : (s : State) (W : WellFormed s) (z : ℕ) (above : List Block) (is : s.high ≡ block z free ∷ above) (x : ℕ)
    → starts_at held_size (blocks (one_home s z above)) blocks_at x ≡ starts_at held_size (blocks s) blocks_at x
unfolding one_home
one-held s W z above is x = omega (
  arith,
  held-runs s W x,
  held-runs (one_home s z above) (one_home-shaped s W z above is).well_formed x,
  ap (λ (l : List Block). starts_at held_size l (E s) x) is,
  starts-cons held_size (block z free) above (E s) x (omega (arith, (sized-edge s W z above is).0)),
  if=-same {A = ℕ} (E s) x 0,
  ap (λ (k : ℕ). starts_at held_size above k x) (place (blocks_at + total s.low) s.rest),
)
  where
    place : (r k : ℕ) → r + (k + z) ≡ r + k + z
    place r k = omega arith

home-held : (xs : List Block) (s : State) → WellFormed s → s.high ≡ xs → (x : ℕ)
    → starts_at held_size (blocks (home_by xs s)) blocks_at x ≡ starts_at held_size (blocks s) blocks_at x
unfolding one_home
home-held [] s W is x = refl
home-held (block z held ∷ xs) s W is x = refl
home-held (block z remainder ∷ xs) s W is x = refl
home-held (block z free ∷ xs) s W is x =
    home-held xs (one_home s z xs) (one_home-shaped s W z xs is).well_formed refl x ∙ one-held s W z xs is x

pub go_home-held : (s : State) → WellFormed s → (x : ℕ) → starts_at held_size (blocks (go_home s)) blocks_at x ≡ starts_at held_size (blocks s) blocks_at x
unfolding go_home
go_home-held s W x = home-held s.high s W refl x

-- by the offset of the payload
pub go_home-held_at : (s : State) → WellFormed s → (offset : ℕ) → held_at (go_home s) offset ≡ held_at s offset
unfolding held_at
go_home-held_at s W offset = ap (if< offset 4 0) (go_home-held s W _)
