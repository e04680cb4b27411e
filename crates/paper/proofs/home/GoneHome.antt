-- All that can go home has gone: what is left stands as if it had gone at once, and what stays does not change.
use mathlib.Core.List.{List, [], ◌++◌, ◌∷◌}
use mathlib.Core.Path.{◌∙◌, ◌≡◌, ap, refl, subst, sym}
use Prim.Native.Nat.{◌+◌, ◌<◌, ◌≤◌, ℕ}
use native.Mathlib.Omega.{arith}
use Rattle.paper.proofs.bins.Listed.{rebin-other, rebin-same}
use Rattle.paper.proofs.home.Below.{below_left, large-not-below, none_below, not_below, small-not-below, small_not_below}
use Rattle.paper.proofs.home.Edged.{edged, edged-shaped}
use Rattle.paper.proofs.home.OneHome.{one_home-shaped, sized-edge, small-edge}
use Rattle.paper.proofs.keeps.Kept.{Shaped}
use Rattle.paper.proofs.runs.Places.{listed-in-high}
use Rattle.paper.proofs.runs.Walk.{in-low}
use Rattle.paper.specs.Bins.{leave, rebin}
use Rattle.paper.specs.Blocks.{Block, State, block, free, held, remainder, total}
use Rattle.paper.specs.GoingHome.{go_home, home_by, one_home}
use Rattle.paper.specs.Granting.{E}
use Rattle.paper.specs.Layout.{large}
use Rattle.paper.specs.Sound.{Edge, HeldFirst, High, WellFormed}
use Rattle.words.specs.Choice.{by<, by=}

-- the free blocks at the front of a run, and the others
abbrev pub free_run : List Block → List Block
free_run [] = []
free_run (block z held ∷ xs) = []
free_run (block z remainder ∷ xs) = []
free_run (block z free ∷ xs) = block z free ∷ free_run xs

abbrev pub past_free : List Block → List Block
past_free [] = []
past_free (block z held ∷ xs) = block z held ∷ xs
past_free (block z remainder ∷ xs) = block z remainder ∷ xs
past_free (block z free ∷ xs) = past_free xs

abbrev pub AllFree : List Block → Type 0
AllFree [] = Unit {0}
AllFree (block z held ∷ xs) = ⊥
AllFree (block z remainder ∷ xs) = ⊥
AllFree (block z free ∷ xs) = AllFree xs

pub free-run-splits : (xs : List Block) → xs ≡ free_run xs ++ past_free xs
free-run-splits [] = refl
free-run-splits (block z held ∷ xs) = refl
free-run-splits (block z remainder ∷ xs) = refl
free-run-splits (block z free ∷ xs) = ap (λ (l : List Block). block z free ∷ l) (free-run-splits xs)

pub free-run-free : (xs : List Block) → AllFree (free_run xs)
free-run-free [] = tt
free-run-free (block z held ∷ xs) = tt
free-run-free (block z remainder ∷ xs) = tt
free-run-free (block z free ∷ xs) = free-run-free xs

pub past-free-held : (xs : List Block) → High xs → HeldFirst (past_free xs)
past-free-held [] h = tt
past-free-held (block z held ∷ xs) h = tt
past-free-held (block z remainder ∷ xs) h = absurd h
past-free-held (block z free ∷ xs) h = past-free-held xs h.1

-- ---- in what order: all at once

-- nothing small lies below E
none-small-below : (s : State) → WellFormed s → (e : ℕ) → e ≡ E s → (y : ℕ) → small_not_below e s.bins y ≡ s.bins y
none-small-below s W e k y =
    by< y large
    (λ m. small-not-below e s.bins y m
    ∙ none_below e (s.bins y)
    (λ q o. let i = listed-in-high s W y q m o in omega (arith, in-low s.high (E s) 1 q (block y free) i.0 i.1)))
    (λ m. large-not-below e s.bins y m)

-- nothing is at E that could go
nothing-gone : (s : State) → WellFormed s → (xs : List Block) → s.high ≡ xs → s ≡ edged s [] xs
nothing-gone s W xs is =
    λ i. record {
      top = s.top;
      low = s.low;
      rest = same s.rest i;
      high = is i;
      bins = λ y. sym (none-small-below s W (E s + 0) (omega arith) y) i;
    }
  where
    same : (k : ℕ) → k ≡ k + 0
    same k = omega arith

-- a block that lies below the new edge is in no list then
left_below : (bins : ℕ → List ℕ) (z q e : ℕ) → z < large → q < e → (y : ℕ)
    → small_not_below e (rebin bins z (leave q (bins z))) y ≡ small_not_below e bins y
left_below bins z q e small l y =
    by< y large
    (λ m. small-not-below e (rebin bins z (leave q (bins z))) y m
    ∙ by= y z
    (λ k. ap (not_below e) (ap (rebin bins z (leave q (bins z))) k ∙ rebin-same bins z (leave q (bins z)))
    ∙ below_left e q (bins z) l ∙ ap (λ (x : ℕ). not_below e (bins x)) (sym k))
    (λ n. ap (not_below e) (rebin-other bins z (leave q (bins z)) y n))
    ∙ sym (small-not-below e bins y m))
    (λ m. large-not-below e (rebin bins z (leave q (bins z))) y m ∙ rebin-other bins z (leave q (bins z)) y (omega arith)
    ∙ sym (large-not-below e bins y m))

-- one goes, and then the others
one_more : (s : State) (z : ℕ) (xs run above : List Block) → z < large → 8 ≤ z
    → edged (one_home s z xs) run above ≡ edged s (block z free ∷ run) above
unfolding one_home
one_more s z xs run above small least =
    λ i. record {
      top = s.top;
      low = s.low;
      rest = sums s.rest (total run) i;
      high = above;
      bins = λ y. (ap (λ (e : ℕ). small_not_below e (rebin s.bins z (leave (E s) (s.bins z))) y) (ends s.rest (total run) (168 + total s.low))
          ∙ left_below s.bins z (E s) (E s + (z + total run)) small (omega arith) y) i;
    }
  where
    sums : (k t : ℕ) → k + z + t ≡ k + (z + t)
    sums k t = omega arith

    ends : (k t r : ℕ) → r + (k + z) + t ≡ r + k + (z + t)
    ends k t r = omega arith

home-at-once : (xs : List Block) (s : State) → WellFormed s → s.high ≡ xs → home_by xs s ≡ edged s (free_run xs) (past_free xs)
unfolding one_home
home-at-once [] s W is = nothing-gone s W [] is
home-at-once (block z held ∷ xs) s W is = nothing-gone s W (block z held ∷ xs) is
home-at-once (block z remainder ∷ xs) s W is = nothing-gone s W (block z remainder ∷ xs) is
home-at-once (block z free ∷ xs) s W is =
    home-at-once xs (one_home s z xs) (one_home-shaped s W z xs is).well_formed refl
    ∙ one_more s z xs (free_run xs) (past_free xs) (omega (arith, (small-edge s W z xs is).0)) (sized-edge s W z xs is).0.0

pub go_home-edged : (s : State) → WellFormed s → go_home s ≡ edged s (free_run s.high) (past_free s.high)
unfolding go_home
go_home-edged s W = home-at-once s.high s W refl

-- ---- what is kept

pub go_home-shaped : (s : State) → WellFormed s → Shaped s (go_home s)
go_home-shaped s W =
    subst (Shaped s) (sym (go_home-edged s W)) (edged-shaped s W (free_run s.high) (past_free s.high) (free-run-splits s.high))

-- no free block is at E then
pub go_home-edge : (s : State) → WellFormed s → Edge (go_home s)
go_home-edge s W = subst Edge (sym (go_home-edged s W)) (past-free-held s.high W.high_ok)

-- and where none is, nothing changes
home_same : (xs : List Block) (s : State) → HeldFirst xs → home_by xs s ≡ s
home_same [] s h = refl
home_same (block z held ∷ xs) s h = refl
home_same (block z free ∷ xs) s h = absurd h
home_same (block z remainder ∷ xs) s h = absurd h

pub go_home-same : (s : State) → Edge s → go_home s ≡ s
unfolding go_home
go_home-same s e = home_same s.high s e
