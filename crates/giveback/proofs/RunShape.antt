-- Where the blocks of a run stand, with their flags: the free one below, the held one that comes back, the free one above, and the held one past it.
use mathlib.Core.List.{List, [], ◌++◌, ◌∷◌, append_assoc, append-nil}
use mathlib.Core.Logic.{◌≢◌, ◌⊎◌, inl, inr}
use mathlib.Core.Path.{◌∙◌, ◌≡◌, ap, refl, subst, sym}
use Prim.Native.Nat.{◌+◌, ◌-◌, ◌≤◌, ℕ}
use native.Mathlib.Omega.{arith}
use Rattle.paper.proofs.runs.Flags.{flag-append, low-flag}
use Rattle.paper.proofs.runs.Neighbours.{Run, gap, gap-none, gap-some, gap-total}
use Rattle.paper.proofs.runs.Places.{low-large}
use Rattle.paper.proofs.keeps.Settled.{joined, joined-total}
use Rattle.paper.proofs.runs.Shapes.{NotFree, low_held}
use Rattle.paper.proofs.runs.Splitting.{total-mid}
use Rattle.paper.proofs.runs.Walk.{In, flag_past, in_left, in-mid}
use Rattle.paper.specs.Bins.{count}
use Rattle.paper.specs.Blocks.{Block, State, block, blocks, free, held, remainder, size, total}
use Rattle.paper.specs.Governed.{flag_above}
use Rattle.paper.specs.Granting.{R}
use Rattle.paper.specs.Sound.{Low, WellFormed, free_at}
use Rattle.words.specs.Choice.{by=, if=, if<-no, if=-yes}

-- a free block is counted
pub free-counted : (xs : List Block) (p P y q P' : ℕ) → In xs p P q (block y free) P' → 1 ≤ free_at xs p y q
unfolding free_at
free-counted [] p P y q P' h = absurd h
free-counted (block z held ∷ xs) p P y q P' (inl h) = absurd (let e : block y free ≡ block z held = h.1 in let n : ◌≡◌ {A = ℕ} 0 1 = cc in omega arith)
free-counted (block z remainder ∷ xs) p P y q P' (inl h) =
    absurd (let e : block y free ≡ block z remainder = h.1 in let n : ◌≡◌ {A = ℕ} 0 1 = cc in omega arith)
free-counted (block z free ∷ xs) p P y q P' (inl h) =
    omega (arith, if=-yes {A = ℕ} z y (if= p q 1 0) 0 (sym (ap size h.1)), if=-yes {A = ℕ} p q 1 0 (sym h.0))
free-counted (block z held ∷ xs) p P y q P' (inr h) = free-counted xs (p + z) 1 y q P' h
free-counted (block z remainder ∷ xs) p P y q P' (inr h) = free-counted xs (p + z) 1 y q P' h
free-counted (block z free ∷ xs) p P y q P' (inr h) = omega (arith, free-counted xs (p + z) (flag_above (block z free)) y q P' h)

module _ (s : State) (W : WellFormed s) (q z : ℕ) (r : Run s q z) where
  pub flag-under : flag_past 1 r.under ≡ 1
  flag-under = low-flag r.under r.low-under

  -- a block of the run, in the low blocks
  in-run : (p : ℕ) (c : Block) (P : ℕ) → In (joined s q z r) (168 + total r.under) 1 p c P → In s.low 168 1 p c P
  in-run p c P i =
      subst (λ (l : List Block). In l 168 1 p c P) (sym r.is)
      (in-mid r.under (joined s q z r ++ r.over) 168 1 p c P
      (in_left (joined s q z r) r.over (168 + total r.under) (flag_past 1 r.under) p c P
      (subst (λ (k : ℕ). In (joined s q z r) (168 + total r.under) k p c P) (sym flag-under) i)))

  in_blocks : (p : ℕ) (c : Block) (P : ℕ) → In s.low 168 1 p c P → In (blocks s) 168 1 p c P
  in_blocks p c P i = in_left s.low (block s.rest remainder ∷ s.high) 168 1 p c P i

  low_below : r.down ≢ 0 → In s.low 168 1 (q - r.down) (block r.down free) 1
  low_below n =
      in-run (q - r.down) (block r.down free) 1
      (in_left (gap r.down) (block z held ∷ gap r.up) (168 + total r.under) 1 (q - r.down) (block r.down free) 1
      (rw (gap-some r.down (omega arith)) (inl (omega (arith, r.starts), refl, refl))))

  low-above : r.up ≢ 0 → In s.low 168 1 (q + z) (block r.up free) 1
  low-above n =
      in-run (q + z) (block r.up free) 1
      (in-mid (gap r.down) (block z held ∷ gap r.up) (168 + total r.under) 1 (q + z) (block r.up free) 1
      (inr (rw (gap-some r.up (omega arith)) (inl (omega (arith, r.starts, gap-total r.down), refl, refl)))))

  pub down-large : r.down ≢ 0 → 72 ≤ r.down
  down-large n = low-large s.low 168 1 (q - r.down) r.down free 1 W.low_ok (low_below n)

  pub up-large : r.up ≢ 0 → 72 ≤ r.up
  up-large n = low-large s.low 168 1 (q + z) r.up free 1 W.low_ok (low-above n)

  pub in-below : r.down ≢ 0 → In (blocks s) 168 1 (q - r.down) (block r.down free) 1
  in-below n = in_blocks (q - r.down) (block r.down free) 1 (low_below n)

  pub in-above : r.up ≢ 0 → In (blocks s) 168 1 (q + z) (block r.up free) 1
  in-above n = in_blocks (q + z) (block r.up free) 1 (low-above n)

  pub in_held : In (blocks s) 168 1 q (block z held) (flag_past 1 (gap r.down))
  in_held =
      in_blocks q (block z held) (flag_past 1 (gap r.down))
      (in-run q (block z held) (flag_past 1 (gap r.down))
      (in-mid (gap r.down) (block z held ∷ gap r.up) (168 + total r.under) 1 q (block z held) (flag_past 1 (gap r.down))
      (inl (omega (arith, r.starts, gap-total r.down), refl, refl))))

  -- P past a gap
  pub flag-none : (d : ℕ) → d ≡ 0 → flag_past 1 (gap d) ≡ 1
  flag-none d e = ap (flag_past 1) (ap gap e ∙ gap-none)

  pub flag-some : (d : ℕ) → 72 ≤ d → flag_past 1 (gap d) ≡ 0
  flag-some d l = ap (flag_past 1) (gap-some d (omega arith)) ∙ if<-no d 72 1 0 l

  pub flag_run : flag_past (flag_past 1 r.under) (joined s q z r) ≡ flag_past 1 (gap r.up)
  flag_run = flag-append (flag_past 1 r.under) (gap r.down) (block z held ∷ gap r.up)

  pub in-over : (y : ℕ) (ys : List Block) → r.over ≡ block y held ∷ ys → In (blocks s) 168 1 (q + z + r.up) (block y held) (flag_past 1 (gap r.up))
  in-over y ys e =
      in_blocks (q + z + r.up) (block y held) (flag_past 1 (gap r.up))
      (subst (λ (l : List Block). In l 168 1 (q + z + r.up) (block y held) (flag_past 1 (gap r.up))) (sym r.is)
      (in-mid r.under (joined s q z r ++ r.over) 168 1 (q + z + r.up) (block y held) (flag_past 1 (gap r.up))
      (in-mid (joined s q z r) r.over (168 + total r.under) (flag_past 1 r.under) (q + z + r.up) (block y held) (flag_past 1 (gap r.up))
      (rw e (inl (omega (arith, r.starts, joined-total s q z r), refl, sym flag_run))))))

  -- nothing above the run, or a held block; and what is free does not touch R
  low-past : Low (gap r.up ++ r.over)
  low-past =
      (low_held (r.under ++ gap r.down) z (gap r.up ++ r.over)
      (subst Low (r.is ∙ ap (λ (l : List Block). r.under ++ l) (append_assoc (gap r.down) (block z held ∷ gap r.up) r.over)
      ∙ sym (append_assoc r.under (gap r.down) (block z held ∷ (gap r.up ++ r.over)))) W.low_ok)).2

  pub over-cases : ((r.up ≡ 0) × (r.over ≡ [])) ⊎ ((y : ℕ) × (ys : List Block) × (r.over ≡ block y held ∷ ys) × (72 ≤ y))
  over-cases = go r.over refl r.low-over r.not_free
    where
      go : (vs : List Block) → r.over ≡ vs → Low vs → NotFree vs
          → ((r.up ≡ 0) × (r.over ≡ [])) ⊎ ((y : ℕ) × (ys : List Block) × (r.over ≡ block y held ∷ ys) × (72 ≤ y))
      go [] e l n =
          by= r.up 0 (λ f. inl (f, e))
          (λ f. absurd (subst Low (ap (λ (l : List Block). gap r.up ++ l) e ∙ append-nil (gap r.up) ∙ gap-some r.up (omega arith)) low-past))
      go (block y held ∷ vs) e l n = inr (y, vs, e, l.0)
      go (block y remainder ∷ vs) e l n = absurd l
      go (block y free ∷ vs) e l n = absurd n

  pub run-to-R : R s ≡ q + z + r.up + total r.over
  run-to-R = omega (arith, ap total r.is, total-mid r.under (joined s q z r) r.over, joined-total s q z r, r.starts)

  -- the free neighbours are listed
  pub below-listed : r.down ≢ 0 → 1 ≤ count (q - r.down) (s.bins r.down)
  below-listed n = omega (arith, W.listed r.down (q - r.down), free-counted (blocks s) 168 1 r.down (q - r.down) 1 (in-below n))

  pub above_listed : r.up ≢ 0 → 1 ≤ count (q + z) (s.bins r.up)
  above_listed n = omega (arith, W.listed r.up (q + z), free-counted (blocks s) 168 1 r.up (q + z) 1 (in-above n))
