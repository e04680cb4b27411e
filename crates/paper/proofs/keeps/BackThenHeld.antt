-- After a give-back the offset is no longer that of a held block, and every other held block is held with its size: of what starts at each
-- place, only the block given back is gone. The two runs are compared part by part.
use mathlib.Core.List.{List, [], ◌++◌, ◌∷◌}
use mathlib.Core.Logic.{◌≢◌}
use mathlib.Core.Path.{◌∙◌, ◌≡◌, ap, refl, subst, sym}
use Prim.Native.Nat.{◌+◌, ◌-◌, ◌≤◌, ℕ}
use native.Mathlib.Omega.{arith}
use Rattle.paper.proofs.home.HomeHeld.{go_home-held}
use Rattle.paper.proofs.keeps.BackKeeps.{give_back-keeps, give_back-large, give_back-none, give_back-small}
use Rattle.paper.proofs.keeps.BackLargeKeeps.{give_back_large-keeps}
use Rattle.paper.proofs.keeps.BackSmallKeeps.{give_back_small-is, give_back_small-shaped}
use Rattle.paper.proofs.runs.HeldPlaces.{HeldHigh, HeldLow, held-large, held_place, held_small, held_at}
use Rattle.paper.proofs.keeps.Kept.{held-runs, sized-high, sized-low}
use Rattle.paper.proofs.runs.Neighbours.{Run, gap, gap-none, gap-some, gap-total, run}
use Rattle.paper.proofs.keeps.Settled.{fewer, give_back_large-enters, give_back_large-joins, give_back_large-touches, into_bin, into_remainder, joined, joined-total}
use Rattle.paper.proofs.runs.Splitting.{sized-mid-parts, starts-append, starts-cons, starts-mid, total-mid}
use Rattle.paper.specs.Bins.{rebin}
use Rattle.paper.specs.Blocks.{Block, State, block, blocks, free, held, total}
use Rattle.paper.specs.GivingBack.{give_back, give_back_large, give_back_small}
use Rattle.paper.specs.GoingHome.{go_home}
use Rattle.paper.specs.Granting.{E, R, Result, refused}
use Rattle.paper.specs.Layout.{blocks_at, large}
use Rattle.paper.specs.Runs.{held_size, starts_at}
use Rattle.paper.specs.Sound.{Sized, WellFormed}
use Rattle.words.specs.Choice.{by<, by=, if<-no, if<-yes, if=, if=-no, if=-same, if=-yes}
use Rattle.paper.specs.declared.Refusal.TheVariants.{NotHeld}

-- s' is s without the held block of size z at q
unfoldable pub Released : State → State → ℕ → ℕ → Type 0
Released s s' q z = (x : ℕ) → starts_at held_size (blocks s') blocks_at x + if= q x z 0 ≡ starts_at held_size (blocks s) blocks_at x

pub held_one : (z q x : ℕ) → starts_at held_size (block z held ∷ []) q x ≡ if= q x z 0
unfolding starts_at
held_one z q x = refl

pub free-none : (m p x : ℕ) → starts_at held_size (block m free ∷ []) p x ≡ 0
unfolding starts_at
free-none m p x = by= p x (λ e. if=-yes p x _ _ e) (λ n. if=-no p x _ _ n)

gap-none-held : (d p x : ℕ) → starts_at held_size (gap d) p x ≡ 0
unfolding starts_at
gap-none-held d p x =
    by= d 0 (λ e. ap (λ (l : List Block). starts_at held_size l p x) (ap gap e ∙ gap-none))
    (λ n. ap (λ (l : List Block). starts_at held_size l p x) (gap-some d (omega arith)) ∙ free-none d p x)

-- ---- a small block

module _ (s : State) (W : WellFormed s) (q z : ℕ) (H : HeldHigh s q z) where
  small-parts : Sized H.before × Sized (block z held ∷ []) × Sized H.after
  small-parts = sized-mid-parts H.before (block z held ∷ []) H.after (subst Sized H.is (sized-high s W))

  small-front : Released s (give_back_small s q z) q z
  unfolding Released
  small-front x =
      let i = give_back_small-is s W q z H in
      let s' : State = record
      { top = s.top; low = s.low; rest = s.rest; high = H.before ++ block z free ∷ H.after; bins = rebin s.bins z (q ∷ s.bins z) } in
      let W' : WellFormed s' = subst WellFormed i (give_back_small-shaped s W q z H).well_formed in
      omega (
        arith,
        ap (λ (t : State). starts_at held_size (blocks t) blocks_at x) i,
        held-runs s W x,
        held-runs s' W' x,
        ap (λ (l : List Block). starts_at held_size l (E s) x) H.is,
        starts-mid held_size H.before (block z held ∷ []) H.after (E s) q (q + z) x small-parts.0 small-parts.1 H.starts (omega arith),
        starts-mid held_size H.before (block z free ∷ []) H.after (E s) q (q + z) x small-parts.0 small-parts.1 H.starts (omega arith),
        held_one z q x,
        free-none z q x,
      )

  -- and what goes home was not held
  small-released : Released s (go_home (give_back_small s q z)) q z
  unfolding Released
  small-released x = omega (arith, small-front x, go_home-held (give_back_small s q z) (give_back_small-shaped s W q z H).well_formed x)

-- ---- a large block

module _ (s : State) (W : WellFormed s) (q z : ℕ) (H : HeldLow s q z) where
  abbrev r : Run s q z
  r = run s W q z H

  large-parts : Sized r.under × Sized (joined s q z r) × Sized r.over
  large-parts = sized-mid-parts r.under (joined s q z r) r.over (subst Sized r.is (sized-low s W))

  W' : WellFormed (give_back_large s q z)
  W' = (give_back_large-keeps s W q z H).well_formed

  joined-held : (x : ℕ) → starts_at held_size (joined s q z r) (q - r.down) x ≡ if= q x z 0
  joined-held x =
      let p = sized-mid-parts (gap r.down) (block z held ∷ []) (gap r.up) large-parts.1 in
      starts-mid held_size (gap r.down) (block z held ∷ []) (gap r.up) (q - r.down) q (q + z) x p.0 p.1
      (omega (arith, r.starts, gap-total r.down)) (omega arith)
      ∙ omega (arith, gap-none-held r.down (q - r.down) x, gap-none-held r.up (q + z) x, held_one z q x)

  low-held-parts : (x : ℕ) → starts_at held_size s.low blocks_at x
      ≡ starts_at held_size r.under blocks_at x + (if= q x z 0 + starts_at held_size r.over (q + z + r.up) x)
  low-held-parts x =
      ap (λ (l : List Block). starts_at held_size l blocks_at x) r.is
      ∙ starts-mid held_size r.under (joined s q z r) r.over blocks_at (q - r.down) (q + z + r.up) x large-parts.0 large-parts.1
      (omega (arith, r.starts)) (omega (arith, r.starts, joined-total s q z r))
      ∙ ap (λ (k : ℕ). starts_at held_size r.under blocks_at x + (k + starts_at held_size r.over (q + z + r.up) x)) (joined-held x)

  large-released : Released s (give_back_large s q z) q z
  unfolding Released starts_at
  large-released x =
      by= (q + z + r.up) (R s)
      (λ h. let i = give_back_large-joins s (sized-low s W) q z r h in
      let o : r.over ≡ [] = give_back_large-touches s (sized-low s W) q z r h in
      let s' : State = into_remainder s (fewer s q z r) r.under (r.down + (z + r.up)) in
      let e : E s' ≡ E s = omega (arith, r.starts) in
      omega (
        arith,
        ap (λ (t : State). starts_at held_size (blocks t) blocks_at x) i,
        held-runs s W x,
        held-runs s' (subst WellFormed i W') x,
        low-held-parts x,
        ap (λ (l : List Block). starts_at held_size l (q + z + r.up) x) o,
        ap (λ (k : ℕ). starts_at held_size s.high k x) e,
      ))
      (λ h. let i = give_back_large-enters s (sized-low s W) q z r h in
      let m : ℕ = r.down + (z + r.up) in
      let s' : State = into_bin s (fewer s q z r) r.under m r.over in
      let t : total s'.low ≡ total s.low = omega (
        arith,
        ap total r.is,
        total-mid r.under (joined s q z r) r.over,
        total-mid r.under (block m free ∷ []) r.over,
        joined-total s q z r,
      ) in
      omega (
        arith,
        ap (λ (t : State). starts_at held_size (blocks t) blocks_at x) i,
        held-runs s W x,
        held-runs s' (subst WellFormed i W') x,
        low-held-parts x,
        starts-append held_size r.under (block m free ∷ r.over) blocks_at x large-parts.0,
        starts-cons held_size (block m free) r.over (blocks_at + total r.under) x (omega (arith, r.sized)),
        if=-same {A = ℕ} (blocks_at + total r.under) x 0,
        ap (λ (k : ℕ). starts_at held_size r.over k x) (place m refl),
        ap (λ (k : ℕ). starts_at held_size s.high (blocks_at + k + s.rest) x) t,
      ))
    where
      place : (m : ℕ) → m ≡ r.down + (z + r.up) → blocks_at + total r.under + m ≡ q + z + r.up
      place m e = omega (arith, r.starts)

-- ---- any give-back that is done

pub give_back-releases : (s : State) → WellFormed s → (offset : ℕ) → 1 ≤ held_at s offset
    → Released s (give_back s offset).state (offset - 4) (held_at s offset)
give_back-releases s W offset o =
    by< (held_at s offset) large
    (λ l. subst (λ (t : State). Released s t (offset - 4) (held_at s offset)) (sym (give_back-small s W offset o l))
    (small-released s W (offset - 4) (held_at s offset) (held_small s W offset o l)))
    (λ l. subst (λ (t : State). Released s t (offset - 4) (held_at s offset)) (sym (give_back-large s W offset l))
    (large-released s W (offset - 4) (held_at s offset) (held-large s W offset l)))

-- the offset is not held afterwards
pub give_back-then-none : (s : State) → WellFormed s → (offset : ℕ) → held_at (give_back s offset).state offset ≡ 0
unfolding Released held_at
give_back-then-none s W offset =
    by= (held_at s offset) 0
    (λ e. ap (λ (r : Result). held_at r.state offset) (give_back-none s W offset e) ∙ e)
    (λ n. let h = held_place s offset (omega arith) in
    if<-no offset 4 _ _ h.0
    ∙ omega (
      arith,
      give_back-releases s W offset (omega arith) (offset - 4),
      h.1,
      if=-yes {A = ℕ} (offset - 4) (offset - 4) (held_at s offset) 0 refl,
    ))

-- every other held block is held still, and nothing else is
pub give_back-then-others : (s : State) → WellFormed s → (offset o : ℕ) → o ≢ offset → held_at (give_back s offset).state o ≡ held_at s o
unfolding Released held_at
give_back-then-others s W offset o d =
    by= (held_at s offset) 0
    (λ e. ap (λ (r : Result). held_at r.state o) (give_back-none s W offset e))
    (λ n. by< o 4 (λ l. if<-yes o 4 _ _ l ∙ sym (if<-yes o 4 _ _ l))
    (λ l. if<-no o 4 _ _ l
    ∙ omega (
      arith,
      give_back-releases s W offset (omega arith) (o - 4),
      if=-no {A = ℕ} (offset - 4) (o - 4) (held_at s offset) 0 (omega (arith, (held_place s offset (omega arith)).0)),
    )
    ∙ sym (if<-no o 4 _ _ l)))

-- so a second give-back of the offset is refused
pub give_back-twice-refused : (s : State) → WellFormed s → (offset : ℕ)
    → give_back (give_back s offset).state offset ≡ refused NotHeld (give_back s offset).state
give_back-twice-refused s W offset = give_back-none (give_back s offset).state (give_back-keeps s W offset).well_formed offset (give_back-then-none s W offset)
