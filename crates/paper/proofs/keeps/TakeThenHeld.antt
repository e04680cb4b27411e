-- After a take every block that was held is held with its size, and of the others only the granted one is: the state before is the state
-- after without the granted block, run by run.
use mathlib.Core.List.{List, [], ◌∷◌}
use mathlib.Core.Logic.{◌≢◌}
use mathlib.Core.Path.{◌∙◌, ◌≡◌, ap, refl, sym}
use Prim.Native.Nat.{◌%◌, ◌+◌, ◌-◌, ◌<◌, ◌≤◌, ℕ}
use native.Mathlib.Omega.{arith}
use Rattle.heads.specs.Heads.{block_size}
use Rattle.paper.proofs.keeps.BackThenHeld.{Released, free-none, held_one}
use Rattle.paper.proofs.keeps.Choices.{by-choices}
use Rattle.paper.proofs.keeps.Kept.{held-runs, sized-high, sized-low}
use Rattle.paper.proofs.keeps.TakeGrants.{take-held, take-past-head}
use Rattle.paper.proofs.keeps.TakeKeeps.{block_size-eights, block_size-least, take-refused, take-well-formed}
use Rattle.paper.proofs.runs.HeldPlaces.{held_at}
use Rattle.paper.proofs.runs.Places.{first-in-high, used-in-low}
use Rattle.paper.proofs.runs.Replaced.{replaced-starts, replaced-total}
use Rattle.paper.proofs.runs.Splitting.{starts-append, starts-cons}
use Rattle.paper.proofs.runs.Walk.{In, in-sized, total-append}
use Rattle.paper.specs.Bins.{first, used}
use Rattle.paper.specs.Blocks.{Block, State, block, free, held, total}
use Rattle.paper.specs.Granting.{E, R, Result, carry_out, cut_high, cut_low, granted, refused, take, take_first, take_part, take_whole}
use Rattle.paper.specs.Layout.{blocks_at, large}
use Rattle.paper.specs.Runs.{held_size, replace, starts_at}
use Rattle.paper.specs.Sound.{Sized, WellFormed}
use Rattle.words.specs.Choice.{by<, by=, if<-no, if<-yes, if=, if=-no, if=-yes}
use Rattle.std.specs.declared.result.Result.TheVariants.{Ok, Err}
use Rattle.paper.specs.Answers.{Answer}
use Rattle.paper.specs.declared.Refusal.{Refusal}

-- what a grant of b bytes adds, if it is one: the block that starts 4 below what is answered
abbrev Adds : State → ℕ → Result → Type 0
Adds s b r = (o : ℕ) → r.answer ≡ Ok o → WellFormed r.state → Released r.state s (o - 4) b

refused-adds : (s : State) (b : ℕ) (k : Refusal) → Adds s b (refused k s)
refused-adds s b k o e w = absurd (let z : ◌≡◌ {A = ℕ} 0 1 = cc in omega arith)

granted-adds : (s : State) (b a : ℕ) (s' : State) → (WellFormed s' → Released s' s a b) → Adds s b (granted a s')
granted-adds s b a s' f o e w =
    let p : a + 4 ≡ o = cc in let q : a ≡ o - 4 = omega arith in rw (← q) (f w)

-- a held block of b bytes below a free one is all that is held of the two
cut-one : (b m q x : ℕ) → 1 ≤ b → starts_at held_size (block b held ∷ block m free ∷ []) q x ≡ if= q x b 0
cut-one b m q x l =
    starts-cons held_size (block b held) (block m free ∷ []) q x l ∙ omega (arith, free-none m (q + b) x)

-- by the two runs
added : (s s' : State) → WellFormed s → WellFormed s' → (a b : ℕ)
    → ((x : ℕ)
    → starts_at held_size s'.low blocks_at x + starts_at held_size s'.high (E s') x
    ≡ starts_at held_size s.low blocks_at x + starts_at held_size s.high (E s) x + if= a x b 0)
    → Released s' s a b
unfolding Released
added s s' W W' a b h x = omega (arith, held-runs s W x, held-runs s' W' x, h x)

module _ (s : State) (W : WellFormed s) (b : ℕ) (eights : b % 8 ≡ 0) (least : 8 ≤ b) where
  -- ---- small
  cut_high-adds : b + 8 ≤ s.rest → Adds s b (cut_high s b)
  unfolding cut_high
  cut_high-adds l =
      let s' = (cut_high s b).state in
      granted-adds s b (E s - b) s'
      (λ w. added s s' W w (E s - b) b
      (λ x. let e : E s' ≡ E s - b = omega arith in
      let f : E s' + b ≡ E s = omega arith in
      omega (
        arith,
        starts-cons held_size (block b held) s.high (E s') x (omega arith),
        ap (λ (k : ℕ). if= {A = ℕ} k x b 0) e,
        ap (λ (k : ℕ). starts_at held_size s.high k x) f,
      )))

  take_first-adds : b < large → first (s.bins b) ≢ 0 → Adds s b (take_first s b)
  unfolding take_first
  take_first-adds small n =
      let q = first (s.bins b) in
      granted-adds s b q (take_first s b).state
      (λ w. added s (take_first s b).state W w q b
      (λ x. let i = first-in-high s W b small n in
      omega (
        arith,
        replaced-starts s.high (E s) 1 q (block b free) i.0 (sized-high s W) i.1 held_size (block b held ∷ []) ((least, eights), tt) (omega arith) x,
        held_one b q x,
        free-none b q x,
      )))

  -- ---- large
  cut_low-adds : b + 8 ≤ s.rest → Adds s b (cut_low s b)
  unfolding cut_low
  cut_low-adds l =
      let s' = (cut_low s b).state in
      granted-adds s b (R s) s'
      (λ w. added s s' W w (R s) b
      (λ x. let e : E s' ≡ E s = omega (arith, total-append s.low (block b held ∷ [])) in
      omega (
        arith,
        starts-append held_size s.low (block b held ∷ []) blocks_at x (sized-low s W),
        held_one b (R s) x,
        ap (λ (k : ℕ). starts_at held_size s.high k x) e,
      )))

  -- the low b bytes of a free block of size z, with some blocks above them that are not held
  low-added : (z q P : ℕ) (new : List Block) → In s.low blocks_at 1 q (block z free) P → Sized new → total new ≡ z
      → ((x : ℕ) → starts_at held_size new q x ≡ if= q x b 0) → (s' : State)
      → s'.low ≡ replace s.low blocks_at q (q + z) new → s'.rest ≡ s.rest → s'.high ≡ s.high → WellFormed s' → Released s' s q b
  low-added z q P new i n t h s' e r g w =
      added s s' W w q b
      (λ x. let k : total s'.low ≡ total s.low =
      ap total e ∙ replaced-total s.low blocks_at 1 q (block z free) P (sized-low s W) i new t in
      let m : E s' ≡ E s = omega arith in
      omega (
        arith,
        ap (λ (l : List Block). starts_at held_size l blocks_at x) e,
        replaced-starts s.low blocks_at 1 q (block z free) P (sized-low s W) i held_size new n t x,
        h x,
        free-none z q x,
        ap (λ (l : List Block). starts_at held_size l (E s') x) g,
        ap (λ (k : ℕ). starts_at held_size s.high k x) m,
      ))

  module _ (is-large : large ≤ b) where
    take_whole-adds : first (s.bins b) ≢ 0 → Adds s b (take_whole s b)
    unfolding take_whole
    take_whole-adds n =
        let i = used-in-low s W b is-large n in
        granted-adds s b (used (s.bins b)) _
        (low-added b (used (s.bins b)) i.0 (block b held ∷ []) i.1 ((least, eights), tt) (omega arith) (held_one b (used (s.bins b)))
        (take_whole s b).state refl refl refl)

    take_part-adds : (z : ℕ) → b + large ≤ z → first (s.bins z) ≢ 0 → Adds s b (take_part s z b)
    unfolding take_part
    take_part-adds z l n =
        let i = used-in-low s W z (omega arith) n in
        let y = in-sized s.low blocks_at 1 (used (s.bins z)) (block z free) i.0 (sized-low s W) i.1 in
        granted-adds s b (used (s.bins z)) _
        (low-added z (used (s.bins z)) i.0 (block b held ∷ block (z - b) free ∷ []) i.1
        ((least, eights), ((omega arith, omega (arith, y.1)), tt)) (omega arith) (λ x. cut-one b (z - b) (used (s.bins z)) x (omega arith))
        (take_part s z b).state refl refl refl)

take-adds : (s : State) → WellFormed s → (payload : ℕ) → Adds s (block_size payload) (take s payload)
unfolding take
take-adds s W payload =
    let b = block_size payload in
    let e = block_size-eights payload in
    let l = block_size-least payload in
    by-choices s payload (λ c. Adds s b (carry_out s c))
    (record {
      without-size = λ e. refused-adds s b _;
      without-room = λ n e r. refused-adds s b _;
      from-its-bin = take_first-adds s W b e l;
      from-high-end = λ _ r. cut_high-adds s W b e l r;
      from-exact = take_whole-adds s W b e l;
      from-larger = take_part-adds s W b e l;
      from-low-end = λ _ r. cut_low-adds s W b e l r;
    })

-- ---- any payload

module _ (s : State) (W : WellFormed s) (payload o : ℕ) (e : (take s payload).answer ≡ Ok o) where
  released : Released (take s payload).state s (o - 4) (block_size payload)
  released = take-adds s W payload o e (take-well-formed s W payload)

  -- the granted offset was not one of a held block
  pub take-was-none : held_at s o ≡ 0
  unfolding Released held_at
  take-was-none =
      let l = take-past-head s W payload o e in
      if<-no o 4 _ _ l
      ∙ omega (
        arith,
        released (o - 4),
        if=-yes {A = ℕ} (o - 4) (o - 4) (block_size payload) 0 refl,
        sym (if<-no o 4 _ _ l) ∙ take-held s W payload o e,
      )

  -- any other offset is held as it was
  pub take-then-others : (x : ℕ) → x ≢ o → held_at (take s payload).state x ≡ held_at s x
  unfolding Released held_at
  take-then-others x d =
      by< x 4 (λ l. if<-yes x 4 _ _ l ∙ sym (if<-yes x 4 _ _ l))
      (λ l. if<-no x 4 _ _ l
      ∙ omega (
        arith,
        released (x - 4),
        if=-no {A = ℕ} (o - 4) (x - 4) (block_size payload) 0 (omega (arith, take-past-head s W payload o e)),
      )
      ∙ sym (if<-no x 4 _ _ l))

-- whatever is answered, a held block stays held
pub take-keeps-held : (s : State) → WellFormed s → (payload x : ℕ) → 1 ≤ held_at s x → held_at (take s payload).state x ≡ held_at s x
take-keeps-held s W payload x h = go (take s payload).answer refl
  where
    go : (a : Answer) → (take s payload).answer ≡ a → held_at (take s payload).state x ≡ held_at s x
    go (Ok o) e =
        by= x o (λ d. absurd (omega (arith, ap (held_at s) d, take-was-none s W payload o e))) (λ d. take-then-others s W payload o e x d)
    go (Err k) e = ap (λ (t : State). held_at t x) (take-refused s payload k e)
