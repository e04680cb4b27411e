-- Giving back keeps the state well formed, its end and its layout, whatever the offset; a refusal changes nothing and means that no held block
-- starts there; an answer means that one did, of 4 bytes more.
use mathlib.Core.List.{[], ◌∷◌}
use mathlib.Core.Logic.{◌≢◌, ◌⊎◌, inl, inr}
use mathlib.Core.Path.{◌∙◌, ◌≡◌, ap, subst, sym}
use Prim.Native.Nat.{◌%◌, ◌+◌, ◌-◌, ◌<◌, ◌≤◌, ℕ}
use native.Mathlib.Omega.{arith}
use Rattle.paper.proofs.home.GoneHome.{go_home-edge, go_home-shaped}
use Rattle.paper.proofs.keeps.BackLargeKeeps.{give_back_large-keeps}
use Rattle.paper.proofs.keeps.BackSmallKeeps.{give_back_small-shaped}
use Rattle.paper.proofs.runs.HeldPlaces.{HeldHigh, HeldLow, held-at-lies, held-large, held_small, held_at}
use Rattle.paper.proofs.runs.LookedUp.{look_up-held, look_up-none}
use Rattle.paper.proofs.keeps.Kept.{Kept, kept_same, kept-shaped, shaped-then, sized-high, sized-low}
use Rattle.paper.proofs.runs.Splitting.{sized-mid-parts}
use Rattle.paper.specs.Blocks.{State, block, held}
use Rattle.paper.specs.GivingBack.{give_back, give_back_large, give_back_small}
use Rattle.paper.specs.GoingHome.{go_home}
use Rattle.paper.specs.Granting.{Result, refused}
use Rattle.paper.specs.Layout.{large}
use Rattle.paper.specs.Sound.{Sized, WellFormed}
use Rattle.words.specs.Choice.{by<, by=, if<, if<-no, if<-yes}
use Rattle.std.specs.declared.result.Result.TheVariants.{Ok, Err}
use Rattle.paper.specs.declared.Refusal.TheVariants.{NotHeld}
use Rattle.paper.specs.declared.Refusal.{Refusal}

-- a held block has a size
pub held-sized : (s : State) → WellFormed s → (offset : ℕ) → 1 ≤ held_at s offset → (8 ≤ held_at s offset) × (held_at s offset % 8 ≡ 0)
held-sized s W offset l = go (held-at-lies s W offset l)
  where
    go : HeldLow s (offset - 4) (held_at s offset) ⊎ HeldHigh s (offset - 4) (held_at s offset) → (8 ≤ held_at s offset) × (held_at s offset % 8 ≡ 0)
    go (inl h) = (sized-mid-parts h.before (block (held_at s offset) held ∷ []) h.after (subst Sized h.is (sized-low s W))).1.0
    go (inr h) = (sized-mid-parts h.before (block (held_at s offset) held ∷ []) h.after (subst Sized h.is (sized-high s W))).1.0

-- ---- the ways of a give-back

pub give_back-none : (s : State) → WellFormed s → (offset : ℕ) → held_at s offset ≡ 0 → give_back s offset ≡ refused NotHeld s
unfolding give_back
give_back-none s W offset e = look_up-none offset _ _ s W.sized e

pub give_back-some : (s : State) → WellFormed s → (offset : ℕ) → held_at s offset ≢ 0
    → give_back s offset
    ≡ record {
      answer = Ok (held_at s offset - 4);
      state = if< (held_at s offset) large (go_home (give_back_small s (offset - 4) (held_at s offset))) (give_back_large s (offset - 4) (held_at s offset));
    }
unfolding give_back
give_back-some s W offset n = look_up-held offset _ _ s W.sized n

pub give_back-small : (s : State) → WellFormed s → (offset : ℕ) → 1 ≤ held_at s offset → held_at s offset < large
    → (give_back s offset).state ≡ go_home (give_back_small s (offset - 4) (held_at s offset))
give_back-small s W offset o l = ap (λ (r : Result). r.state) (give_back-some s W offset (omega arith)) ∙ if<-yes (held_at s offset) large _ _ l

pub give_back-large : (s : State) → WellFormed s → (offset : ℕ) → large ≤ held_at s offset
    → (give_back s offset).state ≡ give_back_large s (offset - 4) (held_at s offset)
give_back-large s W offset l = ap (λ (r : Result). r.state) (give_back-some s W offset (omega arith)) ∙ if<-no (held_at s offset) large _ _ l

-- ---- what it keeps

-- put at the front of its bin, and then all go home that can
small-back-keeps : (s : State) → WellFormed s → (q z : ℕ) → HeldHigh s q z → Kept s (go_home (give_back_small s q z))
small-back-keeps s W q z H =
    let k = give_back_small-shaped s W q z H in
    kept-shaped s (go_home (give_back_small s q z)) (shaped-then s (give_back_small s q z) (go_home (give_back_small s q z)) k (go_home-shaped _ k.well_formed))
    (λ g. go_home-edge _ k.well_formed)

pub give_back-keeps : (s : State) → WellFormed s → (offset : ℕ) → Kept s (give_back s offset).state
give_back-keeps s W offset =
    by= (held_at s offset) 0
    (λ e. subst (λ (r : Result). Kept s r.state) (sym (give_back-none s W offset e)) (kept_same s W))
    (λ n. by< (held_at s offset) large
    (λ l. subst (Kept s) (sym (give_back-small s W offset (omega arith) l))
    (small-back-keeps s W (offset - 4) (held_at s offset) (held_small s W offset (omega arith) l)))
    (λ l. subst (Kept s) (sym (give_back-large s W offset l))
    (give_back_large-keeps s W (offset - 4) (held_at s offset) (held-large s W offset l))))

-- ---- what its answer says

pub give_back-refused : (s : State) → WellFormed s → (offset : ℕ) (k : Refusal) → (give_back s offset).answer ≡ Err k → ((give_back s offset).state ≡ s) × (held_at s offset ≡ 0)
give_back-refused s W offset k a =
    by= (held_at s offset) 0 (λ e. (ap (λ (r : Result). r.state) (give_back-none s W offset e), e))
    (λ n. let d : Ok (held_at s offset - 4) ≡ Err k = sym (ap (λ (r : Result). r.answer) (give_back-some s W offset n)) ∙ a in
    absurd (let z : ◌≡◌ {A = ℕ} 0 1 = cc in omega arith))

pub give_back-done : (s : State) → WellFormed s → (offset v : ℕ) → (give_back s offset).answer ≡ Ok v → held_at s offset ≡ v + 4
give_back-done s W offset v a =
    by= (held_at s offset) 0
    (λ e. let d : Err NotHeld ≡ Ok v = sym (ap (λ (r : Result). r.answer) (give_back-none s W offset e)) ∙ a in
    absurd (let z : ◌≡◌ {A = ℕ} 0 1 = cc in omega arith))
    (λ n. let d : Ok (held_at s offset - 4) ≡ Ok v = sym (ap (λ (r : Result). r.answer) (give_back-some s W offset n)) ∙ a in
    let e : held_at s offset - 4 ≡ v = cc in
    omega (arith, held-sized s W offset (omega arith)))
