-- Asking finds exactly the held blocks: what starts at a place in the walk, and its size at the offset 4 past it; and a payload that is answered
-- ends within the pool.
use mathlib.Core.List.{List, ◌∷◌}
use mathlib.Core.Logic.{◌≢◌}
use mathlib.Core.Path.{◌∙◌, ◌≡◌, ap, subst, sym}
use Prim.Native.Nat.{◌+◌, ◌-◌, ◌≤◌, ℕ}
use native.Mathlib.Omega.{arith}
use Rattle.paper.proofs.runs.HeldPlaces.{held_at}
use Rattle.paper.proofs.runs.HeldWalk.{held-within}
use Rattle.paper.proofs.runs.LookedUp.{look_up-held, look_up-none}
use Rattle.paper.proofs.runs.Splitting.{in_parts, starts-here}
use Rattle.paper.proofs.runs.Walk.{In, sized-parts}
use Rattle.paper.specs.Blocks.{Block, State, block, blocks, end, held}
use Rattle.paper.specs.GivingBack.{ask}
use Rattle.paper.specs.Layout.{blocks_at}
use Rattle.paper.specs.Runs.{held_size, starts_at}
use Rattle.paper.specs.Sound.{Sized, WellFormed}
use Rattle.words.specs.Choice.{by=, if<-no}
use Rattle.std.specs.declared.result.Result.TheVariants.{Ok, Err}
use Rattle.paper.specs.declared.Refusal.TheVariants.{NotHeld}
use Rattle.paper.specs.declared.Refusal.{Refusal}

pub starts-in : (f : Block → ℕ) (xs : List Block) (p P q : ℕ) (b : Block) (P' : ℕ) → Sized xs → In xs p P q b P' → starts_at f xs p q ≡ f b
starts-in f xs p P q b P' s i =
    let r = in_parts xs p P q b P' i in
    ap (λ (l : List Block). starts_at f l p q) r.2
    ∙ starts-here f r.0 b r.1 p q (sized-parts r.0 (b ∷ r.1) (subst Sized r.2 s)).0 r.3

pub held_at-in : (s : State) (q z P : ℕ) → Sized (blocks s) → In (blocks s) blocks_at 1 q (block z held) P → held_at s (q + 4) ≡ z
unfolding held_at
held_at-in s q z P S i =
    let e : q + 4 - 4 ≡ q = omega arith in
    if<-no (q + 4) 4 _ _ (omega arith) ∙ ap (starts_at held_size (blocks s) blocks_at) e ∙ starts-in held_size (blocks s) blocks_at 1 q (block z held) P S i

module _ (s : State) (W : WellFormed s) (offset : ℕ) where
  pub ask-none : held_at s offset ≡ 0 → ask s offset ≡ Err NotHeld
  unfolding ask
  ask-none e = look_up-none offset _ _ s W.sized e

  pub ask-held : held_at s offset ≢ 0 → ask s offset ≡ Ok (held_at s offset - 4)
  unfolding ask
  ask-held n = look_up-held offset _ _ s W.sized n

  pub ask-refused : (k : Refusal) → ask s offset ≡ Err k → held_at s offset ≡ 0
  ask-refused k a =
      by= (held_at s offset) 0 (λ e. e)
      (λ n. let d : Ok (held_at s offset - 4) ≡ Err k = sym (ask-held n) ∙ a in absurd (let y : ◌≡◌ {A = ℕ} 0 1 = cc in omega arith))

  pub ask-done : (v : ℕ) → ask s offset ≡ Ok v → (held_at s offset ≡ v + 4) × (offset + v ≤ end s)
  ask-done v a =
      by= (held_at s offset) 0
      (λ e. let d : Err NotHeld ≡ Ok v = sym (ask-none e) ∙ a in absurd (let y : ◌≡◌ {A = ℕ} 0 1 = cc in omega arith))
      (λ n. let d : Ok (held_at s offset - 4) ≡ Ok v = sym (ask-held n) ∙ a in
      let w : held_at s offset - 4 ≡ v = cc in
      let h = held-within s W offset n in
      (omega arith, omega arith))
