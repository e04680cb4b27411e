-- "Offset isn't 4 past the start of a held block": where the held block of an offset stands. A large one stands below R and a small one
-- above E, since a place is the start of one block at most.
use mathlib.Core.List.{List, ◌++◌, ◌∷◌}
use mathlib.Core.Logic.{◌⊎◌, inl, inr}
use mathlib.Core.Path.{◌∙◌, ◌≡◌, ap, subst, sym}
use Prim.Native.Nat.{◌+◌, ◌-◌, ◌<◌, ◌≤◌, ℕ}
use native.Mathlib.Omega.{arith}
use Rattle.paper.proofs.runs.LowHigh.{high_parts}
use Rattle.paper.proofs.runs.Shapes.{low_held}
use Rattle.paper.proofs.runs.Splitting.{starts-append, starts-below, starts-split}
use Rattle.paper.proofs.runs.Walk.{sized-parts, total-append}
use Rattle.paper.specs.Blocks.{Block, State, block, blocks, free, held, remainder, total}
use Rattle.paper.specs.Granting.{E, R}
use Rattle.paper.specs.Layout.{blocks_at, large}
use Rattle.paper.specs.Runs.{held_size, starts_at}
use Rattle.paper.specs.Sound.{High, Low, Sized, WellFormed}
use Rattle.words.specs.Choice.{by<, by=, if<, if<-no, if<-yes, if=-no, if=-yes}

-- the size of the held block that starts 4 below the offset, 0 where there is none
unfoldable pub held_at : State → ℕ → ℕ
held_at s offset = if< offset 4 0 (starts_at held_size (blocks s) blocks_at (offset - 4))

pub held-block : (b : Block) (z : ℕ) → held_size b ≡ z → 1 ≤ z → b ≡ block z held
held-block (block y held) z e l = ap (λ (k : ℕ). block k held) e
held-block (block y free) z e l = absurd (omega arith)
held-block (block y remainder) z e l = absurd (omega arith)

-- a held block of size z starts at q
pub record HeldLow (s : State) (q z : ℕ) : Type 0 where
  pub before : List Block
  pub after : List Block
  pub is : s.low ≡ before ++ block z held ∷ after
  pub starts : blocks_at + total before ≡ q
  pub sized : large ≤ z

pub record HeldHigh (s : State) (q z : ℕ) : Type 0 where
  pub before : List Block
  pub after : List Block
  pub is : s.high ≡ before ++ block z held ∷ after
  pub starts : E s + total before ≡ q
  pub sized : z ≤ 64

module _ (s : State) (W : WellFormed s) (q z : ℕ) (one : 1 ≤ z) where
  starts-low : 1 ≤ starts_at held_size s.low blocks_at q → starts_at held_size s.low blocks_at q ≡ z → HeldLow s q z
  starts-low l e =
      let r = starts-split held_size s.low blocks_at q l in
      let b : r.1 ≡ block z held = held-block r.1 z (r.5 ∙ e) one in
      let i : s.low ≡ r.0 ++ block z held ∷ r.2 = r.3 ∙ ap (λ (c : Block). r.0 ++ c ∷ r.2) b in
      record { before = r.0; after = r.2; is = i; starts = r.4; sized = (low_held r.0 z r.2 (subst Low i W.low_ok)).1 }

  starts-high : starts_at held_size s.high (E s) q ≡ z → HeldHigh s q z
  starts-high e =
      let r = starts-split held_size s.high (E s) q (omega arith) in
      let b : r.1 ≡ block z held = held-block r.1 z (r.5 ∙ e) one in
      let i : s.high ≡ r.0 ++ block z held ∷ r.2 = r.3 ∙ ap (λ (c : Block). r.0 ++ c ∷ r.2) b in
      record
      { before = r.0; after = r.2; is = i; starts = r.4; sized = (high_parts r.0 (block z held ∷ r.2) (subst High i W.high_ok)).1.0 }

  -- in the whole run: the remainder is not held
  pub held-lies : starts_at held_size (blocks s) blocks_at q ≡ z → HeldLow s q z ⊎ HeldHigh s q z
  unfolding starts_at
  held-lies e =
      let t = sized-parts s.low (block s.rest remainder ∷ s.high) W.sized in
      let a = starts-append held_size s.low (block s.rest remainder ∷ s.high) blocks_at q t.0 in
      by= (starts_at held_size s.low blocks_at q) 0
      (λ n. by= (R s) q
      (λ k. absurd (omega (arith, if=-yes {A = ℕ} (R s) q 0 (starts_at held_size s.high (E s) q) k)))
      (λ k. inr (starts-high (omega (arith, if=-no {A = ℕ} (R s) q 0 (starts_at held_size s.high (E s) q) k)))))
      (λ n. inl (starts-low (omega arith) (
      let r = starts-split held_size s.low blocks_at q (omega arith) in
      let m = sized-parts r.0 (r.1 ∷ r.2) (subst Sized r.3 t.0) in
      omega (
        arith,
        starts-below held_size (block s.rest remainder ∷ s.high) (R s) q
            (omega (arith, r.4, ap total r.3, total-append r.0 (r.1 ∷ r.2), m.1.0)),
      ))))

pub held_place : (s : State) (offset : ℕ) → 1 ≤ held_at s offset → (4 ≤ offset) × (starts_at held_size (blocks s) blocks_at (offset - 4) ≡ held_at s offset)
unfolding held_at
held_place s offset h =
    by< offset 4 (λ l. absurd (omega (arith, if<-yes {A = ℕ} offset 4 0 (starts_at held_size (blocks s) blocks_at (offset - 4)) l)))
    (λ l. (l, sym (if<-no offset 4 _ _ l)))

-- the held block of an offset
pub held-at-lies : (s : State) → WellFormed s → (offset : ℕ) → 1 ≤ held_at s offset
    → HeldLow s (offset - 4) (held_at s offset) ⊎ HeldHigh s (offset - 4) (held_at s offset)
held-at-lies s W offset h = held-lies s W (offset - 4) (held_at s offset) h (held_place s offset h).1

pub held-large : (s : State) → WellFormed s → (offset : ℕ) → large ≤ held_at s offset → HeldLow s (offset - 4) (held_at s offset)
held-large s W offset l = go (held-at-lies s W offset (omega arith))
  where
    go : HeldLow s (offset - 4) (held_at s offset) ⊎ HeldHigh s (offset - 4) (held_at s offset) → HeldLow s (offset - 4) (held_at s offset)
    go (inl h) = h
    go (inr h) = absurd (omega (arith, h.sized))

pub held_small : (s : State) → WellFormed s → (offset : ℕ) → 1 ≤ held_at s offset → held_at s offset < large
    → HeldHigh s (offset - 4) (held_at s offset)
held_small s W offset o l = go (held-at-lies s W offset o)
  where
    go : HeldLow s (offset - 4) (held_at s offset) ⊎ HeldHigh s (offset - 4) (held_at s offset) → HeldHigh s (offset - 4) (held_at s offset)
    go (inl h) = absurd (omega (arith, h.sized))
    go (inr h) = h
