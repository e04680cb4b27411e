-- A granted take answers a payload offset whose block is held afterwards, has the size that the payload needs, and was free before:
-- it lies in one free block or in the remainder, and no held block shares a byte with either.
use mathlib.Core.List.{List, [], ◌++◌, ◌∷◌}
use mathlib.Core.Logic.{◌≢◌, ◌⊎◌, inl, inr}
use mathlib.Core.Path.{◌≡◌, refl, subst, sym}
use Prim.Native.Nat.{◌+◌, ◌-◌, ◌<◌, ◌≤◌, ℕ}
use native.Mathlib.Omega.{arith}
use Rattle.heads.specs.Heads.{block_size}
use Rattle.paper.proofs.runs.Asking.{held_at-in}
use Rattle.paper.proofs.runs.HeldPlaces.{held_at}
use Rattle.paper.proofs.keeps.Choices.{by-choices}
use Rattle.paper.proofs.keeps.Kept.{sized-high, sized-low}
use Rattle.paper.proofs.runs.Places.{first-in-high, in-apart, used-in-low}
use Rattle.paper.proofs.runs.Replaced.{in-replaced}
use Rattle.paper.proofs.keeps.TakeKeeps.{take-well-formed}
use Rattle.paper.proofs.runs.Walk.{In, flag_past, in_left, in-mid}
use Rattle.paper.specs.Bins.{first, used}
use Rattle.paper.specs.Blocks.{Block, State, block, blocks, free, held, remainder, size}
use Rattle.paper.specs.Granting.{E, R, Result, carry_out, cut_high, cut_low, granted, refused, take, take_first, take_part, take_whole}
use Rattle.paper.specs.Layout.{blocks_at, large}
use Rattle.paper.specs.Runs.{replace, under}
use Rattle.paper.specs.Sound.{WellFormed}
use Rattle.std.specs.declared.result.Result.TheVariants.{Ok}
use Rattle.paper.specs.declared.Refusal.{Refusal}

-- b bytes of s that start at a are in no held block
abbrev pub Free : State → ℕ → ℕ → Type 0
Free s a b = (q z P : ℕ) → In (blocks s) blocks_at 1 q (block z held) P → (q + z ≤ a) ⊎ (a + b ≤ q)

-- what a grant of b bytes means, if it is one: where the block is, of which bytes it was made
abbrev Grants : State → ℕ → Result → Type 0
Grants s b r =
    (o : ℕ) → r.answer ≡ Ok o → (a : ℕ) × (o ≡ a + 4) × ((P : ℕ) × In (blocks r.state) blocks_at 1 a (block b held) P) × Free s a b

refused-grants : (s : State) (b : ℕ) (k : Refusal) → Grants s b (refused k s)
refused-grants s b k o e = absurd (let z : ◌≡◌ {A = ℕ} 0 1 = cc in omega arith)

granted-grants : (s : State) (b a : ℕ) (s' : State) (P : ℕ) → In (blocks s') blocks_at 1 a (block b held) P → Free s a b → Grants s b (granted a s')
granted-grants s b a s' P i f o e = (a, cc, (P, i), f)

-- a part of a block that is not held is free
part_free : (s : State) (r : ℕ) (c : Block) (P' : ℕ) → In (blocks s) blocks_at 1 r c P' → ((z : ℕ) → block z held ≡ c → ⊥)
    → (a b : ℕ) → r ≤ a → a + b ≤ r + size c → Free s a b
part_free s r c P' i n a b l m q z P j = go (in-apart (blocks s) blocks_at 1 q (block z held) P r c P' j i)
  where
    go : ((q ≡ r) × (block z held ≡ c)) ⊎ (q + z ≤ r) ⊎ (r + size c ≤ q) → (q + z ≤ a) ⊎ (a + b ≤ q)
    go (inl e) = absurd (n z e.1)
    go (inr (inl k)) = inl (omega arith)
    go (inr (inr k)) = inr (omega arith)

free-not-held : (y z : ℕ) → block z held ≡ block y free → ⊥
free-not-held y z e = let n : ◌≡◌ {A = ℕ} 0 1 = cc in omega arith

remainder-not-held : (y z : ℕ) → block z held ≡ block y remainder → ⊥
remainder-not-held y z e = let n : ◌≡◌ {A = ℕ} 0 1 = cc in omega arith

module _ (s : State) (W : WellFormed s) (b : ℕ) where
  rest-free : (a : ℕ) → R s ≤ a → a + b ≤ E s → Free s a b
  rest-free a l m =
      part_free s (R s) (block s.rest remainder) (flag_past 1 s.low)
      (in-mid s.low (block s.rest remainder ∷ s.high) blocks_at 1 (R s) (block s.rest remainder) (flag_past 1 s.low) (inl (refl, refl, refl)))
      (remainder-not-held s.rest) a b l m

  low_free : (z q P : ℕ) → b ≤ z → In s.low blocks_at 1 q (block z free) P → Free s q b
  low_free z q P l i =
      part_free s q (block z free) P (in_left s.low (block s.rest remainder ∷ s.high) blocks_at 1 q (block z free) P i)
      (free-not-held z) q b (omega arith) (omega arith)

  high-free : (q P : ℕ) → In s.high (E s) 1 q (block b free) P → Free s q b
  high-free q P i =
      part_free s q (block b free) P (in-mid s.low (block s.rest remainder ∷ s.high) blocks_at 1 q (block b free) P (inr i))
      (free-not-held b) q b (omega arith) (omega arith)

  -- ---- small
  cut_high-grants : b + 8 ≤ s.rest → Grants s b (cut_high s b)
  unfolding cut_high
  cut_high-grants l =
      let e : E s - b ≡ R s + (s.rest - b) = omega arith in
      granted-grants s b (E s - b) (cut_high s b).state 1
      (in-mid s.low (block (s.rest - b) remainder ∷ block b held ∷ s.high) blocks_at 1 (E s - b) (block b held) 1 (inr (inl (e, refl, refl))))
      (rest-free (E s - b) (omega arith) (omega arith))

  take_first-grants : b < large → first (s.bins b) ≢ 0 → Grants s b (take_first s b)
  unfolding take_first
  take_first-grants small n =
      let q = first (s.bins b) in
      let i = first-in-high s W b small n in
      granted-grants s b q (take_first s b).state (flag_past 1 (under s.high (E s) q))
      (in-mid s.low (block s.rest remainder ∷ replace s.high (E s) q (q + b) (block b held ∷ [])) blocks_at 1 q (block b held)
      (flag_past 1 (under s.high (E s) q))
      (inr (in-replaced s.high (E s) 1 q (block b free) i.0 (sized-high s W) i.1 (block b held) [])))
      (high-free q i.0 i.1)

  -- ---- large
  cut_low-grants : b + 8 ≤ s.rest → Grants s b (cut_low s b)
  unfolding cut_low
  cut_low-grants l =
      granted-grants s b (R s) (cut_low s b).state (flag_past 1 s.low)
      (in_left (s.low ++ block b held ∷ []) (block (s.rest - b) remainder ∷ s.high) blocks_at 1 (R s) (block b held) (flag_past 1 s.low)
      (in-mid s.low (block b held ∷ []) blocks_at 1 (R s) (block b held) (flag_past 1 s.low) (inl (refl, refl, refl))))
      (rest-free (R s) (omega arith) (omega arith))

  -- the low b bytes of a free block of size z, with some blocks above them
  low-grants : (z q P : ℕ) (new : List Block) → b ≤ z → In s.low blocks_at 1 q (block z free) P → (s' : State)
      → s'.low ≡ replace s.low blocks_at q (q + z) (block b held ∷ new) → Grants s b (granted q s')
  low-grants z q P new l i s' e =
      granted-grants s b q s' (flag_past 1 (under s.low blocks_at q))
      (in_left s'.low (block s'.rest remainder ∷ s'.high) blocks_at 1 q (block b held) (flag_past 1 (under s.low blocks_at q))
      (rw e (in-replaced s.low blocks_at 1 q (block z free) P (sized-low s W) i (block b held) new)))
      (low_free z q P l i)

  module _ (is-large : large ≤ b) where
    take_whole-grants : first (s.bins b) ≢ 0 → Grants s b (take_whole s b)
    unfolding take_whole
    take_whole-grants n =
        let i = used-in-low s W b is-large n in
        low-grants b (used (s.bins b)) i.0 [] (omega arith) i.1 (take_whole s b).state refl

    take_part-grants : (z : ℕ) → b + large ≤ z → first (s.bins z) ≢ 0 → Grants s b (take_part s z b)
    unfolding take_part
    take_part-grants z l n =
        let i = used-in-low s W z (omega arith) n in
        low-grants z (used (s.bins z)) i.0 (block (z - b) free ∷ []) (omega arith) i.1 (take_part s z b).state refl

-- ---- any payload
take_places : (s : State) → WellFormed s → (payload : ℕ) → Grants s (block_size payload) (take s payload)
unfolding take
take_places s W payload =
    let b = block_size payload in
    by-choices s payload (λ c. Grants s b (carry_out s c))
    (record {
      without-size = λ e. refused-grants s b _;
      without-room = λ n e r. refused-grants s b _;
      from-its-bin = take_first-grants s W b;
      from-high-end = λ l r. cut_high-grants s W b r;
      from-exact = take_whole-grants s W b;
      from-larger = take_part-grants s W b;
      from-low-end = λ l r. cut_low-grants s W b r;
    })

module _ (s : State) (W : WellFormed s) (payload o : ℕ) (e : (take s payload).answer ≡ Ok o) where
  pub take-past-head : 4 ≤ o
  take-past-head = omega (arith, (take_places s W payload o e).1)

  pub take-held : held_at (take s payload).state o ≡ block_size payload
  take-held =
      let r = take_places s W payload o e in
      subst (λ (k : ℕ). held_at (take s payload).state k ≡ block_size payload) (sym r.1)
      (held_at-in (take s payload).state r.0 (block_size payload) r.2.0 (take-well-formed s W payload).sized r.2.1)

  -- it has room for the head and the payload
  pub take-long-enough : payload + 4 ≤ held_at (take s payload).state o
  unfolding block_size
  take-long-enough = omega (arith, take-held)

  pub take-was-free : (q z P : ℕ) → In (blocks s) blocks_at 1 q (block z held) P → (q + z ≤ o - 4) ⊎ (o - 4 + block_size payload ≤ q)
  take-was-free =
      let r = take_places s W payload o e in
      let d : r.0 ≡ o - 4 = omega (arith, r.1) in
      subst (λ (k : ℕ). Free s k (block_size payload)) d r.3
