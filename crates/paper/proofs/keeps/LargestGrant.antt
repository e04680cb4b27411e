-- The promise of the figures (request 2026-01): take grants the largest grant if it is not 0, and refuses every greater size with 4.
-- And the plain rule by which it is computed: the greatest bin, or the remainder less the 8 bytes that it keeps; of that, less 4.
use mathlib.Core.Logic.{◌≢◌, ◌⊎◌, inl, inr}
use mathlib.Core.Path.{◌∙◌, ◌≡◌, ap, refl, subst, sym}
use Prim.Native.Nat.{◌+◌, ◌-◌, ◌<◌, ◌≤◌, suc, zero, ℕ}
use native.Mathlib.Omega.{arith}
use Rattle.heads.specs.Heads.{block_size}
use Rattle.paper.proofs.keeps.Choices.{by-choices}
use Rattle.paper.proofs.keeps.Givable.{bin-givable, givable-eights, givable-le, givable-source, greatest_givable, rest-givable}
use Rattle.paper.specs.Bins.{first}
use Rattle.paper.specs.Blocks.{State, blocks}
use Rattle.paper.specs.Granting.{Result, carry_out, cut_high, cut_low, refused, take, take_first, take_part, take_whole}
use Rattle.paper.specs.LargestGrant.{greatest_grant, if_granted, largest_grant}
use Rattle.paper.specs.Sound.{WellFormed}
use Rattle.words.specs.Choice.{by=}
use Rattle.std.specs.declared.result.Result.TheVariants.{Ok, Err}
use Rattle.paper.specs.declared.Refusal.TheVariants.{NoRoom}
use Rattle.paper.specs.Answers.{Answer}
use Rattle.paper.specs.declared.Refusal.{Refusal}

-- a take of a payload is granted
abbrev pub Grants : State → ℕ → Type 0
Grants s payload = (offset : ℕ) × ((take s payload).answer ≡ Ok offset)

-- ---- when it is, and when it is not
module _ (s : State) (payload : ℕ) (n : payload ≢ 0) where
  granted-if : (first (s.bins (block_size payload)) ≢ 0) ⊎ (block_size payload + 8 ≤ s.rest) → Grants s payload
  unfolding take take_first cut_high take_whole take_part cut_low
  granted-if source =
      by-choices s payload (λ c. (offset : ℕ) × ((carry_out s c).answer ≡ Ok offset))
      (record {
        without-size = λ e. absurd (n e);
        without-room = λ m e r. absurd (neither e r source);
        from-its-bin = λ l m. (_, refl);
        from-high-end = λ l r. (_, refl);
        from-exact = λ l m. (_, refl);
        from-larger = λ l z m o. (_, refl);
        from-low-end = λ l r. (_, refl);
      })
    where
      neither : first (s.bins (block_size payload)) ≡ 0 → s.rest < block_size payload + 8
          → (first (s.bins (block_size payload)) ≢ 0) ⊎ (block_size payload + 8 ≤ s.rest) → ⊥
      neither e r (inl m) = m e
      neither e r (inr m) = omega arith

  refused-if : ((z : ℕ) → block_size payload ≤ z → first (s.bins z) ≡ 0) → s.rest < block_size payload + 8 → take s payload ≡ refused NoRoom s
  unfolding take
  refused-if empty short =
      by-choices s payload (λ c. carry_out s c ≡ refused NoRoom s)
      (record {
        without-size = λ e. absurd (n e);
        without-room = λ m e r. refl;
        from-its-bin = λ l m. absurd (m (empty _ (omega arith)));
        from-high-end = λ l r. absurd (omega arith);
        from-exact = λ l m. absurd (m (empty _ (omega arith)));
        from-larger = λ l z m o. absurd (o (empty z (omega arith)));
        from-low-end = λ l r. absurd (omega arith);
      })

-- what is granted, with every greater size refused, is the greatest
greatest-is : (s : State) (m k : ℕ) → k ≤ m → (k ≢ 0 → Grants s k) → ((p : ℕ) → k < p → take s p ≡ refused NoRoom s) → greatest_grant s m ≡ k
unfolding greatest_grant
greatest-is s zero k l g r = omega arith
greatest-is s (suc m) k l g r =
    by= k (suc m)
    (λ e. let h : Grants s (suc m) = subst (Grants s) e (g (omega arith)) in
    ap (λ (a : Answer). if_granted a (suc m) (greatest_grant s m)) h.1 ∙ sym e)
    (λ n. ap (λ (a : Result). if_granted a.answer (suc m) (greatest_grant s m)) (r (suc m) (omega arith)) ∙ greatest-is s m k (omega arith) g r)

-- the block for the largest grant has 4 bytes more than it: no bin that has a block is of a greater size, nor can the remainder, which keeps
-- 8 bytes, give a greater one; and a bin, or the remainder, has just that
pub record ByBins (s : State) (largest : ℕ) : Type 0 where
  pub no-bin-greater : (z : ℕ) → first (s.bins z) ≢ 0 → z ≤ largest + 4
  pub remainder-no-greater : s.rest ≤ largest + 4 + 8
  pub one-as-great : largest ≢ 0 → (first (s.bins (largest + 4)) ≢ 0) ⊎ (s.rest ≡ largest + 4 + 8)

module _ (s : State) (W : WellFormed s) where
  -- ---- by the plain rule
  rule-grants : greatest_givable (blocks s) - 4 ≢ 0 → Grants s (greatest_givable (blocks s) - 4)
  unfolding block_size
  rule-grants n =
      let b : block_size (greatest_givable (blocks s) - 4) ≡ greatest_givable (blocks s) = omega (arith, givable-eights (blocks s) W.sized) in
      granted-if s (greatest_givable (blocks s) - 4) n (source b (givable-source s W (omega arith)))
    where
      source : block_size (greatest_givable (blocks s) - 4) ≡ greatest_givable (blocks s)
          → (first (s.bins (greatest_givable (blocks s))) ≢ 0) ⊎ (greatest_givable (blocks s) + 8 ≡ s.rest)
          → (first (s.bins (block_size (greatest_givable (blocks s) - 4))) ≢ 0) ⊎ (block_size (greatest_givable (blocks s) - 4) + 8 ≤ s.rest)
      source b (inl m) = inl (subst (λ (z : ℕ). first (s.bins z) ≢ 0) (sym b) m)
      source b (inr e) = inr (omega arith)

  rule-refuses : (p : ℕ) → greatest_givable (blocks s) - 4 < p → take s p ≡ refused NoRoom s
  unfolding block_size
  rule-refuses p l =
      refused-if s p (omega arith)
      (λ z m. by= (first (s.bins z)) 0 (λ e. e) (λ n. absurd (omega (arith, bin-givable s W z n))))
      (omega (arith, rest-givable s W))

  pub plain-rule : largest_grant s ≡ greatest_givable (blocks s) - 4
  unfolding largest_grant
  plain-rule =
      greatest-is s 4294967295 (greatest_givable (blocks s) - 4) (omega (arith, givable-le (blocks s), W.fits)) rule-grants rule-refuses

  -- the same in the words of bins
  pub largest-by-bins : ByBins s (largest_grant s)
  largest-by-bins =
      record {
        no-bin-greater = λ z n. omega (arith, plain-rule, bin-givable s W z n);
        remainder-no-greater = omega (arith, plain-rule, rest-givable s W);
        one-as-great = λ n. as-great n (givable-source s W (λ e. n (omega (arith, plain-rule))));
      }
    where
      as-great : largest_grant s ≢ 0 → (first (s.bins (greatest_givable (blocks s))) ≢ 0) ⊎ (greatest_givable (blocks s) + 8 ≡ s.rest)
          → (first (s.bins (largest_grant s + 4)) ≢ 0) ⊎ (s.rest ≡ largest_grant s + 4 + 8)
      as-great n (inl m) =
          let e : greatest_givable (blocks s) ≡ largest_grant s + 4 = omega (arith, plain-rule) in
          inl (subst (λ (z : ℕ). first (s.bins z) ≢ 0) e m)
      as-great n (inr e) = inr (omega (arith, plain-rule))

  -- ---- the promise
  pub largest-granted : largest_grant s ≢ 0 → Grants s (largest_grant s)
  largest-granted n = subst (Grants s) (sym plain-rule) (rule-grants (λ e. n (plain-rule ∙ e)))

  pub greater-refused : (p : ℕ) → largest_grant s < p → take s p ≡ refused NoRoom s
  greater-refused p l = rule-refuses p (omega (arith, plain-rule))

  -- it is 0 exactly if every size from 1 on is refused
  pub none-refused : largest_grant s ≡ 0 → (p : ℕ) → 1 ≤ p → take s p ≡ refused NoRoom s
  none-refused e p l = greater-refused p (omega arith)

  pub refused_none : ((p : ℕ) → 1 ≤ p → p < 4294967296 → (k : Refusal) × ((take s p).answer ≡ Err k)) → largest_grant s ≡ 0
  refused_none r =
      by= (largest_grant s) 0 (λ e. e)
      (λ n. let g = largest-granted n in
      let h = r (largest_grant s) (omega arith) (omega (arith, plain-rule, givable-le (blocks s), W.fits)) in
      absurd (never (sym g.1 ∙ h.1)))
    where
      never : {k : Refusal} {o : ℕ} → Ok o ≡ Err k → ⊥
      never e = let z : ◌≡◌ {A = ℕ} 0 1 = cc in omega arith
