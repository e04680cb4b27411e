-- What a run of blocks that was walked has read, and that it passes what is there; the marks are its free blocks.
use mathlib.Core.List.{List, [], ◌∷◌}
use mathlib.Core.Logic.{◌≢◌, inl, inr}
use mathlib.Core.Path.{◌∙◌, ◌≡◌, ap, refl, subst, sym}
use Prim.Native.Nat.{◌%◌, ◌*◌, ◌+◌, ◌-◌, ◌<◌, ◌≤◌, suc, zero, ℕ}
use native.Mathlib.Omega.{arith}
use lib.ListN.{length}
use Rattle.guards.proofs.Guards.{guard-inv, guard-yes}
use Rattle.accept.proofs.MarkLists.{list_marks}
use Rattle.runs.specs.Runs.{fit_tests, free_tests, scan, seen, small, stray}
use Rattle.heads.specs.Heads.{size_at}
use Rattle.guards.specs.Tests.{same}
use Rattle.paper.proofs.bins.Bins.{count-cons}
use Rattle.paper.proofs.runs.Walk.{In}
use Rattle.paper.specs.Bins.{count}
use Rattle.paper.specs.Blocks.{Block, Kind, block, free, free_sum, held, remainder, size, total}
use Rattle.paper.specs.Governed.{flag_above, head_word}
use Rattle.paper.specs.Layout.{large}
use Rattle.paper.specs.Sound.{free_at}
use Rattle.words.specs.Choice.{by<, by=, if<-no, if<-yes, if=-no, if=-yes, ifs}
use Rattle.words.specs.Words.{word_at}

pub small-le : (z : ℕ) → small z ≤ 1
small-le z = by< z large (λ l. simp ifs (omega arith)) (λ l. simp ifs (omega arith))

pub stray-seen : {M : Type 0} (n : ℕ) (ms : M) (sum : ℕ) → stray ≢ seen n ms sum
stray-seen n ms sum e = let z : ◌≡◌ {A = ℕ} 0 1 = cc in omega arith

-- the starts of the free ones, the last first, before ms
unfoldable pub push : List Block → ℕ → List ℕ → List ℕ
push [] p ms = ms
push (block z held ∷ xs) p ms = push xs (p + z) ms
push (block z remainder ∷ xs) p ms = push xs (p + z) ms
push (block z free ∷ xs) p ms = push xs (p + z) (p ∷ ms)

module _ (bs : List ℕ) where
  abbrev pub Fit : ℕ → ℕ → Type 0
  Fit c z = (8 ≤ z) × (small z ≡ c) × (z % 8 ≡ 0)

  abbrev pub Run : ℕ → ℕ → List Block → Type 0
  Run c P [] = P ≡ 1
  Run c P (block z held ∷ xs) = Fit c z × Run c 1 xs
  Run c P (block z free ∷ xs) = Fit c z × (P ≡ 1) × Run c c xs
  Run c P (block z remainder ∷ xs) = ⊥

  abbrev pub Foot : ℕ → ℕ → Kind → ℕ → Type 0
  Foot q z held P = Unit {0}
  Foot q z remainder P = Unit {0}
  Foot q z free P = large ≤ z → word_at 4 bs (q + (z - 4)) ≡ head_word z free P

  abbrev pub Facts : List Block → ℕ → ℕ → Type 0
  Facts xs p P = (q z : ℕ) (k : Kind) (P' : ℕ) → In xs p P q (block z k) P' → (word_at 4 bs q ≡ head_word z k P') × Foot q z k P'

  facts-cons : (z : ℕ) (k : Kind) (xs : List Block) (p P : ℕ) → word_at 4 bs p ≡ head_word z k P → Foot p z k P
      → Facts xs (p + z) (flag_above (block z k)) → Facts (block z k ∷ xs) p P
  facts-cons z k xs p P h f r q y l P' (inl i) =
      let a : y ≡ z = ap size i.1 in
      let b : l ≡ k = ap kind i.1 in
      rw (i.0, a, b, i.2) (h, f)
    where
      kind : Block → Kind
      kind (block z k) = k
  facts-cons z k xs p P h f r q y l P' (inr i) = r q y l P' i

  abbrev pub Scan : ℕ → ℕ → ℕ → ℕ → List ℕ → ℕ → ℕ → List ℕ → ℕ → Type 0
  Scan c e p P ms sum n' ms' sum' = (xs : List Block) × Run c P xs × Facts xs p P × (p + total xs ≡ e) × (ms' ≡ push xs p ms)
      × (sum' ≡ sum + free_sum xs) × (n' ≡ length ms')

  pub scan-inv : (k c e p P n : ℕ) (ms : List ℕ) (sum n' : ℕ) (ms' : List ℕ) (sum' : ℕ) → P ≤ 1 → c ≤ 1 → n ≡ length ms
      → scan list_marks bs k c e p (2 * P + 1) n ms sum ≡ seen n' ms' sum' → Scan c e p P ms sum n' ms' sum'
  unfolding scan push
  scan-inv zero c e p P n ms sum n' ms' sum' b b' l h = absurd (stray-seen n' ms' sum' h)
  scan-inv (suc k) c e p P n ms sum n' ms' sum' b b' l h =
      by= p e
      (λ i. let r = guard-inv (same (2 * P + 1) 3 ∷ []) stray (seen n ms sum) (seen n' ms' sum') (stray-seen n' ms' sum') (sym (if=-yes p e _ _ i) ∙ h) in
      let r1 : seen n ms sum ≡ seen n' ms' sum' = r.1 in let a3 : n' ≡ n = cc in
      let a1 : ms' ≡ ms = cc in let a2 : sum' ≡ sum = cc in
      ([], omega (arith, r.0.0), (λ q z l P' m. absurd m), omega arith, a1, omega arith, a3 ∙ l ∙ ap length (sym a1)))
      (λ i. let r = guard-inv (fit_tests bs c e p) stray _ (seen n' ms' sum') (stray-seen n' ms' sum') (sym (if=-no p e _ _ i) ∙ h) in
      let fit : Fit c (size_at bs p) = (r.0.0, r.0.1.0, r.0.1.1.0) in let last = r.0.1.1.1.0 in
      by= (word_at 4 bs p % 4) (2 * P + 1)
      (λ a. let v = scan-inv k c e (p + size_at bs p) 1 n ms sum n' ms' sum' (omega arith) b' l
      (sym (if=-yes (word_at 4 bs p % 4) (2 * P + 1) _ _ a) ∙ r.1) in (
        block (size_at bs p) held ∷ v.0,
        (fit, v.1),
        facts-cons (size_at bs p) held v.0 p P (omega arith) tt v.2,
        omega
            (arith, v.3),
        v.4,
        v.5,
        v.6,
      ))
      (λ a. let g = guard-inv (free_tests bs (2 * P + 1) p) stray _ (seen n' ms' sum')
      (stray-seen n' ms' sum')
      (sym (if=-no (word_at 4 bs p % 4) (2 * P + 1) _ _ a) ∙ r.1) in
      let v = scan-inv k c e (p + size_at bs p) c (suc n) (p ∷ ms) (sum + size_at bs p) n' ms' sum' b' b' (ap suc l) g.1 in
      let hd : word_at 4 bs p ≡ head_word (size_at bs p) free P = omega (arith, g.0.0, g.0.1.0) in (
        block (size_at bs p) free ∷ v.0,
        (fit, omega (arith, g.0.0), v.1),
        facts-cons (size_at bs p) free v.0 p P hd (λ m. sym (if<-no (size_at bs p) 72 _ _ m) ∙ g.0.1.1.0 ∙ hd)
            (subst (λ (u : ℕ). Facts v.0 (p + size_at bs p) u) (sym r.0.1.0) v.2),
        omega (arith, v.3),
        v.4,
        omega (arith, v.5),
        v.6,
      )))

  facts-tail : (z : ℕ) (k : Kind) (xs : List Block) (p P : ℕ) → Facts (block z k ∷ xs) p P → Facts xs (p + z) (flag_above (block z k))
  facts-tail z k xs p P f q y l P' i = f q y l P' (inr i)

  pub scan-yes : (xs : List Block) (k c e p P n : ℕ) (ms : List ℕ) (sum : ℕ) → P ≤ 1 → c ≤ 1 → n ≡ length ms → total xs < k → p + total xs ≡ e
      → Run c P xs → Facts xs p P
      → scan list_marks bs k c e p (2 * P + 1) n ms sum ≡ seen (length (push xs p ms)) (push xs p ms) (sum + free_sum xs)
  unfolding scan push
  scan-yes xs zero c e p P n ms sum b b' ln f i r h = absurd (omega arith)
  scan-yes [] (suc k) c e p P n ms sum b b' ln f i r h =
      if=-yes p e _ _ (omega arith) ∙ if=-yes (2 * P + 1) 3 _ _ (omega arith) ∙ ap (λ (v : ℕ). seen v ms sum) ln ∙ ap (seen (length ms) ms) (omega arith)
  scan-yes (block z held ∷ xs) (suc k) c e p P n ms sum b b' ln f i r h =
      let d = h p z held P (inl (refl, refl, refl)) in
      let hd : word_at 4 bs p ≡ head_word z held P = d.0 in
      let s : size_at bs p ≡ z = omega (arith, r.0.2) in
      let r0 = r.0 in
      if=-no p e _ _ (omega arith)
      ∙ guard-yes (fit_tests bs c e p) stray _ (omega arith, (ap (λ (y : ℕ). small y) s ∙ r.0.1, (omega arith, (omega arith, tt))))
      ∙ if=-yes (word_at 4 bs p % 4) (2 * P + 1) _ _ (omega arith)
      ∙ ap (λ (y : ℕ). scan list_marks bs k c e (p + y) 3 n ms sum) s
      ∙ scan-yes xs k c e (p + z) 1 n ms sum (omega arith) b' ln (omega arith) (omega arith) r.1 (facts-tail z held xs p P h)
  scan-yes (block z free ∷ xs) (suc k) c e p P n ms sum b b' ln f i r h =
      let d = h p z free P (inl (refl, refl, refl)) in
      let hd : word_at 4 bs p ≡ head_word z free P = d.0 in
      let P1 : P ≡ 1 = r.1 in
      let s : size_at bs p ≡ z = omega (arith, r.0.2) in
      let r0 = r.0 in
      if=-no p e _ _ (omega arith)
      ∙ guard-yes (fit_tests bs c e p) stray _ (omega arith, (ap (λ (y : ℕ). small y) s ∙ r.0.1, (omega arith, (omega arith, tt))))
      ∙ if=-no (word_at 4 bs p % 4) (2 * P + 1) _ _ (omega arith)
      ∙ guard-yes (free_tests bs (2 * P + 1) p) stray _ (
        omega arith,
        (
          omega arith,
          (
            by< (size_at bs p) large (λ l. if<-yes (size_at bs p) 72 _ _ l)
                (λ l. if<-no (size_at bs p) 72 _ _ l ∙ ap (λ (y : ℕ). word_at 4 bs (p + (y - 4))) s ∙ d.1 (omega arith) ∙ sym hd),
            tt,
          ),
        ),
      )
      ∙ ap (λ (y : ℕ). scan list_marks bs k c e (p + y) (2 * c + 1) (suc n) (p ∷ ms) (sum + y)) s
      ∙ scan-yes xs k c e (p + z) c (suc n) (p ∷ ms) (sum + z) b' b' (ap suc ln) (omega arith) (omega arith) r.2
      (subst (λ (u : ℕ). Facts xs (p + z) u) r.0.1 (facts-tail z free xs p P h))
      ∙ ap (seen (length (push xs (p + z) (p ∷ ms))) (push xs (p + z) (p ∷ ms))) (omega arith)
  scan-yes (block z remainder ∷ xs) (suc k) c e p P n ms sum b b' ln f i r h = absurd r

  -- the marks are the free blocks
  pub count-push : (xs : List Block) (p P : ℕ) (ms : List ℕ) (q : ℕ) → P ≤ 1 → Facts xs p P
      → count q (push xs p ms) ≡ free_at xs p (size_at bs q) q + count q ms
  unfolding push free_at
  count-push [] p P ms q b f = omega arith
  count-push (block z held ∷ xs) p P ms q b f = count-push xs (p + z) 1 ms q (omega arith) (facts-tail z held xs p P f)
  count-push (block z remainder ∷ xs) p P ms q b f = count-push xs (p + z) 1 ms q (omega arith) (facts-tail z remainder xs p P f)
  count-push (block z free ∷ xs) p P ms q b f =
      let i = count-push xs (p + z) (small z) (p ∷ ms) q (small-le z) (facts-tail z free xs p P f) in
      let hd : word_at 4 bs p ≡ head_word z free P = (f p z free P (inl (refl, refl, refl))).0 in
      by= p q
      (λ e. let k : z ≡ size_at bs q = omega (arith, ap (size_at bs) e) in simp ifs (omega (arith, i, count-cons q p ms, if=-yes {A = ℕ} p q 1 0 e)))
      (λ n. by= z (size_at bs q) (λ k. simp ifs (omega (arith, i, count-cons q p ms, if=-no {A = ℕ} p q 1 0 n)))
      (λ k. simp ifs (omega (arith, i, count-cons q p ms, if=-no {A = ℕ} p q 1 0 n))))
