-- What the levels of the index await, once over the level: what the tests of a block's index words have read, and that they pass what is there.
use mathlib.Core.Bool.{true}
use mathlib.Core.List.{List, [], ◌∷◌}
use mathlib.Core.Logic.{◌≢◌, ◌⊎◌, inl, inr}
use mathlib.Core.Path.{◌∙◌, ◌≡◌, ap, refl, sym}
use Prim.Native.Nat.{◌+◌, ◌-◌, ◌<◌, ◌≤◌, suc, zero, ℕ}
use native.Mathlib.Omega.{arith}
use lib.ListN.{get_or, length, length-set, set}
use lib.Seq.{get_or-set_other, get_or-set_same}
use Rattle.guards.proofs.Guards.{guard-inv, guard-yes, no_both}
use Rattle.guards.specs.Tests.{less, same}
use Rattle.heads.specs.Links.{link_word}
use Rattle.levels.specs.Levels.{word_of}
use Rattle.lists.specs.Index.{Awaited, astray, awaiting, climb, climbed, ended, if_awaiting, indexed, link_test, next_on, nothing}
use Rattle.paper.specs.Layout.{levels}
use Rattle.words.specs.Choice.{by=, if=-no, if=-yes}
use Rattle.words.specs.Words.{word_at}

-- level 1 awaits f, and the levels from 2 on what stands in ws
abbrev pub awaited : ℕ → List ℕ → ℕ → ℕ
awaited f ws j = get_or (f ∷ ws) (j - 1) 0

lowest : (f : ℕ) (ws : List ℕ) (j : ℕ) → j ≡ 1 → awaited f ws j ≡ f
lowest f ws j e = ap (λ (k : ℕ). get_or (f ∷ ws) (k - 1) 0) e

above-lowest : (f : ℕ) (ws : List ℕ) (j : ℕ) → 2 ≤ j → awaited f ws j ≡ get_or ws (j - 2) 0
above-lowest f ws j l = let e : j - 1 ≡ suc (j - 2) = omega arith in ap (λ (k : ℕ). get_or (f ∷ ws) k 0) e

pub astray-not : (ws : List ℕ) → astray ≢ awaiting ws
astray-not ws e = let z : ◌≡◌ {A = ℕ} 0 1 = cc in omega arith

pub inv-awaiting : {A : Type 0} (m : Awaited) (bad y : A) (f : List ℕ → A) → bad ≢ y → if_awaiting m bad f ≡ y
    → (ws : List ℕ) × (m ≡ awaiting ws) × (f ws ≡ y)
inv-awaiting astray bad y f n h = absurd (n h)
inv-awaiting (awaiting ws) bad y f n h = (ws, refl, h)

module _ (bs : List ℕ) where
  -- the word of f on level j is written as a distance is
  abbrev pub Link : ℕ → ℕ → Type 0
  Link j f = word_at 4 bs (f + word_of j) ≡ link_word f (next_on bs j f)

  record Climbed (c j f : ℕ) (ws ws' : List ℕ) : Type 0 where
    pub long : length ws' ≡ length ws
    pub here : (i : ℕ) → j ≤ i → i < j + c → (get_or ws (i - 2) 0 ≡ f) × Link i f
    pub next : (i : ℕ) → j ≤ i → i < j + c → get_or ws' (i - 2) 0 ≡ next_on bs i f
    pub others : (i : ℕ) → 2 ≤ i → (i < j) ⊎ (j + c ≤ i) → get_or ws' (i - 2) 0 ≡ get_or ws (i - 2) 0

  climb-inv : (c j f : ℕ) (ws ws' : List ℕ) → 2 ≤ j → j + c ≤ length ws + 2 → climb bs c j f ws ≡ awaiting ws' → Climbed c j f ws ws'
  unfolding climb
  climb-inv zero j f ws ws' l m h =
      let e : ws ≡ ws' = cc in
      record {
        long = ap length (sym e);
        here = λ i a b. absurd (omega arith);
        next = λ i a b. absurd (omega arith);
        others = λ i a o. ap (λ (v : List ℕ). get_or v (i - 2) 0) (sym e);
      }
  climb-inv (suc c) j f ws ws' l m h =
      let g = guard-inv (same (get_or ws (j - 2) 0) f ∷ link_test bs j f ∷ []) astray (climb bs c (j + 1) f (set ws (j - 2) (next_on bs j f))) (awaiting ws')
      (astray-not ws') h in
      let r = climb-inv c (j + 1) f (set ws (j - 2) (next_on bs j f)) ws' (omega arith) (omega (arith, length-set ws (j - 2) (next_on bs j f))) g.1 in
      let kept : (i : ℕ) → 2 ≤ i → i ≢ j → get_or (set ws (j - 2) (next_on bs j f)) (i - 2) 0 ≡ get_or ws (i - 2) 0 =
      λ i a n. get_or-set_other ws (j - 2) (i - 2) (next_on bs j f) 0 (λ e. n (omega arith)) in
      record {
        long = r.long ∙ length-set ws (j - 2) (next_on bs j f);
        here = λ i a b. by= i j (λ e. rw e (g.0.0, g.0.1.0))
            (λ n. let k = r.here i (omega arith) (omega arith) in (sym (kept i (omega arith) n) ∙ k.0, k.1));
        next = λ i a b. by= i j
            (λ e. rw e (r.others j l (inl (omega arith)) ∙ get_or-set_same ws (j - 2) (next_on bs j f) 0 (omega arith)))
            (λ n. r.next i (omega arith) (omega arith));
        others = λ i a o. r.others i a (wider i o) ∙ kept i a (apart i o);
      }
    where
      wider : (i : ℕ) → (i < j) ⊎ (j + suc c ≤ i) → (i < j + 1) ⊎ (j + 1 + c ≤ i)
      wider i (inl a) = inl (omega arith)
      wider i (inr a) = inr (omega arith)

      apart : (i : ℕ) → (i < j) ⊎ (j + suc c ≤ i) → i ≢ j
      apart i (inl a) = omega arith
      apart i (inr a) = omega arith

  climb-yes : (c j f : ℕ) (ws : List ℕ) → 2 ≤ j → ((i : ℕ) → j ≤ i → i < j + c → (get_or ws (i - 2) 0 ≡ f) × Link i f)
      → (ws' : List ℕ) × (climb bs c j f ws ≡ awaiting ws')
  unfolding climb
  climb-yes zero j f ws l h = (ws, refl)
  climb-yes (suc c) j f ws l h =
      let g = h j (omega arith) (omega arith) in
      let r = climb-yes c (j + 1) f (set ws (j - 2) (next_on bs j f)) (omega arith)
      (λ i a b. let k = h i (omega arith) (omega arith) in
      (get_or-set_other ws (j - 2) (i - 2) (next_on bs j f) 0 (omega arith) ∙ k.0, k.1)) in
      (r.0, guard-yes (same (get_or ws (j - 2) 0) f ∷ link_test bs j f ∷ []) astray _ (g.0, (g.1, tt)) ∙ r.1)

  -- the block f, h levels high: each of its levels awaited it, and awaits what its word leads to
  pub record Indexed (h f : ℕ) (ws ws' : List ℕ) : Type 0 where
    pub within : h ≤ levels
    pub long : length ws' ≡ length ws
    pub here : (j : ℕ) → 1 ≤ j → j ≤ h → (awaited f ws j ≡ f) × Link j f
    pub next : (j : ℕ) → 1 ≤ j → j ≤ h → awaited (next_on bs 1 f) ws' j ≡ next_on bs j f
    pub others : (j : ℕ) → 1 ≤ h → h < j → awaited (next_on bs 1 f) ws' j ≡ awaited f ws j

  pub indexed-inv : (h f : ℕ) (ws ws' : List ℕ) → length ws ≡ levels - 1 → indexed bs h f ws ≡ awaiting ws' → Indexed h f ws ws'
  unfolding indexed climbed
  indexed-inv h f ws ws' l e =
      let a = guard-inv (link_test bs 1 f ∷ []) astray _ (awaiting ws') (astray-not ws') e in
      let b = guard-inv (less h (suc levels) ∷ []) astray (climb bs (h - 1) 2 f ws) (awaiting ws') (astray-not ws') a.1 in
      let h13 : h ≤ 13 = omega (arith, b.0.0) in
      let r = climb-inv (h - 1) 2 f ws ws' (omega arith) (omega arith) b.1 in
      record {
        within = h13;
        long = r.long;
        here = λ j j1 jh. by= j 1 (λ i. rw i (refl, a.0.0))
            (λ n. let k = r.here j (omega arith) (omega arith) in (above-lowest f ws j (omega arith) ∙ k.0, k.1));
        next = λ j j1 jh. by= j 1 (λ i. rw i refl)
            (λ n. above-lowest (next_on bs 1 f) ws' j (omega arith) ∙ r.next j (omega arith) (omega arith));
        others = λ j h1 hj. above-lowest (next_on bs 1 f) ws' j (omega arith) ∙ r.others j (omega arith) (inr (omega arith))
            ∙ sym (above-lowest f ws j (omega arith));
      }

  pub indexed-yes : (h f : ℕ) (ws : List ℕ) → 1 ≤ h → h ≤ levels → ((j : ℕ) → 1 ≤ j → j ≤ h → (awaited f ws j ≡ f) × Link j f)
      → (ws' : List ℕ) × (indexed bs h f ws ≡ awaiting ws')
  unfolding indexed climbed
  indexed-yes h f ws h1 h13 k =
      let r = climb-yes (h - 1) 2 f ws (omega arith)
      (λ i a b. let e = k i (omega arith) (omega arith) in (sym (above-lowest f ws i a) ∙ e.0, e.1)) in (
        r.0,
        guard-yes (link_test bs 1 f ∷ []) astray _ ((k 1 (omega arith) h1).1, tt) ∙ guard-yes (less h (suc levels) ∷ []) astray _ (omega arith, tt) ∙ r.1,
      )

-- ---- at the end

nothing-inv : (c i : ℕ) (ws : List ℕ) → nothing c i ws ≡ true → (k : ℕ) → i ≤ k → k < i + c → get_or ws k 0 ≡ 0
unfolding nothing
nothing-inv zero i ws h k a b = absurd (omega arith)
nothing-inv (suc c) i ws h k a b =
    by= (get_or ws i 0) 0
    (λ e. by= k i (λ q. ap (λ (v : ℕ). get_or ws v 0) q ∙ e)
    (λ n. nothing-inv c (i + 1) ws (sym (if=-yes (get_or ws i 0) 0 _ _ e) ∙ h) k (omega arith) (omega arith)))
    (λ e. absurd (no_both (sym (if=-no (get_or ws i 0) 0 _ _ e) ∙ h)))

nothing-yes : (c i : ℕ) (ws : List ℕ) → ((k : ℕ) → i ≤ k → k < i + c → get_or ws k 0 ≡ 0) → nothing c i ws ≡ true
unfolding nothing
nothing-yes zero i ws h = refl
nothing-yes (suc c) i ws h =
    if=-yes (get_or ws i 0) 0 _ _ (h i (omega arith) (omega arith)) ∙ nothing-yes c (i + 1) ws (λ k a b. h k (omega arith) (omega arith))

pub ended-inv : (t f : ℕ) (ws : List ℕ) → t ≤ levels → f ≡ 0 → ended t ws ≡ true → (j : ℕ) → 1 ≤ j → j ≤ t → awaited f ws j ≡ 0
unfolding ended
ended-inv t f ws l f0 h j j1 jt =
    by= j 1 (λ e. lowest f ws j e ∙ f0)
    (λ n. above-lowest f ws j (omega arith)
    ∙ nothing-inv (levels - 1) 0 ws (sym (if=-no t 1 _ _ (omega arith)) ∙ h) (j - 2) (omega arith) (omega arith))

pub ended-yes : (t f : ℕ) (ws : List ℕ) → (t ≡ 1) ⊎ (t ≡ levels) → ((j : ℕ) → 1 ≤ j → j ≤ t → awaited f ws j ≡ 0) → ended t ws ≡ true
unfolding ended
ended-yes t f ws (inl e) h = if=-yes t 1 _ _ e
ended-yes t f ws (inr e) h =
    if=-no t 1 _ _ (omega arith)
    ∙ nothing-yes (levels - 1) 0 ws
    (λ k a b. ap (λ (v : ℕ). get_or ws v 0) (omega arith) ∙ sym (above-lowest f ws (k + 2) (omega arith)) ∙ h (k + 2) (omega arith) (omega arith))
