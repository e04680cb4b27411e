-- The bins that are there: the inspection follows each to its end, and at the end no mark is left and nothing is awaited.
use mathlib.Core.Bool.{false, true}
use mathlib.Core.List.{List, [], ◌∷◌}
use mathlib.Core.Logic.{◌≢◌, ◌⊎◌, ⊎_elim}
use mathlib.Core.Path.{◌∙◌, ◌≡◌, ap, refl, subst, sym}
use Prim.Native.Nat.{◌%◌, ◌*◌, ◌+◌, ◌-◌, ◌<◌, ◌≤◌, suc, zero, ℕ}
use native.Mathlib.Omega.{arith}
use lib.ListN.{length}
use Rattle.accept.proofs.Above.{above-nil, above-skip, above-stop}
use Rattle.accept.proofs.Awaited.{Link, awaited, ended-yes, indexed-inv, indexed-yes}
use Rattle.accept.proofs.Chains.{LinkedL, LinkedS, first-nil, height-pos, some-length}
use Rattle.guards.proofs.Guards.{guard-yes}
use Rattle.accept.proofs.MarkLists.{follow-yes, linked-empty, list_marks}
use Rattle.lists.specs.Index.{Awaited, astray, ended, first_tests, first_indexed, if_awaiting, indexed, next_on}
use Rattle.lists.specs.Lists.{Left, chain, follow, if_left, large_tests, left, lost, next_large, next_small, small_tests, smalls}
use Rattle.heads.specs.Heads.{size_at}
use Rattle.guards.specs.Tests.{holds, same}
use Rattle.paper.proofs.bins.Bins.{count-nil, first_count, nil-of}
use Rattle.paper.proofs.bins.Seek.{seek-none, seek-spec}
use Rattle.paper.proofs.sheet.Fields.{height-le}
use Rattle.paper.proofs.steps.First.{reach-at}
use Rattle.paper.specs.Bins.{count, first}
use Rattle.paper.specs.Governed.{above, height, reach}
use Rattle.paper.specs.Layout.{large, level_at, levels, small_bins}
use Rattle.words.specs.Choice.{by<, by=, if<, if<-no, if<-yes, if=-no, if=-yes}
use Rattle.words.specs.Words.{word_at}

module _ (bs : List ℕ) where
  module _ (n : ℕ) (bins : ℕ → List ℕ)
      (sizes : (z x : ℕ) → 1 ≤ count x (bins z) → (size_at bs x ≡ z) × (8 ≤ z) × (z % 8 ≡ 0) × (z ≤ n))
      (linked-small : (z : ℕ) → z ≤ 64 → LinkedS bs z (bins z)) (linked-large : (z : ℕ) → 64 < z → LinkedL bs z (bins z)) where
    -- the marks that are left are those of the bins past size y
    abbrev pub Rest : ℕ → List ℕ → Type 0
    Rest y ms = (x : ℕ) → count x ms ≡ if< y (size_at bs x) (count x (bins (size_at bs x))) 0

    pub rest_le : (y z : ℕ) (ms : List ℕ) (x : ℕ) → Rest y ms → y < z → count x (bins z) ≤ count x ms
    rest_le y z ms x r l =
        by= (count x (bins z)) 0 (λ e. omega arith)
        (λ o. let s : size_at bs x ≡ z = (sizes z x (omega arith)).0 in let m : y < size_at bs x = omega arith in
        omega (arith, r x, if<-yes {A = ℕ} y (size_at bs x) (count x (bins (size_at bs x))) 0 m, ap (λ (v : ℕ). count x (bins v)) s))

    pub advance : (y z : ℕ) (ms ms' : List ℕ) → Rest y ms → y < z → ((u x : ℕ) → y < u → u < z → count x (bins u) ≡ 0)
        → ((x : ℕ) → count x ms ≡ count x (bins z) + count x ms') → Rest z ms'
    advance y z ms ms' r l gap sp x =
        by< z (size_at bs x)
        (λ h. let m : y < size_at bs x = omega arith in
        let o : count x (bins z) ≡ 0 = by= (count x (bins z)) 0 (λ e. e) (λ k. absurd (omega (arith, (sizes z x (omega arith)).0))) in
        omega (
          arith,
          r x,
          sp x,
          if<-yes {A = ℕ} y (size_at bs x) (count x (bins (size_at bs x))) 0 m,
          if<-yes {A = ℕ} z (size_at bs x)
              (count x (bins (size_at bs x))) 0 h,
        ))
        (λ h. by< y (size_at bs x)
        (λ m. by= (size_at bs x) z
        (λ e. omega (
          arith,
          r x,
          sp x,
          if<-yes {A = ℕ} y (size_at bs x) (count x (bins (size_at bs x))) 0 m,
          if<-no {A = ℕ} z (size_at bs x)
              (count x (bins (size_at bs x))) 0 h,
          ap (λ (v : ℕ). count x (bins v)) e,
        ))
        (λ ne. omega (
          arith,
          r x,
          sp x,
          if<-yes {A = ℕ} y (size_at bs x) (count x (bins (size_at bs x))) 0 m,
          if<-no {A = ℕ} z (size_at bs x)
              (count x (bins (size_at bs x))) 0 h,
          gap (size_at bs x) x m (omega arith),
        )))
        (λ m. omega (
          arith,
          r x,
          sp x,
          if<-no {A = ℕ} y (size_at bs x) (count x (bins (size_at bs x))) 0 m,
          if<-no {A = ℕ} z (size_at bs x)
              (count x (bins (size_at bs x))) 0 h,
        )))

    module _ (fs : (z : ℕ) → 8 ≤ z → z ≤ 64 → z % 8 ≡ 0 → word_at 4 bs (z + small_bins) ≡ first (bins z)) where
      pub smalls-yes : (c z y k : ℕ) (ms : List ℕ) → z + 8 * c ≡ large → z % 8 ≡ 0 → y + 8 ≡ z → k ≡ length ms → Rest y ms
          → (k' : ℕ) × (ms' : List ℕ) × (smalls list_marks bs c z k ms ≡ left k' ms') × (k' ≡ length ms') × Rest 64 ms'
      unfolding smalls
      smalls-yes zero z y k ms e z8 yz i r = (k, ms, refl, i, subst (λ (v : ℕ). Rest v ms) (omega arith) r)
      smalls-yes (suc c) z y k ms e z8 yz i r =
          let f = follow-yes (small_tests bs z) (next_small bs) (bins z) k ms 0 i (linked-small z (omega arith)) (λ x. rest_le y z ms x r (omega arith)) in
          let gap : (u x : ℕ) → y < u → u < z → count x (bins u) ≡ 0 =
          λ u x a b. by= (count x (bins u)) 0 (λ e. e) (λ k. absurd (omega (arith, (sizes u x (omega arith)).1, (sizes u x (omega arith)).2))) in
          let n = smalls-yes c (z + 8) z f.0 f.1 (omega arith) (omega arith) refl f.4 (advance y z ms f.1 r (omega arith) gap f.3) in (
            n.0,
            n.1,
            ap (λ (m : Left (List ℕ)). if_left m lost (λ k' ms'. smalls list_marks bs c (z + 8) k' ms'))
                (ap (follow list_marks (small_tests bs z) (next_small bs) k ms 0) (fs z (omega arith) (omega arith) z8) ∙ f.2) ∙ n.2,
            n.3,
            n.4,
          )

    -- ---- in an index t high
    module _ (t : ℕ) (lay : (t ≡ 1) ⊎ (t ≡ levels))
        (tops : (z : ℕ) → 64 < z → first (bins z) ≢ 0 → (word_at 4 bs (first (bins z) + level_at) ≡ height t z)
        × ((j : ℕ) → 1 ≤ j → j ≤ height t z → Link bs j (first (bins z)) × (next_on bs j (first (bins z)) ≡ above t n bins j z))) where
      t1 : 1 ≤ t
      t1 = ⊎_elim (λ e. omega arith) (λ e. omega arith) lay

      t13 : t ≤ levels
      t13 = ⊎_elim (λ e. omega arith) (λ e. omega arith) lay

      out : (u : ℕ) → n < u → first (bins u) ≡ 0
      out u l = ap first (nil-of (bins u) (λ x. by= (count x (bins u)) 0 (λ e. e) (λ o. absurd (omega (arith, (sizes u x (omega arith)).3))))) ∙ first-nil

      -- every bin that is there stands on level 1
      on_one : (u : ℕ) → reach t n bins 1 u ≡ first (bins u)
      on_one u = reach-at t n bins 1 u (height-pos t u t1)

      -- nothing past y on level 1: no bin past y
      nothing-past : (y : ℕ) → above t n bins 1 y ≡ 0 → (u : ℕ) → y < u → first (bins u) ≡ 0
      unfolding above
      nothing-past y e u l =
          by< n u (λ m. out u m) (λ m. sym (on_one u) ∙ seek-none (reach t n bins 1) n (suc y) e u l (omega arith))

      none_left : (y : ℕ) (ms : List ℕ) → 64 ≤ y → Rest y ms → above t n bins 1 y ≡ 0 → (x : ℕ) → count x ms ≡ 0
      none_left y ms b r e x =
          by< y (size_at bs x)
          (λ l. r x ∙ if<-yes y (size_at bs x) _ _ l
          ∙ ap (count x) (linked-empty (large_tests bs (size_at bs x)) (next_large bs) (bins (size_at bs x)) 0 (linked-large (size_at bs x) (omega arith))
          (nothing-past y e (size_at bs x) l)) ∙ count-nil x)
          (λ l. r x ∙ if<-no y (size_at bs x) _ _ l)

      -- what the levels await past size y
      abbrev pub Begins : ℕ → ℕ → List ℕ → Type 0
      Begins y f ws = (j : ℕ) → 1 ≤ j → j ≤ t → awaited f ws j ≡ above t n bins j y

      chain-step : (c k : ℕ) (ms : List ℕ) (y z f : ℕ) (ws : List ℕ) → 64 ≤ y → y < z → k ≡ length ms → k < suc c → Rest y ms → length ws ≡ levels - 1
          → Begins y f ws → f ≢ 0 → first (bins z) ≡ f → ((u : ℕ) → y < u → u < z → first (bins u) ≡ 0)
          → ((k' : ℕ) (ms' : List ℕ) (ws' : List ℕ) → k' ≡ length ms' → k' < c → Rest z ms' → length ws' ≡ levels - 1 → Begins z (next_on bs 1 f) ws'
          → chain list_marks t bs c k' ms' z (next_on bs 1 f) ws' ≡ true)
          → chain list_marks t bs (suc c) k ms y f ws ≡ true
      unfolding chain first_indexed
      chain-step c k ms y z f ws b yz i h r lw begins ne e gap ih =
          let o : 1 ≤ count f (bins z) = first_count (bins z) f e ne in
          let sz = sizes z f o in
          let s : size_at bs f ≡ z = sz.0 in
          let nz : first (bins z) ≢ 0 = (λ v. ne (sym e ∙ v)) in
          let p = tops z (omega arith) nz in
          let h1 = height-pos t z t1 in
          let lv : (j : ℕ) → 1 ≤ j → j ≤ height t z → (awaited f ws j ≡ f) × Link bs j f =
          λ j j1 jh. (
            begins j j1 (omega (arith, height-le t z)) ∙ above-stop t n bins y z yz sz.3 gap j jh nz ∙ e,
            subst (Link bs j) e (p.1 j j1 jh).0,
          ) in
          let x = indexed-yes bs (height t z) f ws h1 (omega (arith, height-le t z, t13)) lv in
          let ix = indexed-inv bs (height t z) f ws x.0 lw x.1 in
          let w = follow-yes (large_tests bs z) (next_large bs) (bins z) k ms 0 i (linked-large z (omega arith)) (λ q. rest_le y z ms q r yz) in
          let none : (u q : ℕ) → y < u → u < z → count q (bins u) ≡ 0 =
          λ u q a d. ap (count q) (linked-empty (large_tests bs u) (next_large bs) (bins u) 0 (linked-large u (omega arith)) (gap u a d)) ∙ count-nil q in
          let begins' : Begins z (next_on bs 1 f) x.0 =
          λ j j1 jt. by< (height t z) j
          (λ lo. ix.others j h1 lo ∙ begins j j1 jt ∙ above-skip t n bins y z yz sz.3 gap out j lo)
          (λ hi. ix.next j j1 hi ∙ ap (next_on bs j) (sym e) ∙ (p.1 j j1 hi).1) in
          if=-no f 0 _ _ ne
          ∙ ap (λ (m : Awaited). if_awaiting m false (λ ws'. if_left (follow list_marks (large_tests bs (size_at bs f)) (next_large bs) k ms 0 f) false
          (λ k' ms'. chain list_marks t bs c k' ms' (size_at bs f) (next_on bs 1 f) ws')))
          (guard-yes (first_tests bs t y (size_at bs f) f) astray _
          (omega arith, (ap (λ (v : ℕ). word_at 4 bs (v + level_at)) (sym e) ∙ p.0 ∙ ap (height t) (sym s), tt))
          ∙ ap (λ (v : ℕ). indexed bs (height t v) f ws) s ∙ x.1)
          ∙ ap (λ (m : Left (List ℕ)). if_left m false (λ k' ms'. chain list_marks t bs c k' ms' (size_at bs f) (next_on bs 1 f) x.0))
          (ap (λ (v : ℕ). follow list_marks (large_tests bs v) (next_large bs) k ms 0 f) s
          ∙ ap (follow list_marks (large_tests bs z) (next_large bs) k ms 0) (sym e) ∙ w.2)
          ∙ ap (λ (v : ℕ). chain list_marks t bs c w.0 w.1 v (next_on bs 1 f) x.0) s
          ∙ ih w.0 w.1 x.0 w.4 (omega (arith, w.5, some-length (bins z) f o)) (advance y z ms w.1 r yz none w.3) (ix.long ∙ lw) begins'

      pub chain-yes : (c k : ℕ) (ms : List ℕ) (y f : ℕ) (ws : List ℕ) → 64 ≤ y → k ≡ length ms → k < c → Rest y ms → length ws ≡ levels - 1
          → Begins y f ws → chain list_marks t bs c k ms y f ws ≡ true
      unfolding chain above
      chain-yes zero k ms y f ws b i h r lw begins = absurd (omega arith)
      chain-yes (suc c) k ms y f ws b i h r lw begins =
          let f1 : f ≡ above t n bins 1 y = begins 1 (omega arith) t1 in
          by= f 0
          (λ e. let e1 : above t n bins 1 y ≡ 0 = sym f1 ∙ e in
          let nil = nil-of ms (none_left y ms b r e1) in
          if=-yes f 0 _ _ e
          ∙ guard-yes (same k 0 ∷ holds (ended t ws) ∷ []) false true (
            i ∙ ap length nil,
            (ended-yes t f ws lay (λ j j1 jt. begins j j1 jt ∙ above-nil t n bins j y (nothing-past y e1)), tt),
          ))
          (λ ne. let q = seek-spec (reach t n bins 1) n (suc y) (λ v. ne (f1 ∙ v)) in
          chain-step c k ms y q.0 f ws b q.1 i h r lw begins ne (sym (on_one q.0) ∙ q.2 ∙ sym f1) (λ u a d. sym (on_one u) ∙ q.3 u a d)
          (λ k' ms' ws' i' h' r' lw' begins'. chain-yes c k' ms' q.0 (next_on bs 1 f) ws' (omega (arith, q.1)) i' h' r' lw' begins'))
