-- A free block that is in no list enters its bin, on bytes: a run of stores that the state alone tells. They fit the sheet of the state with
-- it in second place, or first.
use mathlib.Core.List.{List, [], ◌∷◌}
use mathlib.Core.Logic.{◌≢◌}
use mathlib.Core.Path.{◌∙◌, ◌≡◌, ap, fun_ext, refl, subst, sym}
use Prim.Native.Nat.{◌*◌, ◌+◌, ◌-◌, ◌≤◌, suc, zero, ℕ}
use native.Mathlib.Omega.{arith}
use Rattle.bins.proofs.Before.{before, pred-before, size_before}
use Rattle.bins.proofs.Between.{Between}
use Rattle.bins.proofs.Found.{Found, exact-found}
use Rattle.bins.proofs.Index.{Index, Spares, between-index, block-spares, index-puts}
use Rattle.bins.proofs.LeaveBytes.{link-none}
use Rattle.bins.proofs.Led.{Led, exact-led, found-empty}
use Rattle.bins.proofs.LinkRead.{next-in}
use Rattle.bins.proofs.Reheading.{rehead-stores}
use Rattle.bins.specs.Enter.{between, enter_at, enter_bin, enter_only, enter_second}
use Rattle.bins.specs.Find.{exact, linked_at}
use Rattle.bins.specs.Head.{rehead}
use Rattle.bins.specs.declared.chain.Bin.{Bin}
use Rattle.heads.specs.Links.{link_word}
use Rattle.paper.proofs.bins.Bins.{count-cons, count-here, last_or}
use Rattle.paper.proofs.bins.Listed.{Loose, start}
use Rattle.paper.proofs.runs.Walk.{In, in-high, in-low}
use Rattle.paper.proofs.sheet.FreeWordLast.{Past}
use Rattle.paper.proofs.sheet.Phases.{Step, step-write}
use Rattle.paper.proofs.sheet.StoreRuns.{by_level}
use Rattle.paper.proofs.sheet.Stores.{puts}
use Rattle.paper.proofs.steps.Enter.{enter-puts}
use Rattle.paper.proofs.steps.EnterStep.{entered-above, no-first, only_step, second-step, split-first}
use Rattle.paper.proofs.steps.First.{Pred, link-puts}
use Rattle.paper.proofs.steps.Leaving.{back-puts, height-top, rebinned}
use Rattle.paper.proofs.steps.Only.{only-puts}
use Rattle.paper.specs.Bins.{count, first, enter as enter-list}
use Rattle.paper.specs.Blocks.{State, block, blocks, end, free}
use Rattle.paper.specs.Governed.{height, sheet}
use Rattle.paper.specs.Layout.{blocks_at, large, level_at, next_at, previous_at}
use Rattle.paper.specs.Sheet.{write}
use Rattle.words.specs.Choice.{by=, if=-no, if=-yes, ifs}
use Rattle.words.specs.Words.{put_at}

abbrev pub with-entered : State → ℕ → ℕ → State
with-entered s q z = rebinned s z (enter-list q (s.bins z))

-- the stores, by the list of the bin
unfoldable pub entering-puts : State → ℕ → ℕ → List ℕ → List (ℕ × ℕ)
entering-puts s q z [] = only-puts (with-entered s q z) z q (before s z)
entering-puts s q z (f ∷ vs) = enter-puts f [] q vs

module _ (s : State) (W : Loose s) (q z P : ℕ) (at : In (blocks s) blocks_at 1 q (block z free) P) (un : count q (s.bins z) ≡ 0) (big : large ≤ z) where
  q-nonzero : q ≢ 0
  q-nonzero = omega (arith, in-low (blocks s) blocks_at 1 q (block z free) P at)

  -- ---- they are a step of the paper
  enter_step : (l : List ℕ) → s.bins z ≡ l → Step (end s) (sheet s) (sheet (with-entered s q z)) (entering-puts s q z l)
  unfolding entering-puts
  enter_step [] e = only_step s W q z P at un big e (size_before s z) (before s z) (λ j j1 jh. pred-before s j W z (omega arith))
  enter_step (f ∷ vs) e = second-step s W q z P at un big f vs e

  -- ---- and past the free word
  level-past : (w : ℕ → ℕ) (h : ℕ) → h ≤ 13 → Past (by_level h (link-puts (with-entered s q z) z w (q ∷ [])))
  unfolding link-puts
  level-past w zero l = tt
  level-past w (suc h) l = (omega arith, (omega arith, level-past w h (omega arith)))

  pub entering-past : (l : List ℕ) → Past (entering-puts s q z l)
  unfolding entering-puts only-puts enter-puts back-puts last_or
  entering-past [] = (omega arith, (omega arith, (omega arith, level-past (before s z) (height s.top z) (height-top s W z))))
  entering-past (f ∷ vs) = (omega arith, (omega arith, (omega arith, back vs)))
    where
      back : (ws : List ℕ) → Past (back-puts q ws)
      back [] = tt
      back (x ∷ ws) = (omega arith, tt)

  -- ---- the model makes them, in any bytes in which the index and the way on from the first read so
  module _ (cs : List ℕ) (I : Index s s.top cs) (on : (f : ℕ) (vs : List ℕ) → s.bins z ≡ f ∷ vs → linked_at cs f next_at ≡ first vs) where
    -- behind the first, f
    module _ (f : ℕ) (vs : List ℕ) (is-in : s.bins z ≡ f ∷ vs) where
      f-nonzero : f ≢ 0
      f-nonzero = omega (arith, (start s W z f (omega (arith, ap (count f) is-in, count-here f vs))).0)

      second-stores : (ws : List ℕ) → vs ≡ ws → enter_second cs f q ≡ puts (enter-puts f [] q ws) cs
      unfolding enter_second between enter-puts back-puts last_or first link_word
      second-stores [] e =
          let nx : linked_at cs f next_at ≡ 0 = on f vs is-in ∙ ap first e in
          let f0 : f ≢ 0 = f-nonzero in
          let q0 : q ≢ 0 = q-nonzero in
          rw nx (simp ifs)
      second-stores (x ∷ ws) e =
          let nx : linked_at cs f next_at ≡ x = on f vs is-in ∙ ap first e in
          let f0 : f ≢ 0 = f-nonzero in
          let q0 : q ≢ 0 = q-nonzero in
          let x-in : 1 ≤ count x (s.bins z) = omega (arith, ap (count x) is-in, count-cons x f vs, ap (count x) e, count-here x ws) in
          let x0 : x ≢ 0 = omega (arith, (start s W z x x-in).0) in
          rw nx (simp ifs)

    -- alone, where the bin is empty
    links-same : (w : ℕ → ℕ) → link-puts s z w (q ∷ []) ≡ link-puts (with-entered s q z) z w (q ∷ [])
    unfolding link-puts
    links-same w =
        fun_ext (λ j. ap (λ (v : ℕ). (q + (68 - 4 * j), link_word q v) ∷ (w j + (68 - 4 * j), link_word (w j) q) ∷ []) (sym (entered-above s W q z P at un j)))

    only_stores : (bin : Bin) → bin.level ≡ height s.top z → (y : ℕ) → Pred s z (height s.top z) y bin.before → first (s.bins z) ≡ 0
        → enter_only cs bin z q ≡ puts (only-puts (with-entered s q z) z q (before s z)) cs
    unfolding enter_only only-puts first
    only_stores bin highest y A e =
        let own : List (ℕ × ℕ) = (q + previous_at, link_word q 0) ∷ (q + next_at, link_word q 0) ∷ (q + level_at, height s.top z) ∷ [] in
        let J : Index s s.top (puts own cs) =
        index-puts s s.top own cs I (spares previous_at (omega arith) (omega arith), (spares next_at (omega arith) (omega arith), (spares level_at (omega arith) (omega arith), tt))) in
        (λ i. rehead (put_at 4 (put_at 4 (put_at 4 cs (q + previous_at) (sym (link-none q) i)) (q + next_at) (sym (link-none q) i)) (q + level_at) (highest i))
        bin z (sym e i) q)
        ∙ rehead-stores s W z big (q ∷ []) (P, at) (puts own cs) J bin highest y A
        ∙ ap (λ (f : ℕ → List (ℕ × ℕ)). puts (by_level (height s.top z) f) (puts own cs)) (links-same (before s z))
      where
        spares : (o : ℕ) → 4 ≤ o → o ≤ 12 → Spares s s.top (q + o)
        spares o a b = block-spares s W s.top q z P o big at a (omega (arith, W.top13))

    pub enter_bin-stores : end s ≤ 65536 → enter_bin cs q z ≡ puts (entering-puts s q z (s.bins z)) cs
    unfolding enter_bin enter_at entering-puts
    enter_bin-stores fits = go (exact cs z) (exact-found s W cs I z big (omega (arith, in-high (blocks s) blocks_at 1 q (block z free) P at)))
      where
        go : (bin : Bin) → Found s (height s.top z) z 0 bin → enter_at cs bin q z ≡ puts (entering-puts s q z (s.bins z)) cs
        go bin F =
            by= bin.size z
            (λ e. let L : Led s z bin = exact-led s W (height s.top z) z big bin F (omega arith) e in
            let c = split-first (s.bins z) bin.first (sym L.leads) L.some in
            if=-yes bin.size z _ _ e ∙ second-stores bin.first c.0 c.1 c.0 refl
            ∙ ap (λ (l : List ℕ). puts (entering-puts s q z l) cs) (sym c.1))
            (λ d. let o : first (s.bins z) ≡ 0 = found-empty s W (height s.top z) z big bin F (omega arith) d in
            if=-no bin.size z _ _ d ∙ only_stores bin F.level F.y F.pred o
            ∙ ap (λ (l : List ℕ). puts (entering-puts s q z l) cs) (sym (no-first s W z o)))

  -- ---- in bytes that hold the sheet
  module _ (bs : List ℕ) (B : Between s bs) where
    pub enter_bin-bytes : enter_bin bs q z ≡ write (sheet (with-entered s q z)) bs
    enter_bin-bytes =
        enter_bin-stores bs (between-index s bs B) (λ f vs e. next-in s bs B f z [] vs big e) B.fits
        ∙ step-write (sheet s) (sheet (with-entered s q z)) bs (entering-puts s q z (s.bins z))
        (subst (λ (n : ℕ). Step n (sheet s) (sheet (with-entered s q z)) (entering-puts s q z (s.bins z))) (sym B.long) (enter_step (s.bins z) refl))
        B.holds
