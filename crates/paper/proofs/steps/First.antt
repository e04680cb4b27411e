-- The first block of a bin leaves: level word and index words go to the second, or the index skips the bin. Every level at once.
use mathlib.Core.List.{List, [], ◌++◌, ◌∷◌}
use mathlib.Core.Logic.{◌≢◌, ◌⊎◌, inl, inr}
use mathlib.Core.Option.{none, some}
use mathlib.Core.Path.{◌∙◌, ◌≡◌, ap, refl, sym}
use Prim.Native.Nat.{◌%◌, ◌*◌, ◌+◌, ◌-◌, ◌<◌, ◌≤◌, suc, ℕ}
use native.Mathlib.Omega.{arith}
use Rattle.heads.specs.Links.{link_word}
use Rattle.paper.proofs.bins.Bins.{count-append, count-here, first_count, last_or, next-absent, prev-absent, prev-p}
use Rattle.paper.proofs.sheet.Fields.{at_back, at_level, at-word, false-word, height-le}
use Rattle.paper.proofs.steps.Leave.{NothingNew, above_same, frame, index-none, index_same, reach-same}
use Rattle.paper.proofs.steps.Leaving.{back-puts, height-top, leaves, leaving-loose, once-p, rebinned}
use Rattle.paper.proofs.bins.Listed.{Loose, rebin-other, rebin-same, start}
use Rattle.paper.proofs.bins.Seek.{seek_found, seek-gap, seek-keep, seek-other, seek-past}
use Rattle.paper.proofs.sheet.StoreRuns.{by_level, elsewhere-append, elsewhere-level, good-append, good-level}
use Rattle.paper.proofs.sheet.Stores.{Elsewhere, Good}
use Rattle.paper.proofs.runs.Walk.{In, in-aligned, in-low, in-unique}
use Rattle.paper.specs.Bins.{count, first, prev_in, rebin}
use Rattle.paper.specs.Blocks.{State, block, blocks, end, free, size}
use Rattle.paper.specs.Governed.{above, height, index, link, reach, sheet}
use Rattle.paper.specs.Layout.{blocks_at, false_block, large, level_at, previous_at}
use Rattle.words.specs.Choice.{by<, by=, if<-no, if<-yes, if=, ifs}

-- w stands on level j, at size y: the false block, at 64, or the first block of bin y, which reaches that level
abbrev pub OnLevel : State → ℕ → ℕ → ℕ → Type 0
OnLevel s j y w = ((y ≡ 64) × (w ≡ false_block)) ⊎ ((reach s.top (end s) s.bins j y ≡ w) × (w ≢ 0) × (large ≤ y))

-- the last on level j before bin z
pub record Pred (s : State) (z j y w : ℕ) : Type 0 where
  pub below : y < z
  pub gap : (u : ℕ) → y < u → u < z → reach s.top (end s) s.bins j u ≡ 0
  pub who : OnLevel s j y w

-- the second gets a level word
unfoldable pub level-puts : State → ℕ → List ℕ → List (ℕ × ℕ)
level-puts s z [] = []
level-puts s z (nx ∷ vs) = (nx + level_at, height s.top z) ∷ []

-- on level j it takes over the index word, and the one before bin z leads to it; or the one before passes over
unfoldable pub link-puts : State → ℕ → (ℕ → ℕ) → List ℕ → ℕ → List (ℕ × ℕ)
link-puts s z w [] j = (w j + (68 - 4 * j), link_word (w j) (above s.top (end s) s.bins j z)) ∷ []
link-puts s z w (nx ∷ vs) j =
    (nx + (68 - 4 * j), link_word nx (above s.top (end s) s.bins j z)) ∷ (w j + (68 - 4 * j), link_word (w j) nx) ∷ []

-- what those before bin z at level j find from now on
unfoldable pub heir : State → ℕ → ℕ → List ℕ → ℕ
heir s z j [] = above s.top (end s) s.bins j z
heir s z j (nx ∷ vs) = nx

unfoldable pub first-puts : State → ℕ → (ℕ → ℕ) → List ℕ → List (ℕ × ℕ)
first-puts s z w vs = back-puts 0 vs ++ (level-puts s z vs ++ by_level (height s.top z) (link-puts s z w vs))

-- a store is at the word of the one before
pub link_apart : (s : State) (z : ℕ) (w : ℕ → ℕ) (vs : List ℕ) (j a : ℕ) → Elsewhere a (link-puts s z w vs j) → a ≢ w j + (68 - 4 * j)
unfolding link-puts
link_apart s z w [] j a o = o.0
link_apart s z w (nx ∷ vs) j a o = o.1.0

-- reach, where it is not 0
pub reach-is : (t n : ℕ) (b : ℕ → List ℕ) (j y w : ℕ) → reach t n b j y ≡ w → w ≢ 0 → (first (b y) ≡ w) × (j ≤ height t y)
unfolding reach
reach-is t n b j y w e nz =
    by< (height t y) j (λ l. absurd (nz (sym e ∙ if<-yes (height t y) j 0 (first (b y)) l)))
    (λ l. (sym (if<-no (height t y) j 0 (first (b y)) l) ∙ e, l))

pub reach-at : (t n : ℕ) (b : ℕ → List ℕ) (j y : ℕ) → j ≤ height t y → reach t n b j y ≡ first (b y)
unfolding reach
reach-at t n b j y l = if<-no (height t y) j 0 (first (b y)) l

pub reach-low : (t n : ℕ) (b : ℕ → List ℕ) (j y : ℕ) → height t y < j → reach t n b j y ≡ 0
unfolding reach
reach-low t n b j y l = if<-yes (height t y) j 0 (first (b y)) l

module _ (s : State) (W : Loose s) (z p : ℕ) (vs : List ℕ) (is-in : s.bins z ≡ p ∷ vs) (is-large : large ≤ z) where
  abbrev pub reaches : ℕ → ℕ → ℕ
  reaches = reach s.top (end s) s.bins

  abbrev pub reaches' : ℕ → ℕ → ℕ
  reaches' = reach s.top (end s) (rebin s.bins z vs)

  pub p-in : 1 ≤ count p (s.bins z)
  p-in = rw is-in (omega (arith, count-here p vs))

  p-there : (q : ℕ) → count q vs ≤ count q (p ∷ vs)
  p-there q = omega (arith, count-append q (p ∷ []) vs)

  pub p-at : (blocks_at ≤ p) × (p + z ≤ end s) × (p % 8 ≡ 0)
  p-at = start s W z p p-in

  pub first-z : first (s.bins z) ≡ p
  unfolding first
  first-z = ap first is-in

  pub agree : (j y : ℕ) → y ≢ z → reaches' j y ≡ reaches j y
  agree j y n = reach-same s.top (end s) s.bins (rebin s.bins z vs) j y (ap first (rebin-other s.bins z vs y n))

  pub reaches-p : (j : ℕ) → j ≤ height s.top z → reaches j z ≡ p
  reaches-p j l = reach-at s.top (end s) s.bins j z l ∙ first-z

  -- p stands in bin z alone
  pub alone : (y : ℕ) → 1 ≤ count p (s.bins y) → y ≡ z
  alone y h = let f = W.found y p h in let k = W.found z p p-in in
      ap size (in-unique (blocks s) blocks_at 1 p (block y free) (block z free) f.0 k.0 W.sized f.1 k.1).0

  pub uniq : (j : ℕ) → j ≤ height s.top z → (w : ℕ) → reaches j w ≡ reaches j z → w ≡ z
  uniq j l w e =
      let e' : reaches j w ≡ p = e ∙ reaches-p j l in
      alone w (first_count (s.bins w) p (reach-is s.top (end s) s.bins j w p e' (omega (arith, p-at))).0 (omega (arith, p-at)))

  pub reaches_some : (j : ℕ) → j ≤ height s.top z → reaches j z ≢ 0
  reaches_some j l = omega (arith, reaches-p j l, p-at)

  -- the block above at level j: the same, if it was not p
  pub above-keep : (j y : ℕ) → (j ≤ height s.top z → above s.top (end s) s.bins j y ≢ p)
      → above s.top (end s) (rebin s.bins z vs) j y ≡ above s.top (end s) s.bins j y
  unfolding above
  above-keep j y k =
      by< (height s.top z) j
      (λ l. above_same s.top (end s) s.bins (rebin s.bins z vs) j y
      (λ w. by= w z (λ e. rw e (reach-low s.top (end s) (rebin s.bins z vs) j z l ∙ sym (reach-low s.top (end s) s.bins j z l)))
      (λ n. agree j w n)))
      (λ l. seek-keep (reaches j) (reaches' j) z (agree j) (reaches_some j l) (end s) (suc y) (λ e. k l (e ∙ reaches-p j l)))

  -- one block alone has p as the next at level j
  pub pred-unique : (j y₀ w y q : ℕ) → j ≤ height s.top z → Pred s z j y₀ w → OnLevel s j y q → above s.top (end s) s.bins j y ≡ p → q ≡ w
  unfolding above
  pred-unique j y₀ w y q l P o e = go P.who o
    where
      f : (suc y ≤ z) × ((u : ℕ) → suc y ≤ u → u < z → reaches j u ≡ 0)
      f = seek_found (reaches j) z (uniq j l) (reaches_some j l) (end s) (suc y) (e ∙ sym (reaches-p j l))

      go : OnLevel s j y₀ w → OnLevel s j y q → q ≡ w
      go (inl a) (inl b) = omega arith
      go (inl a) (inr b) = absurd (b.1 (sym b.0 ∙ P.gap y (omega arith) (omega (arith, f.0))))
      go (inr a) (inl b) = absurd (a.1 (sym a.0 ∙ f.1 y₀ (omega arith) P.below))
      go (inr a) (inr b) =
          by= y y₀ (λ h. sym b.0 ∙ ap (reaches j) h ∙ a.0)
          (λ h. by< y y₀ (λ m. absurd (a.1 (sym a.0 ∙ f.1 y₀ m P.below)))
          (λ m. absurd (b.1 (sym b.0 ∙ P.gap y (omega arith) (omega (arith, f.0))))))

  module _ (y₀ w : ℕ → ℕ) (preds : (j : ℕ) → 1 ≤ j → j ≤ height s.top z → Pred s z j (y₀ j) (w j)) where
    pub first_frame : (a : ℕ) → a % 4 ≡ 0 → Elsewhere a (first-puts s z w vs) → NothingNew (sheet (rebinned s z vs) a) (sheet s a)
    unfolding first-puts last_or first back-puts level-puts link-puts
    first_frame a al out =
        frame s (rebin s.bins z vs) z p [] vs (leaves s W z p [] vs is-in is-large) NothingNew (λ x y e. inr e) a al
        (λ _. inl (ap (link p) (prev-absent 0 vs p absent))) (λ _. inl (ap (link p) (next-absent vs p absent)))
        (λ l. back vs out-back.0 l) (λ l. omega arith)
        (λ j j1 jt e. above-keep j 64 (λ l h. out-links j j1 l
        (e ∙ ap (λ (v : ℕ). v + (68 - 4 * j)) (pred-unique j (y₀ j) (w j) 64 false_block l (preds j j1 l) (inl (refl, refl)) h))))
        index-words
      where
        absent : count p vs ≡ 0
        absent = omega (arith, once-p s W z p [] vs is-in is-large)

        out-back : Elsewhere a (back-puts 0 vs) × Elsewhere a (level-puts s z vs ++ by_level (height s.top z) (link-puts s z w vs))
        out-back = elsewhere-append a (back-puts 0 vs) _ out

        out-level : Elsewhere a (level-puts s z vs) × Elsewhere a (by_level (height s.top z) (link-puts s z w vs))
        out-level = elsewhere-append a (level-puts s z vs) _ out-back.1

        out-words : (j : ℕ) → 1 ≤ j → j ≤ height s.top z → Elsewhere a (link-puts s z w vs j)
        out-words = elsewhere-level a (height s.top z) (link-puts s z w vs) out-level.1

        out-links : (j : ℕ) → 1 ≤ j → j ≤ height s.top z → a ≢ w j + (68 - 4 * j)
        out-links j j1 l = link_apart s z w vs j a (out-words j j1 l)

        back : (vs : List ℕ) → Elsewhere a (back-puts 0 vs) → blocks_at ≤ a → a ≢ first vs + previous_at
        back [] o l = omega arith
        back (nx ∷ ws) o l = o.0

        mine : (ws : List ℕ) (q y : ℕ) → Elsewhere a (level-puts s z ws)
            → ((j : ℕ) → 1 ≤ j → j ≤ height s.top z → Elsewhere a (link-puts s z w ws j))
            → y ≡ z → first ws ≡ q → blocks_at ≤ q → q ≤ a → (a - q) % 4 ≡ 0
            → index s.top (end s) (rebin s.bins z vs) none (height s.top y) q y (a - q) ≡ none
        mine [] q y o os e f l qa o4 = absurd (omega arith)
        mine (nx ∷ ws) q y o os e f l qa o4 =
            index-none s.top (end s) (rebin s.bins z vs) (height s.top y) q y (a - q) o4 (height-top s W y) (λ k. o.0 (omega arith))
            (λ j j1 jh k. (os j j1 (rw e at jh)).0 (omega (arith, height-top s W y)))

        index-words : (q y P : ℕ) → In (blocks s) blocks_at 1 q (block y free) P → large ≤ y → q ≤ a → a < q + y
            → NothingNew (if= (first (rebin s.bins z vs y)) q (index s.top (end s) (rebin s.bins z vs) none (height s.top y) q y (a - q)) none)
            (if= (first (s.bins y)) q (index s.top (end s) s.bins none (height s.top y) q y (a - q)) none)
        index-words q y P h y72 qa ab =
            let q168 : blocks_at ≤ q = in-low (blocks s) blocks_at 1 q (block y free) P h in
            let o4 : (a - q) % 4 ≡ 0 = omega (arith, in-aligned (blocks s) blocks_at 1 q (block y free) P W.sized refl h) in
            by= y z
            (λ e. inl (by= (first (rebin s.bins z vs y)) q
            (λ f. simp ifs (mine vs q y out-level.0 out-words e (sym (ap first (ap (rebin s.bins z vs) e ∙ rebin-same s.bins z vs)) ∙ f) q168 qa o4))
            (λ f. simp ifs)))
            (λ n. inr (rw (rebin-other s.bins z vs y n)
            (by= (first (s.bins y)) q
            (λ f. simp ifs (index_same s.top (end s) s.bins (rebin s.bins z vs) none (height s.top y) q y (a - q) o4 (height-top s W y)
            (λ j j1 jy e. above-keep j y (λ l k.
            out-links j j1 l (let u : q ≡ w j = pred-unique j (y₀ j) (w j) y q l (preds j j1 l)
            (inr (reach-at s.top (end s) s.bins j y jy ∙ f, omega arith, y72)) k in omega (arith, height-top s W y))))))
            (λ f. simp ifs))))

    -- what is found past p's bin is found there still
    pub past_same : (j : ℕ) → above s.top (end s) (rebin s.bins z vs) j z ≡ above s.top (end s) s.bins j z
    unfolding above
    past_same j = above-keep j z (λ l e. omega (arith, (seek_found (reaches j) z (uniq j l) (reaches_some j l) (end s) (suc z) (e ∙ sym (reaches-p j l))).0))

    -- no bin is larger than the pool
    pub none-past : (j y : ℕ) → end s < y → reaches' j y ≡ 0
    none-past j y l =
        by= (reaches' j y) 0 (λ e. e)
        (λ n. let r = reach-is s.top (end s) (rebin s.bins z vs) j y (reaches' j y) refl n in
        let W' : Loose (rebinned s z vs) = leaving-loose s W z p [] vs is-in is-large in
        absurd (omega (arith, start (rebinned s z vs) W' y (reaches' j y) (first_count (rebin s.bins z vs y) (reaches' j y) r.0 n))))

    pub found-p : (j : ℕ) → 1 ≤ j → j ≤ height s.top z → above s.top (end s) s.bins j (y₀ j) ≡ p
    unfolding above
    found-p j j1 l =
        let P = preds j j1 l in
        seek-gap (reaches j) z (reaches_some j l) (end s) (suc (y₀ j)) P.below (omega (arith, p-at)) (λ u a b. P.gap u a b) ∙ reaches-p j l

    -- what the one before finds from now on
    pub new-above : (j : ℕ) → 1 ≤ j → j ≤ height s.top z → above s.top (end s) (rebin s.bins z vs) j (y₀ j) ≡ heir s z j vs
    unfolding heir above first
    new-above j j1 l = go vs refl
      where
        e : above s.top (end s) s.bins j (y₀ j) ≡ reaches j z
        e = found-p j j1 l ∙ sym (reaches-p j l)

        reaches-second : (ws : List ℕ) → vs ≡ ws → reaches' j z ≡ first ws
        reaches-second ws q = reach-at s.top (end s) (rebin s.bins z vs) j z l ∙ ap first (rebin-same s.bins z vs ∙ q)

        go : (ws : List ℕ) → vs ≡ ws → above s.top (end s) (rebin s.bins z vs) j (y₀ j) ≡ heir s z j ws
        go [] q =
            seek-past (reaches j) (reaches' j) z (agree j) (uniq j l) (reaches_some j l) (end s) (end s) (none-past j) (omega arith)
            (reaches-second [] q) (end s) (suc (y₀ j)) (omega arith) e ∙ past_same j
        go (nx ∷ ws) q =
            let nx-in : 1 ≤ count nx (s.bins z) = omega (arith, ap (count nx) is-in, p-there nx, ap (count nx) q, count-here nx ws) in
            seek-other (reaches j) (reaches' j) z (agree j) (uniq j l) (reaches_some j l)
            (omega (arith, start s W z nx nx-in, reaches-second (nx ∷ ws) q)) (end s) (suc (y₀ j)) e
            ∙ reaches-second (nx ∷ ws) q

    -- the stores fit every later state that has these bins
    module _ (s' : State) (W' : Loose s') (bs' : s'.bins ≡ rebin s.bins z vs) (te : s'.top ≡ s.top) (ee : end s' ≡ end s) where
      pub first_good : Good (sheet s') (end s') (first-puts s z w vs)
      unfolding first-puts back-puts level-puts link-puts heir last_or first count
      first_good =
          good-append (sheet s') (end s') (back-puts 0 vs) _ (back-good vs refl)
          (good-append (sheet s') (end s') (level-puts s z vs) _ (level-good vs refl)
          (good-level (sheet s') (end s') (height s.top z) (link-puts s z w vs) (λ j j1 l. link-good vs refl j j1 l (word_good j j1 l (preds j j1 l)))))
        where
          bins-z : s'.bins z ≡ vs
          bins-z = ap (λ (f : ℕ → List ℕ). f z) bs' ∙ rebin-same s.bins z vs

          same-height : (y : ℕ) → height s'.top y ≡ height s.top y
          same-height y = ap (λ (t : ℕ). height t y) te

          same_above : (j y : ℕ) → above s'.top (end s') s'.bins j y ≡ above s.top (end s) (rebin s.bins z vs) j y
          same_above j y = λ i. above (te i) (ee i) (bs' i) j y

          nx-at : (nx : ℕ) (ws : List ℕ) → vs ≡ nx ∷ ws
              → ((blocks_at ≤ nx) × (nx + z ≤ end s') × (nx % 8 ≡ 0)) × ((P : ℕ) × In (blocks s') blocks_at 1 nx (block z free) P) × (first (s'.bins z) ≡ nx)
          nx-at nx ws e =
              let i : 1 ≤ count nx (s'.bins z) = rw (bins-z, e) (omega (arith, count-here nx ws)) in
              (start s' W' z nx i, W'.found z nx i, ap first (bins-z ∙ e))

          back-good : (ws : List ℕ) → vs ≡ ws → Good (sheet s') (end s') (back-puts 0 ws)
          back-good [] e = tt
          back-good (nx ∷ ws) e =
              let b = nx-at nx ws e in (
                (
                  omega arith,
                  omega arith,
                  at_back s' nx z b.1.0 b.1.1 is-large ∙ ap (link nx) (ap (λ (l : List ℕ). prev_in 0 l nx) (bins-z ∙ e) ∙ prev-p 0 nx [] ws refl),
                ),
                tt,
              )

          level-good : (ws : List ℕ) → vs ≡ ws → Good (sheet s') (end s') (level-puts s z ws)
          level-good [] e = tt
          level-good (nx ∷ ws) e =
              let b = nx-at nx ws e in
              ((omega arith, omega arith, at_level s' nx z b.1.0 b.1.1 is-large b.2 ∙ ap some (same-height z)), tt)

          link-good : (ws : List ℕ) → vs ≡ ws → (j : ℕ) → 1 ≤ j → j ≤ height s.top z
              → ((w j + (68 - 4 * j)) % 4 ≡ 0) × (w j + (68 - 4 * j) + 4 ≤ end s')
              × (sheet s' (w j + (68 - 4 * j)) ≡ some (link_word (w j) (heir s z j vs)))
              → Good (sheet s') (end s') (link-puts s z w ws j)
          link-good [] e j j1 l g = ((g.0, g.1, g.2 ∙ ap (λ (k : List ℕ). some (link_word (w j) (heir s z j k))) e), tt)
          link-good (nx ∷ ws) e j j1 l g =
              let b = nx-at nx ws e in (
                (
                  omega (arith, height-top s W z),
                  omega arith,
                  at-word s' nx z b.1.0 b.1.1 is-large b.2 j j1 (omega (arith, same-height z)) W'.top13
                      ∙ ap (λ (v : ℕ). some (link_word nx v)) (same_above j z ∙ past_same j),
                ),
                ((g.0, g.1, g.2 ∙ ap (λ (k : List ℕ). some (link_word (w j) (heir s z j k))) e), tt),
              )

          word_good : (j : ℕ) → 1 ≤ j → j ≤ height s.top z → Pred s z j (y₀ j) (w j)
              → ((w j + (68 - 4 * j)) % 4 ≡ 0) × (w j + (68 - 4 * j) + 4 ≤ end s')
              × (sheet s' (w j + (68 - 4 * j)) ≡ some (link_word (w j) (heir s z j vs)))
          word_good j j1 l P = go P.who
            where
              go : OnLevel s j (y₀ j) (w j) → ((w j + (68 - 4 * j)) % 4 ≡ 0) × (w j + (68 - 4 * j) + 4 ≤ end s')
                  × (sheet s' (w j + (68 - 4 * j)) ≡ some (link_word (w j) (heir s z j vs)))
              go (inl b) = (
                omega (arith, height-top s W z),
                omega (arith, p-at, ee),
                rw b.1 (false-word s' j j1 (omega (arith, height-le s.top z, te)) W'.top13
                    ∙ ap (λ (v : ℕ). some (link_word false_block v))
                    (same_above j 64 ∙ ap (above s.top (end s) (rebin s.bins z vs) j) (sym b.0) ∙ new-above j j1 l)),
              )
              go (inr b) =
                  let r = reach-is s.top (end s) s.bins j (y₀ j) (w j) b.0 b.1 in
                  let n : y₀ j ≢ z = omega (arith, P.below) in
                  let i : 1 ≤ count (w j) (s.bins (y₀ j)) = first_count (s.bins (y₀ j)) (w j) r.0 b.1 in
                  let by : s'.bins (y₀ j) ≡ s.bins (y₀ j) = ap (λ (f : ℕ → List ℕ). f (y₀ j)) bs' ∙ rebin-other s.bins z vs (y₀ j) n in
                  let f = W'.found (y₀ j) (w j) (rw by i) in let st = start s W (y₀ j) (w j) i in (
                    omega (arith, height-top s W z),
                    omega (arith, ee),
                    at-word s' (w j) (y₀ j) f.0 f.1 b.2 (ap first by ∙ r.0) j j1 (omega (arith, r.1, same-height (y₀ j))) W'.top13
                        ∙ ap (λ (v : ℕ). some (link_word (w j) v)) (same_above j (y₀ j) ∙ new-above j j1 l),
                  )
