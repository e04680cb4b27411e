-- A free large block enters a bin that was empty, at every level. s has it, `rebinned s z []` has not.
use mathlib.Core.List.{List, [], ◌∷◌}
use mathlib.Core.Logic.{◌≢◌, inl, inr}
use mathlib.Core.Option.{none, some}
use mathlib.Core.Path.{◌∙◌, ◌≡◌, ap, refl, sym}
use Prim.Native.Nat.{◌%◌, ◌*◌, ◌+◌, ◌-◌, ◌<◌, ◌≤◌, ℕ}
use native.Mathlib.Omega.{arith}
use Rattle.heads.specs.Links.{link_word}
use Rattle.paper.proofs.bins.Bins.{first_count, last_or, next-p, prev-p}
use Rattle.paper.proofs.sheet.Fields.{at_back, at_level, at_on, at-word, false-word, height-le}
use Rattle.paper.proofs.steps.First.{OnLevel, Pred, above-keep, first-z, found-p, link-puts, p-at, p-in, pred-unique, reach-at, reach-is}
use Rattle.paper.proofs.steps.Leave.{NothingNew, frame, index-none, index_same}
use Rattle.paper.proofs.steps.Leaving.{height-top, leaves, rebinned}
use Rattle.paper.proofs.bins.Listed.{Loose, rebin-other, start}
use Rattle.paper.proofs.sheet.StoreRuns.{by_level, elsewhere-level, good-level}
use Rattle.paper.proofs.sheet.Stores.{Elsewhere, Good}
use Rattle.paper.proofs.runs.Walk.{In, in-aligned, in-low}
use Rattle.paper.specs.Bins.{count, first, next_in, prev_in, rebin}
use Rattle.paper.specs.Blocks.{State, block, blocks, end, free}
use Rattle.paper.specs.Governed.{above, height, index, link, sheet}
use Rattle.paper.specs.Layout.{blocks_at, false_block, large, level_at, next_at, previous_at}
use Rattle.words.specs.Choice.{by=, if=, ifs}

unfoldable pub only-puts : State → ℕ → ℕ → (ℕ → ℕ) → List (ℕ × ℕ)
only-puts s z p w =
    (p + previous_at, link_word p 0) ∷ (p + next_at, link_word p 0) ∷ (p + level_at, height s.top z)
    ∷ by_level (height s.top z) (link-puts s z w (p ∷ []))

module _ (s : State) (W : Loose s) (z p : ℕ) (is-in : s.bins z ≡ p ∷ []) (is-large : large ≤ z)
    (y₀ w : ℕ → ℕ) (preds : (j : ℕ) → 1 ≤ j → j ≤ height s.top z → Pred s z j (y₀ j) (w j)) where
  pub only-frame : (a : ℕ) → a % 4 ≡ 0 → Elsewhere a (only-puts s z p w) → NothingNew (sheet s a) (sheet (rebinned s z []) a)
  unfolding only-puts link-puts last_or first
  only-frame a al out =
      frame s (rebin s.bins z []) z p [] [] (leaves s W z p [] [] is-in is-large) (λ x y. NothingNew y x) (λ x y e. inr (sym e)) a al
      (λ e. absurd (out.0 e)) (λ e. absurd (out.1.0 e)) (λ l. omega arith) (λ l. omega arith)
      (λ j j1 jt e. above-keep s W z p [] is-in is-large j 64
      (λ l h. out-links j j1 l (e ∙ ap (λ (v : ℕ). v + (68 - 4 * j))
      (pred-unique s W z p [] is-in is-large j (y₀ j) (w j) 64 false_block l (preds j j1 l) (inl (refl, refl)) h))))
      index-words
    where
      out-words : (j : ℕ) → 1 ≤ j → j ≤ height s.top z → Elsewhere a (link-puts s z w (p ∷ []) j)
      out-words = elsewhere-level a (height s.top z) (link-puts s z w (p ∷ [])) out.1.1.1

      out-links : (j : ℕ) → 1 ≤ j → j ≤ height s.top z → a ≢ w j + (68 - 4 * j)
      out-links j j1 l = (out-words j j1 l).1.0

      index-words : (q y P : ℕ) → In (blocks s) blocks_at 1 q (block y free) P → large ≤ y → q ≤ a → a < q + y
          → NothingNew (if= (first (s.bins y)) q (index s.top (end s) s.bins none (height s.top y) q y (a - q)) none)
          (if= (first (rebin s.bins z [] y)) q (index s.top (end s) (rebin s.bins z []) none (height s.top y) q y (a - q)) none)
      index-words q y P h y72 qa ab =
          let q168 : blocks_at ≤ q = in-low (blocks s) blocks_at 1 q (block y free) P h in
          let o4 : (a - q) % 4 ≡ 0 = omega (arith, in-aligned (blocks s) blocks_at 1 q (block y free) P W.sized refl h) in
          by= y z
          (λ e. inl (by= (first (s.bins y)) q
          (λ f. let pq : p ≡ q = sym (first-z s W z p [] is-in is-large) ∙ ap (λ (k : ℕ). first (s.bins k)) (sym e) ∙ f in
          simp ifs (index-none s.top (end s) s.bins (height s.top y) q y (a - q) o4 (height-top s W y) (λ k. out.1.1.0 (omega arith))
          (λ j j1 jh k. (out-words j j1 (rw e at jh)).0 (omega (arith, height-top s W y)))))
          (λ f. simp ifs)))
          (λ n. inr (rw (rebin-other s.bins z [] y n)
          (by= (first (s.bins y)) q
          (λ f. simp ifs (sym (index_same s.top (end s) s.bins (rebin s.bins z []) none (height s.top y) q y (a - q) o4 (height-top s W y)
          (λ j j1 jy e. above-keep s W z p [] is-in is-large j y (λ l k.
          out-links j j1 l (let u : q ≡ w j = pred-unique s W z p [] is-in is-large j (y₀ j) (w j) y q l (preds j j1 l)
          (inr (reach-at s.top (end s) s.bins j y jy ∙ f, omega arith, y72)) k in omega (arith, height-top s W y)))))))
          (λ f. simp ifs))))

  pub only-good : Good (sheet s) (end s) (only-puts s z p w)
  unfolding only-puts link-puts last_or first count
  only-good = (
    (
      omega (arith, p-start),
      omega (arith, p-start),
      at_back s p z p-found.0 p-found.1 is-large
          ∙ ap (link p) (ap (λ (l : List ℕ). prev_in 0 l p) is-in ∙ prev-p 0 p [] [] refl),
    ),
    (
      (
        omega (arith, p-start),
        omega (arith, p-start),
        at_on s p z p-found.0 p-found.1 is-large
            ∙ ap (link p) (ap (λ (l : List ℕ). next_in l p) is-in ∙ next-p p [] [] refl),
      ),
      (
        (omega (arith, p-start), omega (arith, p-start), at_level s p z p-found.0 p-found.1 is-large (first-z s W z p [] is-in is-large)),
        good-level (sheet s) (end s) (height s.top z) (link-puts s z w (p ∷ []))
            (λ j j1 l. (
              (
                omega (arith, height-top s W z, p-start),
                omega (arith, p-start),
                at-word s p z p-found.0 p-found.1 is-large (first-z s W z p [] is-in is-large) j j1 l
                    W.top13,
              ),
              (word_good j j1 l (preds j j1 l).who, tt),
            )),
      ),
    ),
  )
    where
      p-found : (P : ℕ) × In (blocks s) blocks_at 1 p (block z free) P
      p-found = W.found z p (p-in s W z p [] is-in is-large)

      p-start : (blocks_at ≤ p) × (p + z ≤ end s) × (p % 8 ≡ 0)
      p-start = p-at s W z p [] is-in is-large

      above-is-p : (j : ℕ) → 1 ≤ j → j ≤ height s.top z → above s.top (end s) s.bins j (y₀ j) ≡ p
      above-is-p j j1 l = found-p s W z p [] is-in is-large y₀ w preds j j1 l

      word_good : (j : ℕ) → 1 ≤ j → j ≤ height s.top z → OnLevel s j (y₀ j) (w j)
          → ((w j + (68 - 4 * j)) % 4 ≡ 0) × (w j + (68 - 4 * j) + 4 ≤ end s) × (sheet s (w j + (68 - 4 * j)) ≡ some (link_word (w j) p))
      word_good j j1 l (inl b) = (
        omega (arith, height-top s W z),
        omega (arith, p-start),
        rw b.1 (false-word s j j1 (omega (arith, height-le s.top z)) W.top13
            ∙ ap (λ (v : ℕ). some (link_word false_block v)) (ap (above s.top (end s) s.bins j) (sym b.0) ∙ above-is-p j j1 l)),
      )
      word_good j j1 l (inr b) =
          let r = reach-is s.top (end s) s.bins j (y₀ j) (w j) b.0 b.1 in
          let i : 1 ≤ count (w j) (s.bins (y₀ j)) = first_count (s.bins (y₀ j)) (w j) r.0 b.1 in
          let g = W.found (y₀ j) (w j) i in let sw = start s W (y₀ j) (w j) i in (
            omega (arith, height-top s W z),
            omega arith,
            at-word s (w j) (y₀ j) g.0 g.1 b.2 r.0 j j1 r.1 W.top13 ∙ ap (λ (v : ℕ). some (link_word (w j) v)) (above-is-p j j1 l),
          )
