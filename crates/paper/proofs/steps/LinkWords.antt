-- The words that the lists govern. Leaving stores at such words only; what a later state no longer governs was a word of the block that left.
use mathlib.Core.List.{List, [], ◌++◌, ◌∷◌}
use mathlib.Core.Logic.{◌≢◌, ◌⊎◌, inl, inr}
use mathlib.Core.Option.{Option, none, some}
use mathlib.Core.Path.{◌∙◌, ◌≡◌, ap, refl, subst, sym}
use Prim.Native.Nat.{◌*◌, ◌+◌, ◌-◌, ◌<◌, ◌≤◌, suc, zero, ℕ}
use native.Mathlib.Omega.{arith}
use Rattle.heads.specs.Links.{link_word}
use Rattle.paper.proofs.bins.BinLaws.{count-rebin-enter}
use Rattle.paper.proofs.bins.Bins.{count-append, count-here, count-there, first_count, last-count, last_or, next-absent, next-mem, prev-absent, prev-some}
use Rattle.paper.proofs.sheet.Fields.{at_back, at_block, at_level, at_on, at-word, false-word, height-le}
use Rattle.paper.proofs.steps.First.{OnLevel, Pred, first-puts, level-puts, link-puts, reach-is}
use Rattle.paper.proofs.steps.LeaveStep.{leave-puts}
use Rattle.paper.proofs.steps.Leaving.{back-puts, later-puts}
use Rattle.paper.proofs.bins.Listed.{Loose, rebin-other, rebin-same, start}
use Rattle.paper.proofs.sheet.StoreRuns.{by_level}
use Rattle.paper.proofs.sheet.Stores.{Elsewhere}
use Rattle.paper.proofs.runs.Walk.{In}
use Rattle.paper.specs.Bins.{count, enter, first, rebin}
use Rattle.paper.specs.Blocks.{State, block, blocks, end, free}
use Rattle.paper.specs.Governed.{height, large_word, link, sheet}
use Rattle.paper.specs.Layout.{blocks_at, false_block, large, level_at, next_at, previous_at}
use Rattle.words.specs.Choice.{by=, ifs}

pub data Word (t : ℕ) (b : ℕ → List ℕ) : ℕ → Type 0 where
  on_list : (x y o : ℕ) → large ≤ y → 1 ≤ count x (b y) → (o ≡ previous_at) ⊎ (o ≡ next_at) → Word t b (x + o)
  on-first : (x y o : ℕ) → large ≤ y → first (b y) ≡ x → x ≢ 0 → (o ≡ level_at) ⊎ ((j : ℕ) × (1 ≤ j) × (j ≤ height t y) × (o ≡ 68 - 4 * j)) → Word t b (x + o)
  on-false : (o : ℕ) → ((j : ℕ) × (1 ≤ j) × (j ≤ t) × (o ≡ 68 - 4 * j)) → Word t b (false_block + o)

some-not : (x : Option ℕ) (v : ℕ) → x ≡ some v → x ≢ none
some-not x v e f = let z : ◌≡◌ {A = ℕ} 0 1 = cc in omega arith

-- each is governed
pub word-governed : (s : State) (W : Loose s) (a : ℕ) → Word s.top s.bins a → sheet s a ≢ none
word-governed s W a (on_list x y o y72 i (inl e)) =
    let f = W.found y x i in let st = start s W y x i in
    let m = prev-some 0 x (s.bins y) (omega arith) i in
    rw e (some-not (sheet s (x + previous_at)) (link_word x m.0) (at_back s x y f.0 f.1 y72 ∙ ap (link x) m.1))
word-governed s W a (on_list x y o y72 i (inr e)) =
    let f = W.found y x i in
    let m = next-mem x (s.bins y) i in
    rw e (some-not (sheet s (x + next_at)) (link_word x m.0) (at_on s x y f.0 f.1 y72 ∙ ap (link x) m.1))
word-governed s W a (on-first x y o y72 g n (inl e)) =
    let f = W.found y x (first_count (s.bins y) x g n) in
    rw e (some-not (sheet s (x + level_at)) (height s.top y) (at_level s x y f.0 f.1 y72 g))
word-governed s W a (on-first x y o y72 g n (inr e)) =
    let f = W.found y x (first_count (s.bins y) x g n) in
    rw e.3 (some-not (sheet s (x + (68 - 4 * e.0))) _ (at-word s x y f.0 f.1 y72 g e.0 e.1 e.2 W.top13))
word-governed s W a (on-false o e) =
    rw e.3 (some-not (sheet s (false_block + (68 - 4 * e.0))) _ (false-word s e.0 e.1 e.2 W.top13))

abbrev pub Words : ℕ → (ℕ → List ℕ) → List (ℕ × ℕ) → Type 0
Words t b [] = Unit {0}
Words t b (p ∷ ps) = Word t b p.0 × Words t b ps

words_append : (t : ℕ) (b : ℕ → List ℕ) (ps qs : List (ℕ × ℕ)) → Words t b ps → Words t b qs → Words t b (ps ++ qs)
words_append t b [] qs x y = y
words_append t b (p ∷ ps) qs x y = (x.0, words_append t b ps qs x.1 y)

words-level : (t : ℕ) (b : ℕ → List ℕ) (h : ℕ) (f : ℕ → List (ℕ × ℕ)) → ((j : ℕ) → 1 ≤ j → j ≤ h → Words t b (f j)) → Words t b (by_level h f)
words-level t b zero f k = tt
words-level t b (suc h) f k =
    words_append t b (f (suc h)) (by_level h f) (k (suc h) (omega arith) (omega arith)) (words-level t b h f (λ j l m. k j l (omega arith)))

-- leaving stores at such words only
pub leave-words : (s : State) (W : Loose s) (z p : ℕ) (us vs : List ℕ) (is-in : s.bins z ≡ us ++ p ∷ vs) (is-large : large ≤ z) (y₀ w : ℕ → ℕ)
    → ((j : ℕ) → 1 ≤ j → j ≤ height s.top z → Pred s z j (y₀ j) (w j))
    → Words s.top (rebin s.bins z (us ++ vs)) (leave-puts s z w us vs)
unfolding leave-puts later-puts first-puts back-puts level-puts link-puts first
leave-words s W z p (u ∷ us) vs is-in is-large y₀ w preds = (
  on_list (last_or u us) z next_at is-large (rw rebin-same (omega (arith, last-count u us, count-append (last_or u us) (u ∷ us) vs)))
      (inr refl),
  rest vs refl,
)
  where
    rest : (ws : List ℕ) → vs ≡ ws → Words s.top (rebin s.bins z (u ∷ us ++ vs)) (back-puts (last_or u us) ws)
    rest [] e = tt
    rest (nx ∷ ws) e = (
      on_list nx z previous_at is-large (rw (rebin-same, e) (omega (arith, count-append nx (u ∷ us) (nx ∷ ws), count-here nx ws)))
          (inl refl),
      tt,
    )
leave-words s W z p [] vs is-in is-large y₀ w preds =
    words_append s.top (rebin s.bins z vs) (back-puts 0 vs) _ (back vs refl)
    (words_append s.top (rebin s.bins z vs) (level-puts s z vs) _ (mine vs refl)
    (words-level s.top (rebin s.bins z vs) (height s.top z) (link-puts s z w vs) (λ j j1 l. links vs refl j j1 l (pred j j1 l (preds j j1 l)))))
  where
    nonzero : (nx : ℕ) (ws : List ℕ) → vs ≡ nx ∷ ws → nx ≢ 0
    nonzero nx ws e =
        let i : 1 ≤ count nx (s.bins z) = omega (arith, ap (count nx) is-in, count-append nx (p ∷ []) vs, ap (count nx) e, count-here nx ws) in
        omega (arith, (start s W z nx i).0)

    back : (ws : List ℕ) → vs ≡ ws → Words s.top (rebin s.bins z vs) (back-puts 0 ws)
    back [] e = tt
    back (nx ∷ ws) e = (on_list nx z previous_at is-large (rw (rebin-same, e) (omega (arith, count-here nx ws))) (inl refl), tt)

    mine : (ws : List ℕ) → vs ≡ ws → Words s.top (rebin s.bins z vs) (level-puts s z ws)
    mine [] e = tt
    mine (nx ∷ ws) e = (on-first nx z level_at is-large (rw (rebin-same, e)) (nonzero nx ws e) (inl refl), tt)

    links : (ws : List ℕ) → vs ≡ ws → (j : ℕ) → 1 ≤ j → j ≤ height s.top z → Word s.top (rebin s.bins z vs) (w j + (68 - 4 * j))
        → Words s.top (rebin s.bins z vs) (link-puts s z w ws j)
    links [] e j j1 l g = (g, tt)
    links (nx ∷ ws) e j j1 l g = (on-first nx z (68 - 4 * j) is-large (rw (rebin-same, e)) (nonzero nx ws e) (inr (j, j1, l, refl)), (g, tt))

    pred : (j : ℕ) → 1 ≤ j → j ≤ height s.top z → Pred s z j (y₀ j) (w j) → Word s.top (rebin s.bins z vs) (w j + (68 - 4 * j))
    pred j j1 l P = go P.who
      where
        go : OnLevel s j (y₀ j) (w j) → Word s.top (rebin s.bins z vs) (w j + (68 - 4 * j))
        go (inl b) = rw b.1 (on-false (68 - 4 * j) (j, j1, omega (arith, height-le s.top z), refl))
        go (inr b) =
            let r = reach-is s.top (end s) s.bins j (y₀ j) (w j) b.0 b.1 in
            on-first (w j) (y₀ j) (68 - 4 * j) b.2 (ap first (rebin-other s.bins z vs (y₀ j) (omega (arith, P.below))) ∙ r.0) b.1
            (inr (j, j1, r.1, refl))

-- ---- from b to b' no block but r leaves a list, and no first block but r ceases to be first
pub record Grow (r : ℕ) (b b' : ℕ → List ℕ) : Type 0 where
  pub stays : (x y : ℕ) → x ≢ r → 1 ≤ count x (b y) → 1 ≤ count x (b' y)
  pub leads : (x y : ℕ) → x ≢ r → x ≢ 0 → first (b y) ≡ x → first (b' y) ≡ x

pub grow-trans : (r : ℕ) (b b' b'' : ℕ → List ℕ) → Grow r b b' → Grow r b' b'' → Grow r b b''
grow-trans r b b' b'' G H =
    record { stays = λ x y n i. H.stays x y n (G.stays x y n i); leads = λ x y n m e. H.leads x y n m (G.leads x y n m e) }

pub leave-grows : (b : ℕ → List ℕ) (z r : ℕ) (us vs : List ℕ) → b z ≡ us ++ r ∷ vs → Grow r b (rebin b z (us ++ vs))
unfolding first
leave-grows b z r us vs e =
    record {
      stays = λ x y n i. by= y z
          (λ f. rw (f, rebin-same) (omega (
            arith,
            subst (λ (l : List ℕ). 1 ≤ count x l) (ap b f ∙ e) i,
            count-append x us (r ∷ vs),
            count-append x us vs,
            count-there r x vs
                (λ q. n (sym q)),
          )))
          (λ m. rw (rebin-other b z (us ++ vs) y m) i);
      leads = λ x y n m g. by= y z
          (λ f. rw (f, rebin-same) (head us x n (sym (ap first (ap b f ∙ e)) ∙ g)))
          (λ k. ap first (rebin-other b z (us ++ vs) y k) ∙ g);
    }
  where
    head : (us : List ℕ) (x : ℕ) → x ≢ r → first (us ++ r ∷ vs) ≡ x → first (us ++ vs) ≡ x
    head [] x n g = absurd (n (sym g))
    head (u ∷ us) x n g = g

grow-word : (t r : ℕ) (b b' : ℕ → List ℕ) → t ≤ 13 → Grow r b b' → (a : ℕ) → Word t b a → ((r + 4 ≤ a) × (a < r + 68)) ⊎ Word t b' a
grow-word t r b b' t13 G a (on_list x y o y72 i k) =
    by= x r (λ e. inl (small k e)) (λ n. inr (on_list x y o y72 (G.stays x y n i) k))
  where
    small : (o ≡ previous_at) ⊎ (o ≡ next_at) → x ≡ r → (r + 4 ≤ x + o) × (x + o < r + 68)
    small (inl e) f = omega arith
    small (inr e) f = omega arith
grow-word t r b b' t13 G a (on-first x y o y72 g m k) =
    by= x r (λ e. inl (small k e)) (λ n. inr (on-first x y o y72 (G.leads x y n m g) m k))
  where
    small : (o ≡ level_at) ⊎ ((j : ℕ) × (1 ≤ j) × (j ≤ height t y) × (o ≡ 68 - 4 * j)) → x ≡ r → (r + 4 ≤ x + o) × (x + o < r + 68)
    small (inl e) f = omega arith
    small (inr e) f = omega (arith, height-le t y)
grow-word t r b b' t13 G a (on-false o k) = inr (on-false o k)

-- at a word that the last state does not govern, and that is not r's, nothing was stored
pub out-words : (s : State) (W : Loose s) (r : ℕ) (b : ℕ → List ℕ) → Grow r b s.bins → (ps : List (ℕ × ℕ)) → Words s.top b ps
    → (a : ℕ) → sheet s a ≡ none → ((r + 4 ≤ a) × (a < r + 68)) ⊎ Elsewhere a ps
out-words s W r b G [] k a e = inr tt
out-words s W r b G (q ∷ ps) k a e =
    by= a q.0
    (λ f. here f (grow-word s.top r b s.bins W.top13 G q.0 k.0))
    (λ n. there n (out-words s W r b G ps k.1 a e))
  where
    here : a ≡ q.0 → ((r + 4 ≤ q.0) × (q.0 < r + 68)) ⊎ Word s.top s.bins q.0 → ((r + 4 ≤ a) × (a < r + 68)) ⊎ Elsewhere a (q ∷ ps)
    here f (inl h) = inl (omega arith)
    here f (inr h) = absurd (word-governed s W q.0 h (ap (sheet s) (sym f) ∙ e))

    there : a ≢ q.0 → ((r + 4 ≤ a) × (a < r + 68)) ⊎ Elsewhere a ps → ((r + 4 ≤ a) × (a < r + 68)) ⊎ Elsewhere a (q ∷ ps)
    there n (inl h) = inl h
    there n (inr h) = inr (n, h)

-- a free block that stands in no list has no such words
pub unlisted : (s : State) (q z P : ℕ) → In (blocks s) blocks_at 1 q (block z free) P → large ≤ z → count q (s.bins z) ≡ 0
    → (o : ℕ) → 4 ≤ o → o < 68 → blocks_at ≤ q → sheet s (q + o) ≡ none
unfolding large_word
unlisted s q z P h l un o a b c =
    let o0 : o ≢ 0 = omega arith in let of : o ≢ z - 4 = omega arith in
    let fp : first (s.bins z) ≢ q = (λ e. omega (arith, un, first_count (s.bins z) q e (omega arith))) in
    at_block s q (block z free) P o h (omega arith)
    ∙ by= o previous_at (λ e. simp ifs (ap (link q) (prev-absent 0 (s.bins z) q un)))
    (λ e4. by= o next_at (λ e. simp ifs (ap (link q) (next-absent (s.bins z) q un))) (λ e8. simp ifs))

-- entering a bin takes nothing away, and the first stays first
pub enter-grows : (r : ℕ) (b : ℕ → List ℕ) (z q : ℕ) → Grow r b (rebin b z (enter q (b z)))
unfolding first enter
enter-grows r b z q =
    record {
      stays = λ x y n i. omega (arith, count-rebin-enter b z q y x);
      leads = λ x y n m e. by= y z
          (λ f. ap first (ap (rebin b z (enter q (b z))) f ∙ rebin-same b z (enter q (b z))) ∙ head (b z) x m (sym (ap (λ (k : ℕ). first (b k)) f) ∙ e))
          (λ f. ap first (rebin-other b z (enter q (b z)) y f) ∙ e);
    }
  where
    head : (xs : List ℕ) (x : ℕ) → x ≢ 0 → first xs ≡ x → first (enter q xs) ≡ x
    head [] x m e = absurd (m (sym e))
    head (y ∷ xs) x m e = e
