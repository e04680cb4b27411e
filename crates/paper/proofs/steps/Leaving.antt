-- A free large block that is not the first of its bin leaves it: the stores that do it.
use mathlib.Core.List.{List, [], ◌++◌, ◌∷◌}
use mathlib.Core.Logic.{◌≢◌, inl, inr}
use mathlib.Core.Option.{Option, none, some}
use mathlib.Core.Path.{◌∙◌, ◌≡◌, ap, refl, subst}
use Prim.Native.Nat.{◌%◌, ◌+◌, ◌-◌, ◌≤◌, suc, ℕ}
use native.Mathlib.Omega.{arith}
use Rattle.heads.specs.Links.{link_word}
use Rattle.paper.proofs.bins.Bins.{count-append, count-here, count-there, last-count, last_or, next-absent, next_last, prev-absent, prev-p}
use Rattle.paper.proofs.sheet.Fields.{at_back, at_on, height-le}
use Rattle.paper.proofs.steps.Leave.{NothingNew, Leaves, above_same, frame, index_same, reach-same, with-bins}
use Rattle.paper.proofs.bins.Listed.{Loose, rebin-other, rebin-same, start}
use Rattle.paper.proofs.sheet.Stores.{Elsewhere, Good}
use Rattle.paper.proofs.runs.Walk.{In, in-aligned}
use Rattle.paper.specs.Bins.{count, first, next_in, prev_in, rebin}
use Rattle.paper.specs.Blocks.{State, block, blocks, end, free}
use Rattle.paper.specs.Governed.{above, height, link, sheet}
use Rattle.paper.specs.Layout.{blocks_at, large, next_at, previous_at}
use Rattle.words.specs.Choice.{by=, if=}

abbrev pub rebinned : State → ℕ → List ℕ → State
rebinned s z l = with-bins s (rebin s.bins z l)

-- no bin stands above level 13
pub height-top : (s : State) → Loose s → (y : ℕ) → height s.top y ≤ 13
height-top s W y = omega (arith, height-le s.top y, W.top13)

module _ (s : State) (W : Loose s) (z p : ℕ) (us vs : List ℕ) (is-in : s.bins z ≡ us ++ p ∷ vs) (is-large : large ≤ z) where
  count-p : (q : ℕ) → count q (s.bins z) ≡ count q us + count q (p ∷ vs)
  count-p q = ap (count q) is-in ∙ count-append q us (p ∷ vs)

  pub once-p : count p us + count p vs ≡ 0
  once-p = omega (arith, W.once z p, count-p p, count-here p vs)

  at_p : (P : ℕ) × In (blocks s) blocks_at 1 p (block z free) P
  at_p = W.found z p (omega (arith, count-p p, count-here p vs))

  pub leaves : Leaves s (rebin s.bins z (us ++ vs)) z p us vs
  leaves = record {
    is-in = is-in;
    is-out = rebin-same s.bins z (us ++ vs);
    other = rebin-other s.bins z
        (us ++ vs);
    is-large = is-large;
    top13 = W.top13;
    flag = at_p.0;
    at = at_p.1;
    sized = W.sized;
  }

  count_less : (y q : ℕ) → count q (rebin s.bins z (us ++ vs) y) ≤ count q (s.bins y)
  count_less y q =
      by= y z
      (λ e. rw (e, rebin-same, is-in) (by= p q
      (λ f. omega (
        arith,
        count-append q us vs,
        count-append q us (p ∷ vs),
        subst (λ (r : ℕ). count r (p ∷ vs) ≡ suc (count r vs)) f
            (count-here p vs),
      ))
      (λ n. omega (arith, count-append q us vs, count-append q us (p ∷ vs), count-there p q vs n))))
      (λ n. rw (rebin-other s.bins z (us ++ vs) y n) (omega arith))

  pub leaving-loose : Loose (rebinned s z (us ++ vs))
  leaving-loose =
      record {
        sized = W.sized;
        top1 = W.top1;
        top13 = W.top13;
        once = λ y q. omega (arith, count_less y q, W.once y q);
        found = λ y q h. W.found y q (omega (arith, count_less y q));
      }

-- ---- p is not the first
-- the next one's way back
unfoldable pub back-puts : ℕ → List ℕ → List (ℕ × ℕ)
back-puts r [] = []
back-puts r (nx ∷ vs) = (nx + previous_at, link_word nx r) ∷ []

unfoldable pub later-puts : ℕ → List ℕ → List ℕ → List (ℕ × ℕ)
later-puts u us vs = (last_or u us + next_at, link_word (last_or u us) (first vs)) ∷ back-puts (last_or u us) vs

module _ (s : State) (z u : ℕ) (us vs : List ℕ) where
  unfoldable pub later-bins : ℕ → List ℕ
  later-bins = rebin s.bins z (u ∷ us ++ vs)

  module _ (W : Loose s) (p : ℕ) (is-in : s.bins z ≡ u ∷ us ++ p ∷ vs) (is-large : large ≤ z) where
    pub later-firsts : (y : ℕ) → first (later-bins y) ≡ first (s.bins y)
    unfolding first later-bins
    later-firsts y =
        by= y z (λ e. rw (e, rebin-same, is-in)) (λ n. ap first (rebin-other s.bins z (u ∷ us ++ vs) y n))

    pub later-above : (j y : ℕ) → above s.top (end s) later-bins j y ≡ above s.top (end s) s.bins j y
    later-above j y = above_same s.top (end s) s.bins later-bins j y (λ w. reach-same s.top (end s) s.bins later-bins j w (later-firsts w))

    pub later-frame : (a : ℕ) → a % 4 ≡ 0 → Elsewhere a (later-puts u us vs) → NothingNew (sheet (rebinned s z (u ∷ us ++ vs)) a) (sheet s a)
    unfolding later-puts last_or back-puts first later-bins
    later-frame a al out =
        frame s (rebin s.bins z (u ∷ us ++ vs)) z p (u ∷ us) vs (leaves s W z p (u ∷ us) vs is-in is-large) NothingNew (λ x y e. inr e) a al
        (λ _. inl (ap (link p) (prev-absent 0 (u ∷ us ++ vs) p (count-append p (u ∷ us) vs ∙ once-p s W z p (u ∷ us) vs is-in is-large))))
        (λ _. inl (ap (link p) (next-absent (u ∷ us ++ vs) p (count-append p (u ∷ us) vs ∙ once-p s W z p (u ∷ us) vs is-in is-large))))
        (λ l. back vs out.1 l) (λ l. out.0)
        (λ j _ _ _. later-above j 64)
        (λ q y P h y72 qa ab. inr (rw (later-firsts y) (ap (λ (o : Option ℕ). if= (first (s.bins y)) q o none)
        (index_same s.top (end s) s.bins later-bins none (height s.top y) q y (a - q)
        (omega (arith, in-aligned (blocks s) blocks_at 1 q (block y free) P W.sized refl h)) (height-top s W y)
        (λ j _ _ _. later-above j y)))))
      where
        back : (vs : List ℕ) → Elsewhere a (back-puts (last_or u us) vs) → blocks_at ≤ a → a ≢ first vs + previous_at
        back [] o l = omega arith
        back (nx ∷ vs') o l = o.0

    -- the stores fit every later state that has these bins
    module _ (s' : State) (W' : Loose s') (bs' : s'.bins ≡ rebin s.bins z (u ∷ us ++ vs)) where
      pub later-good : Good (sheet s') (end s') (later-puts u us vs)
      unfolding later-puts back-puts last_or
      later-good = (on, rest vs refl)
        where
          b'z : s'.bins z ≡ u ∷ us ++ vs
          b'z = ap (λ (f : ℕ → List ℕ). f z) bs' ∙ rebin-same s.bins z (u ∷ us ++ vs)

          r : ℕ
          r = last_or u us

          r-in : 1 ≤ count r (s'.bins z)
          r-in = rw b'z (omega (arith, last-count u us, count-append r (u ∷ us) vs))

          nodup : (q : ℕ) → count q (u ∷ us) + count q vs ≤ 1
          nodup q = omega (arith, W'.once z q, ap (count q) b'z, count-append q (u ∷ us) vs)

          on : (r + next_at) % 4 ≡ 0 × (r + next_at + 4 ≤ end s') × (sheet s' (r + next_at) ≡ some (link_word r (first vs)))
          on =
              let f = W'.found z r r-in in let st = start s' W' z r r-in in (
                omega arith,
                omega arith,
                at_on s' r z f.0 f.1 is-large
                    ∙ ap (link r) (ap (λ (l : List ℕ). next_in l r) b'z ∙ next_last u us vs (λ q. omega (arith, nodup q))),
              )

          rest : (ws : List ℕ) → vs ≡ ws → Good (sheet s') (end s') (back-puts r ws)
          rest [] e = tt
          rest (nx ∷ ws) e =
              let c : s'.bins z ≡ u ∷ us ++ nx ∷ ws = b'z ∙ ap (λ (l : List ℕ). u ∷ us ++ l) e in
              let nx-in : 1 ≤ count nx (s'.bins z) = omega (arith, ap (count nx) c, count-append nx (u ∷ us) (nx ∷ ws), count-here nx ws) in
              let f = W'.found z nx nx-in in let st = start s' W' z nx nx-in in (
                (
                  omega arith,
                  omega arith,
                  at_back s' nx z f.0 f.1 is-large ∙ ap (link nx) (ap (λ (l : List ℕ). prev_in 0 l nx) c
                      ∙ prev-p 0 nx (u ∷ us) ws (omega (arith, W'.once z nx, ap (count nx) c, count-append nx (u ∷ us) (nx ∷ ws), count-here nx ws))),
                ),
                tt,
              )
