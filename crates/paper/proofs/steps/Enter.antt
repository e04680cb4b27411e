-- A free large block enters a bin in a later place: the stores that do it. s has it, `rebinned s z ..` has not.
use mathlib.Core.List.{List, [], ◌++◌, ◌∷◌, append_assoc}
use mathlib.Core.Logic.{◌≢◌, inr}
use mathlib.Core.Option.{Option, none, some}
use mathlib.Core.Path.{◌∙◌, ◌≡◌, ap, fun_ext, refl, sym}
use Prim.Native.Nat.{◌%◌, ◌+◌, ◌-◌, ◌≤◌, ℕ}
use native.Mathlib.Omega.{arith}
use Rattle.heads.specs.Links.{link_word}
use Rattle.paper.proofs.bins.Bins.{count-append, count-here, last-count, last_or, next_last, next-p, prev-p}
use Rattle.paper.proofs.sheet.Fields.{at_back, at_on}
use Rattle.paper.proofs.steps.Leave.{NothingNew, frame, index_same}
use Rattle.paper.proofs.steps.Leaving.{back-puts, height-top, later-above, later-bins, later-firsts, leaves, rebinned}
use Rattle.paper.proofs.bins.Listed.{Loose, rebin-other, rebin-same, start}
use Rattle.paper.proofs.sheet.Stores.{Elsewhere, Good}
use Rattle.paper.proofs.runs.Walk.{in-aligned}
use Rattle.paper.specs.Bins.{count, first, next_in, prev_in, rebin}
use Rattle.paper.specs.Blocks.{State, block, blocks, end, free}
use Rattle.paper.specs.Governed.{height, link, sheet}
use Rattle.paper.specs.Layout.{blocks_at, large, next_at, previous_at}
use Rattle.words.specs.Choice.{by=, if=}

last_snoc : (r p : ℕ) (us : List ℕ) → last_or r (us ++ p ∷ []) ≡ p
unfolding last_or
last_snoc r p [] = refl
last_snoc r p (x ∷ us) = last_snoc x p us

unfoldable pub enter-puts : ℕ → List ℕ → ℕ → List ℕ → List (ℕ × ℕ)
enter-puts u us p vs =
    (last_or u us + next_at, link_word (last_or u us) p) ∷ (p + previous_at, link_word p (last_or u us)) ∷ (p + next_at, link_word p (first vs)) ∷ back-puts p vs

module _ (s : State) (W : Loose s) (z p u : ℕ) (us vs : List ℕ) (is-in : s.bins z ≡ u ∷ us ++ p ∷ vs) (is-large : large ≤ z) where
  pub enter-frame : (a : ℕ) → a % 4 ≡ 0 → Elsewhere a (enter-puts u us p vs) → NothingNew (sheet s a) (sheet (rebinned s z (u ∷ us ++ vs)) a)
  unfolding enter-puts last_or back-puts first later-bins
  enter-frame a al out =
      frame s (rebin s.bins z (u ∷ us ++ vs)) z p (u ∷ us) vs (leaves s W z p (u ∷ us) vs is-in is-large) (λ x y. NothingNew y x) (λ x y e. inr (sym e)) a al
      (λ e. absurd (out.1.0 e)) (λ e. absurd (out.1.1.0 e))
      (λ l. back vs out.1.1.1 l) (λ l. out.0)
      (λ j _ _ _. later-above s z u us vs W p is-in is-large j 64)
      (λ q y P h y72 qa ab. inr (sym (rw (later-firsts s z u us vs W p is-in is-large y) (ap (λ (o : Option ℕ). if= (first (s.bins y)) q o none)
      (index_same s.top (end s) s.bins (rebin s.bins z (u ∷ us ++ vs)) none (height s.top y) q y (a - q)
      (omega (arith, in-aligned (blocks s) blocks_at 1 q (block y free) P W.sized refl h)) (height-top s W y)
      (λ j _ _ _. later-above s z u us vs W p is-in is-large j y))))))
    where
      back : (vs : List ℕ) → Elsewhere a (back-puts p vs) → blocks_at ≤ a → a ≢ first vs + previous_at
      back [] o l = omega arith
      back (nx ∷ vs') o l = o.0

  pub enter-good : Good (sheet s) (end s) (enter-puts u us p vs)
  unfolding enter-puts back-puts last_or first
  enter-good = (on, (own_back, (own_on, rest vs refl)))
    where
      r : ℕ
      r = last_or u us

      bz : (q : ℕ) → count q (s.bins z) ≡ count q (u ∷ us) + count q (p ∷ vs)
      bz q = ap (count q) is-in ∙ count-append q (u ∷ us) (p ∷ vs)

      r-in : 1 ≤ count r (s.bins z)
      r-in = omega (arith, last-count u us, bz r)

      p-in : 1 ≤ count p (s.bins z)
      p-in = omega (arith, bz p, count-here p vs)

      p-us : count p (u ∷ us) ≡ 0
      p-us = omega (arith, W.once z p, bz p, count-here p vs)

      on : (r + next_at) % 4 ≡ 0 × (r + next_at + 4 ≤ end s) × (sheet s (r + next_at) ≡ some (link_word r p))
      on =
          let f = W.found z r r-in in let st = start s W z r r-in in (
            omega arith,
            omega arith,
            at_on s r z f.0 f.1 is-large
                ∙ ap (link r) (ap (λ (l : List ℕ). next_in l r) is-in ∙ next_last u us (p ∷ vs) (λ q. omega (arith, bz q, W.once z q))),
          )

      own_back : (p + previous_at) % 4 ≡ 0 × (p + previous_at + 4 ≤ end s) × (sheet s (p + previous_at) ≡ some (link_word p r))
      own_back =
          let f = W.found z p p-in in let st = start s W z p p-in in (
            omega arith,
            omega arith,
            at_back s p z f.0 f.1 is-large
                ∙ ap (link p) (ap (λ (l : List ℕ). prev_in 0 l p) is-in ∙ prev-p 0 p (u ∷ us) vs p-us),
          )

      own_on : (p + next_at) % 4 ≡ 0 × (p + next_at + 4 ≤ end s) × (sheet s (p + next_at) ≡ some (link_word p (first vs)))
      own_on =
          let f = W.found z p p-in in let st = start s W z p p-in in (
            omega arith,
            omega arith,
            at_on s p z f.0 f.1 is-large
                ∙ ap (link p) (ap (λ (l : List ℕ). next_in l p) is-in ∙ next-p p (u ∷ us) vs p-us),
          )

      rest : (ws : List ℕ) → vs ≡ ws → Good (sheet s) (end s) (back-puts p ws)
      rest [] e = tt
      rest (nx ∷ ws) e =
          let c : s.bins z ≡ (u ∷ us ++ p ∷ []) ++ nx ∷ ws = is-in ∙ ap (λ (l : List ℕ). u ∷ us ++ p ∷ l) e
          ∙ sym (append_assoc (u ∷ us) (p ∷ []) (nx ∷ ws)) in
          let nx-in : 1 ≤ count nx (s.bins z) = omega (arith, ap (count nx) c, count-append nx (u ∷ us ++ p ∷ []) (nx ∷ ws), count-here nx ws) in
          let f = W.found z nx nx-in in let st = start s W z nx nx-in in (
            (
              omega arith,
              omega arith,
              at_back s nx z f.0 f.1 is-large ∙ ap (link nx) (ap (λ (l : List ℕ). prev_in 0 l nx) c
                  ∙ prev-p 0 nx (u ∷ us ++ p ∷ []) ws
                  (omega (arith, W.once z nx, ap (count nx) c, count-append nx (u ∷ us ++ p ∷ []) (nx ∷ ws), count-here nx ws))
                  ∙ ap some (last_snoc 0 p (u ∷ us))),
            ),
            tt,
          )

-- the state to enter from is the state without
pub rebin-back : (b : ℕ → List ℕ) (z : ℕ) (l l' : List ℕ) → b z ≡ l → rebin (rebin b z l') z l ≡ b
rebin-back b z l l' e = fun_ext (λ y. by= y z (λ f. ap (rebin (rebin b z l') z l) f ∙ rebin-same (rebin b z l') z l ∙ sym (ap b f ∙ e))
    (λ n. rebin-other (rebin b z l') z l y n ∙ rebin-other b z l' y n))
