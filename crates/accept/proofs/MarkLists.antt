-- Marks as the list of what is marked: nothing left is [], the count is its length.
-- What a list that was followed has read, and that it passes what is there.
use mathlib.Core.List.{List, [], ◌∷◌}
use mathlib.Core.Logic.{◌≢◌}
use mathlib.Core.Option.{none, some}
use mathlib.Core.Path.{◌∙◌, ◌≡◌, ap, refl, subst, sym}
use Prim.Native.Nat.{◌+◌, ◌≤◌, suc, zero, ℕ}
use native.Mathlib.Omega.{arith}
use lib.ListN.{length}
use Rattle.guards.proofs.Guards.{All, guard-inv, guard-yes}
use Rattle.lists.proofs.Following.{lost-left}
use Rattle.lists.specs.Lists.{follow, left, lost}
use Rattle.marks.specs.MarkSets.{MarkSet}
use Rattle.guards.specs.Tests.{Test, less}
use Rattle.paper.proofs.bins.Bins.{count-cons, count-here, count-nil, count-there, next-absent, prev-absent}
use Rattle.paper.specs.Bins.{count, first, next_in, prev_in}
use Rattle.words.specs.Choice.{by=, if=, if=-no, if=-yes, ifs}

unfoldable pub remove : ℕ → List ℕ → List ℕ
remove q [] = []
remove q (x ∷ ms) = if= x q ms (x ∷ remove q ms)

pub count-remove : (q x : ℕ) (ms : List ℕ) → 1 ≤ count q ms → count x ms ≡ if= q x 1 0 + count x (remove q ms)
unfolding remove
count-remove q x [] h = absurd (omega (arith, count-nil q))
count-remove q x (y ∷ ms) h =
    by= y q (λ e. simp ifs (count-cons x y ms ∙ ap {B = ℕ} (λ (k : ℕ). if= k x 1 0 + count x ms) e))
    (λ n. simp ifs (omega (arith, count-cons x y ms, count-cons x y (remove q ms), count-remove q x ms (omega (arith, count-there y q ms n)))))

pub length-remove : (q : ℕ) (ms : List ℕ) → 1 ≤ count q ms → length ms ≡ suc (length (remove q ms))
unfolding remove
length-remove q [] h = absurd (omega (arith, count-nil q))
length-remove q (y ∷ ms) h =
    by= y q (λ e. simp ifs) (λ n. simp ifs (ap suc (length-remove q ms (omega (arith, count-there y q ms n)))))

-- for proofs: the list of what is marked
abbrev pub list_marks : MarkSet (List ℕ)
list_marks = record { empty = []; has = λ ms q. count q ms; put = λ ms q. q ∷ ms; drop = λ ms q. remove q ms }

pub prev-in : (r : ℕ) (l : List ℕ) (q v : ℕ) → prev_in r l q ≡ some v → 1 ≤ count q l
prev-in r l q v e = by= (count q l) 0
    (λ z. absurd (let o : none ≡ some v = sym (prev-absent r l q z) ∙ e in let t : ◌≡◌ {A = ℕ} 0 1 = cc in omega arith)) (λ n. omega arith)

pub next-in : (l : List ℕ) (q v : ℕ) → next_in l q ≡ some v → 1 ≤ count q l
next-in l q v e = by= (count q l) 0 (λ z. absurd (let o : none ≡ some v = sym (next-absent l q z) ∙ e in let t : ◌≡◌ {A = ℕ} 0 1 = cc in omega arith))
    (λ n. omega arith)

module _ (tests : ℕ → ℕ → List Test) (next : ℕ → ℕ) where
  abbrev pub Linked : ℕ → List ℕ → Type 0
  Linked p [] = Unit {0}
  Linked p (x ∷ l) = (x ≢ 0) × All (tests p x) × (next x ≡ first l) × Linked x l

  abbrev pub Read : ℕ → List ℕ → ℕ → ℕ → List ℕ → Type 0
  Read p ms q k' ms' = (l : List ℕ) × (first l ≡ q) × Linked p l × ((x : ℕ) → count x ms ≡ count x l + count x ms') × (k' ≡ length ms')

  pub follow-inv : (k : ℕ) (ms : List ℕ) (p q k' : ℕ) (ms' : List ℕ) → k ≡ length ms → follow list_marks tests next k ms p q ≡ left k' ms'
      → Read p ms q k' ms'
  unfolding follow first
  follow-inv zero ms p q k' ms' e h =
      by= q 0
      (λ z. let h' : left zero ms ≡ left k' ms' = sym (if=-yes q 0 _ _ z) ∙ h in let a : zero ≡ k' = cc in let b : ms ≡ ms' = cc in
      ([], sym z, tt, (λ x. rw (← b) (omega (arith, count-nil x))), sym a ∙ e ∙ ap length b))
      (λ z. absurd (lost-left k' ms' (sym (if=-no q 0 _ _ z) ∙ h)))
  follow-inv (suc k) ms p q k' ms' e h =
      by= q 0
      (λ z. let h' : left (suc k) ms ≡ left k' ms' = sym (if=-yes q 0 _ _ z) ∙ h in let a : suc k ≡ k' = cc in let b : ms ≡ ms' = cc in
      ([], sym z, tt, (λ x. rw (← b) (omega (arith, count-nil x))), sym a ∙ e ∙ ap length b))
      (λ z. let r = guard-inv (less 0 (count q ms) ∷ tests p q) lost (follow list_marks tests next k (remove q ms) q (next q)) (left k' ms')
      (lost-left k' ms') (sym (if=-no q 0 _ _ z) ∙ h) in
      let len = length-remove q ms r.0.0 in
      let i = follow-inv k (remove q ms) q (next q) k' ms' (omega arith) r.1 in
      (q ∷ i.0, refl, (z, r.0.1, sym i.1, i.2), (λ x. omega (arith, count-remove q x ms r.0.0, count-cons x q i.0, i.3 x)), i.4))

  pub follow-yes : (l : List ℕ) (k : ℕ) (ms : List ℕ) (p : ℕ) → k ≡ length ms → Linked p l → ((x : ℕ) → count x l ≤ count x ms)
      → (k' : ℕ) × (ms' : List ℕ) × (follow list_marks tests next k ms p (first l) ≡ left k' ms') × ((x : ℕ) → count x ms ≡ count x l + count x ms')
      × (k' ≡ length ms') × (k' + length l ≡ k)
  unfolding follow first
  follow-yes [] zero ms p e h o = (zero, ms, if=-yes 0 0 _ _ refl, (λ x. omega (arith, count-nil x)), e, omega arith)
  follow-yes [] (suc k) ms p e h o = (suc k, ms, if=-yes 0 0 _ _ refl, (λ x. omega (arith, count-nil x)), e, omega arith)
  follow-yes (q ∷ l) zero ms p e h o = absurd (omega (arith, length-remove q ms (omega (arith, o q, count-here q l))))
  follow-yes (q ∷ l) (suc k) ms p e h o =
      let m : 1 ≤ count q ms = omega (arith, o q, count-here q l) in
      let len = length-remove q ms m in
      let i = follow-yes l k (remove q ms) q (omega arith) h.3 (λ x. omega (arith, o x, count-remove q x ms m, count-cons x q l)) in (
        i.0,
        i.1,
        if=-no q 0 _ _ h.0 ∙ guard-yes (less 0 (count q ms) ∷ tests p q) lost _ (m, h.1)
            ∙ ap (follow list_marks tests next k (remove q ms) q) h.2 ∙ i.2,
        (λ x. omega (arith, count-remove q x ms m, count-cons x q l, i.3 x)),
        i.4,
        omega (arith, i.5),
      )

  -- Linked, place by place
  pub linked-prev : (l : List ℕ) (p q v : ℕ) → Linked p l → prev_in p l q ≡ some v → All (tests v q)
  unfolding prev_in
  linked-prev [] p q v h e = absurd (let z : ◌≡◌ {A = ℕ} 0 1 = cc in omega arith)
  linked-prev (x ∷ l) p q v h e =
      by= x q (λ f. let e' : some p ≡ some v = sym (if=-yes x q _ _ f) ∙ e in let g : p ≡ v = cc in rw (← g, ← f) h.1)
      (λ n. linked-prev l x q v h.3 (sym (if=-no x q _ _ n) ∙ e))

  pub linked-next : (l : List ℕ) (p q v : ℕ) → Linked p l → next_in l q ≡ some v → next q ≡ v
  unfolding next_in
  linked-next [] p q v h e = absurd (let z : ◌≡◌ {A = ℕ} 0 1 = cc in omega arith)
  linked-next (x ∷ l) p q v h e =
      by= x q (λ f. let e' : some (first l) ≡ some v = sym (if=-yes x q _ _ f) ∙ e in let g : first l ≡ v = cc in sym (ap next f) ∙ h.2 ∙ g)
      (λ n. linked-next l x q v h.3 (sym (if=-no x q _ _ n) ∙ e))

  pub linked-from : (l : List ℕ) (p : ℕ) → ((q : ℕ) → count q l ≤ 1) → count 0 l ≡ 0 → ((q v : ℕ) → prev_in p l q ≡ some v → All (tests v q))
      → ((q v : ℕ) → next_in l q ≡ some v → next q ≡ v) → Linked p l
  unfolding prev_in next_in
  linked-from [] p o z f g = tt
  linked-from (x ∷ l) p o z f g = (
    (λ e. omega (arith, z, count-cons 0 x l, if=-yes {A = ℕ} x 0 1 0 e)),
    f x p (if=-yes x x _ _ refl),
    g x (first l) (if=-yes x x _ _ refl),
    linked-from l x (λ q. omega (arith, o q, count-cons q x l)) (omega (arith, z, count-cons 0 x l))
        (λ q v e. by= x q (λ k. absurd (twice q k (prev-in x l q v e))) (λ n. f q v (if=-no x q _ _ n ∙ e)))
        (λ q v e. by= x q (λ k. absurd (twice q k (next-in l q v e))) (λ n. g q v (if=-no x q _ _ n ∙ e))),
  )
    where
      twice : (q : ℕ) → x ≡ q → 1 ≤ count q l → ⊥
      twice q k m = omega (arith, o q, count-cons q x l, if=-yes {A = ℕ} x q 1 0 k)

  pub linked-tests : (l : List ℕ) (p q : ℕ) → Linked p l → 1 ≤ count q l → (v : ℕ) × All (tests v q)
  linked-tests [] p q h o = absurd (omega (arith, count-nil q))
  linked-tests (x ∷ l) p q h o =
      by= x q (λ f. (p, subst (λ (t : ℕ). All (tests p t)) f h.1)) (λ n. linked-tests l x q h.3 (omega (arith, count-there x q l n)))

  pub linked-empty : (l : List ℕ) (p : ℕ) → Linked p l → first l ≡ 0 → l ≡ []
  unfolding first
  linked-empty [] p h e = refl
  linked-empty (x ∷ l) p h e = absurd (h.0 e)
