-- The lists of starts: neighbours, members, and a list with and without one member.
use mathlib.Core.List.{List, [], ◌++◌, ◌∷◌}
use mathlib.Core.Logic.{◌≢◌, ◌⊎◌, inl, inr}
use mathlib.Core.Option.{none, some}
use mathlib.Core.Path.{◌∙◌, ◌≡◌, ap, refl, subst, sym}
use Prim.Native.Nat.{◌+◌, ◌≤◌, suc, ℕ}
use native.Mathlib.Omega.{arith}
use Rattle.paper.specs.Bins.{count, first, next_in, prev_in}
use Rattle.words.specs.Choice.{by=, if=, if=-no, if=-yes, ifs}

pub prev-absent : (r : ℕ) (xs : List ℕ) (q : ℕ) → count q xs ≡ 0 → prev_in r xs q ≡ none
unfolding prev_in count
prev-absent r [] q h = refl
prev-absent r (x ∷ xs) q h =
    by= x q (λ e. let h' : 1 + count q xs ≡ 0 = simp ifs at h in absurd (omega arith))
    (λ n. let h' : 0 + count q xs ≡ 0 = simp ifs at h in simp ifs (prev-absent x xs q (omega arith)))

pub next-absent : (xs : List ℕ) (q : ℕ) → count q xs ≡ 0 → next_in xs q ≡ none
unfolding next_in count
next-absent [] q h = refl
next-absent (x ∷ xs) q h =
    by= x q (λ e. let h' : 1 + count q xs ≡ 0 = simp ifs at h in absurd (omega arith))
    (λ n. let h' : 0 + count q xs ≡ 0 = simp ifs at h in simp ifs (next-absent xs q (omega arith)))

-- the last of us, or r
unfoldable pub last_or : ℕ → List ℕ → ℕ
last_or r [] = r
last_or r (x ∷ us) = last_or x us

pub count-append : (p : ℕ) (us vs : List ℕ) → count p (us ++ vs) ≡ count p us + count p vs
unfolding count
count-append p [] vs = omega arith
count-append p (x ∷ us) vs = omega (arith, count-append p us vs)

pub count-here : (p : ℕ) (vs : List ℕ) → count p (p ∷ vs) ≡ suc (count p vs)
unfolding count
count-here p vs = let e : p ≡ p = refl in simp ifs (omega arith)

pub count-there : (p q : ℕ) (vs : List ℕ) → p ≢ q → count q (p ∷ vs) ≡ count q vs
unfolding count
count-there p q vs h = simp ifs (omega arith)

-- ---- the neighbours of p in us ++ p ∷ vs
pub prev-p : (r p : ℕ) (us vs : List ℕ) → count p us ≡ 0 → prev_in r (us ++ p ∷ vs) p ≡ some (last_or r us)
unfolding prev_in last_or count
prev-p r p [] vs h = let e : p ≡ p = refl in simp ifs
prev-p r p (x ∷ us) vs h =
    by= x p (λ e. let h' : 1 + count p us ≡ 0 = simp ifs at h in absurd (omega arith))
    (λ n. let h' : 0 + count p us ≡ 0 = simp ifs at h in simp ifs (prev-p x p us vs (omega arith)))

pub next-p : (p : ℕ) (us vs : List ℕ) → count p us ≡ 0 → next_in (us ++ p ∷ vs) p ≡ some (first vs)
unfolding next_in count
next-p p [] vs h = let e : p ≡ p = refl in simp ifs
next-p p (x ∷ us) vs h =
    by= x p (λ e. let h' : 1 + count p us ≡ 0 = simp ifs at h in absurd (omega arith))
    (λ n. let h' : 0 + count p us ≡ 0 = simp ifs at h in simp ifs (next-p p us vs (omega arith)))

-- ---- with and without p: only the way back of the next one differs, and the way on of the one before
prev-shift : (r r' q : ℕ) (xs : List ℕ) → first xs ≢ q → prev_in r xs q ≡ prev_in r' xs q
unfolding prev_in first
prev-shift r r' q [] h = refl
prev-shift r r' q (x ∷ xs) h = simp ifs

pub prev-keep : (r p q : ℕ) (us vs : List ℕ) → q ≢ p → first vs ≢ q → prev_in r (us ++ p ∷ vs) q ≡ prev_in r (us ++ vs) q
unfolding prev_in
prev-keep r p q [] vs h k = let m : p ≢ q = omega arith in simp ifs (prev-shift p r q vs k)
prev-keep r p q (x ∷ us) vs h k = ap (if= x q (some r)) (prev-keep x p q us vs h k)

pub next-keep : (r p q : ℕ) (us vs : List ℕ) → q ≢ p → last_or r us ≢ q → next_in (us ++ p ∷ vs) q ≡ next_in (us ++ vs) q
unfolding next_in last_or first
next-keep r p q [] vs h k = let m : p ≢ q = omega arith in simp ifs
next-keep r p q (x ∷ []) vs h k = let m : p ≢ q = omega arith in simp ifs
next-keep r p q (x ∷ y ∷ us) vs h k = ap (if= x q (some y)) (next-keep x p q (y ∷ us) vs h k)

-- ---- members
pub first_count : (xs : List ℕ) (q : ℕ) → first xs ≡ q → q ≢ 0 → 1 ≤ count q xs
unfolding first count
first_count [] q e n = absurd (n (sym e))
first_count (x ∷ xs) q e n = simp ifs (omega arith)

pub last-count : (x : ℕ) (us : List ℕ) → 1 ≤ count (last_or x us) (x ∷ us)
unfolding last_or
last-count x [] = omega (arith, count-here x [])
last-count x (y ∷ us) =
    by= x (last_or y us) (λ e. rw (← e) (omega (arith, count-here x (y ∷ us))))
    (λ n. omega (arith, last-count y us, count-there x (last_or y us) (y ∷ us) n))

-- the last of x ∷ us, in a list in which nothing stands twice, is followed by what comes next
pub next_last : (x : ℕ) (us vs : List ℕ) → ((q : ℕ) → count q (x ∷ us) ≤ 1) → next_in (x ∷ us ++ vs) (last_or x us) ≡ some (first vs)
unfolding next_in last_or
next_last x [] vs h = let e : x ≡ x = refl in simp ifs
next_last x (y ∷ us) vs h =
    by= x (last_or y us)
    (λ e. absurd (omega (arith, h x, count-here x (y ∷ us), subst (λ (q : ℕ). 1 ≤ count q (y ∷ us)) (sym e) (last-count y us))))
    (λ n. simp ifs (next_last y us vs
    (λ q. by= x q (λ e. omega (arith, h q, subst (λ (q : ℕ). count q (x ∷ y ∷ us) ≡ suc (count q (y ∷ us))) e (count-here x (y ∷ us))))
    (λ m. omega (arith, h q, count-there x q (y ∷ us) m)))))

-- ---- lists by their links
pub nil-of : (ys : List ℕ) → ((q : ℕ) → count q ys ≡ 0) → ys ≡ []
nil-of [] h = refl
nil-of (y ∷ ys) h = absurd (omega (arith, h y, count-here y ys))

pub count-cons : (q x : ℕ) (xs : List ℕ) → count q (x ∷ xs) ≡ if= x q 1 0 + count q xs
unfolding count
count-cons q x xs = refl

pub count-nil : (q : ℕ) → count q [] ≡ 0
unfolding count
count-nil q = refl

pub by-links : (xs ys : List ℕ) → ((q : ℕ) → count q xs ≤ 1) → ((q : ℕ) → count q xs ≡ count q ys) → first xs ≡ first ys
    → ((q : ℕ) → 1 ≤ count q xs → next_in xs q ≡ next_in ys q) → xs ≡ ys
unfolding first next_in
by-links [] ys n e f h = sym (nil-of ys (λ q. sym (e q) ∙ count-nil q))
by-links (x ∷ xs) [] n e f h = absurd (omega (arith, e x, count-here x xs, count-nil x))
by-links (x ∷ xs) (y ∷ ys) n e f h =
    let ih : xs ≡ ys =
    by-links xs ys (λ q. omega (arith, n q, count-cons q x xs))
    (λ q. omega (arith, e q, count-cons q x xs, count-cons q y ys, ap {B = ℕ} (λ (k : ℕ). if= k q 1 0) f))
    (tail-first (sym f) (h x (omega (arith, count-here x xs)))) (λ q o. tail-next q (sym f) o (h q (omega (arith, count-cons q x xs)))) in
    λ i. f i ∷ ih i
  where
    tail-first : y ≡ x → next_in (x ∷ xs) x ≡ next_in (y ∷ ys) x → first xs ≡ first ys
    tail-first f' g = let xx : x ≡ x = refl in let g' : some (first xs) ≡ some (first ys) = simp ifs at g in cc

    tail-next : (q : ℕ) → y ≡ x → 1 ≤ count q xs → next_in (x ∷ xs) q ≡ next_in (y ∷ ys) q → next_in xs q ≡ next_in ys q
    tail-next q f' o g =
        let nx : x ≢ q = (λ k. omega (arith, n q, count-cons q x xs, if=-yes {A = ℕ} x q 1 0 k)) in
        let ny : y ≢ q = (λ k. nx (sym f' ∙ k)) in
        simp ifs at g

-- what is found before is in the list, or is r
pub prev-mem : (r f v : ℕ) (xs : List ℕ) → prev_in r xs f ≡ some v → (v ≡ r) ⊎ (1 ≤ count v xs)
unfolding prev_in
prev-mem r f v [] h = absurd (let z : ◌≡◌ {A = ℕ} 0 1 = cc in omega arith)
prev-mem r f v (x ∷ xs) h =
    by= x f (λ e. let h' : some r ≡ some v = simp ifs at h in inl (cc))
    (λ n. let h' : prev_in x xs f ≡ some v = simp ifs at h in go (prev-mem x f v xs h'))
  where
    go : (v ≡ x) ⊎ (1 ≤ count v xs) → (v ≡ r) ⊎ (1 ≤ count v (x ∷ xs))
    go (inl e) = inr (omega (arith, count-cons v x xs, if=-yes {A = ℕ} x v 1 0 (sym e)))
    go (inr o) = inr (omega (arith, count-cons v x xs))

pub prev-first : (r f : ℕ) (xs : List ℕ) → count r xs ≡ 0 → prev_in r xs f ≡ some r → first xs ≡ f
unfolding prev_in first
prev-first r f [] o h = absurd (let z : ◌≡◌ {A = ℕ} 0 1 = cc in omega arith)
prev-first r f (x ∷ xs) o h =
    by= x f (λ e. e)
    (λ n. let h' : prev_in x xs f ≡ some r = simp ifs at h in absurd (go (prev-mem x f r xs h')))
  where
    go : (r ≡ x) ⊎ (1 ≤ count r xs) → ⊥
    go (inl e) = omega (arith, o, count-cons r x xs, if=-yes {A = ℕ} x r 1 0 (sym e))
    go (inr k) = omega (arith, o, count-cons r x xs)

pub next-mem : (q : ℕ) (xs : List ℕ) → 1 ≤ count q xs → (v : ℕ) × (next_in xs q ≡ some v) × ((v ≡ 0) ⊎ ((1 ≤ count v xs) × ((v ≡ q) → 2 ≤ count q xs)))
unfolding next_in first
next-mem q [] h = absurd (omega (arith, count-nil q))
next-mem q (x ∷ xs) h =
    by= x q (λ e. (first xs, if=-yes x q _ _ e, here e xs))
    (λ n. let r = next-mem q xs (omega (arith, count-cons q x xs, if=-no {A = ℕ} x q 1 0 n)) in (r.0, if=-no x q _ _ n ∙ r.1, there r.0 r.2))
  where
    here : x ≡ q → (ws : List ℕ) → (first ws ≡ 0) ⊎ ((1 ≤ count (first ws) (x ∷ ws)) × (first ws ≡ q → 2 ≤ count q (x ∷ ws)))
    here e [] = inl refl
    here e (y ∷ ws) = inr (
      omega (arith, count-cons y x (y ∷ ws), count-here y ws),
      λ f. omega
          (arith, count-cons q x (y ∷ ws), count-cons q y ws, if=-yes {A = ℕ} x q 1 0 e, if=-yes {A = ℕ} y q 1 0 f),
    )

    there : (v : ℕ) → (v ≡ 0) ⊎ ((1 ≤ count v xs) × ((v ≡ q) → 2 ≤ count q xs))
        → (v ≡ 0) ⊎ ((1 ≤ count v (x ∷ xs)) × ((v ≡ q) → 2 ≤ count q (x ∷ xs)))
    there v (inl e) = inl e
    there v (inr k) = inr (omega (arith, k.0, count-cons v x xs), λ f. omega (arith, k.1 f, count-cons q x xs))

pub prev-of-first : (r : ℕ) (xs : List ℕ) → first xs ≢ 0 → prev_in r xs (first xs) ≡ some r
unfolding prev_in first
prev-of-first r [] n = absurd (n refl)
prev-of-first r (x ∷ xs) n = if=-yes x x _ _ refl

pub prev-some : (r q : ℕ) (xs : List ℕ) → r ≢ q → 1 ≤ count q xs → (v : ℕ) × (prev_in r xs q ≡ some v) × (v ≢ q)
unfolding prev_in
prev-some r q [] n o = absurd (omega (arith, count-nil q))
prev-some r q (x ∷ xs) n o =
    by= x q (λ e. (r, if=-yes x q _ _ e, n))
    (λ m. let i = prev-some x q xs m (omega (arith, count-cons q x xs, if=-no {A = ℕ} x q 1 0 m)) in (i.0, if=-no x q _ _ m ∙ i.1, i.2))

pub empty : (xs : List ℕ) (q : ℕ) → first xs ≡ 0 → count 0 xs ≡ 0 → count q xs ≡ 0
unfolding first
empty [] q e o = count-nil q
empty (x ∷ xs) q e o = absurd (omega (arith, o, count-cons 0 x xs, if=-yes {A = ℕ} x 0 1 0 e))
