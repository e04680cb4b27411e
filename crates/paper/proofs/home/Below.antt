-- A list without what lies below a place, in its order: how often a start stands in it, and when nothing goes.
use mathlib.Core.List.{List, [], ◌∷◌}
use mathlib.Core.Path.{◌∙◌, ◌≡◌, ap, refl, sym}
use Prim.Native.Nat.{◌+◌, ◌<◌, ◌≤◌, ℕ}
use native.Mathlib.Omega.{arith}
use Rattle.paper.proofs.bins.Bins.{count-cons, count-here, count-nil, count-there}
use Rattle.paper.specs.Bins.{count, leave}
use Rattle.paper.specs.Layout.{large}
use Rattle.words.specs.Choice.{by<, by=, if<, if<-no, if<-yes, if=, if=-no, if=-yes}

unfoldable pub not_below : ℕ → List ℕ → List ℕ
not_below e [] = []
not_below e (x ∷ xs) = if< x e (not_below e xs) (x ∷ not_below e xs)

-- of the small bins alone
unfoldable pub small_not_below : ℕ → (ℕ → List ℕ) → ℕ → List ℕ
small_not_below e bins z = if< z large (not_below e (bins z)) (bins z)

pub count-not-below : (e q : ℕ) (xs : List ℕ) → count q (not_below e xs) ≡ if< q e 0 (count q xs)
unfolding not_below
count-not-below e q [] = by< q e (λ l. count-nil q ∙ sym (if<-yes q e _ _ l)) (λ l. sym (if<-no q e _ _ l))
count-not-below e q (x ∷ xs) =
    by< x e
    (λ l. ap (count q) (if<-yes x e _ _ l) ∙ count-not-below e q xs
    ∙ by< q e (λ m. if<-yes q e _ _ m ∙ sym (if<-yes q e _ _ m))
    (λ m. if<-no q e _ _ m ∙ sym (if<-no q e _ _ m ∙ count-there x q xs (omega arith))))
    (λ l. ap (count q) (if<-no x e _ _ l)
    ∙ count-cons q x (not_below e xs) ∙ ap (λ (k : ℕ). if= x q 1 0 + k) (count-not-below e q xs)
    ∙ by< q e
    (λ m. ap (λ (k : ℕ). if= x q 1 0 + k) (if<-yes q e _ _ m) ∙ ap (λ (k : ℕ). k + 0) (if=-no x q _ _ (omega arith)) ∙ sym (if<-yes q e _ _ m))
    (λ m. ap (λ (k : ℕ). if= x q 1 0 + k) (if<-no q e _ _ m) ∙ sym (count-cons q x xs) ∙ sym (if<-no q e _ _ m)))

-- where nothing lies below, nothing goes
pub none_below : (e : ℕ) (xs : List ℕ) → ((q : ℕ) → 1 ≤ count q xs → e ≤ q) → not_below e xs ≡ xs
unfolding not_below
none_below e [] h = refl
none_below e (x ∷ xs) h =
    if<-no x e _ _ (h x (omega (arith, count-here x xs)))
    ∙ ap (λ (l : List ℕ). x ∷ l) (none_below e xs (λ q o. h q (omega (arith, count-cons q x xs))))

-- a start that lies below goes anyhow
pub below_left : (e q : ℕ) (xs : List ℕ) → q < e → not_below e (leave q xs) ≡ not_below e xs
unfolding not_below leave
below_left e q [] l = refl
below_left e q (x ∷ xs) l =
    by= x q
    (λ k. ap (not_below e) (if=-yes x q _ _ k) ∙ sym (if<-yes x e _ _ (omega arith)))
    (λ n. ap (not_below e) (if=-no x q _ _ n)
    ∙ by< x e (λ m. if<-yes x e _ _ m ∙ below_left e q xs l ∙ sym (if<-yes x e _ _ m))
    (λ m. if<-no x e _ _ m ∙ ap (λ (k : List ℕ). x ∷ k) (below_left e q xs l) ∙ sym (if<-no x e _ _ m)))

pub small-not-below : (e : ℕ) (bins : ℕ → List ℕ) (z : ℕ) → z < large → small_not_below e bins z ≡ not_below e (bins z)
unfolding small_not_below
small-not-below e bins z l = if<-yes z large _ _ l

pub large-not-below : (e : ℕ) (bins : ℕ → List ℕ) (z : ℕ) → large ≤ z → small_not_below e bins z ≡ bins z
unfolding small_not_below
large-not-below e bins z l = if<-no z large _ _ l
