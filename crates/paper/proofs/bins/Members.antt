-- A list around one member: what stands before and after it, and the list without it.
use mathlib.Core.List.{List, [], ◌++◌, ◌∷◌}
use mathlib.Core.Path.{◌∙◌, ◌≡◌, ap, refl}
use Prim.Native.Nat.{◌≤◌, ℕ}
use native.Mathlib.Omega.{arith}
use Rattle.paper.proofs.bins.Bins.{count-cons, count-nil, count-there}
use Rattle.paper.specs.Bins.{count, leave}
use Rattle.words.specs.Choice.{by=, if=-no, if=-yes}

-- the first place of q
pub split-member : (q : ℕ) (xs : List ℕ) → 1 ≤ count q xs → (us : List ℕ) × (vs : List ℕ) × (xs ≡ us ++ q ∷ vs) × (count q us ≡ 0)
split-member q [] h = absurd (omega (arith, count-nil q))
split-member q (x ∷ xs) h =
    by= x q (λ e. ([], xs, ap (λ (k : ℕ). k ∷ xs) e, count-nil q))
    (λ n. let r = split-member q xs (omega (arith, count-there x q xs n)) in
    (x ∷ r.0, r.1, ap (λ (k : List ℕ). x ∷ k) r.2, count-there x q r.0 n ∙ r.3))

pub leave-member : (q : ℕ) (us vs : List ℕ) → count q us ≡ 0 → leave q (us ++ q ∷ vs) ≡ us ++ vs
unfolding leave
leave-member q [] vs h = if=-yes q q _ _ refl
leave-member q (x ∷ us) vs h =
    by= x q (λ e. absurd (omega (arith, count-cons q x us, if=-yes {A = ℕ} x q 1 0 e)))
    (λ n. if=-no x q _ _ n ∙ ap (λ (k : List ℕ). x ∷ k) (leave-member q us vs (omega (arith, count-there x q us n))))
