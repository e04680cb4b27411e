-- Runs of stores put together: end to end, and level by level.
use mathlib.Core.List.{List, [], ◌++◌, ◌∷◌}
use Prim.Native.Nat.{◌≤◌, suc, zero, ℕ}
use native.Mathlib.Omega.{arith}
use Rattle.paper.proofs.sheet.Stores.{Elsewhere, Good}
use Rattle.paper.specs.Sheet.{Sheet}
use Rattle.words.specs.Choice.{by=}

-- those of level h, .. , those of level 1
abbrev pub by_level : ℕ → (ℕ → List (ℕ × ℕ)) → List (ℕ × ℕ)
by_level zero f = []
by_level (suc j) f = f (suc j) ++ by_level j f

pub elsewhere-append : (a : ℕ) (ps qs : List (ℕ × ℕ)) → Elsewhere a (ps ++ qs) → Elsewhere a ps × Elsewhere a qs
elsewhere-append a [] qs o = (tt, o)
elsewhere-append a (p ∷ ps) qs o = let r = elsewhere-append a ps qs o.1 in ((o.0, r.0), r.1)

pub good-append : (g : Sheet) (n : ℕ) (ps qs : List (ℕ × ℕ)) → Good g n ps → Good g n qs → Good g n (ps ++ qs)
good-append g n [] qs x y = y
good-append g n (p ∷ ps) qs x y = (x.0, good-append g n ps qs x.1 y)

pub elsewhere-level : (a h : ℕ) (f : ℕ → List (ℕ × ℕ)) → Elsewhere a (by_level h f) → (j : ℕ) → 1 ≤ j → j ≤ h → Elsewhere a (f j)
elsewhere-level a zero f o j l m = absurd (omega arith)
elsewhere-level a (suc h) f o j l m =
    let r = elsewhere-append a (f (suc h)) (by_level h f) o in
    by= j (suc h) (λ e. rw e r.0) (λ n. elsewhere-level a h f r.1 j l (omega arith))

pub good-level : (g : Sheet) (n h : ℕ) (f : ℕ → List (ℕ × ℕ)) → ((j : ℕ) → 1 ≤ j → j ≤ h → Good g n (f j)) → Good g n (by_level h f)
good-level g n zero f k = tt
good-level g n (suc h) f k =
    good-append g n (f (suc h)) (by_level h f) (k (suc h) (omega arith) (omega arith)) (good-level g n h f (λ j l m. k j l (omega arith)))
