-- One list without what lies below the edge, as stores: what stays is led along, and no word is read after it was stored.
-- By recursion over the list.
use mathlib.Core.List.{List, [], ◌∷◌}
use mathlib.Core.Logic.{◌≢◌, inl, inr}
use mathlib.Core.Path.{◌∙◌, ◌≡◌, ap, refl, sym}
use Prim.Native.Nat.{◌%◌, ◌+◌, ◌<◌, ◌≤◌, suc, zero, ℕ}
use native.Mathlib.Omega.{arith}
use lib.ListN.{length}
use Rattle.homing.proofs.Chain.{Chain, Starts, links, starts-head, starts-new, starts-tail}
use Rattle.homing.specs.Homing.{prune}
use Rattle.paper.proofs.bins.Bins.{count-cons, count-here}
use Rattle.paper.proofs.home.Below.{not_below}
use Rattle.paper.proofs.sheet.Stores.{puts}
use Rattle.paper.specs.Bins.{count, first}
use Rattle.paper.specs.Layout.{small_next_at}
use Rattle.words.proofs.Laws.{word-apart}
use Rattle.words.specs.Choice.{by<, if<-no, if<-yes, if=-no, if=-yes}
use Rattle.words.specs.Sums.{plus}
use Rattle.words.specs.Words.{put_at, word_at}

-- the bytes lead along the list
abbrev pub Leads : List ℕ → List ℕ → Type 0
Leads bs xs = Chain (λ q v. word_at 4 bs (q + small_next_at) ≡ v) xs

-- a store at another word
leads-put : (bs : List ℕ) (a v : ℕ) (xs : List ℕ) → a % 4 ≡ 0 → Starts xs → ((q : ℕ) → 1 ≤ count q xs → a ≢ q + small_next_at)
    → Leads bs xs → Leads (put_at 4 bs a v) xs
leads-put bs a v [] al S n L = tt
leads-put bs a v (x ∷ xs) al S n L = (
  word-apart 4 bs (x + small_next_at) 4 a v (by< a (x + small_next_at) (λ l. inr (omega (arith, k))) (λ l. inl (omega (arith, k, apart)))) ∙ L.0,
  leads-put bs a v xs al (starts-tail x xs S) (λ q o. n q (omega (arith, count-cons q x xs))) L.1,
)
  where
    k : (8 ≤ x) × (x ≤ 65536) × (x % 8 ≡ 0)
    k = starts-head x xs S

    apart : a ≢ x + small_next_at
    apart = n x (omega (arith, count-here x xs))

pub prune-is : (k : ℕ) (bs : List ℕ) (edge at : ℕ) (xs : List ℕ) → length xs < k → at % 4 ≡ 0 → Starts xs
    → ((q : ℕ) → 1 ≤ count q xs → at ≢ q + small_next_at) → Leads bs xs → prune k bs edge at (first xs) ≡ puts (links at (not_below edge xs)) bs
unfolding prune not_below first
prune-is zero bs edge at xs m al S n L = absurd (omega arith)
prune-is (suc k) bs edge at [] m al S n L = if=-yes 0 0 _ _ refl
prune-is (suc k) bs edge at (x ∷ xs) m al S n L =
    if=-no x 0 _ _ (omega (arith, h))
    ∙ by< x edge
    (λ l. if<-yes x edge _ _ l ∙ ap (prune k bs edge at) L.0
    ∙ prune-is k bs edge at xs (omega arith) al T (λ q o. n q (omega (arith, count-cons q x xs))) L.1
    ∙ ap (λ (ys : List ℕ). puts (links at ys) bs) (sym (if<-yes x edge _ _ l)))
    (λ l. if<-no x edge _ _ l
    ∙ (λ i. prune k (put_at 4 bs at x) edge (on i) (L.0 i))
    ∙ prune-is k (put_at 4 bs at x) edge (x + small_next_at) xs (omega arith) (omega (arith, h)) T
    (λ q o e. starts-new x xs S q o (omega arith))
    (leads-put bs at x xs al T (λ q o. n q (omega (arith, count-cons q x xs))) L.1)
    ∙ ap (λ (ys : List ℕ). puts (links at ys) bs) (sym (if<-no x edge _ _ l)))
  where
    h : (8 ≤ x) × (x ≤ 65536) × (x % 8 ≡ 0)
    h = starts-head x xs S

    T : Starts xs
    T = starts-tail x xs S

    on : plus x small_next_at ≡ x + small_next_at
    on = omega (arith, h)
