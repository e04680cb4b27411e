-- The bytes once free large blocks have left their bins: they hold the sheet of the state without them, and where a later state governs
-- nothing they are the old ones, since leaving stores at words of listed blocks alone.
use mathlib.Core.List.{List, [], ◌++◌, ◌∷◌}
use mathlib.Core.Logic.{◌≢◌, ◌⊎◌, inl, inr}
use mathlib.Core.Option.{none}
use mathlib.Core.Path.{◌∙◌, ◌≡◌, ap, refl, subst, sym}
use Prim.Native.Nat.{◌*◌, ◌+◌, ◌/◌, ◌<◌, ◌≤◌, ℕ}
use native.Mathlib.Omega.{arith}
use lib.ListN.{get_or, length}
use Rattle.bins.proofs.Between.{Between, step-between}
use Rattle.bins.proofs.Before.{before, pred-before, size_before}
use Rattle.bins.proofs.LeaveBytes.{leave-stores, leave_later-stores, pass_over-stores}
use Rattle.bins.proofs.Led.{Led}
use Rattle.bins.proofs.LinkRead.{next-in}
use Rattle.bins.specs.Find.{linked_at}
use Rattle.bins.specs.Leave.{leave, leave_later, take_out, used_in}
use Rattle.bins.specs.declared.chain.Bin.{Bin}
use Rattle.paper.proofs.bins.Bins.{count-append, count-cons, count-here, count-nil, last_or}
use Rattle.paper.proofs.bins.Listed.{Loose, start}
use Rattle.paper.proofs.bins.Members.{leave-member, split-member}
use Rattle.paper.proofs.sheet.Phases.{Step, step_keeps}
use Rattle.paper.proofs.sheet.Stores.{Elsewhere, puts}
use Rattle.paper.proofs.sheet.Written.{write-over}
use Rattle.paper.proofs.steps.EnterStep.{split-first}
use Rattle.paper.proofs.steps.First.{Pred}
use Rattle.paper.proofs.steps.Leave.{with-bins}
use Rattle.paper.proofs.steps.LeaveStep.{leave-puts, leave-step}
use Rattle.paper.proofs.steps.Leaving.{leaving-loose, rebinned}
use Rattle.paper.proofs.steps.LinkWords.{Grow, Words, leave-words, out-words}
use Rattle.paper.specs.Bins.{count, first, rebin, used, leave as leave-list}
use Rattle.paper.specs.Blocks.{State, end}
use Rattle.paper.specs.Governed.{height, sheet}
use Rattle.paper.specs.Layout.{large, next_at}
use Rattle.paper.specs.Sheet.{write}
use Rattle.words.specs.Choice.{if=-no, if=-yes}

-- no block leaves a list, and no first block ceases to be first
abbrev pub Grows : (ℕ → List ℕ) → (ℕ → List ℕ) → Type 0
Grows b b' = (r : ℕ) → Grow r b b'

pub grows_same : (b : ℕ → List ℕ) → Grows b b
grows_same b r = record { stays = λ x y n i. i; leads = λ x y n m e. e }

-- cs are the bytes bs of state s once the bins are b
pub record Left (s : State) (bs : List ℕ) (b : ℕ → List ℕ) (cs : List ℕ) : Type 0 where
  pub now : Between (with-bins s b) cs
  pub kept : (s' : State) → Loose s' → s'.top ≡ s.top → Grows b s'.bins → (i : ℕ) → i < length bs
      → sheet s' (i / 4 * 4) ≡ none → get_or cs i 0 ≡ get_or bs i 0

pub none_left : (s : State) (bs : List ℕ) → Between s bs → Left s bs s.bins bs
none_left s bs B = record { now = B; kept = λ s' W' te G i l e. refl }

-- what is written later hides that blocks have left
pub left-write : (s : State) (bs : List ℕ) → length bs ≡ end s → (b : ℕ → List ℕ) (cs : List ℕ) → Left s bs b cs
    → (s' : State) → Loose s' → s'.top ≡ s.top → Grows b s'.bins → write (sheet s') cs ≡ write (sheet s') bs
left-write s bs l b cs L s' W' te G = write-over (sheet s') bs cs (L.now.long ∙ sym l) (λ i m e. L.kept s' W' te G i m e)

-- ---- the block p leaves bin z
module _ (s : State) (bs : List ℕ) (B : Between s bs) (p z : ℕ) (us vs : List ℕ) (big : large ≤ z) (is-in : s.bins z ≡ us ++ p ∷ vs)
    (cs : List ℕ) (made : cs ≡ puts (leave-puts s z (before s z) us vs) bs) where
  abbrev stores : List (ℕ × ℕ)
  stores = leave-puts s z (before s z) us vs

  preds : (j : ℕ) → 1 ≤ j → j ≤ height s.top z → Pred s z j (size_before s z j) (before s z j)
  preds j j1 jh = pred-before s j B.loose z (omega arith)

  step : Step (end s) (sheet s) (sheet (rebinned s z (us ++ vs))) stores
  step = leave-step s B.loose z p us vs is-in big (size_before s z) (before s z) preds

  -- a byte that a later state does not govern, where that state lists what this one lists but for r
  pub kept_but : (s' : State) → Loose s' → s'.top ≡ s.top → (r : ℕ) → Grow r (rebin s.bins z (us ++ vs)) s'.bins → (i : ℕ) → i < length bs
      → sheet s' (i / 4 * 4) ≡ none → ((r + 4 ≤ i / 4 * 4) × (i / 4 * 4 < r + 68)) ⊎ (get_or cs i 0 ≡ get_or bs i 0)
  kept_but s' W' te r G i m e =
      go (out-words s' W' r (rebin s.bins z (us ++ vs)) G stores
      (subst (λ (t : ℕ). Words t (rebin s.bins z (us ++ vs)) stores) (sym te)
      (leave-words s B.loose z p us vs is-in big (size_before s z) (before s z) preds))
      (i / 4 * 4) e)
    where
      go : ((r + 4 ≤ i / 4 * 4) × (i / 4 * 4 < r + 68)) ⊎ Elsewhere (i / 4 * 4) stores
          → ((r + 4 ≤ i / 4 * 4) × (i / 4 * 4 < r + 68)) ⊎ (get_or cs i 0 ≡ get_or bs i 0)
      go (inl o) = inl o
      go (inr o) =
          inr (ap (λ (t : List ℕ). get_or t i 0) made
          ∙ step_keeps (sheet s) (sheet (rebinned s z (us ++ vs))) bs stores
          (subst (λ (n : ℕ). Step n (sheet s) (sheet (rebinned s z (us ++ vs))) stores) (sym B.long) step) B.holds i m o)

  -- where r is no place of the pool
  kept-all : (s' : State) → Loose s' → s'.top ≡ s.top → Grows (rebin s.bins z (us ++ vs)) s'.bins → (i : ℕ)
      → i < length bs → sheet s' (i / 4 * 4) ≡ none → get_or cs i 0 ≡ get_or bs i 0
  kept-all s' W' te G i m e = go (kept_but s' W' te (length bs) (G (length bs)) i m e)
    where
      go : ((length bs + 4 ≤ i / 4 * 4) × (i / 4 * 4 < length bs + 68)) ⊎ (get_or cs i 0 ≡ get_or bs i 0) → get_or cs i 0 ≡ get_or bs i 0
      go (inl o) = absurd (omega (arith, o))
      go (inr k) = k

  pub member-left : Left s bs (rebin s.bins z (us ++ vs)) cs
  member-left =
      record {
        now = subst (Between (rebinned s z (us ++ vs))) (sym made)
            (step-between s bs B (rebinned s z (us ++ vs)) stores (leaving-loose s B.loose z p us vs is-in big) refl refl step);
        kept = kept-all;
      }

-- ---- wherever it stands
module _ (s : State) (bs : List ℕ) (B : Between s bs) (p z : ℕ) (big : large ≤ z) (listed : 1 ≤ count p (s.bins z)) where
  abbrev m : (us : List ℕ) × (vs : List ℕ) × (s.bins z ≡ us ++ p ∷ vs) × (count p us ≡ 0)
  m = split-member p (s.bins z) listed

  without : m.0 ++ m.1 ≡ leave-list p (s.bins z)
  without = sym (ap (leave-list p) m.2 ∙ leave-member p m.0 m.1 m.3)

  pub leave-kept-but : (s' : State) → Loose s' → s'.top ≡ s.top → (r : ℕ) → Grow r (rebin s.bins z (leave-list p (s.bins z))) s'.bins
      → (i : ℕ) → i < length bs → sheet s' (i / 4 * 4) ≡ none
      → ((r + 4 ≤ i / 4 * 4) × (i / 4 * 4 < r + 68)) ⊎ (get_or (leave bs p) i 0 ≡ get_or bs i 0)
  leave-kept-but s' W' te r G =
      kept_but s bs B p z m.0 m.1 big m.2 (leave bs p) (leave-stores s bs B p z big m.0 m.1 m.2)
      s' W' te r (subst (λ (l : List ℕ). Grow r (rebin s.bins z l) s'.bins) (sym without) G)

  pub leave-left : Left s bs (rebin s.bins z (leave-list p (s.bins z))) (leave bs p)
  leave-left =
      subst (λ (l : List ℕ). Left s bs (rebin s.bins z l) (leave bs p)) without
      (member-left s bs B p z m.0 m.1 big m.2 (leave bs p)
      (leave-stores s bs B p z big m.0 m.1 m.2))

-- ---- the block of a bin that is used
module _ (s : State) (bs : List ℕ) (B : Between s bs) (z : ℕ) (bin : Bin) (L : Led s z bin) where
  abbrev f : ℕ
  f = first (s.bins z)

  out_at : (us vs : List ℕ) → s.bins z ≡ us ++ used (s.bins z) ∷ vs → leave-list (used (s.bins z)) (s.bins z) ≡ us ++ vs
      → take_out bs bin ≡ puts (leave-puts s z (before s z) us vs) bs
      → Left s bs (rebin s.bins z (leave-list (used (s.bins z)) (s.bins z))) (take_out bs bin)
  out_at us vs c d m =
      subst (λ (l : List ℕ). Left s bs (rebin s.bins z l) (take_out bs bin)) (sym d)
      (member-left s bs B (used (s.bins z)) z us vs L.big c (take_out bs bin) m)

  -- the bin is f and then xs
  module _ (xs : List ℕ) (is-in : s.bins z ≡ f ∷ xs) where
    next-is : linked_at bs bin.first next_at ≡ first xs
    next-is = ap (λ (k : ℕ). linked_at bs k next_at) L.leads ∙ next-in s bs B f z [] xs L.big is-in

    out : (ws : List ℕ) → xs ≡ ws
        → (used_in bs bin ≡ used (s.bins z)) × Left s bs (rebin s.bins z (leave-list (used (s.bins z)) (s.bins z))) (take_out bs bin)
    unfolding used_in take_out used last_or leave-puts first
    out [] e =
        let c : s.bins z ≡ f ∷ [] = is-in ∙ ap (λ (k : List ℕ). f ∷ k) e in
        let u : used (s.bins z) ≡ f = ap used c in
        let n : linked_at bs bin.first next_at ≡ 0 = next-is ∙ ap first e in (
          if=-yes _ 0 _ _ n ∙ L.leads ∙ sym u,
          out_at [] [] (c ∙ ap (λ (k : ℕ). k ∷ []) (sym u)) ((λ i. leave-list (used (c i)) (c i)) ∙ leave-member f [] [] (count-nil f))
              (if=-yes _ 0 _ _ n ∙ pass_over-stores s bs B f z L.big [] c bin L),
        )
    out (x ∷ ws) e =
        let c : s.bins z ≡ f ∷ x ∷ ws = is-in ∙ ap (λ (k : List ℕ). f ∷ k) e in
        let u : used (s.bins z) ≡ x = ap used c in
        let n : linked_at bs bin.first next_at ≡ x = next-is ∙ ap first e in
        let i : 1 ≤ count x (s.bins z) = omega (arith, ap (count x) c, count-cons x f (x ∷ ws), count-here x ws) in
        let n0 : linked_at bs bin.first next_at ≢ 0 = (λ o. omega (arith, (start s B.loose z x i).0, sym n ∙ o)) in
        let d : count x (f ∷ []) ≡ 0 = omega (arith, B.loose.once z x, ap (count x) c, count-append x (f ∷ []) (x ∷ ws), count-here x ws) in (
          if=-no _ 0 _ _ n0 ∙ n ∙ sym u,
          out_at (f ∷ []) ws (c ∙ ap (λ (k : ℕ). f ∷ k ∷ ws) (sym u)) ((λ i. leave-list (used (c i)) (c i)) ∙ leave-member x (f ∷ []) ws d)
              (if=-no _ 0 _ _ n0 ∙ (λ i. leave_later bs (L.leads i) (n i)) ∙ leave_later-stores s bs B x z L.big f [] ws c ws refl),
        )

  -- it is the paper's, and it has left
  pub used-is : used_in bs bin ≡ used (s.bins z)
  used-is = let c = split-first (s.bins z) f refl (λ o. L.some (L.leads ∙ o)) in (out c.0 c.1 c.0 refl).0

  pub take-out-left : Left s bs (rebin s.bins z (leave-list (used (s.bins z)) (s.bins z))) (take_out bs bin)
  take-out-left = let c = split-first (s.bins z) f refl (λ o. L.some (L.leads ∙ o)) in (out c.0 c.1 c.0 refl).1
