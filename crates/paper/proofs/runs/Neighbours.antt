-- "The free large block below and the one above", each there or not: a held large block's run of the low blocks, with the gaps beside it
-- as lists of at most one free block, so that no case is told apart twice.
use mathlib.Core.List.{List, [], ◌++◌, ◌∷◌, append_assoc, append-nil}
use mathlib.Core.Logic.{◌≢◌, ◌⊎◌, inl, inr}
use mathlib.Core.Path.{◌∙◌, ◌≡◌, ap, refl, subst, sym}
use Prim.Native.Nat.{◌+◌, ◌≤◌, ℕ}
use native.Mathlib.Omega.{arith}
use Rattle.paper.proofs.bins.BinLaws.{count-rebin-leave}
use Rattle.paper.proofs.runs.HeldPlaces.{HeldLow}
use Rattle.paper.proofs.keeps.Kept.{sized-low}
use Rattle.paper.proofs.runs.Shapes.{NotFree, Open, low-cases, low-ends, low_held, open-cases}
use Rattle.paper.proofs.runs.Splitting.{ends-append, ends-below, ends-here, starts-append, starts-past}
use Rattle.paper.proofs.runs.Walk.{sized-parts, total-append}
use Rattle.paper.specs.Bins.{count, leave, rebin}
use Rattle.paper.specs.Blocks.{Block, State, block, free, held, remainder, total}
use Rattle.paper.specs.GivingBack.{left}
use Rattle.paper.specs.Layout.{blocks_at, large}
use Rattle.paper.specs.Runs.{ends_at, free_size, starts_at}
use Rattle.paper.specs.Sound.{Low, Sized, WellFormed, free_at}
use Rattle.words.specs.Choice.{by=, if=, if=-no, if=-yes}

-- a free block of size d, nothing where d is 0
unfoldable pub gap : ℕ → List Block
gap d = if= d 0 [] (block d free ∷ [])

pub gap-none : gap 0 ≡ []
unfolding gap
gap-none = if=-yes 0 0 _ _ refl

pub gap-some : (d : ℕ) → 1 ≤ d → gap d ≡ block d free ∷ []
unfolding gap
gap-some d l = if=-no d 0 _ _ (omega arith)

pub gap-total : (d : ℕ) → total (gap d) ≡ d
gap-total d =
    by= d 0 (λ e. ap (λ (k : ℕ). total (gap k)) e ∙ ap total gap-none ∙ sym e)
    (λ n. ap total (gap-some d (omega arith)) ∙ omega arith)

pub left-none : (bins : ℕ → List ℕ) (d p : ℕ) → d ≡ 0 → left bins d p ≡ bins
unfolding left
left-none bins d p e = if=-yes d 0 _ _ e

pub left-some : (bins : ℕ → List ℕ) (d p : ℕ) → d ≢ 0 → left bins d p ≡ rebin bins d (leave p (bins d))
unfolding left
left-some bins d p n = if=-no d 0 _ _ n

-- the block of a gap leaves its bin, where it is listed
pub count_left : (bins : ℕ → List ℕ) (d p : ℕ) → ((y x : ℕ) → free_at (gap d) p y x ≤ count x (bins y)) → (y x : ℕ)
    → free_at (gap d) p y x + count x (left bins d p y) ≡ count x (bins y)
unfolding free_at
count_left bins d p h y x =
    by= d 0
    (λ e. rw (ap gap e ∙ gap-none, left-none bins d p e) (omega arith))
    (λ n. let g : gap d ≡ block d free ∷ [] = gap-some d (omega arith) in
    let o : if= {A = ℕ} d d (if= p p 1 0) 0 + 0 ≤ count p (bins d) = rw g at (h d p) in
    rw (g, left-some bins d p n)
    (omega (
      arith,
      count-rebin-leave bins d p y x
          (omega (arith, if=-yes {A = ℕ} d d (if= p p 1 0) 0 refl, if=-yes {A = ℕ} p p 1 0 refl)),
    )))

-- ---- what stands below a held block, and above it

pub record Below (us : List Block) : Type 0 where
  pub size : ℕ
  pub under : List Block
  pub is : us ≡ under ++ gap size
  pub low_ok : Low under
  pub reads : (p q : ℕ) → p + total us ≡ q → ends_at free_size us p q ≡ size

pub below : (us : List Block) → Open us → Below us
below us o = go (open-cases us o)
  where
    go : Low us ⊎ ((ws : List Block) × (d : ℕ) × (us ≡ ws ++ block d free ∷ []) × (large ≤ d) × Low ws) → Below us
    go (inl l) =
        record {
          size = 0;
          under = us;
          is = sym (ap (λ (g : List Block). us ++ g) gap-none ∙ append-nil us);
          low_ok = l;
          reads = λ p q e. low-ends us p q l e;
        }
    go (inr r) =
        let g : gap r.1 ≡ block r.1 free ∷ [] = gap-some r.1 (omega (arith, r.3)) in
        record {
          size = r.1;
          under = r.0;
          is = r.2 ∙ sym (ap (λ (k : List Block). r.0 ++ k) g);
          low_ok = r.4;
          reads =
              λ p q e. ap (λ (l : List Block). ends_at free_size l p q) r.2
              ∙ ends-here free_size r.0 (block r.1 free) [] p q (omega (arith, r.3))
              (omega (arith, e, ap total r.2, total-append r.0 (block r.1 free ∷ [])));
        }

pub record Above (vs : List Block) : Type 0 where
  pub size : ℕ
  pub over : List Block
  pub is : vs ≡ gap size ++ over
  pub low_ok : Low over
  pub not_free : NotFree over
  pub reads : (p q : ℕ) → p ≡ q → starts_at free_size vs p q ≡ size

not-free-reads : (vs : List Block) → Low vs → NotFree vs → (p q : ℕ) → p ≡ q → starts_at free_size vs p q ≡ 0
unfolding starts_at
not-free-reads [] l n p q e = refl
not-free-reads (block z held ∷ vs) l n p q e = if=-yes p q _ _ e
not-free-reads (block z remainder ∷ vs) l n p q e = absurd l
not-free-reads (block z free ∷ vs) l n p q e = absurd n

free-reads : (u : ℕ) (ws : List Block) (p q : ℕ) → p ≡ q → starts_at free_size (block u free ∷ ws) p q ≡ u
unfolding starts_at
free-reads u ws p q e = if=-yes p q _ _ e

pub above : (vs : List Block) → Low vs → Above vs
above vs l = go (low-cases vs l)
  where
    go : NotFree vs ⊎ ((u y : ℕ) × (ws : List Block) × (vs ≡ block u free ∷ block y held ∷ ws) × (large ≤ u) × (large ≤ y) × Low ws) → Above vs
    go (inl n) =
        record {
          size = 0;
          over = vs;
          is = sym (ap (λ (g : List Block). g ++ vs) gap-none);
          low_ok = l;
          not_free = n;
          reads = not-free-reads vs l n;
        }
    go (inr r) =
        let g : gap r.0 ≡ block r.0 free ∷ [] = gap-some r.0 (omega (arith, r.4)) in
        record {
          size = r.0;
          over = block r.1 held ∷ r.2;
          is = r.3 ∙ sym (ap (λ (k : List Block). k ++ block r.1 held ∷ r.2) g);
          low_ok = (r.5, r.6);
          not_free = tt;
          reads = λ p q e. ap (λ (k : List Block). starts_at free_size k p q) r.3 ∙ free-reads r.0 (block r.1 held ∷ r.2) p q e;
        }

-- ---- the run of a held large block: under, the gap below, the block, the gap above, over

pub record Run (s : State) (q z : ℕ) : Type 0 where
  pub under : List Block
  pub down : ℕ
  pub up : ℕ
  pub over : List Block
  pub is : s.low ≡ under ++ (gap down ++ block z held ∷ gap up ++ over)
  pub starts : blocks_at + total under + down ≡ q
  pub reads-down : ends_at free_size s.low blocks_at q ≡ down
  pub reads_up : starts_at free_size s.low blocks_at (q + z) ≡ up
  pub low-under : Low under
  pub low-over : Low over
  pub not_free : NotFree over
  pub sized : large ≤ z

regroup : (us d : List Block) (b : Block) (u vs : List Block) → (us ++ d) ++ b ∷ (u ++ vs) ≡ us ++ (d ++ b ∷ u ++ vs)
regroup us d b u vs = append_assoc us d (b ∷ (u ++ vs)) ∙ ap (λ (l : List Block). us ++ l) (sym (append_assoc d (b ∷ u) vs))

held_reads : (z : ℕ) (vs : List Block) (p q : ℕ) → p ≢ q → starts_at free_size (block z held ∷ vs) p q ≡ starts_at free_size vs (p + z) q
unfolding starts_at
held_reads z vs p q n = if=-no p q _ _ n

pub run : (s : State) → WellFormed s → (q z : ℕ) → HeldLow s q z → Run s q z
run s W q z H =
    let t = sized-parts H.before (block z held ∷ H.after) (subst Sized H.is (sized-low s W)) in
    let l = low_held H.before z H.after (subst Low H.is W.low_ok) in
    let B = below H.before l.0 in
    let A = above H.after l.2 in
    record {
      under = B.under;
      down = B.size;
      up = A.size;
      over = A.over;
      is =
          H.is ∙ (λ i. B.is i ++ block z held ∷ A.is i)
          ∙ regroup B.under (gap B.size) (block z held) (gap A.size) A.over;
      starts = omega (arith, H.starts, ap total B.is, total-append B.under (gap B.size), gap-total B.size);
      reads-down =
          ap (λ (k : List Block). ends_at free_size k blocks_at q) H.is
          ∙ ends-append free_size H.before (block z held ∷ H.after) blocks_at q t.1
          ∙ omega (
            arith,
            B.reads blocks_at q H.starts,
            ends-below free_size (block z held ∷ H.after) (blocks_at + total H.before) q t.1 (omega (arith, H.starts)),
          );
      reads_up =
          ap (λ (k : List Block). starts_at free_size k blocks_at (q + z)) H.is
          ∙ starts-append free_size H.before (block z held ∷ H.after) blocks_at (q + z) t.0
          ∙ omega (
            arith,
            starts-past free_size H.before blocks_at (q + z) t.0 (omega (arith, H.starts)),
            held_reads z H.after (blocks_at + total H.before) (q + z) (omega (arith, H.starts, H.sized)),
            A.reads (blocks_at + total H.before + z) (q + z) (omega (arith, H.starts)),
          );
      low-under = B.low_ok;
      low-over = A.low_ok;
      not_free = A.not_free;
      sized = H.sized;
    }
