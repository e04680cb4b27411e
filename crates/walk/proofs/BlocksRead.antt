-- The walk over the bytes of a pool meets the blocks of its state: each head reads as the block's size, its flag P and whether it is held.
-- By induction on the blocks: a block whose head is read as it should be leads to the start of the next one.
use mathlib.Core.List.{List, [], ◌∷◌}
use mathlib.Core.Logic.{inl, inr}
use mathlib.Core.Path.{◌∙◌, ◌≡◌, ap, refl, subst, sym}
use Prim.Native.Nat.{◌+◌, ◌/◌, ◌<◌, ◌≤◌, suc, zero, ℕ}
use native.Mathlib.Nat.{add-zero}
use native.Mathlib.Omega.{arith}
use lib.Dec.{eqb}
use lib.ListN.{length}
use Rattle.heads.specs.Heads.{head_of}
use Rattle.heads.specs.declared.head.Head.{Head}
use Rattle.paper.proofs.reads.HeadWords.{head-of-word}
use Rattle.paper.proofs.reads.Readings.{head-reads, low_reads, rest-reads}
use Rattle.paper.proofs.reads.Stands.{Stands}
use Rattle.paper.proofs.runs.Walk.{In, in-flag, in_left, in-mid, sized-parts, total-append}
use Rattle.paper.specs.Blocks.{Block, State, block, blocks, remainder, size, total}
use Rattle.paper.specs.Governed.{flag_above, held_bit}
use Rattle.paper.specs.Granting.{E, R}
use Rattle.paper.specs.Layout.{blocks_at, end_at, start_at}
use Rattle.paper.specs.Runs.{under}
use Rattle.paper.specs.Sound.{Sized}
use Rattle.walk.specs.Blocks.{along, blocks_from, head_at, pool_end}
use Rattle.words.proofs.Laws.{word_out}
use Rattle.words.specs.Choice.{by<, if<-no, if<-yes, if=, if=-no, if=-yes}
use Rattle.words.specs.Words.{word_at}

-- ---- what a block's head is taken apart into
abbrev pub head_for : Block → ℕ → Head
head_for (block z k) P = record { size = z; p = eqb P 1; held = eqb (held_bit k) 1 }

pub head_for-size : (b : Block) (P : ℕ) → (head_for b P).size ≡ size b
head_for-size (block z k) P = refl

-- the heads of the blocks from p on, where the flag P is due, are those of xs
abbrev pub HeadsRead : List ℕ → List Block → ℕ → ℕ → Type 0
HeadsRead bs xs p P = (q : ℕ) (b : Block) (P' : ℕ) → In xs p P q b P' → head_at bs q ≡ head_for b P'

-- ---- something worked out of the heads of blocks, one after the other
module _ {A : Type 0} (f : A → Head → A) where
  abbrev pub over_heads : List Block → ℕ → A → A
  over_heads [] P x = x
  over_heads (b ∷ xs) P x = over_heads xs (flag_above b) (f x (head_for b P))

module _ {A : Type 0} (f : A → Head → A) (bs : List ℕ) where
  -- the walk to a place goes over the blocks that start below it; past the last block it goes no further where a size of 0 is read
  along_under : (xs : List Block) (p P k to : ℕ) (x : A) → Sized xs → HeadsRead bs xs p P
      → (p + total xs < to → (head_at bs (p + total xs)).size ≡ 0) → to < k + p → along f bs k p to x ≡ over_heads f (under xs p to) P x
  unfolding along under
  along_under [] p P zero to x s r o m = refl
  along_under [] p P (suc k) to x s r o m =
      by< p to
      (λ l. if<-yes p to _ _ l ∙ stops (subst (λ (a : ℕ). a < to → (head_at bs a).size ≡ 0) (add-zero p) o l))
      (λ l. if<-no p to _ _ l)
    where
      stops : (head_at bs p).size ≡ 0 → if= (head_at bs p).size 0 x (along f bs k (p + (head_at bs p).size) to (f x (head_at bs p))) ≡ x
      stops e = if=-yes (head_at bs p).size 0 _ _ e
  along_under (b ∷ xs) p P zero to x s r o m = ap (λ (ys : List Block). over_heads f ys P x) (sym (if<-no p to _ _ (omega arith)))
  along_under (b ∷ xs) p P (suc k) to x s r o m =
      by< p to
      (λ l. if<-yes p to _ _ l ∙ if=-no (head_at bs p).size 0 _ _ (omega (arith, z, s.0))
      ∙ ap (λ (a : ℕ). along f bs k (p + a) to (f x (head_at bs p))) z
      ∙ ap (λ (h : Head). along f bs k (p + size b) to (f x h)) here
      ∙ along_under xs (p + size b) (flag_above b) k to (f x (head_for b P)) s.1 (λ q c P' i. r q c P' (inr i))
      (λ g. subst (λ (a : ℕ). (head_at bs a).size ≡ 0) (omega arith) (o (omega arith))) (omega (arith, s.0))
      ∙ ap (λ (ys : List Block). over_heads f ys P x) (sym (if<-yes p to _ _ l)))
      (λ l. if<-no p to _ _ l ∙ ap (λ (ys : List Block). over_heads f ys P x) (sym (if<-no p to _ _ l)))
    where
      here : head_at bs p ≡ head_for b P
      here = r p b P (inl (refl, refl, refl))

      z : (head_at bs p).size ≡ size b
      z = ap (λ (h : Head). h.size) here ∙ head_for-size b P

  pub blocks-under : (xs : List Block) (p P to : ℕ) (x : A) → Sized xs → HeadsRead bs xs p P
      → (p + total xs < to → (head_at bs (p + total xs)).size ≡ 0) → blocks_from f bs p to x ≡ over_heads f (under xs p to) P x
  unfolding blocks_from
  blocks-under xs p P to x s r o = along_under xs p P (suc to) to x s r o (omega arith)

-- all blocks start below the end
pub under_all : (xs : List Block) (p to : ℕ) → Sized xs → p + total xs ≤ to → under xs p to ≡ xs
unfolding under
under_all [] p to s l = refl
under_all (b ∷ xs) p to s l =
    if<-yes p to _ _ (omega (arith, s.0)) ∙ ap (λ (ys : List Block). b ∷ ys) (under_all xs (p + size b) to s.1 (omega arith))

-- ---- the two runs of a pool
module _ (s : State) (bs : List ℕ) (S : Stands s bs) where
  pub parts : Sized s.low × Sized (block s.rest remainder ∷ s.high)
  parts = sized-parts s.low (block s.rest remainder ∷ s.high) S.well_formed.sized

  pub end_is : length bs ≡ E s + total s.high
  end_is = omega (arith, S.ends, total-append s.low (block s.rest remainder ∷ s.high))

  pub R-reads : word_at 4 bs start_at ≡ R s
  R-reads = low_reads bs s S.well_formed (sym S.ends) S.holds

  pub E-reads : word_at 4 bs end_at ≡ E s
  E-reads = rest-reads bs s S.well_formed (sym S.ends) S.holds

  pub end_reads : pool_end bs ≡ E s + total s.high
  unfolding pool_end
  end_reads =
      by< (length bs) 65536 (λ l. if<-yes (length bs) 65536 _ _ l ∙ end_is)
      (λ l. if<-no (length bs) 65536 _ _ l ∙ omega (arith, S.ends, S.well_formed.fits, end_is))

  all-heads : HeadsRead bs (blocks s) blocks_at 1
  all-heads q (block z k) P' i =
      ap head_of (head-reads bs s S.well_formed (sym S.ends) S.holds q z k P' i)
      ∙ head-of-word z k P' (in-flag (blocks s) blocks_at 1 q (block z k) P' (omega arith) i)

  pub low-heads : HeadsRead bs s.low blocks_at 1
  low-heads q b P' i = all-heads q b P' (in_left s.low (block s.rest remainder ∷ s.high) blocks_at 1 q b P' i)

  pub high-heads : HeadsRead bs s.high (E s) 1
  high-heads q b P' i = all-heads q b P' (in-mid s.low (block s.rest remainder ∷ s.high) blocks_at 1 q b P' (inr i))

  -- past the end a size of 0 is read
  pub end-size : (head_at bs (E s + total s.high)).size ≡ 0
  unfolding head_of
  end-size = ap (λ (w : ℕ). w / 4) (word_out 4 bs (E s + total s.high) (omega (arith, end_is)))

  module _ {A : Type 0} (f : A → Head → A) where
    pub low-walk : (to : ℕ) (x : A) → to ≤ R s → blocks_from f bs blocks_at to x ≡ over_heads f (under s.low blocks_at to) 1 x
    low-walk to x l = blocks-under f bs s.low blocks_at 1 to x parts.0 low-heads (λ g. absurd (omega arith))

    pub high-walk : (to : ℕ) (x : A) → blocks_from f bs (E s) to x ≡ over_heads f (under s.high (E s) to) 1 x
    high-walk to x = blocks-under f bs s.high (E s) 1 to x parts.1.1 high-heads (λ g. end-size)

    -- the large blocks are all below R, and the small ones all below the pool's end
    pub low-blocks : (x : A) → blocks_from f bs blocks_at (R s) x ≡ over_heads f s.low 1 x
    low-blocks x = low-walk (R s) x (omega arith) ∙ ap (λ (ys : List Block). over_heads f ys 1 x) (under_all s.low blocks_at (R s) parts.0 (omega arith))

    pub high-blocks : (x : A) → blocks_from f bs (E s) (length bs) x ≡ over_heads f s.high 1 x
    high-blocks x =
        high-walk (length bs) x
        ∙ ap (λ (ys : List Block). over_heads f ys 1 x) (under_all s.high (E s) (length bs) parts.1.1 (omega (arith, end_is)))

    -- both runs, as every walk over the whole pool makes them
    pub both-blocks : (x : A)
        → blocks_from f bs (word_at 4 bs end_at) (pool_end bs) (blocks_from f bs blocks_at (word_at 4 bs start_at) x)
        ≡ over_heads f s.high 1 (over_heads f s.low 1 x)
    both-blocks x =
        ap (λ (e : ℕ). blocks_from f bs e (pool_end bs) (blocks_from f bs blocks_at (word_at 4 bs start_at) x)) E-reads
        ∙ ap (λ (n : ℕ). blocks_from f bs (E s) n (blocks_from f bs blocks_at (word_at 4 bs start_at) x)) (end_reads ∙ sym end_is)
        ∙ ap (λ (r : ℕ). blocks_from f bs (E s) (length bs) (blocks_from f bs blocks_at r x)) R-reads
        ∙ ap (blocks_from f bs (E s) (length bs)) (low-blocks x) ∙ high-blocks (over_heads f s.low 1 x)
