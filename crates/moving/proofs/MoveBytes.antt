-- The move makes exactly the bytes of the other layout. After the pass the last one's word on each level is cleared and the false block's level word
-- is stored; then each word at which the two sheets differ is stored, or the new sheet has none there.
use mathlib.Core.List.{List}
use mathlib.Core.Logic.{◌≢◌, ◌⊎◌, inl, inr}
use mathlib.Core.Option.{none}
use mathlib.Core.Path.{◌∙◌, ◌≡◌, ap, refl, subst, sym}
use Prim.Native.Nat.{◌%◌, ◌+◌, ◌-◌, ◌<◌, ◌≤◌, suc, zero, ℕ}
use native.Mathlib.Omega.{arith}
use Rattle.levels.specs.Levels.{word_of}
use Rattle.moving.proofs.Lasts.{Level, none-fits}
use Rattle.moving.proofs.Passed.{Passed, after-loose, all-passed, long-pool, on_one}
use Rattle.moving.proofs.Relaid.{Relaid, Upper, in-false, in-first, past-height, same-elsewhere}
use Rattle.moving.proofs.Stored.{Fits, Made, Stored, also, made-also, stored-now, stored-still}
use Rattle.moving.specs.Move.{closed, last_on, moved, passed}
use Rattle.paper.proofs.bins.Listed.{Loose, loose}
use Rattle.paper.proofs.reads.Stands.{Stands}
use Rattle.paper.proofs.runs.Walk.{in-low}
use Rattle.paper.proofs.sheet.Fields.{false-level}
use Rattle.paper.proofs.sheet.Stores.{Elsewhere, Good, finish}
use Rattle.paper.proofs.steps.First.{OnLevel, reach-at}
use Rattle.paper.proofs.steps.Leave.{NothingNew}
use Rattle.paper.specs.Bins.{first}
use Rattle.paper.specs.Blocks.{State, block, blocks, end, free, with_top}
use Rattle.paper.specs.Governed.{height, sheet}
use Rattle.paper.specs.Layout.{blocks_at, false_block, large, level_at, levels}
use Rattle.paper.specs.Sheet.{Sheet, write}
use Rattle.words.specs.Choice.{by<, by=}

-- ---- nothing comes past the last ones: levels j, j + 1, .. , c of them, after the stores ps
record Closed (g : Sheet) (n : ℕ) (bs cs : List ℕ) (ps : List (ℕ × ℕ)) (c j : ℕ) (ls : List ℕ) : Type 0 where
  pub stores : List (ℕ × ℕ)
  pub made : Made g n bs cs stores
  pub still : (a : ℕ) → Stored a ps → Stored a stores
  pub ends : (k : ℕ) → j ≤ k → k < j + c → Stored (last_on k ls + word_of k) stores

closes : (c j : ℕ) (ls : List ℕ) {g : Sheet} {n : ℕ} {bs cs : List ℕ} {ps : List (ℕ × ℕ)} → Made g n bs cs ps
    → ((k : ℕ) → j ≤ k → k < j + c → Fits g n (last_on k ls + word_of k) 0) → Closed g n bs (closed c j ls cs) ps c j ls
unfolding closed
closes zero j ls {ps = ps} M F = record { stores = ps; made = M; still = λ a h. h; ends = λ k a b. absurd (omega arith) }
closes (suc c) j ls {ps = ps} M F =
    let at : ℕ = last_on j ls + word_of j in
    let C = closes c (j + 1) ls (made-also M at 0 (F j (omega arith) (omega arith))) (λ k a b. F k (omega arith) (omega arith)) in
    record {
      stores = C.stores;
      made = C.made;
      still = λ a h. C.still a (stored-still ps a at 0 h);
      ends = λ k a b. by= k j (λ e. rw e (C.still at (stored-now ps at 0))) (λ e. C.ends k (omega arith) (omega arith));
    }

-- ---- all stores together
module _ (s : State) (bs : List ℕ) (S : Stands s bs) (t : ℕ) (layout : (t ≡ 1) ⊎ (t ≡ 13)) where
  abbrev g : Sheet
  g = sheet (with_top t s)

  abbrev lasts : List ℕ
  lasts = (passed bs t).lasts

  P : Passed s bs S t layout (passed bs t)
  P = all-passed s bs S t layout

  on : (k : ℕ) → 2 ≤ k → k ≤ levels → Level (with_top t s) k (suc P.size) (last_on k lasts) P.stores
  on k a b = P.going.done k a b (omega arith)

  C : Closed g (end s) bs (closed (levels - 1) 2 lasts (passed bs t).bytes) P.stores (levels - 1) 2 lasts
  C =
      closes (levels - 1) 2 lasts P.going.made
      (λ k a b. none-fits (with_top t s) (after-loose s bs S t layout) (long-pool s bs S t layout) (on k a (omega arith)) a (omega arith) (P.none k))

  abbrev stores : List (ℕ × ℕ)
  stores = also C.stores (false_block + level_at) t

  -- the false block's level word is last
  made : Made g (end s) bs (moved bs t) stores
  unfolding moved
  made = made-also C.made (false_block + level_at) t (refl, omega (arith, long-pool s bs S t layout), false-level (with_top t s))

  -- the word of whatever stands on a level from 2 on is stored
  word-stored : (j y w : ℕ) → 2 ≤ j → j ≤ levels → OnLevel (with_top t s) j y w → Stored (w + word_of j) stores
  word-stored j y w j2 j13 o =
      stored-still C.stores (w + word_of j) (false_block + level_at) t
      (by< P.size y (λ l. absurd (outside o l)) (λ l. go ((on j j2 j13).stored y w o (omega arith))))
    where
      outside : OnLevel (with_top t s) j y w → P.size < y → ⊥
      outside (inl b) l = omega (arith, b.0, P.from)
      outside (inr b) l = b.1 (sym b.0 ∙ P.none j y l)

      go : (w ≡ last_on j lasts) ⊎ Stored (w + word_of j) P.stores → Stored (w + word_of j) C.stores
      go (inl e) = subst (λ (k : ℕ). Stored (k + word_of j) C.stores) (sym e) (C.ends j j2 (omega arith))
      go (inr h) = C.still (w + word_of j) h

  -- and the level word of the first block of each large bin
  level-stored : (z q : ℕ) → large ≤ z → first (s.bins z) ≡ q → q ≢ 0 → Stored (q + level_at) stores
  level-stored z q big e n =
      stored-still C.stores (q + level_at) (false_block + level_at) t
      (C.still (q + level_at)
      (by< P.size z
      (λ l. absurd (n (sym e ∙ sym (on_one s bs S t layout z) ∙ P.none 1 z l)))
      (λ l. P.going.levelled z q big l e n)))

  -- a word that is stored is not elsewhere
  not_there : (a b : ℕ) → Elsewhere a stores → a ≡ b → Stored b stores → g a ≡ none
  not_there a b o e h = absurd (h (subst (λ (x : ℕ). Elsewhere x stores) e o))

  -- of the words at which the sheets may differ, the new sheet has none where no store is
  none_left : (a : ℕ) → Elsewhere a stores → Relaid s a → g a ≡ none
  none_left a o (in-false w e (inl k)) =
      not_there a (false_block + level_at) o (omega arith) (stored-now C.stores (false_block + level_at) t)
  none_left a o (in-false w e (inr (j, j2, j13, k))) =
      not_there a (false_block + word_of j) o (omega arith) (word-stored j 64 false_block j2 j13 (inl (refl, refl)))
  none_left a o (in-first q z F w i big f e u) = first_word u
    where
      n : q ≢ 0
      n = omega (arith, in-low (blocks s) blocks_at 1 q (block z free) F i)

      first_word : Upper w → g a ≡ none
      first_word (inl k) = not_there a (q + level_at) o (omega arith) (level-stored z q big f n)
      first_word (inr (j, j2, j13, k)) =
          by< (height t z) j
          (λ l. let at : a ≡ q + word_of j = omega arith in ap g at ∙ past-height s t q z F i big f j l j13)
          (λ l. not_there a (q + word_of j) o (omega arith)
          (word-stored j z q j2 j13 (inr (reach-at t (end s) s.bins j z l ∙ f, n, big))))

  frame : (a : ℕ) → a % 4 ≡ 0 → Elsewhere a stores → NothingNew (g a) (sheet s a)
  frame a al o = go (same-elsewhere s S.well_formed.sized t L'.top1 L'.top13 L.top1 L.top13 a al)
    where
      L : Loose s
      L = loose s S.well_formed

      L' : Loose (with_top t s)
      L' = after-loose s bs S t layout

      go : (g a ≡ sheet s a) ⊎ Relaid s a → NothingNew (g a) (sheet s a)
      go (inl e) = inr e
      go (inr r) = inl (none_left a o r)

-- the move, in either direction
pub move-bytes : (s : State) (bs : List ℕ) → Stands s bs → (t : ℕ) → (t ≡ 1) ⊎ (t ≡ 13) → moved bs t ≡ write (sheet (with_top t s)) bs
move-bytes s bs S t layout =
    let M = made s bs S t layout in
    M.is
    ∙ finish (sheet s) (sheet (with_top t s)) bs (stores s bs S t layout) S.holds
    (subst (λ (n : ℕ). Good (sheet (with_top t s)) n (stores s bs S t layout)) S.ends M.good) (λ a al _ o. frame s bs S t layout a al o)
