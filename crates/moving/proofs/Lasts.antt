-- The last block so far on a level of the index, as the move goes from bin to bin: the words of all before it are stored, and its own word is known
-- as soon as the next bin of that level is, or that there is none.
use mathlib.Core.List.{List, []}
use mathlib.Core.Logic.{◌≢◌, ◌⊎◌, inl, inr}
use mathlib.Core.Path.{◌∙◌, ◌≡◌, ap, refl, subst, sym}
use Prim.Native.Nat.{◌+◌, ◌<◌, ◌≤◌, suc, ℕ}
use native.Mathlib.Omega.{arith}
use Rattle.bins.proofs.Before.{from-least}
use Rattle.bins.proofs.LeaveBytes.{link-none}
use Rattle.heads.specs.Links.{link_word}
use Rattle.levels.specs.Levels.{word_of}
use Rattle.moving.proofs.Relaid.{false-clear}
use Rattle.moving.proofs.Stored.{Fits, Stored, also, stored-now, stored-still}
use Rattle.paper.proofs.bins.Listed.{Loose, start}
use Rattle.paper.proofs.bins.Seek.{seek-gap, seek-zero}
use Rattle.paper.proofs.reads.LooseReads.{reach-in}
use Rattle.paper.proofs.sheet.Fields.{at-word, false-word, height-le}
use Rattle.paper.proofs.steps.First.{OnLevel, Pred}
use Rattle.paper.specs.Blocks.{State, end}
use Rattle.paper.specs.Governed.{above, reach, sheet}
use Rattle.paper.specs.Layout.{false_block, large}
use Rattle.words.specs.Choice.{by<, by=}

module _ (s : State) where
  abbrev reaches : ℕ → ℕ → ℕ
  reaches = reach s.top (end s) s.bins

  -- level j is done before size x: what stands there before x is the last one, or its word is stored
  pub record Level (j x last : ℕ) (ps : List (ℕ × ℕ)) : Type 0 where
    pub size : ℕ
    pub pred : Pred s x j size last
    pub stored : (y w : ℕ) → OnLevel s j y w → y < x → (w ≡ last) ⊎ Stored (w + word_of j) ps

  -- at first the false block is the last one
  pub level-first : (j : ℕ) → Level j 65 false_block []
  level-first j =
      record {
        size = 64;
        pred = record { below = omega arith; gap = λ u a b. absurd (omega arith); who = inl (refl, refl) };
        stored = stored;
      }
    where
      stored : (y w : ℕ) → OnLevel s j y w → y < 65 → (w ≡ false_block) ⊎ Stored (w + word_of j) []
      stored y w (inl b) l = inl b.1
      stored y w (inr b) l = absurd (omega (arith, b.2))

  module _ {j x last : ℕ} {ps : List (ℕ × ℕ)} (L : Level j x last ps) where
    -- a store for another level
    pub level-keeps : (a v : ℕ) → Level j x last (also ps a v)
    level-keeps a v = record { size = L.size; pred = L.pred; stored = λ y w o l. still (L.stored y w o l) }
      where
        still : {w : ℕ} → (w ≡ last) ⊎ Stored (w + word_of j) ps → (w ≡ last) ⊎ Stored (w + word_of j) (also ps a v)
        still (inl e) = inl e
        still {w} (inr h) = inr (stored-still ps (w + word_of j) a v h)

    -- past sizes whose bins do not stand on it
    pub level-on : (x' : ℕ) → x ≤ x' → ((u : ℕ) → x ≤ u → u < x' → reaches j u ≡ 0) → Level j x' last ps
    level-on x' l gap =
        record {
          size = L.size;
          pred =
              record {
                below = omega (arith, L.pred.below);
                gap = λ u a b. by< u x (λ c. L.pred.gap u a c) (λ c. gap u c b);
                who = L.pred.who;
              };
          stored = λ y w o b. by< y x (λ c. L.stored y w o c) (λ c. absurd (outside y w o c b));
        }
      where
        outside : (y w : ℕ) → OnLevel s j y w → x ≤ y → y < x' → ⊥
        outside y w (inl b) c d = omega (arith, b.0, L.pred.below, from-least s j L.size last L.pred.who)
        outside y w (inr b) c d = b.1 (sym b.0 ∙ gap y c d)

    -- the first block f of bin x stands on it: the last one's word is stored, and f is the last one now
    pub level-next : (f v : ℕ) → reaches j x ≡ f → f ≢ 0 → large ≤ x → Level j (suc x) f (also ps (last + word_of j) v)
    level-next f v e n big =
        record {
          size = x;
          pred = record { below = omega arith; gap = λ u a b. absurd (omega arith); who = inr (e, n, big) };
          stored = λ y w o l. by= y x (λ k. inl (here w (subst (λ (k : ℕ). OnLevel s j k w) k o)))
              (λ k. inr (before w (L.stored y w o (omega arith))));
        }
      where
        here : (w : ℕ) → OnLevel s j x w → w ≡ f
        here w (inl b) = absurd (omega (arith, b.0))
        here w (inr b) = sym b.0 ∙ e

        before : (w : ℕ) → (w ≡ last) ⊎ Stored (w + word_of j) ps → Stored (w + word_of j) (also ps (last + word_of j) v)
        before w (inl k) = subst (λ (q : ℕ). Stored (q + word_of j) (also ps (last + word_of j) v)) (sym k) (stored-now ps (last + word_of j) v)
        before w (inr h) = stored-still ps (w + word_of j) (last + word_of j) v h

  module _ (W : Loose s) (long : 176 ≤ end s) where
    -- the word of whatever stands on a level
    word_fits : (j y w : ℕ) → 1 ≤ j → j ≤ s.top → OnLevel s j y w
        → Fits (sheet s) (end s) (w + word_of j) (link_word w (above s.top (end s) s.bins j y))
    word_fits j y w j1 jt (inl b) =
        rw (b.0, b.1) (omega (arith, W.top13), omega arith, false-word s j j1 jt W.top13)
    word_fits j y w j1 jt (inr b) =
        let r = reach-in s W j y w b.0 b.1 in
        let f = W.found y w r.2 in
        let st = start s W y w r.2 in
        (omega (arith, W.top13), omega (arith, b.2), at-word s w y f.0 f.1 b.2 r.0 j j1 r.1 W.top13)

    module _ {j x last : ℕ} {ps : List (ℕ × ℕ)} (L : Level j x last ps) where
      -- the last one leads to the bin that comes next
      pub next_fits : (f : ℕ) → 1 ≤ j → j ≤ s.top → reaches j x ≡ f → f ≢ 0 → Fits (sheet s) (end s) (last + word_of j) (link_word last f)
      unfolding above
      next_fits f j1 jt e n =
          subst (λ (k : ℕ). Fits (sheet s) (end s) (last + word_of j) (link_word last k)) (found ∙ e) (word_fits j L.size last j1 jt L.pred.who)
        where
          found : above s.top (end s) s.bins j L.size ≡ reaches j x
          found =
              seek-gap (reaches j) x (λ o. n (sym e ∙ o)) (end s) (suc L.size) L.pred.below
              (omega (arith, start s W x f (reach-in s W j x f e n).2)) L.pred.gap

      -- and to nothing where no bin comes
      pub none-fits : 2 ≤ j → j ≤ 13 → ((u : ℕ) → x ≤ u → reaches j u ≡ 0) → Fits (sheet s) (end s) (last + word_of j) 0
      unfolding above
      none-fits j2 j13 none =
          by< s.top j (λ l. clear l L.pred.who)
          (λ l. subst (Fits (sheet s) (end s) (last + word_of j)) (ap (link_word last) found ∙ link-none last)
          (word_fits j L.size last (omega arith) l L.pred.who))
        where
          found : above s.top (end s) s.bins j L.size ≡ 0
          found = seek-zero (reaches j) (end s) (suc L.size) (λ u a. by< u x (λ b. L.pred.gap u a b) (λ b. none u b))

          -- above the index nothing but the false block stands
          clear : s.top < j → OnLevel s j L.size last → Fits (sheet s) (end s) (last + word_of j) 0
          clear l (inl b) = rw b.1 (omega arith, omega arith, false-clear s s.top j l j13)
          clear l (inr b) = absurd (omega (arith, (reach-in s W j L.size last b.0 b.1).1, height-le s.top L.size))
