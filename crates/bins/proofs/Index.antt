-- What a search reads up to a level of the index: how high the index is, the size in the head of each listed block, and the index words.
-- It is kept by every store at another word of a block that stands: two such blocks are apart, and so are two words of one block.
use mathlib.Core.List.{List, [], ◌∷◌}
use mathlib.Core.Logic.{◌⊎◌, inl, inr}
use mathlib.Core.Path.{◌∙◌, ◌≡◌, ap}
use Prim.Native.Nat.{◌*◌, ◌+◌, ◌-◌, ◌<◌, ◌≤◌, ℕ}
use native.Mathlib.Omega.{arith}
use Rattle.bins.proofs.Between.{Between}
use Rattle.bins.proofs.LinkRead.{index_read, listed-size-read, top_read}
use Rattle.bins.specs.Find.{linked_at, size_at}
use Rattle.heads.specs.Heads.{head_of}
use Rattle.heads.specs.Links.{followed}
use Rattle.levels.specs.Levels.{top_of, word_of}
use Rattle.paper.proofs.bins.Listed.{Loose, start}
use Rattle.paper.proofs.reads.LooseReads.{reach-in}
use Rattle.paper.proofs.runs.Places.{in-apart}
use Rattle.paper.proofs.runs.Walk.{In, in-low}
use Rattle.paper.proofs.sheet.Stores.{puts}
use Rattle.paper.proofs.steps.First.{OnLevel}
use Rattle.paper.specs.Bins.{count}
use Rattle.paper.specs.Blocks.{State, block, blocks, end, free}
use Rattle.paper.specs.Governed.{above}
use Rattle.paper.specs.Layout.{blocks_at, false_block, large, level_at, levels}
use Rattle.words.proofs.Laws.{word-apart}
use Rattle.words.specs.Choice.{if=}
use Rattle.words.specs.Words.{put_at, word_at}

pub record Index (s : State) (j : ℕ) (cs : List ℕ) : Type 0 where
  pub top : top_of cs ≡ s.top
  pub sized : (q z : ℕ) → 1 ≤ count q (s.bins z) → size_at cs q ≡ z
  pub word : (i y w : ℕ) → 1 ≤ i → i ≤ j → OnLevel s i y w → linked_at cs w (word_of i) ≡ above s.top (end s) s.bins i y

pub between-index : (s : State) (bs : List ℕ) → Between s bs → Index s s.top bs
between-index s bs B =
    record {
      top = top_read s bs B;
      sized = listed-size-read s bs B;
      word = λ i y w i1 it o. index_read s bs B i y w o i1 it;
    }

pub index-lower : (s : State) (i j : ℕ) (cs : List ℕ) → i ≤ j → Index s j cs → Index s i cs
index-lower s i j cs l I = record { top = I.top; sized = I.sized; word = λ k y w k1 ki o. I.word k y w k1 (omega arith) o }

-- ---- stores that spare it
-- two words have no byte in common
abbrev Apart : ℕ → ℕ → Type 0
Apart a b = (a + 4 ≤ b) ⊎ (b + 4 ≤ a)

pub record Spares (s : State) (j a : ℕ) : Type 0 where
  pub top : Apart (false_block + level_at) a
  pub sized : (q z : ℕ) → 1 ≤ count q (s.bins z) → Apart q a
  pub word : (i y w : ℕ) → 1 ≤ i → i ≤ j → OnLevel s i y w → Apart (w + word_of i) a

pub index-put : (s : State) (j : ℕ) (cs : List ℕ) → Index s j cs → (a v : ℕ) → Spares s j a → Index s j (put_at 4 cs a v)
unfolding top_of size_at linked_at
index-put s j cs I a v S =
    record {
      top = ap (λ (w : ℕ). if= w levels levels 1) (word-apart 4 cs (false_block + level_at) 4 a v S.top) ∙ I.top;
      sized = λ q z i. ap (λ (w : ℕ). (head_of w).size) (word-apart 4 cs q 4 a v (S.sized q z i)) ∙ I.sized q z i;
      word = λ i y w i1 ij o. ap (followed w) (word-apart 4 cs (w + word_of i) 4 a v (S.word i y w i1 ij o)) ∙ I.word i y w i1 ij o;
    }

abbrev pub SparesAll : State → ℕ → List (ℕ × ℕ) → Type 0
SparesAll s j [] = Unit {0}
SparesAll s j (p ∷ ps) = Spares s j p.0 × SparesAll s j ps

pub index-puts : (s : State) (j : ℕ) (ps : List (ℕ × ℕ)) (cs : List ℕ) → Index s j cs → SparesAll s j ps → Index s j (puts ps cs)
index-puts s j [] cs I S = I
index-puts s j (p ∷ ps) cs I S = index-puts s j ps (put_at 4 cs p.0 p.1) (index-put s j cs I p.0 p.1 S.0) S.1

module _ (s : State) (W : Loose s) (j : ℕ) where
  -- at a word of a free large block that is below its index words up to level j
  module _ (v z P o : ℕ) (big : large ≤ z) (at : In (blocks s) blocks_at 1 v (block z free) P) (past : 4 ≤ o) (under : o + 4 ≤ 68 - 4 * j) where
    far : blocks_at ≤ v
    far = in-low (blocks s) blocks_at 1 v (block z free) P at

    pub block-spares : Spares s j (v + o)
    block-spares =
        record {
          top = inl (omega (arith, far));
          sized = λ q y i. let f = W.found y q i in head q y (in-apart (blocks s) blocks_at 1 v (block z free) P q (block y free) f.0 at f.1);
          word = word;
        }
      where
        head : (q y : ℕ) → ((v ≡ q) × (block z free ≡ block y free)) ⊎ (v + z ≤ q) ⊎ (q + y ≤ v) → Apart q (v + o)
        head q y (inl e) = inl (omega (arith, e.0))
        head q y (inr (inl l)) = inr (omega arith)
        head q y (inr (inr l)) = inl (omega arith)

        word : (i y w : ℕ) → 1 ≤ i → i ≤ j → OnLevel s i y w → Apart (w + word_of i) (v + o)
        word i y w i1 ij (inl b) = inl (omega (arith, far))
        word i y w i1 ij (inr b) =
            let f = W.found y w (reach-in s W i y w b.0 b.1).2 in
            go (in-apart (blocks s) blocks_at 1 v (block z free) P w (block y free) f.0 at f.1)
          where
            go : ((v ≡ w) × (block z free ≡ block y free)) ⊎ (v + z ≤ w) ⊎ (w + y ≤ v) → Apart (w + word_of i) (v + o)
            go (inl e) = inr (omega (arith, e.0))
            go (inr (inl l)) = inr (omega arith)
            go (inr (inr l)) = inl (omega (arith, b.2))

  -- of the false block, past its level word
  false-spares : (o : ℕ) → 16 ≤ o → o + 4 ≤ 68 - 4 * j → Spares s j (false_block + o)
  false-spares o past under =
      record {
        top = inl (omega arith);
        sized = λ q y i. inr (omega (arith, (start s W y q i).0));
        word = word;
      }
    where
      word : (i y w : ℕ) → 1 ≤ i → i ≤ j → OnLevel s i y w → Apart (w + word_of i) (false_block + o)
      word i y w i1 ij (inl b) = inr (omega (arith, b.1))
      word i y w i1 ij (inr b) = inr (omega (arith, (start s W y w (reach-in s W i y w b.0 b.1).2).0))

  -- at an index word of a higher level
  pub level-spares : (k y v : ℕ) → j < k → k ≤ 13 → OnLevel s k y v → Spares s j (v + word_of k)
  level-spares k y v l m (inl b) = rw b.1 (false-spares (word_of k) (omega arith) (omega arith))
  level-spares k y v l m (inr b) =
      let f = W.found y v (reach-in s W k y v b.0 b.1).2 in
      block-spares v y f.0 (word_of k) b.2 f.1 (omega arith) (omega arith)

-- ---- nothing of it is in the header
pub index-past : (s : State) (W : Loose s) (j : ℕ) (bs cs : List ℕ) → ((a : ℕ) → false_block ≤ a → word_at 4 cs a ≡ word_at 4 bs a) → Index s j bs → Index s j cs
unfolding top_of size_at linked_at
index-past s W j bs cs same I =
    record {
      top = ap (λ (w : ℕ). if= w levels levels 1) (same (false_block + level_at) (omega arith)) ∙ I.top;
      sized = λ q z i. ap (λ (w : ℕ). (head_of w).size) (same q (omega (arith, (start s W z q i).0))) ∙ I.sized q z i;
      word = λ i y w i1 ij o. ap (followed w) (same (w + word_of i) (past i y w o)) ∙ I.word i y w i1 ij o;
    }
  where
    past : (i y w : ℕ) → OnLevel s i y w → false_block ≤ w + word_of i
    past i y w (inl b) = omega (arith, b.1)
    past i y w (inr b) = omega (arith, (start s W y w (reach-in s W i y w b.0 b.1).2).0)
