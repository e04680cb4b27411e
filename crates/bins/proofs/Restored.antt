-- The words of a block put back as they were in old bytes: inside the block the old bytes, outside the new ones.
use mathlib.Core.List.{List}
use mathlib.Core.Logic.{◌⊎◌, inl, inr}
use mathlib.Core.Path.{◌∙◌, ◌≡◌, ap, refl}
use Prim.Native.Nat.{◌*◌, ◌+◌, ◌-◌, ◌<◌, ◌≤◌, suc, zero, ℕ}
use native.Mathlib.Omega.{arith}
use lib.ListN.{get_or, length}
use Rattle.bins.specs.Keep.{put_words, words_at}
use Rattle.bins.specs.Leave.{restored}
use Rattle.levels.specs.Levels.{word_of}
use Rattle.paper.proofs.sheet.Octets.{get_or-put-in, octet-word}
use Rattle.paper.specs.Layout.{chain_at, level_at, previous_at}
use Rattle.words.proofs.Laws.{get_or-put, put-length}
use Rattle.words.specs.Choice.{by<}
use Rattle.words.specs.Sums.{plus}
use Rattle.words.specs.Words.{Bytes, put_at, word_at}

-- a free large block's links, level word and index words end here
abbrev pub words-end : ℕ
words-end = chain_at + 4

module _ (bs : List ℕ) (r : ℕ) where
  -- k words of the block at r, from o on, as they stand in bs
  abbrev copied : List ℕ → ℕ → ℕ → List ℕ
  copied cs o k = put_words cs r o (words_at bs r o k)

  copied-length : (k o : ℕ) (cs : List ℕ) → length (copied cs o k) ≡ length cs
  unfolding put_words words_at
  copied-length zero o cs = refl
  copied-length (suc k) o cs = copied-length k (plus o 4) (put_at 4 cs (r + o) (word_at 4 bs (r + o))) ∙ put-length 4 cs (r + o) (word_at 4 bs (r + o))

  copied-out : (k o : ℕ) (cs : List ℕ) (i : ℕ) → o + 4 * k ≤ words-end → (i < r + o) ⊎ (r + (o + 4 * k) ≤ i) → get_or (copied cs o k) i 0 ≡ get_or cs i 0
  unfolding put_words words_at
  copied-out zero o cs i m w = refl
  copied-out (suc k) o cs i m (inl w) =
      copied-out k (plus o 4) (put_at 4 cs (r + o) (word_at 4 bs (r + o))) i (omega arith) (inl (omega arith)) ∙ get_or-put 4 cs (r + o) _ i (inl w)
  copied-out (suc k) o cs i m (inr w) =
      copied-out k (plus o 4) (put_at 4 cs (r + o) (word_at 4 bs (r + o))) i (omega arith) (inr (omega arith)) ∙ get_or-put 4 cs (r + o) _ i (inr (omega arith))

  module _ (B : Bytes bs) where
    copied-in : (k o : ℕ) (cs : List ℕ) (i : ℕ) → o + 4 * k ≤ words-end → r + (o + 4 * k) ≤ length cs → r + (o + 4 * k) ≤ length bs
        → r + o ≤ i → i < r + (o + 4 * k) → get_or (copied cs o k) i 0 ≡ get_or bs i 0
    unfolding put_words words_at
    copied-in zero o cs i m l l' a b = absurd (omega arith)
    copied-in (suc k) o cs i m l l' a b =
        let v : ℕ = word_at 4 bs (r + o) in
        by< i (r + o + 4)
        (λ n. copied-out k (plus o 4) (put_at 4 cs (r + o) v) i (omega arith) (inl (omega arith))
        ∙ get_or-put-in 4 cs (r + o) v i (i - (r + o)) (omega arith) (omega arith) (omega arith)
        ∙ octet-word 4 bs (r + o) (i - (r + o)) (omega arith) B (omega arith)
        ∙ ap (λ (j : ℕ). get_or bs j 0) (omega arith))
        (λ n. copied-in k (plus o 4) (put_at 4 cs (r + o) v) i (omega arith) (omega (arith, put-length 4 cs (r + o) v)) (omega arith) (omega arith) (omega arith))

-- links and level word, and the h lowest index words
module _ (bs cs : List ℕ) (r h : ℕ) (B : Bytes bs) (h13 : h ≤ 13) (m : r + words-end ≤ length cs) (m' : r + words-end ≤ length bs) where
  abbrev with-links : List ℕ
  with-links = copied bs r cs previous_at 3

  pub restored-length : length (restored bs cs r h) ≡ length cs
  unfolding restored
  restored-length = copied-length bs r h (word_of h) with-links ∙ copied-length bs r 3 previous_at cs

  -- between them nothing is put back
  pub restored-in : ((i : ℕ) → r + level_at + 4 ≤ i → i < r + word_of h → get_or cs i 0 ≡ get_or bs i 0) → (i : ℕ) → r + previous_at ≤ i → i < r + words-end
      → get_or (restored bs cs r h) i 0 ≡ get_or bs i 0
  unfolding restored
  restored-in mid i a b =
      by< i (r + word_of h)
      (λ n. copied-out bs r h (word_of h) with-links i (omega arith) (inl n)
      ∙ by< i (r + level_at + 4)
      (λ k. copied-in bs r B 3 previous_at cs i (omega arith) (omega arith) (omega arith) a (omega arith))
      (λ k. copied-out bs r 3 previous_at cs i (omega arith) (inr (omega arith)) ∙ mid i k n))
      (λ n. copied-in bs r B h (word_of h) with-links i (omega arith) (omega (arith, copied-length bs r 3 previous_at cs)) (omega arith) n (omega arith))

  pub restored-out : (i : ℕ) → (i < r + previous_at) ⊎ (r + words-end ≤ i) → get_or (restored bs cs r h) i 0 ≡ get_or cs i 0
  unfolding restored
  restored-out i (inl k) =
      copied-out bs r h (word_of h) with-links i (omega arith) (inl (omega arith)) ∙ copied-out bs r 3 previous_at cs i (omega arith) (inl k)
  restored-out i (inr k) =
      copied-out bs r h (word_of h) with-links i (omega arith) (inr (omega arith)) ∙ copied-out bs r 3 previous_at cs i (omega arith) (inr (omega arith))
