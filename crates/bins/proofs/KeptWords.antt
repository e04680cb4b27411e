-- Words that are kept and put back one by one, for the loops of bins::keep and bins::put_back: what is done and what is left make the whole.
use mathlib.Core.List.{List, ◌++◌, append-nil}
use mathlib.Core.Path.{◌≡◌, refl, sym, ap, ◌∙◌}
use Prim.Native.Nat.{ℕ, suc, ◌+◌, ◌-◌, ◌≤◌, ◌<◌}
use native.Mathlib.Numerals.{add-one}
use native.Mathlib.Omega.{arith}
use lib.ListN.{length, take, drop, set, get_or, length-set, drop_of_length-le}
use lib.Seq.{append_snoc, drop-cons, length_front, length-take-le, take_all, take_at, take-suc-set}
use Rattle.words.specs.Sums.{plus}
use Rattle.words.specs.Words.{word_at, put_at}
use Rattle.bins.specs.Keep.{words_at, put_words}

-- the first i words of the list are kept; the next is read at `at`
pub record Keeping (bs : List ℕ) (q offset : ℕ) (old kept : List ℕ) (i at : ℕ) : Type 0 where
  pub inside : i ≤ length old
  pub long : length kept ≡ length old
  pub same : words_at bs q offset (length old) ≡ take i kept ++ words_at bs q at (length old - i)

pub none_kept : (bs : List ℕ) (q offset : ℕ) (old : List ℕ) → Keeping bs q offset old old 0 offset
none_kept bs q offset old =
    let all : length old ≡ length old - 0 = omega arith in record { inside = omega arith; long = refl; same = ap (words_at bs q offset) all }

module _ {bs : List ℕ} {q offset : ℕ} {old kept : List ℕ} {i at : ℕ} (K : Keeping bs q offset old kept i at) where
  pub one_kept : i < length kept → {w : ℕ} → w ≡ word_at 4 bs (q + at) → {next : ℕ} → next ≡ plus at 4
      → Keeping bs q offset old (set kept i w) (i + 1) next
  unfolding words_at
  one_kept h {w} v {next} n =
      record {
        inside = omega (arith, K.long);
        long = length-set kept i w ∙ K.long;
        same =
            let left : length old - i ≡ suc (length old - (i + 1)) = omega (arith, K.long) in
            rw (add-one i, take-suc-set kept i w h, n, append_snoc) (K.same ∙ rw (left, v, add-one i));
      }

  pub all-kept : length kept ≤ i → kept ≡ words_at bs q offset (length old)
  unfolding words_at
  all-kept h =
      let left : length old - i ≡ 0 = omega (arith, K.long) in
      sym (K.same ∙ rw (left, take_all i kept h) (append-nil kept))

-- a list of words whose first h are kept, the others being as they were
module _ (h : ℕ) (old kept : List ℕ) (n : h ≤ length old) (long : length kept ≡ length (take h old)) where
  pub room : h ≤ length (kept ++ drop h old)
  room = omega (arith, length_front old kept h long)

  pub kept-part : (bs : List ℕ) (q offset : ℕ) → kept ≡ words_at bs q offset (length (take h old)) → take h (kept ++ drop h old) ≡ words_at bs q offset h
  kept-part bs q offset e =
      take_at kept (drop h old) h (long ∙ length-take-le h old n) ∙ e ∙ ap (words_at bs q offset) (length-take-le h old n)

-- the first i words of the list are put back; the next belongs at `at`
pub record PuttingBack (old : List ℕ) (q offset : ℕ) (kept bs : List ℕ) (i at : ℕ) : Type 0 where
  pub long : length bs ≡ length old
  pub same : put_words old q offset kept ≡ put_words bs q at (drop i kept)

pub none-put : (bs : List ℕ) (q offset : ℕ) (kept : List ℕ) → PuttingBack bs q offset kept bs 0 offset
none-put bs q offset kept = record { long = refl; same = refl }

module _ {old : List ℕ} {q offset : ℕ} {kept bs : List ℕ} {i at : ℕ} (P : PuttingBack old q offset kept bs i at) where
  pub one-put : i < length kept → {cs : List ℕ} → length cs ≡ length bs → cs ≡ put_at 4 bs (q + at) (get_or kept i 0) → {next : ℕ} → next ≡ plus at 4
      → PuttingBack old q offset kept cs (i + 1) next
  unfolding put_words
  one-put h {cs} l e {next} n =
      record {
        long = l ∙ P.long;
        same = rw (add-one i, n, e) (P.same ∙ rw (drop-cons kept i 0 h));
      }

  pub all-put : length kept ≤ i → bs ≡ put_words old q offset kept
  unfolding put_words
  all-put h = sym (P.same ∙ rw (drop_of_length-le kept h))
