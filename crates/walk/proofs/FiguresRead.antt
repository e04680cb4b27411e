-- The tally over the bytes of a pool is the paper's figures: the heads of a run add what the paper sums over its blocks.
-- No sum reaches 2^32, since each is at most the bytes of the blocks.
use mathlib.Core.List.{List, [], ◌∷◌}
use mathlib.Core.Path.{◌∙◌, ◌≡◌, ap, refl, sym}
use Prim.Native.Nat.{◌+◌, ◌-◌, ◌<◌, max, ℕ}
use native.Mathlib.Omega.{arith}
use Rattle.paper.proofs.keeps.Givable.{givable-append, greatest_givable}
use Rattle.paper.proofs.keeps.LargestGrant.{plain-rule}
use Rattle.paper.proofs.reads.Readings.{header-reads}
use Rattle.paper.proofs.reads.Stands.{Stands}
use Rattle.paper.proofs.reads.Unique.{NoRemainder, high-no-remainder, low-no-remainder}
use Rattle.paper.proofs.runs.Walk.{free_sum-le}
use Rattle.paper.specs.Blocks.{Block, State, block, blocks, free, free_sum, held, remainder, total}
use Rattle.paper.specs.Counting.{figures, free_large_one, free_small_one, held_one}
use Rattle.paper.specs.Governed.{flag_above, header_word}
use Rattle.paper.specs.LargestGrant.{largest_grant}
use Rattle.paper.specs.Layout.{end_at, free_word_at, large, start_at}
use Rattle.paper.specs.Runs.{held_size, sum_of}
use Rattle.paper.specs.Sound.{Sized}
use Rattle.paper.specs.declared.Figures.{Figures}
use Rattle.walk.proofs.BlocksRead.{E-reads, R-reads, both-blocks, end_is, over_heads, parts}
use Rattle.walk.proofs.RunSums.{free-large-at-most, free-small-at-most, held-one-at-most, held-size-at-most, sum-at-most, sum_both}
use Rattle.walk.specs.Tallies.{bare, closed, counted, tally}
use Rattle.words.specs.Choice.{by<, if<-no, if<-yes, if=, when}
use Rattle.words.specs.Sums.{minus, plus}
use Rattle.words.specs.Words.{word_at}

-- ---- what a run of blocks adds
unfoldable pub tallied : Figures → List Block → Figures
tallied t xs =
    record {
      held_blocks = t.held_blocks + sum_of held_one xs;
      held_bytes = t.held_bytes + sum_of held_size xs;
      free_small = t.free_small + sum_of free_small_one xs;
      free_large = t.free_large + sum_of free_large_one xs;
      remainder = t.remainder;
      free_word = t.free_word;
      largest = max t.largest (greatest_givable xs);
    }

-- none of its sums comes to 2^32
pub record Room (t : Figures) (xs : List Block) : Type 0 where
  pub held-blocks : t.held_blocks + total xs < 4294967296
  pub held-bytes : t.held_bytes + total xs < 4294967296
  pub free-small : t.free_small + total xs < 4294967296
  pub free-large : t.free_large + total xs < 4294967296

pub same-figures : (t u : Figures) → t.held_blocks ≡ u.held_blocks → t.held_bytes ≡ u.held_bytes → t.free_small ≡ u.free_small
    → t.free_large ≡ u.free_large → t.remainder ≡ u.remainder → t.free_word ≡ u.free_word → t.largest ≡ u.largest → t ≡ u
same-figures t u a b c d e f g =
    λ i. record {
      held_blocks = a i;
      held_bytes = b i;
      free_small = c i;
      free_large = d i;
      remainder = e i;
      free_word = f i;
      largest = g i;
    }

pub counted-run : (xs : List Block) (P : ℕ) (t : Figures) → Sized xs → NoRemainder xs → Room t xs → over_heads counted xs P t ≡ tallied t xs
unfolding tallied counted when sum_of greatest_givable
counted-run [] P t s n r =
    same-figures t _ (omega arith) (omega arith) (omega arith) (omega arith) refl refl (omega arith)
counted-run (block z held ∷ xs) P t s n r =
    let a : plus t.held_blocks 1 ≡ t.held_blocks + 1 = omega arith in
    let b : plus t.held_bytes z ≡ t.held_bytes + z = omega arith in
    counted-run xs 1 _ s.1 n
    (record { held-blocks = omega arith; held-bytes = omega arith; free-small = omega arith; free-large = omega arith })
    ∙ same-figures _ _ (omega arith) (omega arith) (omega arith) (omega arith) refl refl refl
counted-run (block z free ∷ xs) P t s n r =
    by< z large
    (λ l. let a : plus t.free_small 1 ≡ t.free_small + 1 = omega arith in
    ap (over_heads counted xs (flag_above (block z free))) (if<-yes z large _ _ l)
    ∙ counted-run xs (flag_above (block z free)) _ s.1 n
    (record { held-blocks = omega arith; held-bytes = omega arith; free-small = omega arith; free-large = omega arith })
    ∙ same-figures _ _ (omega arith) (omega arith) (omega (arith, if<-yes {A = ℕ} z large 1 0 l)) (omega (arith, if<-yes {A = ℕ} z large 0 1 l)) refl refl
    (omega arith))
    (λ l. let a : plus t.free_large 1 ≡ t.free_large + 1 = omega arith in
    ap (over_heads counted xs (flag_above (block z free))) (if<-no z large _ _ l)
    ∙ counted-run xs (flag_above (block z free)) _ s.1 n
    (record { held-blocks = omega arith; held-bytes = omega arith; free-small = omega arith; free-large = omega arith })
    ∙ same-figures _ _ (omega arith) (omega arith) (omega (arith, if<-no {A = ℕ} z large 1 0 l)) (omega (arith, if<-no {A = ℕ} z large 0 1 l)) refl refl
    (omega arith))
counted-run (block z remainder ∷ xs) P t s n r = absurd n

-- the remainder may be looked at before the large blocks
order : (r a b : ℕ) → max (max r a) b ≡ max a (max r b)
order r a b = omega arith

-- ---- the figures
module _ (s : State) (bs : List ℕ) (S : Stands s bs) where
  rest_read : minus (word_at 4 bs end_at) (word_at 4 bs start_at) ≡ s.rest
  rest_read = omega (arith, E-reads s bs S, R-reads s bs S, end_is s bs S, S.ends, S.well_formed.fits)

  word_read : word_at 4 bs free_word_at ≡ free_sum (blocks s) - 4
  unfolding header_word if=
  word_read =
      header-reads bs s S.well_formed (sym S.ends) S.holds 0 (omega arith)
      (omega (arith, free_sum-le (blocks s), S.well_formed.fits))

  counted-both : (f : Block → ℕ) → f (block s.rest remainder) ≡ 0 → 0 + sum_of f s.low + sum_of f s.high ≡ sum_of f (blocks s)
  counted-both f e = omega (arith, sum_both s f e)

  -- what the remainder can give
  rest-given : (bare bs).largest ≡ s.rest - 8
  unfolding bare
  rest-given = omega (arith, rest_read, (parts s bs S).1.0, end_is s bs S, S.ends, S.well_formed.fits)

  -- and the greatest of all, with the remainder counted first
  greatest-read : max (max (bare bs).largest (greatest_givable s.low)) (greatest_givable s.high) ≡ greatest_givable (blocks s)
  unfolding greatest_givable
  greatest-read =
      ap (λ (r : ℕ). max (max r (greatest_givable s.low)) (greatest_givable s.high)) rest-given
      ∙ order (s.rest - 8) (greatest_givable s.low) (greatest_givable s.high) ∙ sym (givable-append s.low (block s.rest remainder ∷ s.high))

  -- of which the payload is the largest grant
  largest-read : (t : Figures) → t.largest ≡ greatest_givable (blocks s) → (closed bs t).largest ≡ largest_grant s
  unfolding closed
  largest-read t e = omega (arith, e, plain-rule s S.well_formed)

  low-room : Room (bare bs) s.low
  unfolding bare
  low-room =
      let l : total s.low < 4294967296 = omega (arith, end_is s bs S, S.ends, S.well_formed.fits) in
      record { held-blocks = omega arith; held-bytes = omega arith; free-small = omega arith; free-large = omega arith }

  high-room : Room (tallied (bare bs) s.low) s.high
  unfolding bare tallied
  high-room =
      let l : total s.low + total s.high < 4294967296 = omega (arith, end_is s bs S, S.ends, S.well_formed.fits) in
      record {
        held-blocks = omega (arith, sum-at-most held_one held-one-at-most s.low (parts s bs S).0);
        held-bytes = omega (arith, sum-at-most held_size held-size-at-most s.low (parts s bs S).0);
        free-small = omega (arith, sum-at-most free_small_one free-small-at-most s.low (parts s bs S).0);
        free-large = omega (arith, sum-at-most free_large_one free-large-at-most s.low (parts s bs S).0);
      }

  runs-counted : over_heads counted s.high 1 (over_heads counted s.low 1 (bare bs)) ≡ tallied (tallied (bare bs) s.low) s.high
  runs-counted =
      ap (over_heads counted s.high 1)
      (counted-run s.low 1 (bare bs) (parts s bs S).0 (low-no-remainder s.low S.well_formed.low_ok) low-room)
      ∙ counted-run s.high 1 (tallied (bare bs) s.low) (parts s bs S).1.1 (high-no-remainder s.high S.well_formed.high_ok) high-room

  pub figures-read : tally bs ≡ figures s
  unfolding tally figures closed tallied bare
  figures-read =
      ap (closed bs) (both-blocks s bs S counted (bare bs) ∙ runs-counted)
      ∙ same-figures _ _
      (counted-both held_one refl)
      (counted-both held_size refl)
      (counted-both free_small_one refl)
      (counted-both free_large_one refl)
      rest_read
      word_read
      (largest-read (tallied (tallied (bare bs) s.low) s.high) greatest-read)
