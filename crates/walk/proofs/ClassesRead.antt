-- The class count over the bytes of a pool is the paper's: each held block adds 1 to its class's counter and to none other.
-- Counter by counter, what a run adds is the number of its held blocks of that class.
use mathlib.Core.List.{List, [], ◌∷◌}
use mathlib.Core.Path.{◌∙◌, ◌≡◌, ap, refl, subst, sym}
use Prim.Native.Nat.{◌+◌, ◌-◌, ◌<◌, ◌≤◌, suc, zero, ℕ}
use native.Mathlib.Nat.{add-zero, zero-add}
use native.Mathlib.Omega.{arith}
use lib.ListN.{get_or, get_or-replicate, length, length-replicate, length-set, replicate, set}
use lib.Seq.{ext_get_or, get_or-set_other, get_or-set_same}
use Rattle.classes.specs.Class.{class_of}
use Rattle.paper.proofs.reads.Stands.{Stands}
use Rattle.paper.proofs.reads.Unique.{NoRemainder, high-no-remainder, low-no-remainder}
use Rattle.paper.specs.Blocks.{Block, State, block, blocks, free, held, remainder, total}
use Rattle.paper.specs.Counting.{class_counters, counters_from, held_one, in_class}
use Rattle.paper.specs.Governed.{flag_above}
use Rattle.paper.specs.Runs.{sum_of}
use Rattle.paper.specs.Sound.{Sized}
use Rattle.walk.proofs.BlocksRead.{both-blocks, end_is, over_heads, parts}
use Rattle.walk.proofs.RunSums.{held-one-at-most, in-class-at-most, sum-at-most, sum_both}
use Rattle.walk.specs.Classes.{Counts, bumped, class_counts, classed, counting}
use Rattle.words.specs.Choice.{by=, if=, if=-no, if=-yes, when}
use Rattle.words.specs.Sums.{minus, plus}

-- ---- one counter more
length-bumped : (cs : List ℕ) (k : ℕ) → length (bumped cs k) ≡ length cs
unfolding bumped
length-bumped cs k = length-set cs k (plus (get_or cs k 0) 1)

-- counter j has 1 more if it is the one that is meant
bumped-at : (cs : List ℕ) (k j : ℕ) → j < length cs → get_or cs j 0 + 1 < 4294967296 → get_or (bumped cs k) j 0 ≡ get_or cs j 0 + if= k j 1 0
unfolding bumped
bumped-at cs k j l m =
    by= k j
    (λ e. subst (λ (i : ℕ). get_or (set cs i (plus (get_or cs i 0) 1)) j 0 ≡ get_or cs j 0 + 1) (sym e)
    (get_or-set_same cs j (plus (get_or cs j 0) 1) 0 l ∙ omega arith)
    ∙ omega (arith, if=-yes {A = ℕ} k j 1 0 e))
    (λ n. get_or-set_other cs k j (plus (get_or cs k 0) 1) 0 (λ e. n (sym e)) ∙ omega (arith, if=-no {A = ℕ} k j 1 0 n))

if-le-one : (k j : ℕ) → if= k j 1 0 ≤ 1
if-le-one k j = by= k j (λ e. omega (arith, if=-yes {A = ℕ} k j 1 0 e)) (λ n. omega (arith, if=-no {A = ℕ} k j 1 0 n))

-- ---- what a run adds
-- from x, the counts of the blocks xs
pub record Classed (x : Counts) (xs : List Block) (y : Counts) : Type 0 where
  pub held-blocks : y.held ≡ x.held + sum_of held_one xs
  pub long : length y.each ≡ length x.each
  pub counters : (j : ℕ) → j < length x.each → get_or y.each j 0 ≡ get_or x.each j 0 + sum_of (in_class j) xs

-- no counter comes to 2^32
pub record Room (x : Counts) (m : ℕ) : Type 0 where
  pub held-blocks : x.held + m < 4294967296
  pub counters : (j : ℕ) → j < length x.each → get_or x.each j 0 + m < 4294967296

pub classed-run : (xs : List Block) (P : ℕ) (x : Counts) → Sized xs → NoRemainder xs → Room x (total xs) → Classed x xs (over_heads classed xs P x)
unfolding sum_of classed when
classed-run [] P x s n r = record { held-blocks = sym (add-zero _); long = refl; counters = λ j l. sym (add-zero _) }
classed-run (block z free ∷ xs) P x s n r =
    let c = classed-run xs (flag_above (block z free)) x s.1 n
    (record { held-blocks = omega (arith, r.held-blocks); counters = λ j l. omega (arith, r.counters j l) }) in
    record { held-blocks = c.held-blocks ∙ omega arith; long = c.long; counters = λ j l. c.counters j l ∙ omega arith }
classed-run (block z remainder ∷ xs) P x s n r = absurd n
classed-run (block z held ∷ xs) P x s n r =
    let m : minus z 4 ≡ z - 4 = omega (arith, r.held-blocks, s.0) in
    let h : plus x.held 1 ≡ x.held + 1 = omega (arith, r.held-blocks, s.0) in
    let e : class_of (minus z 4) ≡ class_of (z - 4) = ap class_of m in
    let y : Counts = counting (plus x.held 1) (bumped x.each (class_of (minus z 4))) in
    let at : (j : ℕ) → j < length x.each → get_or y.each j 0 ≡ get_or x.each j 0 + if= (class_of (z - 4)) j 1 0 =
    λ j l. bumped-at x.each (class_of (minus z 4)) j l (omega (arith, r.counters j l, s.0))
    ∙ ap (λ (k : ℕ). get_or x.each j 0 + if= k j 1 0) e in
    let long : length y.each ≡ length x.each = length-bumped x.each (class_of (minus z 4)) in
    let c = classed-run xs 1 y s.1 n
    (record {
      held-blocks = omega (arith, r.held-blocks, s.0);
      counters = λ j l. let k : j < length x.each = omega arith in omega (arith, r.counters j k, at j k, if-le-one (class_of (z - 4)) j, s.0);
    }) in
    record {
      held-blocks = c.held-blocks ∙ omega arith;
      long = c.long ∙ long;
      counters = λ j l. c.counters j (omega arith) ∙ omega (arith, at j l);
    }

-- ---- the counters of the paper
length-counters : (m k : ℕ) (s : State) → length (counters_from m k s) ≡ m
unfolding counters_from
length-counters zero k s = refl
length-counters (suc m) k s = ap suc (length-counters m (k + 1) s)

counter_at : (m k : ℕ) (s : State) (j : ℕ) → j < m → get_or (counters_from m k s) j 0 ≡ sum_of (in_class (k + j)) (blocks s)
unfolding counters_from
counter_at zero k s j l = absurd (omega arith)
counter_at (suc m) k s zero l = ap (λ (i : ℕ). sum_of (in_class i) (blocks s)) (sym (add-zero k))
counter_at (suc m) k s (suc j) l =
    let e : k + 1 + j ≡ k + suc j = omega arith in
    counter_at m (k + 1) s j (omega arith) ∙ ap (λ (i : ℕ). sum_of (in_class i) (blocks s)) e

-- ---- the class count
module _ (s : State) (bs : List ℕ) (S : Stands s bs) where
  module _ (cs : List ℕ) (l : length cs ≡ 53) where
    none_yet : Counts
    none_yet = counting 0 (replicate (length cs) 0)

    low-counts : Counts
    low-counts = over_heads classed s.low 1 none_yet

    few : total s.low + total s.high < 4294967296
    few = omega (arith, end_is s bs S, S.ends, S.well_formed.fits)

    none-at : (j : ℕ) → j < length none_yet.each → get_or none_yet.each j 0 ≡ 0
    unfolding none_yet
    none-at j h = get_or-replicate (length cs) j 0 0 (omega (arith, length-replicate {A = ℕ} (length cs) 0))

    low-room : Room none_yet (total s.low)
    unfolding none_yet
    low-room = record { held-blocks = omega (arith, few); counters = λ j h. omega (arith, few, none-at j h) }

    low-classed : Classed none_yet s.low low-counts
    unfolding low-counts
    low-classed = classed-run s.low 1 none_yet (parts s bs S).0 (low-no-remainder s.low S.well_formed.low_ok) low-room

    high-room : Room low-counts (total s.high)
    unfolding none_yet
    high-room =
        record {
          held-blocks = omega (arith, few, low-classed.held-blocks, sum-at-most held_one held-one-at-most s.low (parts s bs S).0);
          counters = λ j h. let k : j < length none_yet.each = omega (arith, low-classed.long) in
              omega (arith, few, low-classed.counters j k, none-at j k, sum-at-most (in_class j) (in-class-at-most j) s.low (parts s bs S).0);
        }

    high-classed : Classed low-counts s.high (over_heads classed s.high 1 low-counts)
    high-classed =
        classed-run s.high 1 low-counts (parts s bs S).1.1 (high-no-remainder s.high S.well_formed.high_ok) high-room

    counts-are : class_counts bs cs ≡ over_heads classed s.high 1 low-counts
    unfolding class_counts none_yet low-counts
    counts-are = both-blocks s bs S classed (counting 0 (replicate (length cs) 0))

    pub held-counted : (class_counts bs cs).held ≡ sum_of held_one (blocks s)
    unfolding none_yet
    held-counted =
        ap (λ (c : Counts). c.held) counts-are
        ∙ omega (arith, high-classed.held-blocks, low-classed.held-blocks, sum_both s held_one refl)

    pub classes-counted : (class_counts bs cs).each ≡ class_counters s
    unfolding class_counters none_yet
    classes-counted =
        ap (λ (c : Counts). c.each) counts-are
        ∙ ext_get_or 0 _ (counters_from 53 0 s) (omega (arith, long, length-counters 53 0 s))
        (λ j h. let k : j < length none_yet.each = omega (arith, high-classed.long, low-classed.long) in
        omega (
          arith,
          high-classed.counters j (omega (arith, low-classed.long)),
          low-classed.counters j k,
          none-at j k,
          sum_both s (in_class j) refl,
          counter_at 53 0 s j (omega (arith, long)) ∙ ap (λ (i : ℕ). sum_of (in_class i) (blocks s)) (zero-add j),
        ))
      where
        long : length (over_heads classed s.high 1 low-counts).each ≡ 53
        long = high-classed.long ∙ low-classed.long ∙ length-replicate (length cs) 0 ∙ l
