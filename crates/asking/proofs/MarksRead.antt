-- After the walk over the bytes of a pool exactly the starts of the held blocks are marked. By induction on the blocks of a run: each start is a
-- multiple of 8 below 65,536, so it has a mark of its own.
use mathlib.Core.List.{List, [], ◌∷◌}
use mathlib.Core.Path.{◌∙◌, ◌≡◌, ap, refl, sym}
use Prim.Native.Nat.{◌%◌, ◌+◌, ◌/◌, ◌<◌, ◌≤◌, min, ℕ}
use native.Mathlib.Omega.{arith}
use lib.ListN.{length, length-replicate}
use Rattle.asking.specs.AllHeld.{Marking, held_marks, mark_run, marked, marking}
use Rattle.marks.proofs.Laws.{length-put}
use Rattle.marks.proofs.StartMarks.{mark-at-most-one, mark-put, none-marked}
use Rattle.marks.specs.Marks.{put_bit_at}
use Rattle.marks.specs.MarkSets.{bit_marks, mark_at}
use Rattle.paper.proofs.keeps.Kept.{held-runs}
use Rattle.paper.proofs.reads.Stands.{Stands}
use Rattle.paper.proofs.runs.Splitting.{starts-cons}
use Rattle.paper.proofs.runs.Walk.{sized-eight}
use Rattle.paper.specs.Blocks.{Block, State, block, blocks, free, held, remainder, total}
use Rattle.paper.specs.Governed.{flag_above}
use Rattle.paper.specs.Granting.{E}
use Rattle.paper.specs.Layout.{blocks_at}
use Rattle.paper.specs.Runs.{held_size, starts_at}
use Rattle.paper.specs.Sound.{Sized}
use Rattle.walk.proofs.BlocksRead.{E-reads, R-reads, end_is, end_reads, high-blocks, low-blocks, over_heads, parts}
use Rattle.walk.specs.Blocks.{blocks_from}
use Rattle.words.specs.Choice.{by=, if=-no, if=-same, if=-yes, when}

-- m' has the marks of m, and those of the held blocks of xs, the first of which starts at p
pub record Marked (m : List ℕ) (xs : List Block) (p : ℕ) (m' : List ℕ) : Type 0 where
  pub long : length m' ≡ length m
  pub each : (q : ℕ) → mark_at m' q ≡ min 1 (mark_at m q + starts_at held_size xs p q)

marked-run : (xs : List Block) (p P : ℕ) (m : List ℕ) → Sized xs → p % 8 ≡ 0 → p + total xs ≤ 65536 → length m ≡ 128
    → Marked m xs p (over_heads marked xs P (marking p m)).marks
unfolding marked starts_at when
marked-run [] p P m s a f l = record { long = refl; each = λ q. omega (arith, mark-at-most-one m q) }
marked-run (block z free ∷ xs) p P m s a f l =
    let r = marked-run xs (p + z) (flag_above (block z free)) m s.1 (omega (arith, s.0)) (omega arith) l in
    record { long = r.long; each = λ q. omega (arith, r.each q, starts-cons held_size (block z free) xs p q (omega (arith, s.0)), if=-same {A = ℕ} p q 0) }
marked-run (block z remainder ∷ xs) p P m s a f l =
    let r = marked-run xs (p + z) 1 m s.1 (omega (arith, s.0)) (omega arith) l in
    record { long = r.long; each = λ q. omega (arith, r.each q, starts-cons held_size (block z remainder) xs p q (omega (arith, s.0)), if=-same {A = ℕ} p q 0) }
marked-run (block z held ∷ xs) p P m s a f l =
    let i : p / 8 / 64 < length m = omega (arith, s.0) in
    let long : length (put_bit_at m (p / 8) 1) ≡ length m = length-put m (p / 8) 1 in
    let r = marked-run xs (p + z) 1 (put_bit_at m (p / 8) 1) s.1 (omega (arith, s.0)) (omega arith) (long ∙ l) in
    record {
      long = r.long ∙ long;
      each = λ q. by= p q
          (λ e. omega (
            arith,
            r.each q,
            starts-cons held_size (block z held) xs p q (omega (arith, s.0)),
            s.0,
            if=-yes {A = ℕ} p q z 0 e,
            mark-put m p 1 q (omega arith) i a,
            if=-yes {A = ℕ} p q 1 (mark_at m q) e,
          ))
          (λ n. omega (
            arith,
            r.each q,
            starts-cons held_size (block z held) xs p q (omega (arith, s.0)),
            if=-no {A = ℕ} p q z 0 n,
            mark-put m p 1 q (omega arith) i a,
            if=-no {A = ℕ} p q 1 (mark_at m q) n,
          ));
    }

module _ (s : State) (bs : List ℕ) (S : Stands s bs) where
  low-marks : List ℕ
  low-marks = (over_heads marked s.low 1 (marking blocks_at bit_marks.empty)).marks

  marks-are : held_marks bs ≡ (over_heads marked s.high 1 (marking (E s) low-marks)).marks
  unfolding held_marks mark_run low-marks
  marks-are =
      rw (R-reads s bs S, E-reads s bs S, end_reads s bs S ∙ sym (end_is s bs S))
      (ap (λ (x : Marking). (blocks_from marked bs (E s) (length bs) (marking (E s) x.marks)).marks)
      (low-blocks s bs S marked (marking blocks_at bit_marks.empty))
      ∙ ap (λ (x : Marking). x.marks) (high-blocks s bs S marked (marking (E s) low-marks)))

  low-marked : Marked bit_marks.empty s.low blocks_at low-marks
  unfolding low-marks
  low-marked =
      marked-run s.low blocks_at 1 bit_marks.empty (parts s bs S).0 refl (omega (arith, end_is s bs S, S.ends, S.well_formed.fits))
      (length-replicate {A = ℕ} 128 0)

  high-marked : Marked low-marks s.high (E s) (over_heads marked s.high 1 (marking (E s) low-marks)).marks
  high-marked =
      marked-run s.high (E s) 1 low-marks (parts s bs S).1.1
      (omega (arith, sized-eight s.low (parts s bs S).0, (parts s bs S).1.0)) (omega (arith, end_is s bs S, S.ends, S.well_formed.fits))
      (low-marked.long ∙ length-replicate {A = ℕ} 128 0)

  pub held-marked : (q : ℕ) → mark_at (held_marks bs) q ≡ min 1 (starts_at held_size (blocks s) blocks_at q)
  held-marked q =
      ap (λ (m : List ℕ). mark_at m q) marks-are
      ∙ omega (arith, high-marked.each q, low-marked.each q, none-marked 128 q, held-runs s S.well_formed q)
