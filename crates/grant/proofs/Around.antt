-- Around the block that is used of a large bin: it stands in the low run, a held block is above it and no free one below, so its P is 1.
use mathlib.Core.List.{List, ◌++◌, ◌∷◌, append_assoc}
use mathlib.Core.Logic.{◌≢◌, inl, inr}
use mathlib.Core.Path.{◌∙◌, ◌≡◌, ap, refl, subst, sym}
use Prim.Native.Nat.{◌%◌, ◌+◌, ◌≤◌, ℕ}
use Rattle.paper.proofs.bins.BinLaws.{used-counts-where-first}
use Rattle.paper.proofs.runs.Flags.{low-flag}
use Rattle.paper.proofs.keeps.Kept.{sized-low}
use Rattle.paper.proofs.bins.Listed.{loose, start}
use Rattle.paper.proofs.reads.LooseReads.{listed-size}
use Rattle.paper.proofs.runs.Places.{used-in-low}
use Rattle.paper.proofs.runs.Shapes.{low_free}
use Rattle.paper.proofs.runs.Splitting.{in_is, in-replace, in-starts}
use Rattle.paper.proofs.runs.Walk.{In, flag_past, in-mid}
use Rattle.paper.specs.Bins.{first, used}
use Rattle.paper.specs.Blocks.{Block, State, block, blocks, end, free, held, remainder, total}
use Rattle.paper.specs.Runs.{from, replace, under}
use Rattle.paper.specs.Sound.{Low, WellFormed}
use Rattle.words.specs.Choice.{if<-no}

pub record Around (s : State) (z : ℕ) : Type 0 where
  pub under-it : List Block
  pub y : ℕ
  pub over : List Block
  pub low-is : s.low ≡ under-it ++ block z free ∷ block y held ∷ over
  pub starts : 168 + total under-it ≡ used (s.bins z)
  pub replaced : (new : List Block) → replace s.low 168 (used (s.bins z)) (used (s.bins z) + z) new ≡ under-it ++ (new ++ block y held ∷ over)
  pub flag : flag_past 1 under-it ≡ 1
  pub large-y : 72 ≤ y
  pub place : (168 ≤ used (s.bins z)) × (used (s.bins z) + z ≤ end s) × (used (s.bins z) % 8 ≡ 0)
  pub eights : z % 8 ≡ 0

pub around : (s : State) → WellFormed s → (z : ℕ) → 72 ≤ z → first (s.bins z) ≢ 0 → Around s z
around s W z large n =
    record {
      under-it = under s.low 168 q;
      y = f.2;
      over = f.3;
      low-is = is ∙ ap (λ (k : List Block). under s.low 168 q ++ block z free ∷ k) f.4;
      starts = in-starts s.low 168 1 q (block z free) i.0 (sized-low s W) i.1;
      replaced = λ new. in-replace s.low 168 1 q (block z free) i.0 (sized-low s W) i.1 new
          ∙ ap (λ (k : List Block). under s.low 168 q ++ (new ++ k)) f.4;
      flag = low-flag (under s.low 168 q) f.0;
      large-y = f.5;
      place = start s (loose s W) z q (used-counts-where-first (s.bins z) n);
      eights = (listed-size s (loose s W) q z (used-counts-where-first (s.bins z) n)).1;
    }
  where
    q : ℕ
    q = used (s.bins z)

    i : (P : ℕ) × In s.low 168 1 q (block z free) P
    i = used-in-low s W z large n

    is : s.low ≡ under s.low 168 q ++ block z free ∷ from s.low 168 (q + z)
    is = in_is s.low 168 1 q (block z free) i.0 (sized-low s W) i.1

    f : Low (under s.low 168 q) × (72 ≤ z) × (y : ℕ) × (ws : List Block) × (from s.low 168 (q + z) ≡ block y held ∷ ws) × (72 ≤ y) × Low ws
    f = low_free (under s.low 168 q) z (from s.low 168 (q + z)) (subst Low is W.low_ok)

-- the block above it, whose P is 0
pub above_in : (s : State) (z : ℕ) (A : Around s z) → 72 ≤ z → In (blocks s) 168 1 (used (s.bins z) + z) (block A.y held) 0
above_in s z A large =
    subst (λ (k : List Block). In (k ++ block s.rest remainder ∷ s.high) 168 1 (used (s.bins z) + z) (block A.y held) 0) (sym A.low-is)
    (subst (λ (k : List Block). In k 168 1 (used (s.bins z) + z) (block A.y held) 0)
    (sym (append_assoc A.under-it (block z free ∷ block A.y held ∷ A.over) (block s.rest remainder ∷ s.high)))
    (in-mid A.under-it (block z free ∷ block A.y held ∷ (A.over ++ block s.rest remainder ∷ s.high)) 168 1 (used (s.bins z) + z)
    (block A.y held) 0
    (inr (inl (ap (λ (k : ℕ). k + z) (sym A.starts), refl, sym (if<-no z 72 1 0 large))))))
