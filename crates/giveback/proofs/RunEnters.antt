-- The run enters its bin, from bytes that its free neighbours have left: settling makes what the paper's sheet writes over the old bytes.
use mathlib.Core.List.{List, [], ◌++◌, ◌∷◌}
use mathlib.Core.Logic.{◌≢◌, inl}
use mathlib.Core.Path.{◌∙◌, ◌≡◌, ap, refl, subst, sym}
use Prim.Native.Nat.{◌%◌, ◌+◌, ◌-◌, ◌≤◌, ℕ}
use native.Mathlib.Omega.{arith}
use Rattle.bins.proofs.Between.{Between}
use Rattle.bins.proofs.Left.{Left, left-write}
use Rattle.giveback.proofs.RunShape.{flag_run, flag-some, flag-under, up-large}
use Rattle.giveback.proofs.Settling.{good-above, head-above, settled, step-above, step-quiet}
use Rattle.giveback.specs.Large.{settle}
use Rattle.giveback.specs.GiveBack.{earned}
use Rattle.paper.proofs.keeps.BackLargeKeeps.{run-keeps}
use Rattle.paper.proofs.sheet.Fields.{at_head}
use Rattle.paper.proofs.steps.Join.{joined as joined-state, unjoined}
use Rattle.paper.proofs.keeps.Kept.{Kept, sized-low, sized-rest}
use Rattle.paper.proofs.steps.Leave.{with-bins}
use Rattle.paper.proofs.steps.LinkWords.{enter-grows}
use Rattle.paper.proofs.bins.Listed.{Loose, loose}
use Rattle.paper.proofs.runs.Neighbours.{Run, gap, gap-none, gap-some}
use Rattle.paper.proofs.keeps.Settled.{fewer, give_back_large-settles, joined, joined-total, run_ends, settle-enters}
use Rattle.paper.proofs.runs.Splitting.{sized-mid-parts}
use Rattle.paper.proofs.reads.Stands.{Stands}
use Rattle.paper.proofs.runs.Walk.{In, flag_past, free_sum-append, in_left, in-mid, sized-eight}
use Rattle.paper.specs.Bins.{rebin, enter as enter-list}
use Rattle.paper.specs.Blocks.{Block, State, block, blocks, free_sum, held, remainder, total}
use Rattle.paper.specs.GivingBack.{give_back_large, settle as settle-state}
use Rattle.paper.specs.Governed.{head_word, sheet}
use Rattle.paper.specs.Granting.{R}
use Rattle.paper.specs.Sheet.{write}
use Rattle.paper.specs.Sound.{Sized}
use Rattle.words.specs.Choice.{by=}
use Rattle.words.specs.Words.{put_at}

gap-free : (d : ℕ) → free_sum (gap d) ≡ d
gap-free d =
    by= d 0 (λ e. ap (λ (k : ℕ). free_sum (gap k)) e ∙ ap free_sum gap-none ∙ sym e)
    (λ n. ap free_sum (gap-some d (omega arith)) ∙ omega arith)

-- of the run all but the block that comes back is free already
pub run-gain : (s : State) (q z : ℕ) (r : Run s q z) → free_sum (joined s q z r) + z ≡ total (joined s q z r)
run-gain s q z r =
    omega (arith, free_sum-append (gap r.down) (block z held ∷ gap r.up), gap-free r.down, gap-free r.up, joined-total s q z r)

module _ (s : State) (bs : List ℕ) (S : Stands s bs) (q z : ℕ) (r : Run s q z) (y : ℕ) (ys : List Block) (over : r.over ≡ block y held ∷ ys)
    (y72 : 72 ≤ y) where
  abbrev ms : List Block
  ms = joined s q z r

  abbrev b : ℕ → List ℕ
  b = fewer s q z r

  abbrev O : State
  O = unjoined s.top s.rest r.under ms ys s.high y b

  -- the bins with the run, and the state with it
  abbrev b' : ℕ → List ℕ
  b' = rebin b (total ms) (enter-list (168 + total r.under) (b (total ms)))

  abbrev N : State
  N = joined-state s.top s.rest r.under ms ys s.high y b'

  low-is : s.low ≡ r.under ++ (ms ++ block y held ∷ ys)
  low-is = r.is ∙ ap (λ (l : List Block). r.under ++ (ms ++ l)) over

  starts-at : 168 + total r.under ≡ q - r.down
  starts-at = omega (arith, r.starts)

  ends_at : 168 + total r.under + total ms ≡ q + z + r.up
  ends_at = omega (arith, r.starts, joined-total s q z r)

  to_end : q - r.down + total ms ≡ q + z + r.up
  to_end = omega (arith, r.starts, joined-total s q z r)

  short : q + z + r.up ≢ R s
  short e =
      omega (
        arith,
        run_ends s (sized-low s S.well_formed) r.under ms (block y held ∷ ys) (q - r.down) (q + z + r.up) b low-is starts-at to_end,
      )

  pub before : with-bins s b ≡ O
  before = λ i. record { top = s.top; low = low-is i; rest = s.rest; high = s.high; bins = b }

  enters : settle-state s b (q - r.down) (q + z + r.up) ≡ N
  enters =
      settle-enters s (sized-low s S.well_formed) r.under ms (block y held ∷ ys) (q - r.down) (q + z + r.up) b low-is starts-at to_end short

  pub after : give_back_large s q z ≡ N
  after = give_back_large-settles s q z r ∙ enters

  N-loose : Loose N
  N-loose = loose N (subst (Kept s) enters (run-keeps s S.well_formed q z r)).well_formed

  parts : Sized r.under × Sized ms × Sized (block y held ∷ ys)
  parts = sized-mid-parts r.under ms (block y held ∷ ys) (subst Sized low-is (sized-low s S.well_formed))

  big : 72 ≤ total ms
  big = omega (arith, joined-total s q z r, r.sized)

  pz : total ms % 8 ≡ 0
  pz = sized-eight ms parts.1

  px : (168 + total r.under) % 8 ≡ 0
  px = omega (arith, sized-eight r.under parts.0)

  module _ (cs : List ℕ) (A : Left s bs b cs) where
    O-between : Between O cs
    O-between = subst (λ (k : State). Between k cs) before A.now

    -- over the old bytes
    old-bytes : write (sheet N) cs ≡ write (sheet (give_back_large s q z)) bs
    old-bytes =
        left-write s bs (sym S.ends) b cs A N N-loose refl (λ k. enter-grows k b (total ms) (168 + total r.under))
        ∙ ap (λ (k : State). write (sheet k) bs) (sym after)

    pub enters-below-held : r.up ≡ 0
        → earned (settle (put_at 4 cs (q + z) (head_word y held 0)) (q - r.down) (q + z)) z ≡ write (sheet (give_back_large s q z)) bs
    enters-below-held e =
        let to : 168 + total r.under + total ms ≡ q + z = omega (arith, ends_at) in
        sym (λ i. earned (settle (put_at 4 cs (to i) (head_word y held 0)) (starts-at i) (to i)) z)
        ∙ settled s.top s.rest r.under ms ys s.high y b N-loose big (omega arith) pz px (flag-under s S.well_formed q z r)
        cs O-between z (run-gain s q z r) (sized-rest s S.well_formed).0 ((168 + total r.under + total ms, head_word y held 0) ∷ [])
        (omega arith, tt)
        (step-above s.top s.rest r.under ms ys s.high y b N-loose big (omega arith) pz px (flag-under s S.well_formed q z r))
        (good-above s.top s.rest r.under ms ys s.high y b N-loose big (omega arith) pz px (flag-under s S.well_formed q z r) b')
        ∙ old-bytes

    -- above a free block P is 0 already
    O-over : r.up ≢ 0 → In (blocks O) 168 1 (168 + total r.under + total ms) (block y held) 0
    O-over n =
        in_left (r.under ++ (ms ++ block y held ∷ ys)) (block s.rest remainder ∷ s.high) 168 1 (168 + total r.under + total ms) (block y held) 0
        (in-mid r.under (ms ++ block y held ∷ ys) 168 1 (168 + total r.under + total ms) (block y held) 0
        (in-mid ms (block y held ∷ ys) (168 + total r.under) (flag_past 1 r.under) (168 + total r.under + total ms) (block y held) 0
        (inl (refl, refl, sym (flag_run s S.well_formed q z r ∙ flag-some s S.well_formed q z r r.up (up-large s S.well_formed q z r n))))))

    pub enters-past-free : r.up ≢ 0 → earned (settle cs (q - r.down) (q + z + r.up)) z ≡ write (sheet (give_back_large s q z)) bs
    enters-past-free n =
        sym (λ i. earned (settle cs (starts-at i) (ends_at i)) z)
        ∙ settled s.top s.rest r.under ms ys s.high y b N-loose big (omega arith) pz px (flag-under s S.well_formed q z r)
        cs O-between z (run-gain s q z r) (sized-rest s S.well_formed).0 []
        tt
        (step-quiet s.top s.rest r.under ms ys s.high y b N-loose big (omega arith) pz px (flag-under s S.well_formed q z r)
        (at_head O (168 + total r.under + total ms) y held 0 (O-over n) (omega arith)
        ∙ sym (head-above s.top s.rest r.under ms ys s.high y b N-loose big (omega arith) pz px (flag-under s S.well_formed q z r) b)))
        (good-above s.top s.rest r.under ms ys s.high y b N-loose big (omega arith) pz px (flag-under s S.well_formed q z r) b').1
        ∙ old-bytes
