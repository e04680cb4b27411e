-- Taking the low end of a block of a larger bin, on bytes, is the paper's: the used block has left its bin, is parted, and the rest enters its own.
use mathlib.Core.List.{List, [], ◌++◌, ◌∷◌}
use mathlib.Core.Logic.{◌≢◌}
use mathlib.Core.Path.{◌∙◌, ◌≡◌, ap, refl, subst, sym}
use Prim.Native.Nat.{◌%◌, ◌+◌, ◌-◌, ◌≤◌, ℕ}
use native.Mathlib.Omega.{arith}
use Rattle.bins.proofs.Between.{Between, free-word-read, stands-between}
use Rattle.bins.proofs.Entered.{entered-alone, entered-word, entered-written, free-heads}
use Rattle.bins.proofs.Led.{Led}
use Rattle.bins.proofs.Left.{Left, left-write, take-out-left, used-is}
use Rattle.bins.specs.Enter.{enter as enter-model}
use Rattle.bins.specs.Find.{size}
use Rattle.bins.specs.Leave.{take_out}
use Rattle.bins.specs.declared.chain.Bin.{Bin}
use Rattle.grant.proofs.Around.{Around, around}
use Rattle.grant.proofs.Parting.{part_end, part-good, part_room, part_step, parted, parted-in, unparted}
use Rattle.grant.proofs.Spending.{granted-leaves, spent-is}
use Rattle.grant.specs.Granted.{spent, granted as granted-model}
use Rattle.grant.specs.Large.{split, take_part as take_part-model}
use Rattle.paper.proofs.bins.Listed.{Loose, loose}
use Rattle.paper.proofs.keeps.Kept.{Kept}
use Rattle.paper.proofs.keeps.TakeLargeKeeps.{take_part-keeps}
use Rattle.paper.proofs.reads.HeadWords.{held_head-is}
use Rattle.paper.proofs.reads.HeaderReads.{free-near}
use Rattle.paper.proofs.reads.Stands.{Stands}
use Rattle.paper.proofs.runs.Walk.{In, flag_past}
use Rattle.paper.proofs.sheet.Phases.{Step}
use Rattle.paper.proofs.sheet.Stores.{puts}
use Rattle.paper.proofs.steps.LinkWords.{enter-grows}
use Rattle.paper.specs.Bins.{enter, first, rebin, used, leave as leave-list}
use Rattle.paper.specs.Blocks.{State, block, blocks, end, free, free_sum, held, total}
use Rattle.paper.specs.Calls.{leaves}
use Rattle.paper.specs.Governed.{head_word, sheet}
use Rattle.paper.specs.Granting.{take_part}
use Rattle.paper.specs.Layout.{blocks_at, free_word_at, large}
use Rattle.paper.specs.Sheet.{write}
use Rattle.words.specs.Sums.{minus, plus}
use Rattle.words.specs.Words.{put_at}

module _ (s : State) (bs : List ℕ) (S : Stands s bs) (b : ℕ) (b-large : large ≤ b) (eights : b % 8 ≡ 0) (z : ℕ) (more : b + large ≤ z)
    (A : Around s z) (K : Kept s (take_part s z b).state)
    (cs : List ℕ) (L : Left s bs (rebin s.bins z (leave-list (used (s.bins z)) (s.bins z))) cs) where
  abbrev a : ℕ
  a = blocks_at + total A.under-it

  abbrev bins₁ : ℕ → List ℕ
  bins₁ = rebin s.bins z (leave-list (used (s.bins z)) (s.bins z))

  abbrev bins₂ : ℕ → List ℕ
  bins₂ = rebin bins₁ (z - b) (enter (a + b) (bins₁ (z - b)))

  -- the block of the law of parting, before and after
  abbrev O : State
  O = unparted s.top s.rest A.under-it A.over s.high z b A.y bins₁

  abbrev N : (ℕ → List ℕ) → State
  N = parted s.top s.rest A.under-it A.over s.high z b A.y

  abbrev low-head : List (ℕ × ℕ)
  low-head = (a, head_word b held (flag_past 1 A.under-it)) ∷ []

  B : Between O cs
  B = subst (λ (k : State). Between k cs) (λ i. record { top = s.top; low = A.low-is i; rest = s.rest; high = s.high; bins = bins₁ }) L.now

  after : (take_part s z b).state ≡ N bins₂
  unfolding take_part
  after =
      λ i. record {
        top = s.top;
        low = A.replaced (block b held ∷ block (z - b) free ∷ []) i;
        rest = s.rest;
        high = s.high;
        bins = rebin bins₁ (z - b) (enter (sym A.starts i + b) (bins₁ (z - b)));
      }

  loose₂ : Loose (N bins₂)
  loose₂ = subst Loose after (loose (take_part s z b).state K.well_formed)

  aligned : a % 8 ≡ 0
  aligned = omega (arith, A.starts, A.place)

  same-free : free_sum (blocks s) ≡ free_sum (blocks O)
  same-free = ap (λ (k : State). free_sum (blocks k)) (λ i. record { top = s.top; low = A.low-is i; rest = s.rest; high = s.high; bins = bins₁ })

  rest_in : In (blocks (N bins₁)) blocks_at 1 (a + b) (block (z - b) free) 1
  rest_in =
      parted-in s.top s.rest A.under-it A.over s.high z b A.y b-large more (omega (arith, A.large-y)) A.eights eights aligned bins₁

  same_end : end (N bins₁) ≡ end O
  same_end = part_end s.top s.rest A.under-it A.over s.high z b A.y b-large more bins₁

  near : a + z ≤ 65536
  near = omega (arith, A.starts, A.place, S.well_formed.fits)

  -- the low part is held and the rest is a free block, which enters its bin
  made : split cs (used (s.bins z)) z b ≡ enter-model (puts low-head cs) (a + b) (z - b)
  unfolding split
  made =
      let p : plus a b ≡ a + b = omega (arith, near) in
      let m : minus z b ≡ z - b = omega (arith, near) in
      (λ i. split cs (sym A.starts i) z b)
      ∙ (λ i. enter-model (put_at 4 cs a ((held_head-is b (omega (arith, near)) ∙ ap (head_word b held) (sym A.flag)) i)) (p i) (m i))

  abbrev free-after : ℕ
  free-after = free_sum (blocks O) - 4 - b

  step : Step (end (N bins₁)) (sheet O) (sheet (N bins₁)) (low-head ++ (free-heads (a + b) (z - b) ++ (free_word_at, free-after) ∷ []))
  step =
      part_step s.top s.rest A.under-it A.over s.high z b A.y b-large more (omega (arith, A.large-y)) A.eights eights aligned bins₁
      (entered-alone (N bins₁) (a + b) (z - b) loose₂)

  pub part-written : spent (split cs (used (s.bins z)) z b) b ≡ write (sheet (take_part s z b).state) bs
  part-written =
      ap (λ (k : List ℕ). spent k b) made
      ∙ spent-is (enter-model (puts low-head cs) (a + b) (z - b)) b (free_sum (blocks O) - 4)
      (entered-word O cs B (N bins₁) refl same_end (a + b) (z - b) 1 (omega arith) rest_in low-head (omega arith, tt) loose₂
      free-after step ∙ free-word-read O cs B)
      (omega (arith, same-free, free-near s bs S))
      (omega (arith, part_room s.top s.rest A.under-it A.over s.high z b A.y b-large more bins₁))
      ∙ entered-written O cs B (N bins₁) refl same_end (a + b) (z - b) 1 (omega arith) rest_in low-head (omega arith, tt) loose₂
      free-after step
      (part-good s.top s.rest A.under-it A.over s.high z b A.y b-large more (omega (arith, A.large-y)) A.eights eights aligned
      bins₁ bins₂)
      ∙ left-write s bs (sym S.ends) bins₁ cs L (N bins₂) loose₂ refl (λ r. enter-grows r bins₁ (z - b) (a + b))
      ∙ ap (λ (k : State). write (sheet k) bs) (sym after)

-- from the bin that was found
pub take_part-bytes : (s : State) (bs : List ℕ) (S : Stands s bs) (b : ℕ) → large ≤ b → b % 8 ≡ 0 → (z : ℕ) → b + large ≤ z
    → (bin : Bin) → Led s z bin → take_part-model bs bin b ≡ leaves (take_part s z b) bs
unfolding take_part-model take_part size
take_part-bytes s bs S b b-large eights z more bin D =
    let n : first (s.bins z) ≢ 0 = (λ o. D.some (D.leads ∙ o)) in
    let K = take_part-keeps s S.well_formed b b-large eights z more n in
    let B = stands-between s bs S in
    let L = take-out-left s bs B z bin D in
    let A = around s S.well_formed z D.big n in
    let u = used-is s bs B z bin D in
    (λ i. granted-model (split (take_out bs bin) (u i) (D.sized i) b) (u i) b)
    ∙ granted-leaves (split (take_out bs bin) (used (s.bins z)) z b) (used (s.bins z)) b (take_part s z b).state bs
    (omega (arith, A.place, S.well_formed.fits)) (part-written s bs S b b-large eights z more A K (take_out bs bin) L)
