-- Taking a whole block of a bin of its size, on bytes, is the paper's: the used block leaves its bin, and is held.
use mathlib.Core.List.{List, [], ◌∷◌}
use mathlib.Core.Logic.{◌≢◌, inr}
use mathlib.Core.Path.{◌∙◌, ◌≡◌, ap, refl, subst, sym}
use mathlib.Core.Bool.{true}
use Prim.Native.Nat.{◌%◌, ◌+◌, ◌-◌, ◌≤◌, ℕ}
use native.Mathlib.Omega.{arith}
use lib.ListN.{length}
use Rattle.bins.proofs.Between.{free-word-read, head_read, stands-between}
use Rattle.bins.proofs.Led.{Led}
use Rattle.bins.proofs.Left.{Left, grows_same, left-write, take-out-left, used-is}
use Rattle.bins.specs.Leave.{take_out}
use Rattle.bins.specs.declared.chain.Bin.{Bin}
use Rattle.grant.proofs.Around.{Around, above_in, around}
use Rattle.grant.proofs.Spending.{granted-leaves, spent-stores}
use Rattle.grant.specs.Granted.{spent, granted as granted-model}
use Rattle.grant.specs.Large.{hold, take_whole as take_whole-model}
use Rattle.heads.specs.Heads.{held_head, with_p}
use Rattle.paper.proofs.steps.Hold.{end_same, hold-frame, hold-good, hold-puts, hold-state}
use Rattle.paper.proofs.keeps.Kept.{sized-rest}
use Rattle.paper.proofs.keeps.TakeLargeKeeps.{take_whole-keeps}
use Rattle.paper.proofs.bins.Listed.{Loose, loose}
use Rattle.paper.proofs.reads.HeadWords.{held_head-is, with_p-held}
use Rattle.paper.proofs.sheet.Phases.{Step, step-write}
use Rattle.paper.proofs.reads.HeaderReads.{free-near}
use Rattle.paper.proofs.reads.Stands.{Stands}
use Rattle.paper.proofs.steps.Leaving.{rebinned}
use Rattle.paper.proofs.sheet.Stores.{Good, puts}
use Rattle.paper.proofs.runs.Walk.{free_sum-append, in-high}
use Rattle.paper.specs.Bins.{first, rebin, used, leave as leave-list}
use Rattle.paper.specs.Blocks.{Kind, State, block, blocks, end, free, free_sum, held, remainder}
use Rattle.paper.specs.Calls.{leaves}
use Rattle.paper.specs.Governed.{head_word, sheet}
use Rattle.paper.specs.Granting.{take_whole}
use Rattle.paper.specs.Sheet.{Holds, write}
use Rattle.words.proofs.Laws.{word-apart}
use Rattle.words.specs.Sums.{plus}
use Rattle.words.specs.Words.{put_at, word_at}

-- the chosen block is held
hold-stores : (bs : List ℕ) (q b y : ℕ) → q + b ≤ 65536 → 4 ≤ b → y ≤ 65536 → word_at 4 bs (q + b) ≡ head_word y held 0
    → hold bs q b ≡ puts ((q, head_word b held 1) ∷ (q + b, head_word y held 1) ∷ []) bs
unfolding hold
hold-stores bs q b y near b4 y-near e =
    let p : plus q b ≡ q + b = omega arith in
    let bs' : List ℕ = put_at 4 bs q (held_head b) in
    let w : word_at 4 bs' (q + b) ≡ head_word y held 0 = word-apart 4 bs (q + b) 4 q (held_head b) (inr (omega arith)) ∙ e in
    ap (λ (k : ℕ). put_at 4 bs' k (with_p (word_at 4 bs' k) true)) p
    ∙ ap (λ (k : ℕ). put_at 4 bs' (q + b) (with_p k true)) w
    ∙ (λ i. put_at 4 (put_at 4 bs q (held_head-is b (omega arith) i)) (q + b) (with_p-held y 0 true y-near (omega arith) i))

module _ (s : State) (bs : List ℕ) (S : Stands s bs) (b : ℕ) (large : 72 ≤ b) (eights : b % 8 ≡ 0) (n : first (s.bins b) ≢ 0)
    (cs : List ℕ) (L : Left s bs (rebin s.bins b (leave-list (used (s.bins b)) (s.bins b))) cs) where
  abbrev q : ℕ
  q = used (s.bins b)

  A : Around s b
  A = around s S.well_formed b large n

  abbrev s₁ : State
  s₁ = rebinned s b (leave-list (used (s.bins b)) (s.bins b))

  -- the block of the law of holding
  abbrev H : Kind → State
  H = hold-state s.top s.rest A.under-it A.over s.high s₁.bins b A.y

  abbrev stores : List (ℕ × ℕ)
  stores = hold-puts s.top s.rest A.under-it A.over s.high s₁.bins b A.y

  before : s₁ ≡ H free
  before = λ i. record { top = s.top; low = A.low-is i; rest = s.rest; high = s.high; bins = s₁.bins }

  after : (take_whole s b).state ≡ H held
  unfolding take_whole
  after = λ i. record { top = s.top; low = A.replaced (block b held ∷ []) i; rest = s.rest; high = s.high; bins = s₁.bins }

  room : b + 8 ≤ free_sum (blocks s)
  room =
      omega (
        arith,
        sized-rest s S.well_formed,
        free_sum-append s.low (block s.rest remainder ∷ s.high),
        ap free_sum A.low-is,
        free_sum-append A.under-it (block b free ∷ block A.y held ∷ A.over),
      )

  head-above : word_at 4 cs (q + b) ≡ head_word A.y held 0
  head-above = head_read s₁ cs L.now (q + b) A.y held 0 (above_in s b A large)

  y-near : A.y ≤ 65536
  y-near = omega (arith, S.well_formed.fits, in-high (blocks s) 168 1 (q + b) (block A.y held) 0 (above_in s b A large))

  -- the model's stores are those of the law
  stores-made : spent (hold cs q b) b ≡ puts stores cs
  unfolding hold-puts
  stores-made =
      let p = A.place in
      let f : free_sum (blocks s) - 4 - b ≡ free_sum (blocks (H free)) - b - 4 = omega (arith, ap (λ (k : State). free_sum (blocks k)) before) in
      ap (λ (k : List ℕ). spent k b) (hold-stores cs q b A.y (omega (arith, S.well_formed.fits)) (omega arith) y-near head-above)
      ∙ spent-stores ((q, head_word b held 1) ∷ (q + b, head_word A.y held 1) ∷ []) cs b (free_sum (blocks s) - 4) (omega arith, (omega arith, tt))
      (free-word-read s₁ cs L.now) (omega (arith, free-near s bs S)) (omega (arith, room))
      ∙ (λ i. puts ((0, f i) ∷ (sym A.starts i, head_word b held (sym A.flag i)) ∷ (sym A.starts i + b, head_word A.y held 1) ∷ []) cs)

  step : Step (length cs) (sheet (H free)) (sheet (H held)) stores
  step =
      record {
        good = subst (λ (k : ℕ). Good (sheet (H held)) k stores)
            (end_same s.top s.rest A.under-it A.over s.high s₁.bins b A.y ∙ sym (L.now.long ∙ ap end before))
            (hold-good s.top s.rest A.under-it A.over s.high s₁.bins b A.y (omega arith) (omega (arith, A.large-y)) eights
            (omega (arith, A.starts, A.place)));
        frame = λ a al _ o. hold-frame s.top s.rest A.under-it A.over s.high s₁.bins b A.y a al o;
      }

  loose-after : Loose (H held)
  loose-after = subst Loose after (loose (take_whole s b).state (take_whole-keeps s S.well_formed b large eights n).well_formed)

  pub whole-written : spent (hold cs q b) b ≡ write (sheet (take_whole s b).state) bs
  whole-written =
      stores-made
      ∙ step-write (sheet (H free)) (sheet (H held)) cs stores step (subst (λ (k : State). Holds (sheet k) cs) before L.now.holds)
      ∙ left-write s bs (sym S.ends) s₁.bins cs L (H held) loose-after refl (grows_same s₁.bins)
      ∙ ap (λ (k : State). write (sheet k) bs) (sym after)

-- from the bin that was found
pub take_whole-bytes : (s : State) (bs : List ℕ) (S : Stands s bs) (b : ℕ) → b % 8 ≡ 0 → (bin : Bin) → Led s b bin
    → take_whole-model bs bin b ≡ leaves (take_whole s b) bs
unfolding take_whole-model take_whole
take_whole-bytes s bs S b eights bin D =
    let n : first (s.bins b) ≢ 0 = (λ o. D.some (D.leads ∙ o)) in
    let B = stands-between s bs S in
    let L = take-out-left s bs B b bin D in
    let A = around s S.well_formed b D.big n in
    ap (λ (k : ℕ). granted-model (hold (take_out bs bin) k b) k b) (used-is s bs B b bin D)
    ∙ granted-leaves (hold (take_out bs bin) (used (s.bins b)) b) (used (s.bins b)) b (take_whole s b).state bs
    (omega (arith, A.place, S.well_formed.fits)) (whole-written s bs S b D.big eights n (take_out bs bin) L)
