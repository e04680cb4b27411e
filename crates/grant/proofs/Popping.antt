-- The first block of a small bin leaves it and is held: the stores that do it. In two steps, one on the bin and one on the block.
use mathlib.Core.List.{List, [], ◌++◌, ◌∷◌, append_assoc}
use mathlib.Core.Logic.{◌≢◌, inl, inr}
use mathlib.Core.Option.{some}
use mathlib.Core.Path.{◌∙◌, ◌≡◌, ap, refl, subst, sym}
use Prim.Native.Nat.{◌%◌, ◌+◌, ◌-◌, ◌/◌, ◌<◌, ◌≤◌, ℕ}
use native.Mathlib.Omega.{arith}
use lib.ListN.{length}
use Rattle.paper.proofs.bins.Bins.{count-here, count-nil, next-absent}
use Rattle.paper.proofs.bins.Members.{leave-member}
use Rattle.paper.proofs.sheet.Fields.{at_head}
use Rattle.paper.proofs.runs.Flags.{high-flag}
use Rattle.paper.proofs.keeps.Kept.{sized-high, sized-rest}
use Rattle.paper.proofs.steps.Leave.{NothingNew, nothing-new-trans}
use Rattle.paper.proofs.steps.Leaving.{rebinned}
use Rattle.paper.proofs.bins.Listed.{loose, rebin-same, start}
use Rattle.paper.proofs.runs.LowHigh.{high_parts}
use Rattle.paper.proofs.runs.Places.{listed-in-high}
use Rattle.paper.proofs.steps.Segment.{after_same, seg-frame}
use Rattle.paper.proofs.steps.SmallBins.{small-frame}
use Rattle.paper.proofs.runs.Splitting.{in_is, in-replace, in-starts}
use Rattle.paper.proofs.sheet.Stores.{Elsewhere, Good, finish, puts}
use Rattle.paper.proofs.runs.Walk.{In, flag_past, free_sum-append, in-mid, total-append}
use Rattle.paper.specs.Bins.{count, first, leave, rebin}
use Rattle.paper.specs.Blocks.{Block, State, block, blocks, end, free, free_sum, held, remainder, total}
use Rattle.paper.specs.Governed.{block_word, head_word, header_word, sheet, walk}
use Rattle.paper.specs.Granting.{E, granted, take_first}
use Rattle.paper.specs.Runs.{from, replace, under}
use Rattle.paper.specs.Sheet.{Holds, write}
use Rattle.paper.specs.Sound.{High, WellFormed}
use Rattle.words.specs.Choice.{if<-yes, if=-yes, ifs}

module _ (s : State) (W : WellFormed s) (b : ℕ) (small : b ≤ 64) (least : 8 ≤ b) (eights : b % 8 ≡ 0)
    (q : ℕ) (l : List ℕ) (is-in : s.bins b ≡ q ∷ l) where
  abbrev pub after-pop : State
  after-pop =
      record { top = s.top; low = s.low; rest = s.rest; high = replace s.high (E s) q (q + b) (block b held ∷ []); bins = rebin s.bins b l }

  -- as the paper says it
  pub take_first-is : take_first s b ≡ granted q after-pop
  unfolding take_first first
  take_first-is =
      let f : first (s.bins b) ≡ q = ap first is-in in
      let g : leave (first (s.bins b)) (s.bins b) ≡ l = (λ i. leave (f i) (is-in i)) ∙ leave-member q [] l (count-nil q) in
      λ i. granted (f i)
      (record {
        top = s.top;
        low = s.low;
        rest = s.rest;
        high = replace s.high (E s) (f i) (f i + b) (block b held ∷ []);
        bins = rebin s.bins b (g i);
      })

  listed : 1 ≤ count q (s.bins b)
  listed = omega (arith, ap (count q) is-in, count-here q l)

  here : (P : ℕ) × In s.high (E s) 1 q (block b free) P
  here = listed-in-high s W b q (omega arith) listed

  abbrev us : List Block
  us = under s.high (E s) q

  abbrev vs : List Block
  vs = from s.high (E s) (q + b)

  abbrev xs : List Block
  xs = s.low ++ block s.rest remainder ∷ us

  high_is : s.high ≡ us ++ block b free ∷ vs
  high_is = in_is s.high (E s) 1 q (block b free) here.0 (sized-high s W) here.1

  starts : E s + total us ≡ q
  starts = in-starts s.high (E s) 1 q (block b free) here.0 (sized-high s W) here.1

  xs-ends : 168 + total xs ≡ q
  xs-ends = omega (arith, starts, total-append s.low (block s.rest remainder ∷ us))

  flag_one : flag_past 1 us ≡ 1
  flag_one = high-flag us (high_parts us (block b free ∷ vs) (subst High high_is W.high_ok)).0

  old-blocks : blocks s ≡ xs ++ block b free ∷ vs
  old-blocks =
      ap (λ (h : List Block). s.low ++ block s.rest remainder ∷ h) high_is
      ∙ sym (append_assoc s.low (block s.rest remainder ∷ us) (block b free ∷ vs))

  new-high : after-pop.high ≡ us ++ block b held ∷ vs
  new-high = in-replace s.high (E s) 1 q (block b free) here.0 (sized-high s W) here.1 (block b held ∷ [])

  new-blocks : blocks after-pop ≡ xs ++ block b held ∷ vs
  new-blocks =
      ap (λ (h : List Block). s.low ++ block s.rest remainder ∷ h) new-high
      ∙ sym (append_assoc s.low (block s.rest remainder ∷ us) (block b held ∷ vs))

  end_same : end after-pop ≡ end s
  end_same = omega (arith, ap total old-blocks, ap total new-blocks, total-append xs (block b free ∷ vs), total-append xs (block b held ∷ vs))

  pub pop-free : free_sum (blocks after-pop) + b ≡ free_sum (blocks s)
  pop-free = omega (arith, ap free_sum old-blocks, ap free_sum new-blocks, free_sum-append xs (block b free ∷ vs), free_sum-append xs (block b held ∷ vs))

  pub pop-room : b + 8 ≤ free_sum (blocks s)
  pop-room =
      omega (
        arith,
        sized-rest s W,
        ap free_sum old-blocks,
        free_sum-append xs (block b free ∷ vs),
        free_sum-append s.low (block s.rest remainder ∷ us),
      )

  unfoldable pub pop-puts : List (ℕ × ℕ)
  pop-puts = (0, free_sum (blocks s) - 4 - b) ∷ (24 + b, first l) ∷ (q, head_word b held 1) ∷ []

  header-same : (w : ℕ) → w ≢ 0 → header_word after-pop w ≡ header_word (rebinned s b l) w
  unfolding header_word
  header-same w n = simp ifs

  block-frame : (a : ℕ) → a % 4 ≡ 0 → a ≢ 0 → a ≢ q → NothingNew (sheet after-pop a) (sheet (rebinned s b l) a)
  unfolding walk
  block-frame a al n0 nq =
      seg-frame (rebinned s b l) after-pop xs (block b free ∷ []) (block b held ∷ []) vs a refl refl old-blocks new-blocks end_same refl
      (λ m z. header-same (a / 8) (omega arith))
      (λ n m. after_same (block_word (rebinned s b l).top n (rebinned s b l).bins) vs (168 + total xs + total (block b free ∷ [])) _ _ a (sym (if<-yes b 72 1 0 (omega arith))))
      (λ n m k. inl (let o : a - (168 + total xs) ≢ 0 = omega (arith, xs-ends) in
      let k' : a < 168 + total xs + b = omega arith in simp ifs))

  pop-frame : (a : ℕ) → a % 4 ≡ 0 → Elsewhere a pop-puts → NothingNew (sheet after-pop a) (sheet s a)
  unfolding pop-puts
  pop-frame a al out =
      nothing-new-trans (sheet after-pop a) (sheet (rebinned s b l) a) (sheet s a)
      (block-frame a al out.0 out.1.1.0)
      (small-frame s (loose s W) b q l is-in small least eights NothingNew (λ x y e. inr e) a al out.1.0
      (λ _. inl (next-absent l q (omega (arith, (loose s W).once b q, ap (count q) is-in, count-here q l)))))

  at : In (blocks after-pop) 168 1 q (block b held) 1
  at =
      in-mid s.low (block s.rest remainder ∷ after-pop.high) 168 1 q (block b held) 1
      (inr (subst (λ (h : List Block). In h (E s) 1 q (block b held) 1) (sym new-high)
      (in-mid us (block b held ∷ vs) (E s) 1 q (block b held) 1 (inl (sym starts, refl, sym flag_one)))))

  pub pop-place : (168 ≤ q) × (q % 8 ≡ 0) × (q + b ≤ end s)
  pop-place =
      let p = start s (loose s W) b q listed in (p.0, p.2, p.1)

  pop-good : Good (sheet after-pop) (end after-pop) pop-puts
  unfolding pop-puts sheet header_word
  pop-good =
      let p = pop-place in let e = end_same in (
        (refl, omega arith, word0),
        (
          (omega arith, omega arith, bin_word),
          ((omega arith, omega arith, at_head after-pop q b held 1 at (omega arith)), tt),
        ),
      )
    where
      word0 : sheet after-pop 0 ≡ some (free_sum (blocks s) - 4 - b)
      word0 =
          if<-yes 0 96 _ _ (omega arith) ∙ if=-yes 0 0 _ _ refl ∙ ap some (if=-yes 0 0 _ _ refl ∙ omega (arith, pop-free))

      bin_word : sheet after-pop (24 + b) ≡ some (first l)
      bin_word =
          let m : 24 + b < 96 = omega arith in let e8 : (24 + b) % 8 ≡ 0 = omega arith in
          let n0 : (24 + b) / 8 ≢ 0 = omega arith in let n1 : (24 + b) / 8 ≢ 1 = omega arith in
          let n2 : (24 + b) / 8 ≢ 2 = omega arith in let n3 : (24 + b) / 8 ≢ 3 = omega arith in
          simp ifs (ap some (ap (λ (k : ℕ). first (after-pop.bins k)) (omega arith) ∙ ap first (rebin-same s.bins b l)))

  pub pop-written : (bs : List ℕ) → length bs ≡ end s → Holds (sheet s) bs → puts pop-puts bs ≡ write (sheet after-pop) bs
  pop-written bs e h =
      finish (sheet s) (sheet after-pop) bs pop-puts h
      (subst (λ (n : ℕ). Good (sheet after-pop) n pop-puts) (end_same ∙ sym e) pop-good)
      (λ a al _ o. pop-frame a al o)
