-- A small block put at the front of its bin, on bytes, is the paper's: its head is free, its bin starts with it, and all else is as it was.
-- Two changes in one run of stores: the block's kind, by the law of segments, and the front of the bin.
use mathlib.Core.List.{List, [], ◌++◌, ◌∷◌, append_assoc}
use mathlib.Core.Logic.{◌≢◌, inl, inr}
use mathlib.Core.Option.{some}
use mathlib.Core.Path.{◌∙◌, ◌≡◌, ap, refl, subst, sym}
use Prim.Native.Nat.{◌%◌, ◌*◌, ◌+◌, ◌-◌, ◌/◌, ◌<◌, ◌≤◌, ℕ}
use native.Mathlib.Omega.{arith}
use Rattle.giveback.proofs.Earning.{earned-is}
use Rattle.giveback.specs.GiveBack.{earned}
use Rattle.giveback.specs.Small.{at_front}
use Rattle.paper.proofs.keeps.BackSmallKeeps.{give_back_small-is, give_back_small-shaped}
use Rattle.paper.proofs.steps.Enter.{rebin-back}
use Rattle.paper.proofs.sheet.Fields.{at_block, at_head}
use Rattle.paper.proofs.runs.Flags.{flag-append, high-flag}
use Rattle.paper.proofs.sheet.FreeWordLast.{past_word}
use Rattle.paper.proofs.runs.HeldPlaces.{HeldHigh}
use Rattle.paper.proofs.keeps.Kept.{Shaped, sized-high, sized-rest}
use Rattle.paper.proofs.steps.Leave.{NothingNew, nothing-new-trans}
use Rattle.paper.proofs.steps.Leaving.{rebinned}
use Rattle.paper.proofs.bins.Listed.{Loose, loose, rebin-same}
use Rattle.paper.proofs.runs.LowHigh.{high_parts}
use Rattle.paper.proofs.reads.HeadWords.{free_head-is}
use Rattle.paper.proofs.reads.HeaderReads.{bin-read, free-read}
use Rattle.paper.proofs.reads.Readings.{end-big}
use Rattle.paper.proofs.steps.Segment.{after_same, seg-frame}
use Rattle.paper.proofs.steps.SmallBins.{small-frame}
use Rattle.paper.proofs.runs.Splitting.{sized-mid-parts}
use Rattle.paper.proofs.reads.Stands.{Stands}
use Rattle.paper.proofs.sheet.Stores.{Elsewhere, Good, finish, puts}
use Rattle.paper.proofs.runs.Walk.{In, flag_past, free_sum-append, free_sum-le, in-aligned, in-high, in-mid, total-append}
use Rattle.paper.specs.Bins.{first, next_in, rebin}
use Rattle.paper.specs.Blocks.{Block, State, block, blocks, end, free, free_sum, held, remainder, total}
use Rattle.paper.specs.GivingBack.{give_back_small as give_back_small-state}
use Rattle.paper.specs.Governed.{block_word, head_word, header_word, sheet, small_word, walk}
use Rattle.paper.specs.Sheet.{write}
use Rattle.paper.specs.Sound.{High, Sized}
use Rattle.words.specs.Choice.{if<, if<-yes, if=, if=-no, if=-yes, ifs}
use Rattle.words.specs.Words.{word_at}

module _ (s : State) (bs : List ℕ) (S : Stands s bs) (q z : ℕ) (H : HeldHigh s q z) where
  -- what stands below the block
  abbrev xs : List Block
  xs = s.low ++ block s.rest remainder ∷ H.before

  -- the block is free but in no bin, and then at the front of its bin
  abbrev loosed : State
  loosed = record { top = s.top; low = s.low; rest = s.rest; high = H.before ++ block z free ∷ H.after; bins = s.bins }

  abbrev N : State
  N = record { top = s.top; low = s.low; rest = s.rest; high = H.before ++ block z free ∷ H.after; bins = rebin s.bins z (q ∷ s.bins z) }

  after : give_back_small-state s q z ≡ N
  after = give_back_small-is s S.well_formed q z H

  N-loose : Loose N
  N-loose = loose N (subst (Shaped s) after (give_back_small-shaped s S.well_formed q z H)).well_formed

  size-of : (8 ≤ z) × (z % 8 ≡ 0)
  size-of = (sized-mid-parts H.before (block z held ∷ []) H.after (subst Sized H.is (sized-high s S.well_formed))).1.0

  starts-at : 168 + total xs ≡ q
  starts-at = omega (arith, H.starts, total-append s.low (block s.rest remainder ∷ H.before))

  old-blocks : blocks s ≡ xs ++ block z held ∷ H.after
  old-blocks =
      ap (λ (l : List Block). s.low ++ block s.rest remainder ∷ l) H.is
      ∙ sym (append_assoc s.low (block s.rest remainder ∷ H.before) (block z held ∷ H.after))

  new-blocks : blocks N ≡ xs ++ block z free ∷ H.after
  new-blocks = sym (append_assoc s.low (block s.rest remainder ∷ H.before) (block z free ∷ H.after))

  same_end : end N ≡ end s
  same_end =
      omega (
        arith,
        ap total old-blocks,
        ap total new-blocks,
        total-append xs (block z held ∷ H.after),
        total-append xs (block z free ∷ H.after),
      )

  free-sum : free_sum (blocks N) ≡ free_sum (blocks s) + z
  free-sum =
      omega (
        arith,
        ap free_sum old-blocks,
        ap free_sum new-blocks,
        free_sum-append xs (block z held ∷ H.after),
        free_sum-append xs (block z free ∷ H.after),
      )

  free-least : 8 ≤ free_sum (blocks s)
  free-least = omega (arith, free_sum-append s.low (block s.rest remainder ∷ s.high), (sized-rest s S.well_formed).0)

  abbrev stores : List (ℕ × ℕ)
  stores = (q, head_word z free 1) ∷ (q + 4, first (s.bins z)) ∷ (24 + z, q) ∷ (0, free_sum (blocks s) - 4 + z) ∷ []

  -- ---- nothing new elsewhere

  header-same : (w : ℕ) → w ≢ 0 → header_word loosed w ≡ header_word s w
  unfolding header_word
  header-same w n = simp ifs

  kind-frame : (a : ℕ) → a % 4 ≡ 0 → Elsewhere a stores → NothingNew (sheet loosed a) (sheet s a)
  unfolding walk small_word
  kind-frame a al out =
      seg-frame s loosed xs (block z held ∷ []) (block z free ∷ []) H.after a refl refl old-blocks new-blocks same_end refl
      (λ l e. header-same (a / 8) (omega (arith, out.1.1.1.0)))
      (λ n l. after_same (block_word s.top n s.bins) H.after (168 + total xs + total (block z held ∷ [])) 1 (if< z 72 1 0) a (if<-yes z 72 1 0 (omega (arith, H.sized))))
      (λ n l m. let o0 : a - (168 + total xs) ≢ 0 = omega (arith, out.0, starts-at) in
      let o4 : a - (168 + total xs) ≢ 4 = omega (arith, out.1.0, starts-at) in
      let i : a < 168 + total xs + z = omega arith in
      let k : z < 72 = omega (arith, H.sized) in
      inl (simp ifs))

  front-frame : (a : ℕ) → a % 4 ≡ 0 → Elsewhere a stores → NothingNew (sheet N a) (sheet loosed a)
  front-frame a al out =
      subst (λ (k : State). NothingNew (sheet N a) (sheet k a)) unlisted
      (small-frame N N-loose z q (s.bins z) (rebin-same s.bins z (q ∷ s.bins z)) H.sized size-of.0 size-of.1
      (λ x y. NothingNew y x) (λ x y e. inr (sym e)) a al out.1.1.0 (λ e. absurd (out.1.0 e)))
    where
      unlisted : rebinned N z (s.bins z) ≡ loosed
      unlisted =
          λ i. record {
            top = s.top;
            low = s.low;
            rest = s.rest;
            high = H.before ++ block z free ∷ H.after;
            bins = rebin-back s.bins z (s.bins z) (q ∷ s.bins z) refl i;
          }

  -- ---- the stores fit

  flag : flag_past 1 xs ≡ 1
  flag =
      flag-append 1 s.low (block s.rest remainder ∷ H.before)
      ∙ high-flag H.before (high_parts H.before (block z held ∷ H.after) (subst High H.is S.well_formed.high_ok)).0

  at-q : In (blocks N) 168 1 q (block z free) 1
  at-q = rw new-blocks (in-mid xs (block z free ∷ H.after) 168 1 q (block z free) 1 (inl (sym starts-at, refl, sym flag)))

  next-is : sheet N (q + 4) ≡ some (first (s.bins z))
  unfolding small_word next_in
  next-is =
      at_block N q (block z free) 1 4 at-q (omega (arith, size-of)) ∙ if=-no 4 0 _ _ (omega arith) ∙ if<-yes z 72 _ _ (omega (arith, H.sized))
      ∙ if=-yes 4 4 _ _ refl ∙ ap (λ (l : List ℕ). next_in l q) (rebin-same s.bins z (q ∷ s.bins z)) ∙ if=-yes q q _ _ refl

  front-is : sheet N (24 + z) ≡ some q
  unfolding sheet header_word first
  front-is =
      let Z = size-of in
      let c : 24 + z < 96 = omega (arith, H.sized) in let d : (24 + z) % 8 ≡ 0 = omega arith in
      let n0 : (24 + z) / 8 ≢ 0 = omega arith in let n1 : (24 + z) / 8 ≢ 1 = omega arith in let n2 : (24 + z) / 8 ≢ 2 = omega arith in
      let n3 : (24 + z) / 8 ≢ 3 = omega arith in
      let e : 8 * ((24 + z) / 8 - 3) ≡ z = omega arith in
      simp ifs (ap (λ (k : ℕ). some (first (rebin s.bins z (q ∷ s.bins z) k))) e
      ∙ ap (λ (l : List ℕ). some (first l)) (rebin-same s.bins z (q ∷ s.bins z)))

  free-is : sheet N 0 ≡ some (free_sum (blocks s) - 4 + z)
  unfolding sheet header_word if< if=
  free-is = ap some (omega (arith, free-sum, free-least))

  fit : Good (sheet N) (end N) stores
  fit =
      let Z = size-of in
      let hi = in-high (blocks N) 168 1 q (block z free) 1 at-q in
      let al = in-aligned (blocks N) 168 1 q (block z free) 1 N-loose.sized refl at-q in
      let long : 176 ≤ end N = omega (arith, same_end, end-big bs s S.well_formed (sym S.ends) S.holds) in (
        (omega arith, omega arith, at_head N q z free 1 at-q (omega arith)),
        ((omega arith, omega arith, next-is), ((omega arith, omega (arith, H.sized), front-is), ((refl, omega arith, free-is), tt))),
      )

  -- ---- the bytes

  abbrev put_three : List ℕ
  put_three = puts ((q, head_word z free 1) ∷ (q + 4, first (s.bins z)) ∷ (24 + z, q) ∷ []) bs

  word-before : word_at 4 put_three 0 ≡ free_sum (blocks s) - 4
  word-before =
      past_word ((q, head_word z free 1) ∷ (q + 4, first (s.bins z)) ∷ (24 + z, q) ∷ []) bs (omega (arith, starts-at), (omega arith, (omega arith, tt)))
      ∙ free-read s bs S

  made : at_front bs q z ≡ put_three
  unfolding at_front
  made = rw (free_head-is z (omega (arith, H.sized)), bin-read s bs S z size-of.0 H.sized size-of.1)

  pub front_bytes : earned (at_front bs q z) z ≡ write (sheet (give_back_small-state s q z)) bs
  front_bytes =
      ap (λ (k : List ℕ). earned k z) made
      ∙ earned-is put_three z (free_sum (blocks s) - 4) word-before (omega (arith, free_sum-le (blocks s), S.well_formed.fits, H.sized))
      ∙ finish (sheet s) (sheet N) bs stores S.holds (subst (λ (n : ℕ). Good (sheet N) n stores) (same_end ∙ S.ends) fit)
      (λ a al m o. nothing-new-trans (sheet N a) (sheet loosed a) (sheet s a) (front-frame a al o) (kind-frame a al o))
      ∙ ap (λ (k : State). write (sheet k) bs) (sym after)
