-- The inspection accepts every sound pool: what the pool reads passes each test.
use mathlib.Core.Bool.{false, true}
use mathlib.Core.List.{List, [], ◌∷◌}
use mathlib.Core.Logic.{◌≢◌, ◌⊎◌, inl, inr, ⊎_elim}
use mathlib.Core.Option.{some}
use mathlib.Core.Path.{◌∙◌, ◌≡◌, ap, refl, subst, sym}
use Prim.Native.Nat.{◌%◌, ◌*◌, ◌+◌, ◌-◌, ◌<◌, ◌≤◌, suc, zero, ℕ}
use native.Mathlib.Omega.{arith}
use lib.ListN.{get_or-replicate, length, length-replicate, replicate}
use Rattle.heads.proofs.HeadLaws.{free-head}
use Rattle.heads.specs.Links.{followed, link_word}
use Rattle.accept.proofs.Awaited.{Link, awaited, indexed-inv, indexed-yes}
use Rattle.accept.proofs.Chains.{LinkedL, LinkedS}
use Rattle.guards.proofs.Guards.{guard-yes}
use Rattle.accept.proofs.MarkLists.{linked-from, list_marks, next-in, prev-in}
use Rattle.accept.proofs.Passing.{chain-yes, smalls-yes}
use Rattle.accept.proofs.Scanning.{Facts, Foot, Run, count-push, push, scan-yes}
use Rattle.accept.proofs.Tested.{false-passes, rest-passes}
use Rattle.header.specs.Header.{E, R, cleared, false_tests, rest_tests}
use Rattle.runs.specs.Runs.{if_seen, Scanned, scan, seen, stray}
use Rattle.heads.specs.Heads.{size_at}
use Rattle.accept.specs.Inspect.{inspect, scanned, size_tests}
use Rattle.levels.specs.Levels.{top_of, word_of}
use Rattle.lists.specs.Index.{Awaited, false_indexed, if_awaiting, indexed, next_on}
use Rattle.lists.specs.Lists.{Left, chain, if_left, large_tests, lists, next_large, next_small, small_tests}
use Rattle.guards.specs.Tests.{guard, same}
use Rattle.paper.proofs.reads.Allowed.{allowed-yes}
use Rattle.paper.proofs.bins.Bins.{count-nil, first_count}
use Rattle.paper.proofs.bins.Distances.{followed-link_word, link_word-small}
use Rattle.paper.proofs.sheet.Fields.{at_back, at-foot, at_level, height-le}
use Rattle.paper.proofs.bins.Listed.{Loose, free_at-append, loose}
use Rattle.paper.proofs.reads.LooseReads.{above-some, false-reads, index_reads, reach-in}
use Rattle.paper.proofs.reads.Readings.{end-big, head-reads, header-reads, low_reads, next-reads, no_zero, reads, rest-reads, small-reads, start_of, top-reads}
use Rattle.paper.proofs.runs.Walk.{In, flag_past, free_sum-append, free_sum-le, in-aligned, in-flag, in-high, in_left, in-mid, in-sized, sized-eight, sized-parts, total-append}
use Rattle.paper.specs.Bins.{count, first}
use Rattle.paper.specs.Blocks.{Block, Kind, State, block, blocks, end, free, free_sum, held, remainder, total}
use Rattle.paper.specs.Governed.{above, head_word, header_word, height, index, link, sheet}
use Rattle.paper.specs.Layout.{blocks_at, chain_at, false_block, false_word_at, free_word_at, level_at, levels, next_at, previous_at}
use Rattle.paper.specs.Sheet.{Holds}
use Rattle.paper.specs.Sound.{High, Low, Sized, WellFormed, free_at}
use Rattle.words.specs.Choice.{by<, by=, if<, if<-no, if<-yes, if=, if=-no, if=-yes}
use Rattle.words.specs.Words.{word_at}

pub low_run : (xs : List Block) (bs : List ℕ) → Low xs → Sized xs → Run bs 0 1 xs
low_run [] bs h s = refl
low_run (block z held ∷ xs) bs h s = ((s.0.0, if<-no z 72 _ _ h.0, s.0.1), low_run xs bs h.1 s.1)
low_run (block z remainder ∷ xs) bs h s = absurd h
low_run (block z free ∷ []) bs h s = absurd h
low_run (block z free ∷ block y held ∷ xs) bs h s =
    ((s.0.0, if<-no z 72 _ _ h.0, s.0.1), refl, ((s.1.0.0, if<-no y 72 _ _ h.1, s.1.0.1), low_run xs bs h.2 s.1.1))
low_run (block z free ∷ block y free ∷ xs) bs h s = absurd h
low_run (block z free ∷ block y remainder ∷ xs) bs h s = absurd h

pub high-run : (xs : List Block) (bs : List ℕ) → High xs → Sized xs → Run bs 1 1 xs
high-run [] bs h s = refl
high-run (block z held ∷ xs) bs h s = ((s.0.0, if<-yes z 72 _ _ (omega arith), s.0.1), high-run xs bs h.1 s.1)
high-run (block z free ∷ xs) bs h s = ((s.0.0, if<-yes z 72 _ _ (omega arith), s.0.1), refl, high-run xs bs h.1 s.1)
high-run (block z remainder ∷ xs) bs h s = absurd h

pub run-after : (bs : List ℕ) (c P : ℕ) (xs : List Block) → Run bs c P xs → flag_past P xs ≡ 1
run-after bs c P [] r = r
run-after bs c P (block z held ∷ xs) r = run-after bs c 1 xs r.1
run-after bs c P (block z free ∷ xs) r = ap (λ (u : ℕ). flag_past u xs) r.0.1 ∙ run-after bs c c xs r.2
run-after bs c P (block z remainder ∷ xs) r = absurd r

pub cleared-yes : (bs : List ℕ) (k st a : ℕ) → ((i : ℕ) → i < k → word_at 4 bs (a + st * i) ≡ 0) → cleared bs k st a ≡ true
unfolding cleared
cleared-yes bs zero st a h = refl
cleared-yes bs (suc k) st a h =
    if=-yes (word_at 4 bs a) 0 _ _ (ap (word_at 4 bs) (omega arith) ∙ h 0 (omega arith))
    ∙ cleared-yes bs k st (a + st) (λ i l. ap (word_at 4 bs) (omega arith) ∙ h (suc i) (omega arith))

module _ (bs : List ℕ) (s : State) (W : WellFormed s) (l : length bs ≡ end s) (h : Holds (sheet s) bs) where
  abbrev n : ℕ
  n = end s

  abbrev rest_at : ℕ
  rest_at = blocks_at + total s.low

  sized-low : Sized s.low
  sized-low = (sized-parts s.low (block s.rest remainder ∷ s.high) W.sized).0

  sized_past : Sized (block s.rest remainder ∷ s.high)
  sized_past = (sized-parts s.low (block s.rest remainder ∷ s.high) W.sized).1

  low-is-run : Run bs 0 1 s.low
  low-is-run = low_run s.low bs W.low_ok sized-low

  high-is-run : Run bs 1 1 s.high
  high-is-run = high-run s.high bs W.high_ok sized_past.1

  ends : rest_at + s.rest + total s.high ≡ n
  ends = omega (arith, total-append s.low (block s.rest remainder ∷ s.high))

  foots : (q z : ℕ) (k : Kind) (P : ℕ) → In (blocks s) blocks_at 1 q (block z k) P → Foot bs q z k P
  foots q z held P i = tt
  foots q z remainder P i = tt
  foots q z free P i = λ m.
      let hi = in-high (blocks s) blocks_at 1 q (block z free) P i in
      let al = in-aligned (blocks s) blocks_at 1 q (block z free) P W.sized refl i in
      let sol = in-sized (blocks s) blocks_at 1 q (block z free) P W.sized i in
      let fl = in-flag (blocks s) blocks_at 1 q (block z free) P (omega arith) i in
      reads bs s W l h (q + (z - 4)) (head_word z free P) (omega arith) (omega arith) (omega (arith, W.fits)) (at-foot s q z P i m)

  facts : Facts bs (blocks s) blocks_at 1
  facts q z k P i = (head-reads bs s W l h q z k P i, foots q z k P i)

  low-facts : Facts bs s.low blocks_at 1
  low-facts q z k P i = facts q z k P (in_left s.low (block s.rest remainder ∷ s.high) blocks_at 1 q (block z k) P i)

  high-facts : Facts bs s.high (rest_at + s.rest) 1
  high-facts q z k P i = facts q z k P (in-mid s.low (block s.rest remainder ∷ s.high) blocks_at 1 q (block z k) P (inr i))

  rest-head : word_at 4 bs rest_at ≡ 4 * s.rest + 2
  rest-head =
      head-reads bs s W l h rest_at s.rest remainder (flag_past 1 s.low)
      (in-mid s.low (block s.rest remainder ∷ s.high) blocks_at 1 rest_at (block s.rest remainder) (flag_past 1 s.low) (inl (refl, refl, refl)))
      ∙ omega (arith, run-after bs 0 1 s.low low-is-run)

  is-R : R bs ≡ rest_at
  is-R = low_reads bs s W l h

  is-E : E bs ≡ rest_at + s.rest
  is-E = rest-reads bs s W l h

  -- ---- the marks and the sum
  marks : List ℕ
  marks = push s.high (rest_at + s.rest) (push s.low blocks_at [])

  is-scanned : scanned list_marks bs ≡ seen (length marks) marks (free_sum s.low + free_sum s.high)
  unfolding scanned marks
  is-scanned =
      ap (λ (m : Scanned (List ℕ)). if_seen m stray (λ n ms sum. scan list_marks bs (suc (length bs)) 1 (length bs) (E bs) 3 n ms sum))
      (scan-yes bs s.low (suc (R bs)) 0 (R bs) blocks_at 1 0 [] 0 (omega arith) (omega arith) refl (omega (arith, is-R))
      (sym is-R) low-is-run low-facts)
      ∙ ap (λ (e : ℕ). scan list_marks bs (suc (length bs)) 1 (length bs) e 3 (length (push s.low blocks_at [])) (push s.low blocks_at [])
      (0 + free_sum s.low)) is-E
      ∙ scan-yes bs s.high (suc (length bs)) 1 (length bs) (rest_at + s.rest) 1 (length (push s.low blocks_at [])) (push s.low blocks_at [])
      (0 + free_sum s.low) (omega arith) (omega arith) refl (omega (arith, ends)) (ends ∙ sym l) high-is-run high-facts
      ∙ ap (seen (length marks) marks) (omega arith)

  free-word : word_at 4 bs free_word_at ≡ free_sum s.low + free_sum s.high + s.rest - 4
  unfolding header_word if=
  free-word =
      header-reads bs s W l h 0 (omega arith) (omega (arith, W.fits, free_sum-le (blocks s)))
      ∙ omega (arith, free_sum-append s.low (block s.rest remainder ∷ s.high))

  is-marked : (x : ℕ) → count x marks ≡ count x (s.bins (size_at bs x))
  unfolding marks free_at
  is-marked x =
      count-push bs s.high (rest_at + s.rest) 1 (push s.low blocks_at []) x (omega arith) high-facts
      ∙ omega (
        arith,
        count-push bs s.low blocks_at 1 [] x (omega arith) low-facts,
        count-nil x,
        W.listed (size_at bs x) x,
        free_at-append s.low
            (block s.rest remainder ∷ s.high) blocks_at (size_at bs x) x,
      )

  -- ---- the bins
  sizes : (z x : ℕ) → 1 ≤ count x (s.bins z) → (size_at bs x ≡ z) × (8 ≤ z) × (z % 8 ≡ 0) × (z ≤ n)
  sizes z x o =
      let st = start_of bs s W l h z x o in
      let f = (loose s W).found z x o in
      let fl = in-flag (blocks s) blocks_at 1 x (block z free) f.0 (omega arith) f.1 in
      let hd = head-reads bs s W l h x z free f.0 f.1 in
      (omega arith, st.3, st.4, omega (arith, st.5))

  linked-small : (z : ℕ) → z ≤ 64 → LinkedS bs z (s.bins z)
  linked-small z z64 =
      linked-from (small_tests bs z) (next_small bs) (s.bins z) 0 ((loose s W).once z) (no_zero bs s W l h z)
      (λ q v e. ((sizes z q (prev-in 0 (s.bins z) q v e)).0, tt))
      (λ q v e. let r = next-reads bs s W l h z q (next-in (s.bins z) q v e) in
      let e' : some v ≡ some r.0 = sym e ∙ r.1 in let k : r.0 ≡ v = cc in r.4 (omega arith) ∙ k)

  linked-large : (z : ℕ) → 64 < z → LinkedL bs z (s.bins z)
  linked-large z z64 =
      linked-from (large_tests bs z) (next_large bs) (s.bins z) 0 ((loose s W).once z) (no_zero bs s W l h z)
      (λ q v e. let o = prev-in 0 (s.bins z) q v e in
      let i = sizes z q o in
      let f = (loose s W).found z q o in
      let st = start_of bs s W l h z q o in
      let r = next-reads bs s W l h z q o in (
        i.0,
        (
          reads bs s W l h (q + previous_at) (link_word q v) (omega arith) (omega arith) (link_word-small q v)
              (at_back s q z f.0 f.1 (omega arith) ∙ ap (link q) e),
          (r.5 (omega arith) ∙ ap (link_word q) (sym (on z q o r.0 r.2 r.3 (r.5 (omega arith)))), tt),
        ),
      ))
      (λ q v e. let o = next-in (s.bins z) q v e in
      let i = sizes z q o in
      let r = next-reads bs s W l h z q o in
      let e' : some v ≡ some r.0 = sym e ∙ r.1 in let k : r.0 ≡ v = cc in
      on z q o r.0 r.2 r.3 (r.5 (omega arith)) ∙ k)
    where
      on : (z q : ℕ) → 1 ≤ count q (s.bins z) → (v : ℕ) → v ≤ 65536 → v ≢ q → word_at 4 bs (q + next_at) ≡ link_word q v → next_large bs q ≡ v
      on z q o v a b e = ap (followed q) e ∙ followed-link_word q v (omega (arith, start_of bs s W l h z q o)) a b

  -- ---- header and false block
  header-zero : (i : ℕ) → i < 12 → word_at 4 bs (4 + 8 * i) ≡ 0
  unfolding sheet
  header-zero i b =
      reads bs s W l h (4 + 8 * i) 0 (omega arith) (omega (arith, end-big bs s W l h)) (omega arith)
      (if<-yes (4 + 8 * i) 96 _ _ (omega arith) ∙ if=-no ((4 + 8 * i) % 8) 0 _ _ (omega arith))

  at-false : (o : ℕ) → o < 72 → sheet s (false_block + o) ≡ index s.top n s.bins (some 0) s.top false_block 64 o
  unfolding sheet
  at-false o b =
      if<-no (96 + o) 96 _ _ (omega arith) ∙ if<-yes (96 + o) 168 _ _ (omega arith)
      ∙ ap (index s.top n s.bins (some 0) s.top false_block 64) (omega arith)

  start-rest : (x : ℕ) → count x marks ≡ if< 0 (size_at bs x) (count x (s.bins (size_at bs x))) 0
  start-rest x =
      by< 0 (size_at bs x) (λ k. is-marked x ∙ sym (if<-yes 0 (size_at bs x) _ _ k))
      (λ k. is-marked x ∙ by= (count x (s.bins (size_at bs x))) 0 (λ e. e) (λ o. absurd (omega (arith, (sizes (size_at bs x) x (omega arith)).1)))
      ∙ sym (if<-no 0 (size_at bs x) _ _ k))

  false-is : word_at 4 bs false_word_at ≡ false_block
  unfolding header_word if=
  false-is = header-reads bs s W l h 1 (omega arith) (omega arith)

  -- ---- the index
  L : Loose s
  L = loose s W

  abbrev t : ℕ
  t = s.top

  abbrev next-bin : ℕ → ℕ → ℕ
  next-bin = above t n s.bins

  -- the level word tells the layout
  is_top : top_of bs ≡ t
  unfolding top_of
  is_top = ⊎_elim
      (λ e. if=-no (word_at 4 bs 108) 13 _ _ (omega (arith, top-reads bs s W l h)) ∙ sym e)
      (λ e. if=-yes (word_at 4 bs 108) 13 _ _ (top-reads bs s W l h ∙ e) ∙ sym e) W.layout

  -- what is found past y on level j is a start past y, or 0
  bound : (j y : ℕ) → (next-bin j y ≤ 65536) × ((q : ℕ) → q ≢ 0 → (q < blocks_at) ⊎ (size_at bs q ≤ y) → next-bin j y ≢ q)
  bound j y =
      by= (next-bin j y) 0 (λ e. (omega arith, λ q nz c k. nz (sym k ∙ e)))
      (λ ne. let r = above-some s L j y ne in
      let o = (reach-in s L j r.0 (next-bin j y) r.2 ne).2 in
      let st = start_of bs s W l h r.0 (next-bin j y) o in
      (omega arith, λ q nz c k. apart q r.0 r.1 (subst (λ (v : ℕ). 1 ≤ count v (s.bins r.0)) k o) c))
    where
      apart : (q z : ℕ) → y < z → 1 ≤ count q (s.bins z) → (q < blocks_at) ⊎ (size_at bs q ≤ y) → ⊥
      apart q z yz o (inl c) = omega (arith, (start_of bs s W l h z q o).0)
      apart q z yz o (inr c) = omega (arith, (sizes z q o).0)

  -- an index word that is the link to it: it leads there, and is written as it should be
  leads : (j y q : ℕ) → q ≢ 0 → q ≤ 65536 → (q < blocks_at) ⊎ (size_at bs q ≤ y) → word_at 4 bs (q + word_of j) ≡ link_word q (next-bin j y)
      → Link bs j q × (next_on bs j q ≡ next-bin j y)
  leads j y q nz small c w =
      let on : next_on bs j q ≡ next-bin j y = ap (followed q) w ∙ followed-link_word q (next-bin j y) small (bound j y).0 ((bound j y).1 q nz c) in
      (w ∙ ap (link_word q) (sym on), on)

  tops : (z : ℕ) → 64 < z → first (s.bins z) ≢ 0 → (word_at 4 bs (first (s.bins z) + level_at) ≡ height t z)
      × ((j : ℕ) → 1 ≤ j → j ≤ height t z → Link bs j (first (s.bins z)) × (next_on bs j (first (s.bins z)) ≡ next-bin j z))
  tops z z64 ne =
      let q : ℕ = first (s.bins z) in
      let o = first_count (s.bins z) q refl ne in
      let i = sizes z q o in
      let f = (loose s W).found z q o in
      let st = start_of bs s W l h z q o in
      let z72 : 72 ≤ z = omega arith in
      let h13 : height t z ≤ 13 = omega (arith, height-le t z, L.top13) in (
        reads bs s W l h (q + level_at) (height t z) (omega arith) (omega arith) (omega arith) (at_level s q z f.0 f.1 z72 refl),
        λ j j1 jh. leads j z q ne (omega arith) (inr (omega arith)) (index_reads bs s L W.fits l h q z z72 o refl j j1 jh),
      )

  false-index : (j : ℕ) → 1 ≤ j → j ≤ t → Link bs j false_block × (next_on bs j false_block ≡ next-bin j 64)
  false-index j j1 jt = leads j 64 false_block (omega arith) (omega arith) (inl (omega arith)) (false-reads bs s L W.fits l h j j1 jt)

  false-zero : (o : ℕ) → o < 72 → o % 4 ≡ 0 → o ≢ level_at → (o < 68 - 4 * t) ⊎ (chain_at < o) → word_at 4 bs (false_block + o) ≡ 0
  unfolding index
  false-zero o b al n12 c =
      reads bs s W l h (false_block + o) 0 (omega arith) (omega (arith, end-big bs s W l h)) (omega arith)
      (at-false o b ∙ if=-no o 12 _ _ n12
      ∙ by< o (68 - 4 * t) (λ d. if<-yes o _ _ _ d) (λ d. if<-no o _ _ _ d ∙ if<-yes 64 o _ _ (⊎_elim (λ e. absurd (omega arith)) (λ e. e) c)))

  -- at first each level awaits the false block
  at_first : (j : ℕ) → 1 ≤ j → j ≤ 13 → awaited false_block (replicate 12 false_block) j ≡ false_block
  at_first j j1 j13 = get_or-replicate 13 (j - 1) false_block 0 (omega arith)

  is-listed : lists list_marks bs (length marks) marks ≡ true
  unfolding lists
  is-listed =
      let r = smalls-yes bs n s.bins sizes linked-small linked-large (λ z a b c. small-reads bs s W l h z a b c) 8 8 0
      (length marks) marks refl refl refl refl start-rest in
      let x = indexed-yes bs t false_block (replicate 12 false_block) L.top1 L.top13
      (λ j j1 jt. (at_first j j1 (omega (arith, L.top13)), (false-index j j1 jt).0)) in
      let ix = indexed-inv bs t false_block (replicate 12 false_block) x.0 (length-replicate {A = ℕ} 12 false_block) x.1 in
      ap (λ (m : Left (List ℕ)). if_left m false (λ k ms'. if_awaiting (false_indexed bs) false
      (λ ws. chain list_marks (top_of bs) bs (suc k) k ms' 64 (next_on bs 1 false_block) ws))) r.2
      ∙ ap (λ (v : ℕ). if_awaiting (indexed bs v false_block (replicate 12 false_block)) false
      (λ ws. chain list_marks v bs (suc r.0) r.0 r.1 64 (next_on bs 1 false_block) ws)) is_top
      ∙ ap (λ (m : Awaited). if_awaiting m false (λ ws. chain list_marks t bs (suc r.0) r.0 r.1 64 (next_on bs 1 false_block) ws)) x.1
      ∙ chain-yes bs n s.bins sizes linked-small linked-large t W.layout tops (suc r.0) r.0 r.1 64 (next_on bs 1 false_block) x.0
      (omega arith) r.3 (omega arith) r.4 (ix.long ∙ length-replicate {A = ℕ} 12 false_block)
      (λ j j1 jt. ix.next j j1 jt ∙ (false-index j j1 jt).1)

  pub accepts : inspect list_marks bs ≡ true
  unfolding inspect
  accepts =
      let rest8 = sized_past.0 in
      let e1 = is-R in let e2 = is-E in let e3 = ends in let f = W.fits in
      guard-yes (size_tests bs) false _ (
        allowed-yes (length bs) (record
            { least = omega (arith, end-big bs s W l h); most = omega arith; eights = omega (arith, sized-eight (blocks s) W.sized) }),
        tt,
      )
      ∙ guard-yes (rest_tests bs) false _ (rest-passes bs (record {
        past-blocks = omega arith;
        room = omega arith;
        inside = omega arith;
        start-eights = omega (arith, sized-eight s.low sized-low);
        end-eights = omega (arith, sized-eight s.low sized-low);
        head = ap (word_at 4 bs) is-R ∙ rest-head ∙ omega arith ∙ sym (free-head (E bs - R bs) (omega arith));
      }))
      ∙ guard-yes (false_tests bs) false _ (false-passes bs (record {
        false-word = false-is;
        past-chain = false-zero 68 (omega arith) refl (omega arith) (inr (omega arith));
        halves = cleared-yes bs 12 8 4 header-zero;
        below-level = cleared-yes bs 3 4 false_block
            (λ i b. false-zero (4 * i) (omega arith) (omega arith) (omega arith) (inl (omega (arith, L.top13))));
        long = omega arith;
        level-word = top-reads bs s W l h ∙ sym is_top;
        reserved = ap (λ (v : ℕ). cleared bs (levels - v) 4 (false_block + 16)) is_top ∙ cleared-yes bs (levels - t) 4 (false_block + 16)
            (λ i b. ap (word_at 4 bs) (omega arith) ∙ false-zero (16 + 4 * i) (omega arith) (omega arith) (omega arith) (inl (omega arith)));
      }))
      ∙ ap (λ (m : Scanned (List ℕ)). if_seen m false
      (λ n ms sum. guard (same (word_at 4 bs free_word_at) (sum + (E bs - R bs) - 4) ∷ []) false (lists list_marks bs n ms))) is-scanned
      ∙ guard-yes (same (word_at 4 bs free_word_at) (free_sum s.low + free_sum s.high + (E bs - R bs) - 4) ∷ []) false _
      (free-word ∙ omega arith, tt)
      ∙ is-listed
