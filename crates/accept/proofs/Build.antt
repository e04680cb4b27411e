-- From blocks that were walked and lists that were followed: the state, that it is well formed, and that the pool holds it.
use mathlib.Core.Bool.{true}
use mathlib.Core.List.{List, [], ◌++◌, ◌∷◌}
use mathlib.Core.Logic.{◌≢◌, ◌⊎◌, inl, inr}
use mathlib.Core.Option.{Option, none, some}
use mathlib.Core.Path.{◌∙◌, ◌≡◌, ap, refl, subst, sym}
use Prim.Native.Nat.{◌%◌, ◌*◌, ◌+◌, ◌-◌, ◌/◌, ◌<◌, ◌≤◌, suc, zero, ℕ}
use native.Mathlib.Omega.{arith}
use lib.ListN.{length}
use Rattle.heads.proofs.HeadLaws.{free-head}
use Rattle.heads.specs.Links.{link_word}
use Rattle.accept.proofs.Accept.{run-after}
use Rattle.accept.proofs.Chains.{LinkedL, LinkedS, Tops, false-true, large-sz, small-sz}
use Rattle.accept.proofs.MarkLists.{linked-next, linked-prev, linked-tests, next-in}
use Rattle.accept.proofs.Scanning.{Facts, Foot, Run, count-push, push}
use Rattle.accept.proofs.Tested.{RestStands}
use Rattle.header.specs.Header.{E, R, cleared}
use Rattle.lists.specs.Lists.{large_tests, next_large, next_small, small_tests}
use Rattle.runs.specs.Runs.{small}
use Rattle.heads.specs.Heads.{size_at}
use Rattle.paper.proofs.bins.Bins.{count-nil}
use Rattle.paper.proofs.sheet.Fields.{height-le}
use Rattle.paper.proofs.bins.Listed.{free_at-append, free_at-in}
use Rattle.paper.proofs.runs.Walk.{In, flag_past, free_sum-append, in-aligned, in-flag, in-high, in-low, in-sized, in_split, sized-append, total-append, walk-rel}
use Rattle.paper.proofs.sheet.Written.{Ok, holds-from, ok_from}
use Rattle.paper.specs.Allowed.{Allowed}
use Rattle.paper.specs.Bins.{count, first, next_in, prev_in}
use Rattle.paper.specs.Blocks.{Block, Kind, State, block, free, free_sum, held, remainder, size, total}
use Rattle.paper.specs.Governed.{above, block_word, head_word, header_word, height, index, large_word, link, past_head, sheet, small_word, walk}
use Rattle.paper.specs.Layout.{blocks_at, chain_at, false_block, false_word_at, free_word_at, large, level_at, next_at, small_bins}
use Rattle.paper.specs.Sheet.{Holds}
use Rattle.paper.specs.Sound.{High, Low, OldSound, Sized, WellFormed, free_at}
use Rattle.words.specs.Choice.{by<, by=, if<-no, if<-yes, if=-no, if=-yes}
use Rattle.words.specs.Words.{Bytes, word_at}

large-of : (z : ℕ) → small z ≡ 0 → large ≤ z
large-of z h = by< z large (λ l. absurd (omega (arith, sym (if<-yes z 72 1 0 l) ∙ h))) (λ l. l)

small_of : (z : ℕ) → small z ≡ 1 → z < large
small_of z h = by< z large (λ l. l) (λ l. absurd (omega (arith, sym (if<-no z 72 1 0 l) ∙ h)))

run-low : (bs : List ℕ) (xs : List Block) → Run bs 0 1 xs → Low xs
run-low bs [] r = tt
run-low bs (block z held ∷ xs) r = (large-of z r.0.1, run-low bs xs r.1)
run-low bs (block z remainder ∷ xs) r = r
run-low bs (block z free ∷ []) r = absurd (omega (arith, r.2))
run-low bs (block z free ∷ block y held ∷ xs) r = (large-of z r.0.1, large-of y r.2.0.1, run-low bs xs r.2.1)
run-low bs (block z free ∷ block y free ∷ xs) r = absurd (omega (arith, r.2.1))
run-low bs (block z free ∷ block y remainder ∷ xs) r = r.2

run-high : (bs : List ℕ) (xs : List Block) → Run bs 1 1 xs → High xs
run-high bs [] r = tt
run-high bs (block z held ∷ xs) r = (omega (arith, small_of z r.0.1, r.0.2), run-high bs xs r.1)
run-high bs (block z free ∷ xs) r = (omega (arith, small_of z r.0.1, r.0.2), run-high bs xs r.2)
run-high bs (block z remainder ∷ xs) r = r

run-sized : (bs : List ℕ) (c P : ℕ) (xs : List Block) → Run bs c P xs → Sized xs
run-sized bs c P [] r = tt
run-sized bs c P (block z held ∷ xs) r = ((r.0.0, r.0.2), run-sized bs c 1 xs r.1)
run-sized bs c P (block z free ∷ xs) r = ((r.0.0, r.0.2), run-sized bs c c xs r.2)
run-sized bs c P (block z remainder ∷ xs) r = absurd r

pub cleared-inv : (bs : List ℕ) (k st a : ℕ) → cleared bs k st a ≡ true → (i : ℕ) → i < k → word_at 4 bs (a + st * i) ≡ 0
unfolding cleared
cleared-inv bs zero st a h i l = absurd (omega arith)
cleared-inv bs (suc k) st a h i l =
    by= (word_at 4 bs a) 0
    (λ e. go i l (cleared-inv bs k st (a + st) (sym (if=-yes (word_at 4 bs a) 0 _ _ e) ∙ h)) e)
    (λ e. absurd (false-true (sym (if=-no (word_at 4 bs a) 0 _ _ e) ∙ h)))
  where
    go : (i : ℕ) → i < suc k → ((i : ℕ) → i < k → word_at 4 bs (a + st + st * i) ≡ 0) → word_at 4 bs a ≡ 0 → word_at 4 bs (a + st * i) ≡ 0
    go zero l ih e = ap (word_at 4 bs) (omega arith) ∙ e
    go (suc i) l ih e = ap (word_at 4 bs) (omega arith) ∙ ih i (omega arith)

-- two runs of blocks, up to R and from E on, whose words were read
pub record Walked (bs : List ℕ) (xs ys : List Block) : Type 0 where
  pub low_run : Run bs 0 1 xs
  pub low-facts : Facts bs xs blocks_at 1
  pub low-end : blocks_at + total xs ≡ R bs
  pub high-run : Run bs 1 1 ys
  pub high-facts : Facts bs ys (E bs) 1
  pub high_end : E bs + total ys ≡ length bs

module _ (bs : List ℕ) (by : Bytes bs) (al : Allowed (length bs)) (rt : RestStands bs) (xs ys : List Block) (walked : Walked bs xs ys) where
  abbrev rest : ℕ
  rest = E bs - R bs

  abbrev bl : List Block
  bl = xs ++ block rest remainder ∷ ys

  abbrev pub pool-end : ℕ
  pool-end = blocks_at + total bl

  is-end : pool-end ≡ length bs
  is-end = omega (arith, total-append xs (block rest remainder ∷ ys), rt.room)

  facts : Facts bs bl blocks_at 1
  facts q z k P i = go (in_split xs (block rest remainder ∷ ys) blocks_at 1 q (block z k) P i)
    where
      kind : Block → Kind
      kind (block z k) = k

      go : In xs blocks_at 1 q (block z k) P ⊎ In (block rest remainder ∷ ys) (blocks_at + total xs) (flag_past 1 xs) q (block z k) P
          → (word_at 4 bs q ≡ head_word z k P) × Foot bs q z k P
      go (inl i) = walked.low-facts q z k P i
      go (inr (inl i)) =
          let a : z ≡ rest = ap size i.1 in
          let b : k ≡ remainder = ap kind i.1 in
          let c : P ≡ 1 = i.2 ∙ run-after bs 0 1 xs walked.low_run in
          rw (i.0, a, b, c) (ap (word_at 4 bs) walked.low-end ∙ rt.head ∙ free-head rest (omega (arith, al.most, rt.inside)) ∙ omega arith, tt)
      go (inr (inr i)) = walked.high-facts q z k P (subst (λ (p : ℕ). In ys p 1 q (block z k) P) (omega (arith, rt.room)) i)

  sized : Sized bl
  sized = sized-append xs (block rest remainder ∷ ys) (run-sized bs 0 1 xs walked.low_run)
      ((omega (arith, rt.room), omega (arith, rt.room, rt.start-eights, rt.end-eights)), run-sized bs 1 1 ys walked.high-run)

  in_size : (q z P : ℕ) → In bl blocks_at 1 q (block z free) P → size_at bs q ≡ z
  in_size q z P i = omega (arith, (facts q z free P i).0, in-flag bl blocks_at 1 q (block z free) P (omega arith) i)

  abbrev pub marks : List ℕ
  marks = push ys (E bs) (push xs blocks_at [])

  is-marked : (x : ℕ) → count x marks ≡ free_at bl blocks_at (size_at bs x) x
  unfolding free_at
  is-marked x =
      count-push bs ys (E bs) 1 (push xs blocks_at []) x (omega arith) walked.high-facts
      ∙ omega (
        arith,
        count-push bs xs blocks_at 1 [] x (omega arith) walked.low-facts,
        count-nil x,
        free_at-append xs (block rest remainder ∷ ys) blocks_at (size_at bs x) x,
        ap (λ (k : ℕ). free_at ys k (size_at bs x) x) past,
      )
    where
      past : blocks_at + total xs + rest ≡ E bs
      past = omega (arith, rt.room)

  pub sizes : (x : ℕ) → 1 ≤ count x marks → size_at bs x ≤ pool-end
  sizes x o = let r = free_at-in bl blocks_at 1 (size_at bs x) x (omega (arith, is-marked x)) in
      omega (arith, in-high bl blocks_at 1 x (block (size_at bs x) free) r.0 r.1)

  module _ (t : ℕ) (lay : (t ≡ 1) ⊎ (t ≡ 13)) (t13 : t ≤ 13) (free-word : word_at 4 bs free_word_at ≡ free_sum xs + free_sum ys + rest - 4) (b : ℕ → List ℕ)
      (linked-small : (u : ℕ) → u ≤ 64 → LinkedS bs u (b u)) (linked-large : (u : ℕ) → 64 < u → LinkedL bs u (b u))
      (firsts : (u : ℕ) → 8 ≤ u → u ≤ 64 → u % 8 ≡ 0 → first (b u) ≡ word_at 4 bs (u + small_bins))
      (tops : (u : ℕ) → 64 < u → Tops bs t pool-end b u)
      (false-word : word_at 4 bs false_word_at ≡ false_block) (level-word : word_at 4 bs (false_block + level_at) ≡ t)
      (halves-zero : (i : ℕ) → i < 12 → word_at 4 bs (4 + 8 * i) ≡ 0)
      (false-zero : (o : ℕ) → o < 72 → o % 4 ≡ 0 → o ≢ level_at → (o < 68 - 4 * t) ⊎ (chain_at < o) → word_at 4 bs (false_block + o) ≡ 0)
      (false-links : (j : ℕ) → 1 ≤ j → j ≤ t → word_at 4 bs (false_block + (68 - 4 * j)) ≡ link_word false_block (above t pool-end b j 64))
      (all : (x : ℕ) → count x marks ≡ count x (b (size_at bs x))) where
    abbrev s : State
    s = record { top = t; low = xs; rest = rest; high = ys; bins = b }

    in-bin : (y q : ℕ) → 1 ≤ count q (b y) → size_at bs q ≡ y
    in-bin y q o = by< 64 y (λ l. large-sz bs y (b y) q (linked-large y l) o) (λ l. small-sz bs y (b y) q (linked-small y l) o)

    listed : (y q : ℕ) → count q (b y) ≡ free_at bl blocks_at y q
    listed y q =
        by= (size_at bs q) y (λ e. subst (λ (v : ℕ). count q (b v) ≡ free_at bl blocks_at v q) e (sym (all q) ∙ is-marked q))
        (λ ne. by= (count q (b y)) 0
        (λ o. by= (free_at bl blocks_at y q) 0 (λ f. o ∙ sym f)
        (λ f. let r = free_at-in bl blocks_at 1 y q (omega arith) in absurd (ne (in_size q y r.0 r.1))))
        (λ o. absurd (ne (in-bin y q (omega arith)))))

    wf : WellFormed s
    wf = record {
      layout = lay;
      low_ok = run-low bs xs walked.low_run;
      high_ok = run-high bs ys walked.high-run;
      sized = sized;
      fits = omega
          (arith, is-end, al.most);
      listed = listed;
    }

    -- ---- each word
    ok : (a : ℕ) (o o' : Option ℕ) → o ≡ o' → Ok bs a o' → Ok bs a o
    ok a o o' e h = subst (Ok bs a) (sym e) h

    small-ok : (q z P o : ℕ) → In bl blocks_at 1 q (block z free) P → z < large → Ok bs (q + o) (small_word t pool-end b q z o)
    unfolding small_word
    small-ok q z P o i l =
        by= o 4
        (λ e. ok (q + o) _ _ (if=-yes o 4 _ _ e) (ok_from bs (q + o) (next_in (b z) q)
        (λ v h. ap (λ (k : ℕ). word_at 4 bs (q + k)) e
        ∙ linked-next (small_tests bs z) (next_small bs) (b z) 0 q v (linked-small z (omega (arith, in-sized8))) h)))
        (λ e. ok (q + o) _ none (if=-no o 4 _ _ e) tt)
      where
        in-sized8 : z % 8 ≡ 0
        in-sized8 = (in-sized bl blocks_at 1 q (block z free) P sized i).1

    index_ok : (q z o : ℕ) → large ≤ z → q ≢ 0 → first (b z) ≡ q → o % 4 ≡ 0 → Ok bs (q + o) (index t pool-end b none (height t z) q z o)
    unfolding index
    index_ok q z o l nz f o4 =
        let p = tops z (omega arith) (λ e. nz (sym f ∙ e)) in
        let ht = height-le t z in
        by= o level_at (λ e. ok (q + o) _ _ (if=-yes o 12 _ _ e)
        (ap (λ (k : ℕ). word_at 4 bs (q + k)) e ∙ ap (λ (k : ℕ). word_at 4 bs (k + level_at)) (sym f) ∙ p.0))
        (λ n12. by< o (68 - 4 * height t z) (λ c. ok (q + o) _ none (if=-no o 12 _ _ n12 ∙ if<-yes o _ _ _ c) tt)
        (λ c. by< chain_at o (λ d. ok (q + o) _ none (if=-no o 12 _ _ n12 ∙ if<-no o _ _ _ c ∙ if<-yes 64 o _ _ d) tt)
        (λ d. let e : q + o ≡ q + (68 - 4 * ((68 - o) / 4)) = omega arith in
        ok (q + o) _ _ (if=-no o 12 _ _ n12 ∙ if<-no o _ _ _ c ∙ if<-no 64 o _ _ d)
        (ap (word_at 4 bs) e ∙ ap (λ (k : ℕ). word_at 4 bs (k + (68 - 4 * ((68 - o) / 4)))) (sym f) ∙ p.1 ((68 - o) / 4) (omega arith) (omega arith)
        ∙ ap (λ (k : ℕ). link_word k (above t pool-end b ((68 - o) / 4) z)) f))))

    large-ok : (q z P o : ℕ) → In bl blocks_at 1 q (block z free) P → large ≤ z → o % 4 ≡ 0 → Ok bs (q + o) (large_word t pool-end b q z P o)
    unfolding large_word
    large-ok q z P o i l o4 =
        by= o 4 (λ e. ok (q + o) _ _ (if=-yes o 4 _ _ e) (ap-link o e (prev_in 0 (b z) q)
        (λ v h. ap (λ (k : ℕ). word_at 4 bs (q + k)) e ∙ (linked-prev (large_tests bs z) (next_large bs) (b z) 0 q v (linked-large z (omega arith)) h).1.0)))
        (λ n4. by= o 8 (λ e. ok (q + o) _ _ (if=-no o 4 _ _ n4 ∙ if=-yes o 8 _ _ e) (ap-link o e (next_in (b z) q)
        (λ v h. ap (λ (k : ℕ). word_at 4 bs (q + k)) e ∙ eight v h)))
        (λ n8. by= o (z - 4)
        (λ e. ok (q + o) _ _ (if=-no o 4 _ _ n4 ∙ if=-no o 8 _ _ n8 ∙ if=-yes o (z - 4) _ _ e)
        (ap (λ (k : ℕ). word_at 4 bs (q + k)) e ∙ (facts q z free P i).1 l))
        (λ nf. by= (first (b z)) q
        (λ f. ok (q + o) _ _ (if=-no o 4 _ _ n4 ∙ if=-no o 8 _ _ n8 ∙ if=-no o (z - 4) _ _ nf ∙ if=-yes (first (b z)) q _ _ f)
        (index_ok q z o l (omega (arith, in-low bl blocks_at 1 q (block z free) P i)) f o4))
        (λ f. ok (q + o) _ none (if=-no o 4 _ _ n4 ∙ if=-no o 8 _ _ n8 ∙ if=-no o (z - 4) _ _ nf ∙ if=-no (first (b z)) q _ _ f) tt))))
      where
        ap-link : (o : ℕ) {k : ℕ} → o ≡ k → (m : Option ℕ) → ((v : ℕ) → m ≡ some v → word_at 4 bs (q + o) ≡ link_word q v) → Ok bs (q + o) (link q m)
        ap-link o e none h = tt
        ap-link o e (some v) h = h v refl

        eight : (v : ℕ) → next_in (b z) q ≡ some v → word_at 4 bs (q + next_at) ≡ link_word q v
        eight v h =
            (linked-tests (large_tests bs z) (next_large bs) (b z) 0 q (linked-large z (omega arith)) (next-in (b z) q v h)).1.1.1.0
            ∙ ap (link_word q) (linked-next (large_tests bs z) (next_large bs) (b z) 0 q v (linked-large z (omega arith)) h)

    rest_ok : (q z : ℕ) (k : Kind) (P o : ℕ) → In bl blocks_at 1 q (block z k) P → o % 4 ≡ 0 → Ok bs (q + o) (past_head t pool-end b q z k P o)
    rest_ok q z held P o i o4 = tt
    rest_ok q z remainder P o i o4 = tt
    rest_ok q z free P o i o4 =
        by< z large (λ l. ok (q + o) _ _ (if<-yes z 72 _ _ l) (small-ok q z P o i l)) (λ l. ok (q + o) _ _ (if<-no z 72 _ _ l) (large-ok q z P o i l o4))

    block-ok : (q z : ℕ) (k : Kind) (P o : ℕ) → In bl blocks_at 1 q (block z k) P → o % 4 ≡ 0 → Ok bs (q + o) (block_word t pool-end b q (block z k) P o)
    block-ok q z k P o i o4 =
        by= o 0 (λ e. ok (q + o) _ _ (if=-yes o 0 _ _ e) (ap (word_at 4 bs) (omega arith) ∙ (facts q z k P i).0))
        (λ n. ok (q + o) _ _ (if=-no o 0 _ _ n) (rest_ok q z k P o i o4))

    walk-ok : (a : ℕ) → blocks_at ≤ a → a % 4 ≡ 0 → Ok bs a (walk (block_word t pool-end b) bl blocks_at 1 a)
    walk-ok a l a4 =
        walk-rel (λ x y. Ok bs a x) tt (block_word t pool-end b) (block_word t pool-end b) bl blocks_at 1 a l
        (λ q c P i m m'. at q c P i m)
      where
        at : (q : ℕ) (c : Block) (P : ℕ) → In bl blocks_at 1 q c P → q ≤ a → Ok bs a (block_word t pool-end b q c P (a - q))
        at q (block z k) P i m = subst (λ (v : ℕ). Ok bs v (block_word t pool-end b q (block z k) P (a - q))) (omega arith)
            (block-ok q z k P (a - q) i (omega (arith, in-aligned bl blocks_at 1 q (block z k) P sized refl i)))

    false-ok : (o : ℕ) → o < 72 → o % 4 ≡ 0 → Ok bs (false_block + o) (index t pool-end b (some 0) t false_block 64 o)
    unfolding index
    false-ok o l al =
        by= o level_at (λ e. ok (false_block + o) _ _ (if=-yes o 12 _ _ e) (ap (λ (k : ℕ). word_at 4 bs (false_block + k)) e ∙ level-word))
        (λ n12. by< o (68 - 4 * t) (λ c. ok (false_block + o) _ _ (if=-no o 12 _ _ n12 ∙ if<-yes o _ _ _ c) (false-zero o l al n12 (inl c)))
        (λ c. by< chain_at o (λ d. ok (false_block + o) _ _ (if=-no o 12 _ _ n12 ∙ if<-no o _ _ _ c ∙ if<-yes 64 o _ _ d) (false-zero o l al n12 (inr d)))
        (λ d. let e : 96 + o ≡ 96 + (68 - 4 * ((68 - o) / 4)) = omega arith in
        ok (false_block + o) _ _ (if=-no o 12 _ _ n12 ∙ if<-no o _ _ _ c ∙ if<-no 64 o _ _ d)
        (ap (word_at 4 bs) e ∙ false-links ((68 - o) / 4) (omega arith) (omega arith)))))

    word_ok : (w : ℕ) → w < 12 → word_at 4 bs (8 * w) ≡ header_word s w
    unfolding header_word
    word_ok w l =
        by= w 0 (λ e. ap (λ (k : ℕ). word_at 4 bs (8 * k)) e ∙ free-word ∙ omega (arith, free_sum-append xs (block rest remainder ∷ ys))
        ∙ sym (if=-yes w 0 _ _ e))
        (λ n0. by= w 1 (λ e. ap (λ (k : ℕ). word_at 4 bs (8 * k)) e ∙ false-word ∙ sym (if=-no w 0 _ _ n0 ∙ if=-yes w 1 _ _ e))
        (λ n1. by= w 2 (λ e. ap (λ (k : ℕ). word_at 4 bs (8 * k)) e ∙ sym walked.low-end ∙ sym (if=-no w 0 _ _ n0 ∙ if=-no w 1 _ _ n1 ∙ if=-yes w 2 _ _ e))
        (λ n2. by= w 3 (λ e. ap (λ (k : ℕ). word_at 4 bs (8 * k)) e ∙ omega (arith, rt.room)
        ∙ sym (if=-no w 0 _ _ n0 ∙ if=-no w 1 _ _ n1 ∙ if=-no w 2 _ _ n2 ∙ if=-yes w 3 _ _ e))
        (λ n3. ap (word_at 4 bs) (omega arith) ∙ sym (firsts (8 * (w - 3)) (omega arith) (omega arith) (omega arith))
        ∙ sym (if=-no w 0 _ _ n0 ∙ if=-no w 1 _ _ n1 ∙ if=-no w 2 _ _ n2 ∙ if=-no w 3 _ _ n3)))))

    sheet-ok : (a : ℕ) → a % 4 ≡ 0 → Ok bs a (sheet s a)
    unfolding sheet
    sheet-ok a al =
        by< a false_block
        (λ l. by= (a % 8) 0
        (λ e. ok a _ _ (if<-yes a 96 _ _ l ∙ if=-yes (a % 8) 0 _ _ e) (ap (word_at 4 bs) (omega arith) ∙ word_ok (a / 8) (omega arith)))
        (λ e. ok a _ _ (if<-yes a 96 _ _ l ∙ if=-no (a % 8) 0 _ _ e) (ap (word_at 4 bs) (omega arith) ∙ halves-zero (a / 8) (omega arith))))
        (λ l. by< a blocks_at
        (λ m. ok a _ _ (if<-no a 96 _ _ l ∙ if<-yes a 168 _ _ m)
        (subst (λ (v : ℕ). Ok bs v (index t pool-end b (some 0) t false_block 64 (a - false_block))) (omega arith)
        (false-ok (a - false_block) (omega arith) (omega arith))))
        (λ m. ok a _ _ (if<-no a 96 _ _ l ∙ if<-no a 168 _ _ m) (walk-ok a m al)))

    held_by : Holds (sheet s) bs
    held_by = holds-from (sheet s) bs (omega (arith, al)) by (λ a al l. sheet-ok a al)

    pub built : OldSound bs
    built = record { length_allowed = al; state = s; well_formed = wf; edge = tt; ends = is-end; holds = held_by }
