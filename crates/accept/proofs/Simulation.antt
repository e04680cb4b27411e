-- The inspection over bits is the inspection over the list of what is marked.
use mathlib.Core.Bool.{Bool, false, true}
use mathlib.Core.List.{List, [], ◌∷◌}
use mathlib.Core.Path.{◌∙◌, ◌≡◌, ap, refl, subst, sym}
use Prim.Native.Nat.{◌%◌, ◌*◌, ◌+◌, ◌-◌, ◌/◌, ◌<◌, ◌≤◌, suc, zero, ℕ}
use native.Mathlib.Omega.{arith}
use lib.ListN.{length, length-replicate, replicate}
use Rattle.guards.proofs.Guards.{All}
use Rattle.accept.proofs.MarkLists.{count-remove, list_marks, remove}
use Rattle.accept.proofs.Tested.{rest-stands}
use Rattle.header.specs.Header.{E, R, false_tests, rest_tests}
use Rattle.runs.specs.Runs.{if_seen, Scanned, fit_tests, free_tests, scan, seen, stray}
use Rattle.heads.specs.Heads.{size_at}
use Rattle.accept.specs.Inspect.{inspect, scanned, size_tests}
use Rattle.levels.specs.Levels.{top_of}
use Rattle.lists.specs.Index.{Awaited, astray, awaiting, false_indexed, first_indexed, if_awaiting, next_on}
use Rattle.lists.specs.Lists.{Left, chain, follow, if_left, large_tests, left, lists, lost, next_large, next_small, small_tests, smalls}
use Rattle.marks.specs.MarkSets.{bit_marks, mark_at}
use Rattle.guards.specs.Tests.{Test, guard, holds, less, same}
use Rattle.marks.proofs.Laws.{length-put}
use Rattle.marks.proofs.StartMarks.{mark-at-most-one, mark-put, marked-place, none-marked}
use Rattle.marks.specs.Marks.{put_bit_at}
use Rattle.paper.proofs.reads.Allowed.{allowed-inv}
use Rattle.paper.proofs.bins.Bins.{count-cons, count-nil, count-there}
use Rattle.paper.specs.Bins.{count}
use Rattle.paper.specs.Layout.{blocks_at, false_block, free_word_at, small_bins}
use Rattle.words.specs.Choice.{by<, by=, if=-no, if=-yes, ifs}
use Rattle.words.specs.Words.{word_at}

pub record Rep (ms ws : List ℕ) : Type 0 where
  pub long : length ws ≡ 128
  pub same_bits : (x : ℕ) → count x ms ≡ mark_at ws x

-- what is marked is a place of the bits
in_place : (ms ws : List ℕ) (q : ℕ) → Rep ms ws → 1 ≤ count q ms → (q % 8 ≡ 0) × (q / 8 / 64 < length ws)
in_place ms ws q r o = marked-place ws q (omega (arith, r.same_bits q))

rep-once : (ms ws : List ℕ) (x : ℕ) → Rep ms ws → count x ms ≤ 1
rep-once ms ws x r = omega (arith, r.same_bits x, mark-at-most-one ws x)

rep-drop : (ms ws : List ℕ) (q : ℕ) → Rep ms ws → 1 ≤ count q ms → Rep (remove q ms) (put_bit_at ws (q / 8) 0)
rep-drop ms ws q r o =
    let i = in_place ms ws q r o in
    record {
      long = length-put ws (q / 8) 0 ∙ r.long;
      same_bits = λ x. by= q x
          (λ e. let b = rep-once ms ws x r in
          omega (
            arith,
            count-remove q x ms o,
            if=-yes {A = ℕ} q x 1 0 e,
            mark-put ws q 0 x (omega arith) i.1 i.0,
            if=-yes {A = ℕ} q x 0
                (mark_at ws x) e,
          ))
          (λ n. omega (
            arith,
            r.same_bits x,
            count-remove q x ms o,
            if=-no {A = ℕ} q x 1 0 n,
            mark-put ws q 0 x (omega arith) i.1 i.0,
            if=-no
                {A = ℕ} q x 0 (mark_at ws x) n,
          ));
    }

rep-put : (ms ws : List ℕ) (p : ℕ) → Rep ms ws → count p ms ≡ 0 → p % 8 ≡ 0 → p < 65536 → Rep (p ∷ ms) (put_bit_at ws (p / 8) 1)
rep-put ms ws p r o al l =
    let i : p / 8 / 64 < length ws = omega (arith, r.long) in
    record {
      long = length-put ws (p / 8) 1 ∙ r.long;
      same_bits = λ x. by= p x
          (λ e. omega (
            arith,
            count-cons x p ms,
            ap (λ (v : ℕ). count v ms) e,
            if=-yes {A = ℕ} p x 1 0 e,
            mark-put ws p 1 x (omega arith) i al,
            if=-yes
                {A = ℕ} p x 1 (mark_at ws x) e,
          ))
          (λ n. omega (
            arith,
            r.same_bits x,
            count-cons x p ms,
            if=-no {A = ℕ} p x 1 0 n,
            mark-put ws p 1 x (omega arith) i al,
            if=-no {A = ℕ} p x 1
                (mark_at ws x) n,
          ));
    }

-- ---- two runs
pub guard-rel : {A B : Type 0} (Q : A → B → Type 0) (ts : List Test) (bad x : A) (bad' x' : B) → Q bad bad' → (All ts → Q x x')
    → Q (guard ts bad x) (guard ts bad' x')
guard-rel Q [] bad x bad' x' n h = h tt
guard-rel Q (same a b ∷ ts) bad x bad' x' n h = by= a b (λ e. simp ifs (guard-rel Q ts bad x bad' x' n (λ k. h (e, k)))) (λ e. simp ifs n)
guard-rel Q (less a b ∷ ts) bad x bad' x' n h = by< a b (λ e. simp ifs (guard-rel Q ts bad x bad' x' n (λ k. h (e, k)))) (λ e. simp ifs n)
guard-rel Q (holds true ∷ ts) bad x bad' x' n h = guard-rel Q ts bad x bad' x' n (λ k. h (refl, k))
guard-rel Q (holds false ∷ ts) bad x bad' x' n h = n

abbrev pub RepLeft : Left (List ℕ) → Left (List ℕ) → Type 0
RepLeft lost lost = Unit {0}
RepLeft lost (left k ws) = ⊥
RepLeft (left k ms) lost = ⊥
RepLeft (left k ms) (left k' ws) = (k ≡ k') × Rep ms ws

pub sim-follow : (tests : ℕ → ℕ → List Test) (next : ℕ → ℕ) (k : ℕ) (ms ws : List ℕ) (p q : ℕ) → Rep ms ws
    → RepLeft (follow list_marks tests next k ms p q) (follow bit_marks tests next k ws p q)
unfolding follow
sim-follow tests next zero ms ws p q r = by= q 0 (λ e. simp ifs (refl, r)) (λ e. simp ifs tt)
sim-follow tests next (suc k) ms ws p q r =
    by= q 0 (λ e. simp ifs (refl, r))
    (λ e. simp ifs (rw (← r.same_bits q)
    (guard-rel RepLeft (less 0 (count q ms) ∷ tests p q) lost _ lost _ tt
    (λ h. sim-follow tests next k (remove q ms) (put_bit_at ws (q / 8) 0) q (next q) (rep-drop ms ws q r h.0)))))

pub left-rel : {A B : Type 0} (Q : A → B → Type 0) (m m' : Left (List ℕ)) (bad : A) (f : ℕ → List ℕ → A) (bad' : B) (f' : ℕ → List ℕ → B)
    → RepLeft m m' → Q bad bad'
    → ((k : ℕ) (ms ws : List ℕ) → Rep ms ws → Q (f k ms) (f' k ws)) → Q (if_left m bad f) (if_left m' bad' f')
left-rel Q lost lost bad f bad' f' r n h = n
left-rel Q lost (left k ws) bad f bad' f' r n h = absurd r
left-rel Q (left k ms) lost bad f bad' f' r n h = absurd r
left-rel Q (left k ms) (left k' ws) bad f bad' f' r n h = subst (λ (v : ℕ). Q (f k ms) (f' v ws)) r.0 (h k ms ws r.1)

-- the same levels are awaited: the index has no marks
awaiting-rel : {A B : Type 0} (Q : A → B → Type 0) (m : Awaited) (bad : A) (f : List ℕ → A) (bad' : B) (f' : List ℕ → B) → Q bad bad'
    → ((ws : List ℕ) → Q (f ws) (f' ws)) → Q (if_awaiting m bad f) (if_awaiting m bad' f')
awaiting-rel Q astray bad f bad' f' n h = n
awaiting-rel Q (awaiting ws) bad f bad' f' n h = h ws

-- every mark is below p, where a mark may be put
abbrev pub RepScan : ℕ → Scanned (List ℕ) → Scanned (List ℕ) → Type 0
RepScan e stray stray = Unit {0}
RepScan e stray (seen n ws sum) = ⊥
RepScan e (seen n ms sum) stray = ⊥
RepScan e (seen n ms sum) (seen n' ws sum') = (n ≡ n') × Rep ms ws × (sum ≡ sum') × ((x : ℕ) → e ≤ x → count x ms ≡ 0)

pub seen-rel : {A B : Type 0} (Q : A → B → Type 0) (e : ℕ) (m m' : Scanned (List ℕ)) (bad : A) (f : ℕ → List ℕ → ℕ → A) (bad' : B)
    (f' : ℕ → List ℕ → ℕ → B) → RepScan e m m' → Q bad bad'
    → ((n : ℕ) (ms ws : List ℕ) (sum : ℕ) → Rep ms ws → ((x : ℕ) → e ≤ x → count x ms ≡ 0) → Q (f n ms sum) (f' n ws sum))
    → Q (if_seen m bad f) (if_seen m' bad' f')
seen-rel Q e stray stray bad f bad' f' r n h = n
seen-rel Q e stray (seen k ws sum) bad f bad' f' r n h = absurd r
seen-rel Q e (seen k ms sum) stray bad f bad' f' r n h = absurd r
seen-rel Q e (seen k ms sum) (seen k' ws sum') bad f bad' f' r n h =
    subst (λ (v : ℕ). Q (f k ms sum) (f' v ws sum')) r.0 (subst (λ (v : ℕ). Q (f k ms sum) (f' k ws v)) r.2 (h k ms ws sum r.1 r.3))

module _ (bs : List ℕ) where
  pub sim-smalls : (c z k : ℕ) (ms ws : List ℕ) → Rep ms ws → RepLeft (smalls list_marks bs c z k ms) (smalls bit_marks bs c z k ws)
  unfolding smalls
  sim-smalls zero z k ms ws r = (refl, r)
  sim-smalls (suc c) z k ms ws r =
      left-rel RepLeft (follow list_marks (small_tests bs z) (next_small bs) k ms 0 (word_at 4 bs (z + small_bins)))
      (follow bit_marks (small_tests bs z) (next_small bs) k ws 0 (word_at 4 bs (z + small_bins)))
      lost (λ k' ms'. smalls list_marks bs c (z + 8) k' ms') lost (λ k' ms'. smalls bit_marks bs c (z + 8) k' ms')
      (sim-follow (small_tests bs z) (next_small bs) k ms ws 0 (word_at 4 bs (z + small_bins)) r) tt (λ k' ms' ws' r'. sim-smalls c (z + 8) k' ms' ws' r')

  pub sim-chain : (t c k : ℕ) (ms ws : List ℕ) (y f : ℕ) (aw : List ℕ) → Rep ms ws
      → chain list_marks t bs c k ms y f aw ≡ chain bit_marks t bs c k ws y f aw
  unfolding chain
  sim-chain t zero k ms ws y f aw r = refl
  sim-chain t (suc c) k ms ws y f aw r =
      by= f 0 (λ e. simp ifs)
      (λ e. simp ifs (awaiting-rel (λ (a b : Bool). a ≡ b) (first_indexed bs t y (size_at bs f) f aw) false
      (λ aw'. if_left (follow list_marks (large_tests bs (size_at bs f)) (next_large bs) k ms 0 f) false
      (λ k' ms'. chain list_marks t bs c k' ms' (size_at bs f) (next_on bs 1 f) aw')) false
      (λ aw'. if_left (follow bit_marks (large_tests bs (size_at bs f)) (next_large bs) k ws 0 f) false
      (λ k' ms'. chain bit_marks t bs c k' ms' (size_at bs f) (next_on bs 1 f) aw')) refl
      (λ aw'. left-rel (λ (a b : Bool). a ≡ b) (follow list_marks (large_tests bs (size_at bs f)) (next_large bs) k ms 0 f)
      (follow bit_marks (large_tests bs (size_at bs f)) (next_large bs) k ws 0 f)
      false (λ k' ms'. chain list_marks t bs c k' ms' (size_at bs f) (next_on bs 1 f) aw') false
      (λ k' ms'. chain bit_marks t bs c k' ms' (size_at bs f) (next_on bs 1 f) aw')
      (sim-follow (large_tests bs (size_at bs f)) (next_large bs) k ms ws 0 f r) refl
      (λ k' ms' ws' r'. sim-chain t c k' ms' ws' (size_at bs f) (next_on bs 1 f) aw' r'))))

  pub sim-lists : (k : ℕ) (ms ws : List ℕ) → Rep ms ws → lists list_marks bs k ms ≡ lists bit_marks bs k ws
  unfolding lists
  sim-lists k ms ws r =
      left-rel (λ (a b : Bool). a ≡ b) (smalls list_marks bs 8 8 k ms) (smalls bit_marks bs 8 8 k ws)
      false (λ k' ms'. if_awaiting (false_indexed bs) false
      (λ aw. chain list_marks (top_of bs) bs (suc k') k' ms' 64 (next_on bs 1 false_block) aw))
      false (λ k' ms'. if_awaiting (false_indexed bs) false
      (λ aw. chain bit_marks (top_of bs) bs (suc k') k' ms' 64 (next_on bs 1 false_block) aw))
      (sim-smalls 8 8 k ms ws r) refl
      (λ k' ms' ws' r'. awaiting-rel (λ (a b : Bool). a ≡ b) (false_indexed bs) false
      (λ aw. chain list_marks (top_of bs) bs (suc k') k' ms' 64 (next_on bs 1 false_block) aw) false
      (λ aw. chain bit_marks (top_of bs) bs (suc k') k' ws' 64 (next_on bs 1 false_block) aw) refl
      (λ aw. sim-chain (top_of bs) (suc k') k' ms' ws' 64 (next_on bs 1 false_block) aw r'))

  pub sim-scan : (k c e p due n : ℕ) (ms ws : List ℕ) (sum : ℕ) → p % 8 ≡ 0 → e ≤ 65536 → Rep ms ws → ((x : ℕ) → p ≤ x → count x ms ≡ 0)
      → RepScan e (scan list_marks bs k c e p due n ms sum) (scan bit_marks bs k c e p due n ws sum)
  unfolding scan
  sim-scan zero c e p due n ms ws sum al b r fresh = tt
  sim-scan (suc k) c e p due n ms ws sum al b r fresh =
      by= p e
      (λ i. simp ifs (guard-rel (RepScan e) (same due 3 ∷ []) stray _ stray _ tt (λ t. (refl, r, refl, λ x l. fresh x (omega arith)))))
      (λ i. simp ifs (guard-rel (RepScan e) (fit_tests bs c e p) stray _ stray _ tt
      (λ t. let z8 : size_at bs p % 8 ≡ 0 = t.1.1.0 in let big : 7 < size_at bs p = t.0 in let in_e : p + size_at bs p < suc e = t.1.1.1.0 in
      by= (word_at 4 bs p % 4) due
      (λ a. simp ifs (sim-scan k c e (p + size_at bs p) 3 n ms ws sum (omega arith) b r (λ x l. fresh x (omega arith))))
      (λ a. simp ifs (guard-rel (RepScan e) (free_tests bs due p) stray _ stray _ tt
      (λ u. sim-scan k c e (p + size_at bs p) (2 * c + 1) (suc n) (p ∷ ms) (put_bit_at ws (p / 8) 1) (sum + size_at bs p) (omega arith) b
      (rep-put ms ws p r (fresh p (omega arith)) al (omega arith)) (λ x l. count-there p x ms (omega arith) ∙ fresh x (omega arith))))))))

  rep-empty : Rep [] (replicate 128 0)
  rep-empty = record { long = length-replicate {A = ℕ} 128 0; same_bits = λ x. count-nil x ∙ sym (none-marked 128 x) }

  pub sim-scanned : R bs ≤ E bs → E bs ≤ length bs → length bs ≤ 65536 → E bs % 8 ≡ 0
      → RepScan (length bs) (scanned list_marks bs) (scanned bit_marks bs)
  unfolding scanned
  sim-scanned a b c d =
      seen-rel (RepScan (length bs)) (R bs) (scan list_marks bs (suc (R bs)) 0 (R bs) blocks_at 3 0 [] 0)
      (scan bit_marks bs (suc (R bs)) 0 (R bs) blocks_at 3 0 (replicate 128 0) 0)
      stray (λ n ms sum. scan list_marks bs (suc (length bs)) 1 (length bs) (E bs) 3 n ms sum) stray
      (λ n ms sum. scan bit_marks bs (suc (length bs)) 1 (length bs) (E bs) 3 n ms sum)
      (sim-scan (suc (R bs)) 0 (R bs) blocks_at 3 0 [] (replicate 128 0) 0 refl (omega arith) rep-empty (λ x l. count-nil x)) tt
      (λ n ms ws sum r fresh. sim-scan (suc (length bs)) 1 (length bs) (E bs) 3 n ms ws sum d c r (λ x l. fresh x (omega arith)))

  -- the whole
  pub sim-inspect : inspect list_marks bs ≡ inspect bit_marks bs
  unfolding inspect
  sim-inspect =
      guard-rel (λ (a b : Bool). a ≡ b) (size_tests bs) false _ false _ refl (λ st.
      guard-rel (λ (a b : Bool). a ≡ b) (rest_tests bs) false _ false _ refl (λ rt. let rest = rest-stands bs rt in
      guard-rel (λ (a b : Bool). a ≡ b) (false_tests bs) false _ false _ refl (λ ft.
      seen-rel (λ (a b : Bool). a ≡ b) (length bs) (scanned list_marks bs) (scanned bit_marks bs)
      false (λ n ms sum. guard (same (word_at 4 bs free_word_at) (sum + (E bs - R bs) - 4) ∷ []) false (lists list_marks bs n ms))
      false (λ n ms sum. guard (same (word_at 4 bs free_word_at) (sum + (E bs - R bs) - 4) ∷ []) false (lists bit_marks bs n ms))
      (sim-scanned (omega (arith, rest.room)) (omega (arith, rest.inside)) (allowed-inv (length bs) st.0).most rest.end-eights) refl
      (λ n ms ws sum r fresh.
      guard-rel (λ (a b : Bool). a ≡ b) (same (word_at 4 bs free_word_at) (sum + (E bs - R bs) - 4) ∷ []) false _ false _ refl
      (λ ht. sim-lists n ms ws r)))))
