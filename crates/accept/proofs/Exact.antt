-- The tests accept the pools of either layout that are sound by the old rule, and no others: they ask nothing of the block at E.
use mathlib.Core.Bool.{false, true}
use mathlib.Core.List.{List, [], ◌∷◌}
use mathlib.Core.Logic.{◌≢◌, ◌⊎◌, inl, inr, ⊎_elim}
use mathlib.Core.Path.{◌∙◌, ◌≡◌, ap, refl, subst, sym}
use Prim.Native.Nat.{◌%◌, ◌*◌, ◌+◌, ◌-◌, ◌/◌, ◌<◌, ◌≤◌, suc, ℕ}
use native.Mathlib.Omega.{arith}
use lib.ListN.{length, length-replicate, replicate}
use Rattle.heads.specs.Links.{link_word}
use Rattle.accept.proofs.Above.{above-cong}
use Rattle.accept.proofs.Accept.{accepts}
use Rattle.accept.proofs.Awaited.{indexed-inv, inv-awaiting}
use Rattle.accept.proofs.Build.{Walked, built, cleared-inv, marks, pool-end, sizes}
use Rattle.accept.proofs.Chains.{LinkedL, chain-inv, false-true, inv_left, smalls-inv}
use Rattle.guards.proofs.Guards.{guard-inv}
use Rattle.accept.proofs.MarkLists.{list_marks}
use Rattle.accept.proofs.Scanning.{push, scan-inv, stray-seen}
use Rattle.accept.proofs.Tested.{FalseStands, RestStands, false-stands, rest-stands}
use Rattle.header.specs.Header.{E, R, false_tests, rest_tests}
use Rattle.runs.specs.Runs.{if_seen, Scanned, scan, seen, stray}
use Rattle.accept.specs.Inspect.{inspect, scanned, size_tests}
use Rattle.levels.proofs.Levels.{top-cases}
use Rattle.levels.specs.Levels.{top_of, word_of}
use Rattle.lists.specs.Index.{false_indexed, if_awaiting, next_on}
use Rattle.lists.specs.Lists.{chain, lists, smalls}
use Rattle.guards.specs.Tests.{same}
use Rattle.paper.proofs.reads.Allowed.{allowed-inv}
use Rattle.paper.specs.Allowed.{Allowed}
use Rattle.paper.specs.Bins.{first}
use Rattle.paper.specs.Blocks.{Block, free_sum}
use Rattle.paper.specs.Governed.{above}
use Rattle.paper.specs.Layout.{blocks_at, chain_at, false_block, free_word_at, level_at, levels}
use Rattle.paper.specs.Sound.{OldSound}
use Rattle.words.specs.Choice.{by<}
use Rattle.words.specs.Words.{Bytes, word_at}

pub inv-seen : {M A : Type 0} (m : Scanned M) (bad y : A) (f : ℕ → M → ℕ → A) → bad ≢ y → if_seen m bad f ≡ y
    → (n : ℕ) × (ms : M) × (sum : ℕ) × (m ≡ seen n ms sum) × (f n ms sum ≡ y)
inv-seen stray bad y f n h = absurd (n h)
inv-seen (seen k ms sum) bad y f n h = (k, ms, sum, refl, h)

-- the words of the false block that are 0, as far as the index leaves them
pub false-zero : (bs : List ℕ) → FalseStands bs → top_of bs ≤ levels → (o : ℕ) → o < 72 → o % 4 ≡ 0 → o ≢ level_at
    → (o < 68 - 4 * top_of bs) ⊎ (chain_at < o) → word_at 4 bs (false_block + o) ≡ 0
false-zero bs ft t13 o l o4 n12 (inl c) =
    by< o level_at (λ d. ap (word_at 4 bs) (omega arith) ∙ cleared-inv bs 3 4 false_block ft.below-level (o / 4) (omega arith))
    (λ d. ap (word_at 4 bs) (omega arith) ∙ cleared-inv bs (levels - top_of bs) 4 (false_block + 16) ft.reserved ((o - 16) / 4) (omega arith))
false-zero bs ft t13 o l o4 n12 (inr c) = ap (word_at 4 bs) (omega arith) ∙ ft.past-chain

module _ (bs : List ℕ) (by : Bytes bs) (al : Allowed (length bs)) (rt : RestStands bs) (xs ys : List Block) (walked : Walked bs xs ys)
    (free-word : word_at 4 bs free_word_at ≡ free_sum xs + free_sum ys + (E bs - R bs) - 4) where
  abbrev ms : List ℕ
  ms = marks bs by al rt xs ys walked

  abbrev m : ℕ
  m = pool-end bs by al rt xs ys walked

  abbrev t : ℕ
  t = top_of bs

  t1 : 1 ≤ t
  t1 = ⊎_elim (λ e. omega arith) (λ e. omega arith) (top-cases bs)

  t13 : t ≤ levels
  t13 = ⊎_elim (λ e. omega arith) (λ e. omega arith) (top-cases bs)

  from-lists : FalseStands bs → lists list_marks bs (length ms) ms ≡ true → OldSound bs
  unfolding lists
  from-lists ft h =
      let a = inv_left (smalls list_marks bs 8 8 (length ms) ms) false true
      (λ k ms'. if_awaiting (false_indexed bs) false (λ ws. chain list_marks t bs (suc k) k ms' 64 (next_on bs 1 false_block) ws)) false-true h in
      let c = smalls-inv bs 8 8 (length ms) ms a.0 a.1 refl refl refl a.2 in
      let w = inv-awaiting (false_indexed bs) false true (λ ws. chain list_marks t bs (suc a.0) a.0 a.1 64 (next_on bs 1 false_block) ws)
      false-true a.3 in
      let lw = length-replicate {A = ℕ} 12 false_block in
      let ix = indexed-inv bs t false_block (replicate 12 false_block) w.0 lw w.1 in
      let B = chain-inv bs t m t1 t13 (suc a.0) a.0 a.1 64 (next_on bs 1 false_block) w.0 c.0 (ix.long ∙ lw)
      (λ x o. sizes bs by al rt xs ys walked x (omega (arith, c.1 x))) w.2 in
      let S = c.2 B.bin B.below B.all in
      let past : (j u : ℕ) → 64 ≤ u → above t m B.bin j u ≡ above t m S.bin j u =
      λ j u l. above-cong t m B.bin S.bin j u (λ v k. sym (S.above v (omega arith))) in
      built bs by al rt xs ys walked t (top-cases bs) t13 free-word S.bin S.linked
      (λ u l. subst (LinkedL bs u) (sym (S.above u l)) (B.linked u))
      (λ u a b c. S.firsts u a b c)
      (λ u l nz. let e = S.above u l in
      let r = B.tops u (λ z. nz (ap first e ∙ z)) in (
        ap (λ (q : List ℕ). word_at 4 bs (first q + level_at)) e ∙ r.0,
        λ j j1 jh. ap (λ (q : List ℕ). word_at 4 bs (first q + word_of j)) e ∙ r.1 j j1 jh
            ∙ ap (λ (q : List ℕ). link_word (first q) (above t m B.bin j u)) (sym e) ∙ ap (link_word (first (S.bin u))) (past j u (omega arith)),
      ))
      ft.false-word ft.level-word (cleared-inv bs 12 8 4 ft.halves) (false-zero bs ft t13)
      (λ j j1 jt. (ix.here j j1 jt).1
      ∙ ap (link_word false_block) (sym (ix.next j j1 jt) ∙ B.begins j j1 jt ∙ past j 64 (omega arith)))
      S.all

module _ (bs : List ℕ) where
  pub only-sound : Bytes bs → inspect list_marks bs ≡ true → OldSound bs
  unfolding inspect scanned
  only-sound by h =
      let g1 = guard-inv (size_tests bs) false _ true false-true h in
      let g2 = guard-inv (rest_tests bs) false _ true false-true g1.1 in
      let g3 = guard-inv (false_tests bs) false _ true false-true g2.1 in
      let s1 = inv-seen (scanned list_marks bs) false true _ false-true g3.1 in
      let g4 = guard-inv (same (word_at 4 bs free_word_at) (s1.2 + (E bs - R bs) - 4) ∷ []) false (lists list_marks bs s1.0 s1.1) true false-true
      s1.4 in
      let s2 = inv-seen (scan list_marks bs (suc (R bs)) 0 (R bs) blocks_at 3 0 [] 0) stray (seen s1.0 s1.1 s1.2)
      (λ n ms sum. scan list_marks bs (suc (length bs)) 1 (length bs) (E bs) 3 n ms sum) (stray-seen s1.0 s1.1 s1.2) s1.3 in
      let lo = scan-inv bs (suc (R bs)) 0 (R bs) blocks_at 1 0 [] 0 s2.0 s2.1 s2.2 (omega arith) (omega arith) refl s2.3 in
      let hi = scan-inv bs (suc (length bs)) 1 (length bs) (E bs) 1 s2.0 s2.1 s2.2 s1.0 s1.1 s1.2 (omega arith) (omega arith)
      lo.6 s2.4 in
      from-lists bs by (allowed-inv (length bs) g1.0.0) (rest-stands bs g2.0) lo.0 hi.0
      (record { low_run = lo.1; low-facts = lo.2; low-end = lo.3; high-run = hi.1; high-facts = hi.2; high_end = hi.3 })
      (g4.0.0 ∙ ap (λ (v : ℕ). v + (E bs - R bs) - 4) (omega (arith, lo.5, hi.5))) (false-stands bs g3.0)
      (subst (λ (v : List ℕ). lists list_marks bs (length v) v ≡ true) (hi.4 ∙ ap (push hi.0 (E bs)) lo.4)
      (subst (λ (v : ℕ). lists list_marks bs v s1.1 ≡ true) hi.6 g4.1))

  pub all_sound : OldSound bs → inspect list_marks bs ≡ true
  all_sound S = accepts bs S.state S.well_formed (sym S.ends) S.holds
