-- The pass along level 1 of the index, from bin to bin: each store fits the sheet after, and none is at a word that the pass reads. So it meets every
-- bin in the order of its size, as the state has them.
use mathlib.Core.List.{List, []}
use mathlib.Core.Logic.{◌≢◌, ◌⊎◌, inl, inr}
use mathlib.Core.Path.{◌∙◌, ◌≡◌, ap, refl, subst, sym}
use Prim.Native.Nat.{◌+◌, ◌-◌, ◌<◌, ◌≤◌, suc, zero, ℕ}
use native.Mathlib.Omega.{arith}
use lib.ListN.{get_or-replicate, length, length-replicate, length-set, replicate, set}
use lib.Seq.{get_or-set_other, get_or-set_same}
use Rattle.bins.proofs.Between.{stands-between}
use Rattle.bins.proofs.Index.{Index, Spares, between-index, block-spares, index-lower, index-put, level-spares}
use Rattle.bins.specs.Find.{linked_at, size_at}
use Rattle.heads.specs.Links.{link_word}
use Rattle.levels.specs.Levels.{word_of}
use Rattle.moving.proofs.Lasts.{Level, level-first, level-keeps, level-next, level-on, next_fits}
use Rattle.moving.proofs.Relaid.{above-one, formed, height-one}
use Rattle.moving.proofs.Stored.{Fits, Made, Stored, also, made-also, nothing-made, stored-now, stored-still}
use Rattle.moving.specs.Move.{Moving, climb, last_on, lead, moving, pass, passed, sizes, stand}
use Rattle.paper.proofs.bins.Bins.{first_count}
use Rattle.paper.proofs.bins.Listed.{Loose, loose, start}
use Rattle.paper.proofs.reads.LooseReads.{above-none, above-some, listed-size, reach-in}
use Rattle.paper.proofs.reads.Readings.{end-big}
use Rattle.paper.proofs.reads.Stands.{Stands}
use Rattle.paper.proofs.runs.Walk.{In}
use Rattle.paper.proofs.sheet.Fields.{at_level, height-le}
use Rattle.paper.proofs.steps.First.{OnLevel, reach-at, reach-is, reach-low}
use Rattle.paper.specs.Bins.{count, first}
use Rattle.paper.specs.Blocks.{State, block, blocks, end, free, with_top}
use Rattle.paper.specs.Governed.{above, height, reach, sheet}
use Rattle.paper.specs.Layout.{blocks_at, chain_at, false_block, large, level_at, levels}
use Rattle.words.specs.Choice.{by<, by=, if<-no, if<-yes, if=-no, if=-yes}
use Rattle.words.specs.Words.{put_at}

module _ (s : State) (bs : List ℕ) (S : Stands s bs) (t : ℕ) (layout : (t ≡ 1) ⊎ (t ≡ 13)) where
  abbrev after : State
  after = with_top t s

  before-loose : Loose s
  before-loose = loose s S.well_formed

  pub after-loose : Loose after
  after-loose = loose after (formed s S.well_formed t layout)

  pub long-pool : 176 ≤ end s
  long-pool = end-big bs s S.well_formed (sym S.ends) S.holds

  abbrev reaches : ℕ → ℕ → ℕ
  reaches = reach t (end s) s.bins

  abbrev next-bin : ℕ → ℕ
  next-bin = above t (end s) s.bins 1

  -- at bin z, as far as level j: the stores fit, what the pass reads is as it was, the level words are stored up to bin z, the levels below j are done
  -- up to bin z, and those from j on before it
  pub record Going (z j : ℕ) (m : Moving) (ps : List (ℕ × ℕ)) : Type 0 where
    pub made : Made (sheet after) (end s) bs m.bytes ps
    pub index : Index s 1 m.bytes
    pub long : length m.lasts ≡ levels - 1
    pub levelled : (y q : ℕ) → large ≤ y → y ≤ z → first (s.bins y) ≡ q → q ≢ 0 → Stored (q + level_at) ps
    pub done : (k : ℕ) → 2 ≤ k → k ≤ levels → k < j → Level after k (suc z) (last_on k m.lasts) ps
    pub due : (k : ℕ) → 2 ≤ k → k ≤ levels → j ≤ k → Level after k z (last_on k m.lasts) ps

  -- every bin stands on level 1, so where none does, none stands on any level
  pub on_one : (u : ℕ) → reaches 1 u ≡ first (s.bins u)
  on_one u = reach-at t (end s) s.bins 1 u (height-one t u after-loose.top1)

  none-higher : (k u : ℕ) → reaches 1 u ≡ 0 → reaches k u ≡ 0
  none-higher k u e =
      by= (reaches k u) 0 (λ o. o)
      (λ n. absurd (n (sym (reach-is t (end s) s.bins k u (reaches k u) refl n).0 ∙ sym (on_one u) ∙ e)))

  -- before the first bin
  going-first : Going 64 (suc levels) (moving bs (replicate (levels - 1) false_block)) []
  going-first =
      record {
        made = nothing-made (sheet after) (end s) bs;
        index = index-lower s 1 s.top bs before-loose.top1 (between-index s bs (stands-between s bs S));
        long = length-replicate (levels - 1) false_block;
        levelled = λ y q big l e n. absurd (omega arith);
        done = λ k a b c. subst (λ (w : ℕ). Level after k 65 w []) (sym (get_or-replicate (levels - 1) (k - 2) false_block 0 (omega arith))) (level-first after k);
        due = λ k a b c. absurd (omega arith);
      }

  -- what the pass reads is apart from the words of the levels above
  word-spares : (j y w : ℕ) → 2 ≤ j → j ≤ levels → OnLevel after j y w → Spares s 1 (w + word_of j)
  word-spares j y w j2 j13 (inl b) = level-spares s before-loose 1 j y w j2 j13 (inl b)
  word-spares j y w j2 j13 (inr b) =
      let i = before-loose.found y w (reach-in after after-loose j y w b.0 b.1).2 in
      block-spares s before-loose 1 w y i.0 (word_of j) b.2 i.1 (omega arith) (omega arith)

  -- ---- bin z, with the first block f
  module _ (z f : ℕ) (big : large ≤ z) (is : first (s.bins z) ≡ f) (n : f ≢ 0) where
    abbrev h : ℕ
    h = height t z

    listed : 1 ≤ count f (s.bins z)
    listed = first_count (s.bins z) f is n

    at : (P : ℕ) × In (blocks s) blocks_at 1 f (block z free) P
    at = before-loose.found z f listed

    stands_on : (k : ℕ) → k ≤ h → reaches k z ≡ f
    stands_on k l = reach-at t (end s) s.bins k z l ∙ is

    level-fits : Fits (sheet after) (end s) (f + level_at) h
    level-fits =
        let st = start s before-loose z f listed in
        (omega arith, omega arith, at_level after f z at.0 at.1 big is)

    -- its level word, on the way from bin y, with no bin between
    enters : {y : ℕ} {m : Moving} {ps : List (ℕ × ℕ)} → Going y (suc levels) m ps → y < z → ((u : ℕ) → y < u → u < z → reaches 1 u ≡ 0)
        → Going z 2 (moving (put_at 4 m.bytes (f + level_at) h) m.lasts) (also ps (f + level_at) h)
    enters {y} {m} {ps} G l gap =
        record {
          made = made-also G.made (f + level_at) h level-fits;
          index = index-put s 1 m.bytes G.index (f + level_at) h
              (block-spares s before-loose 1 f z at.0 level_at big at.1 (omega arith) (omega arith));
          long = G.long;
          levelled = levelled;
          done = λ k a b c. absurd (omega arith);
          due = λ k a b c. level-keeps after (level-on after (G.done k a b (omega arith)) z l (λ u d e. none-higher k u (gap u d e))) (f + level_at) h;
        }
      where
        levelled : (x q : ℕ) → large ≤ x → x ≤ z → first (s.bins x) ≡ q → q ≢ 0 → Stored (q + level_at) (also ps (f + level_at) h)
        levelled x q b c e o =
            by= x z (λ k. let w : q ≡ f = sym e ∙ ap (λ (i : ℕ). first (s.bins i)) k ∙ is in rw w (stored-now ps (f + level_at) h))
            (λ k. by< y x
            (λ d. absurd (o (sym e ∙ sym (on_one x) ∙ gap x d (omega arith))))
            (λ d. stored-still ps (q + level_at) (f + level_at) h (G.levelled x q b d e o)))

    -- on level j the last one leads to f, and f is the last one now
    leads : {j : ℕ} {m : Moving} {ps : List (ℕ × ℕ)} → Going z j m ps → 2 ≤ j → j ≤ h
        → Going z (j + 1) (lead j f m) (also ps (last_on j m.lasts + word_of j) (link_word (last_on j m.lasts) f))
    unfolding lead
    leads {j} {m} {ps} G j2 jh =
        record {
          made = made-also G.made a v
              (next_fits after after-loose long-pool on-j f (omega arith) (omega (arith, height-le t z)) (stands_on j jh) n);
          index = index-put s 1 m.bytes G.index a v (word-spares j on-j.size (last_on j m.lasts) j2 j13 on-j.pred.who);
          long = length-set m.lasts (j - 2) f ∙ G.long;
          levelled = λ y q b c e o. stored-still ps (q + level_at) a v (G.levelled y q b c e o);
          done = λ k b c d. by= k j (λ e. rw e (now (level-next after on-j f v (stands_on j jh) n big)))
              (λ e. kept k b e (level-keeps after (G.done k b c (omega arith)) a v));
          due = λ k b c d. kept k b (omega arith) (level-keeps after (G.due k b c (omega arith)) a v);
        }
      where
        a : ℕ
        a = last_on j m.lasts + word_of j

        v : ℕ
        v = link_word (last_on j m.lasts) f

        j13 : j ≤ levels
        j13 = omega (arith, height-le t z, after-loose.top13)

        on-j : Level after j z (last_on j m.lasts) ps
        on-j = G.due j j2 j13 (omega arith)

        now : Level after j (suc z) f (also ps a v) → Level after j (suc z) (last_on j (set m.lasts (j - 2) f)) (also ps a v)
        now L = subst (λ (w : ℕ). Level after j (suc z) w (also ps a v)) (sym (get_or-set_same m.lasts (j - 2) f 0 (omega (arith, j13, G.long)))) L

        kept : {x : ℕ} (k : ℕ) → 2 ≤ k → k ≢ j → Level after k x (last_on k m.lasts) (also ps a v)
            → Level after k x (last_on k (set m.lasts (j - 2) f)) (also ps a v)
        kept {x} k b e L =
            subst (λ (w : ℕ). Level after k x w (also ps a v)) (sym (get_or-set_other m.lasts (j - 2) (k - 2) f 0 (omega arith))) L

    -- past its height it stands on no level
    tops : {j : ℕ} {m : Moving} {ps : List (ℕ × ℕ)} → Going z j m ps → h < j → Going z (suc levels) m ps
    tops {j} G l =
        record {
          made = G.made;
          index = G.index;
          long = G.long;
          levelled = G.levelled;
          done = λ k b c d. by< k j (G.done k b c) (λ e. level-on after (G.due k b c e) (suc z) (omega arith) (λ u. low k u (omega arith)));
          due = λ k b c d. absurd (omega arith);
        }
      where
        low : (k u : ℕ) → h < k → z ≤ u → u < suc z → reaches k u ≡ 0
        low k u o p q = let e : u ≡ z = omega arith in rw e (reach-low t (end s) s.bins k z o)

    -- on all its levels
    climbs : (c j : ℕ) {m : Moving} {ps : List (ℕ × ℕ)} → 2 ≤ j → j + c ≡ suc h → Going z j m ps
        → (qs : List (ℕ × ℕ)) × Going z (suc levels) (climb c j f m) qs
    unfolding climb
    climbs zero j {m} {ps} j2 e G = (ps, tops G (omega arith))
    climbs (suc c) j j2 e G = climbs c (j + 1) (omega arith) (omega arith) (leads G j2 (omega arith))

    stands : {y : ℕ} {m : Moving} {ps : List (ℕ × ℕ)} → Going y (suc levels) m ps → y < z → ((u : ℕ) → y < u → u < z → reaches 1 u ≡ 0)
        → (qs : List (ℕ × ℕ)) × Going z (suc levels) (stand h f m) qs
    unfolding stand
    stands {y} {m} {ps} G l gap =
        let r = climbs (h - 1) 2 (omega arith) (omega (arith, height-one t z after-loose.top1)) (enters G l gap) in
        (r.0, subst (λ (k : Moving). Going z (suc levels) k r.0) (sym (if<-no levels h m _ (omega (arith, height-le t z, after-loose.top13)))) r.1)

  -- ---- bin after bin
  -- where what stands on level 1 leads there
  next-read : (z w : ℕ) (cs : List ℕ) → Index s 1 cs → OnLevel s 1 z w → linked_at cs w chain_at ≡ next-bin z
  next-read z w cs I o =
      I.word 1 z w (omega arith) (omega arith) o ∙ above-one s.top t (end s) s.bins z before-loose.top1 after-loose.top1

  -- bin y is passed, and f is the first block of the bin that comes next
  record Next (y f : ℕ) (m : Moving) : Type 0 where
    pub size : ℕ
    pub stores : List (ℕ × ℕ)
    pub up : y < size
    pub near : size ≤ 65536
    pub read : size_at m.bytes f ≡ size
    pub going : Going size (suc levels) (stand (height t size) f m) stores
    pub on : linked_at (stand (height t size) f m).bytes f chain_at ≡ next-bin size

  goes_on : (y f : ℕ) (m : Moving) (ps : List (ℕ × ℕ)) → 64 ≤ y → f ≡ next-bin y → f ≢ 0 → Going y (suc levels) m ps → Next y f m
  goes_on y f m ps lo e n G = go (above-some after after-loose 1 y (λ o. n (e ∙ o)))
    where
      go : ((z : ℕ) × (y < z) × (reaches 1 z ≡ next-bin y) × ((u : ℕ) → y < u → u < z → reaches 1 u ≡ 0)) → Next y f m
      go (z, up, at, gap) =
          let r = reach-in after after-loose 1 z f (at ∙ sym e) n in
          let big : large ≤ z = omega (arith, listed-size s before-loose f z r.2) in
          let q = stands z f big r.0 n G up gap in
          record {
            size = z;
            stores = q.0;
            up = up;
            near = omega (arith, start s before-loose z f r.2, S.well_formed.fits);
            read = G.index.sized f z r.2;
            going = q.1;
            on = next-read z f _ q.1.index
                (inr (reach-at s.top (end s) s.bins 1 z (height-one s.top z before-loose.top1) ∙ r.0, n, big));
          }

  -- all bins are passed: past the last one no bin stands on any level
  pub record Passed (m : Moving) : Type 0 where
    pub size : ℕ
    pub stores : List (ℕ × ℕ)
    pub from : 64 ≤ size
    pub going : Going size (suc levels) m stores
    pub none : (k u : ℕ) → size < u → reaches k u ≡ 0

  -- the sizes rise and none is larger than a pool, so the fuel lasts
  passes : (fuel y f : ℕ) (m : Moving) (ps : List (ℕ × ℕ)) → sizes ≤ fuel + y → 64 ≤ y → y ≤ 65536 → f ≡ next-bin y → Going y (suc levels) m ps
      → Passed (pass fuel t y f m)
  unfolding pass
  passes zero y f m ps en lo hi e G = absurd (omega arith)
  passes (suc fuel) y f m ps en lo hi e G =
      by= f 0
      (λ o. subst Passed (sym (if=-yes f 0 m _ o))
      (record {
        size = y;
        stores = ps;
        from = lo;
        going = G;
        none = λ k u l. none-higher k u (above-none after after-loose 1 y (sym e ∙ o) u l);
      }))
      (λ n. let N = goes_on y f m ps lo e n G in
      subst Passed
      (sym (if=-no f 0 m _ n ∙ if<-yes y (size_at m.bytes f) _ m (omega (arith, N.up, N.read)) ∙ ap then N.read))
      (passes fuel N.size _ _ N.stores (omega (arith, N.up)) (omega (arith, N.up)) N.near N.on N.going))
    where
      then : ℕ → Moving
      then z = let m' = stand (height t z) f m in pass fuel t z (linked_at m'.bytes f chain_at) m'

  pub all-passed : Passed (passed bs t)
  all-passed =
      passes sizes 64 (linked_at bs false_block chain_at) (moving bs (replicate (levels - 1) false_block)) [] (omega arith) (omega arith) (omega arith)
      (next-read 64 false_block bs going-first.index (inl (refl, refl))) going-first
