-- The bins that the inspection followed: what it has read.
use mathlib.Core.Bool.{false, true}
use mathlib.Core.List.{List, [], ◌∷◌}
use mathlib.Core.Logic.{◌≢◌}
use mathlib.Core.Path.{◌∙◌, ◌≡◌, ap, refl, subst, sym}
use Prim.Native.Nat.{◌%◌, ◌*◌, ◌+◌, ◌-◌, ◌<◌, ◌≤◌, suc, zero, ℕ}
use native.Mathlib.Omega.{arith}
use lib.ListN.{length}
use Rattle.heads.specs.Links.{link_word}
use Rattle.guards.proofs.Guards.{guard-inv}
use Rattle.accept.proofs.Above.{above-cong, above-nil, above-skip, above-stop}
use Rattle.accept.proofs.Awaited.{Indexed, astray-not, awaited, ended-inv, indexed-inv, inv-awaiting}
use Rattle.accept.proofs.MarkLists.{Linked, follow-inv, linked-tests, list_marks}
use Rattle.lists.proofs.Following.{lost-left}
use Rattle.levels.specs.Levels.{word_of}
use Rattle.lists.specs.Index.{astray, awaiting, ended, first_tests, first_indexed, indexed, next_on}
use Rattle.lists.specs.Lists.{Left, chain, follow, if_left, large_tests, left, lost, next_large, next_small, small_tests, smalls}
use Rattle.heads.specs.Heads.{size_at}
use Rattle.guards.specs.Tests.{holds, same}
use Rattle.paper.proofs.bins.Bins.{count-nil, first_count}
use Rattle.paper.proofs.bins.Listed.{rebin-other, rebin-same}
use Rattle.paper.proofs.sheet.Fields.{height-le}
use Rattle.paper.specs.Bins.{count, first, rebin}
use Rattle.paper.specs.Governed.{above, height}
use Rattle.paper.specs.Layout.{large, level_at, levels, small_bins}
use Rattle.words.specs.Choice.{by<, by=, if=-no, if=-yes}
use Rattle.words.specs.Words.{word_at}

pub false-true : false ≢ true
false-true e = let z : ◌≡◌ {A = ℕ} 0 1 = cc in omega arith

-- a run that did not fail: where it came to
pub inv_left : {M A : Type 0} (m : Left M) (bad y : A) (f : ℕ → M → A) → bad ≢ y → if_left m bad f ≡ y
    → (k : ℕ) × (ms : M) × (m ≡ left k ms) × (f k ms ≡ y)
inv_left lost bad y f n h = absurd (n h)
inv_left (left k ms) bad y f n h = (k, ms, refl, h)

pub first-nil : first [] ≡ 0
unfolding first
first-nil = refl

pub some-length : (l : List ℕ) (x : ℕ) → 1 ≤ count x l → 1 ≤ length l
some-length [] x h = absurd (omega (arith, count-nil x))
some-length (y ∷ l) x h = omega arith

pub height-pos : (t z : ℕ) → 1 ≤ t → 1 ≤ height t z
unfolding height
height-pos t z l = omega arith

pub no_length : (ms : List ℕ) → length ms ≡ 0 → ms ≡ []
no_length [] h = refl
no_length (x ∷ ms) h = absurd (omega arith)

module _ (bs : List ℕ) where
  -- the list of the bin of size z, from its first block on
  abbrev pub LinkedL : ℕ → List ℕ → Type 0
  LinkedL z l = Linked (large_tests bs z) (next_large bs) 0 l

  abbrev pub LinkedS : ℕ → List ℕ → Type 0
  LinkedS z l = Linked (small_tests bs z) (next_small bs) 0 l

  pub large-sz : (z : ℕ) (l : List ℕ) (x : ℕ) → LinkedL z l → 1 ≤ count x l → size_at bs x ≡ z
  large-sz z l x h o = (linked-tests (large_tests bs z) (next_large bs) l 0 x h o).1.0

  pub small-sz : (z : ℕ) (l : List ℕ) (x : ℕ) → LinkedS z l → 1 ≤ count x l → size_at bs x ≡ z
  small-sz z l x h o = (linked-tests (small_tests bs z) (next_small bs) l 0 x h o).1.0

  -- ---- the large bins, in an index t high; no size is past n
  module _ (t n : ℕ) where
    -- level word and index words of the first block of bin z
    abbrev pub Tops : (ℕ → List ℕ) → ℕ → Type 0
    Tops b z =
        first (b z) ≢ 0
        → (word_at 4 bs (first (b z) + level_at) ≡ height t z)
        × ((j : ℕ) → 1 ≤ j → j ≤ height t z → word_at 4 bs (first (b z) + word_of j) ≡ link_word (first (b z)) (above t n b j z))

    pub record Binned (y f : ℕ) (ws ms : List ℕ) : Type 0 where
      pub bin : ℕ → List ℕ
      pub below : (u : ℕ) → u ≤ y → bin u ≡ []
      pub out : (u : ℕ) → n < u → bin u ≡ []
      pub linked : (z : ℕ) → LinkedL z (bin z)
      pub tops : (z : ℕ) → Tops bin z
      pub begins : (j : ℕ) → 1 ≤ j → j ≤ t → awaited f ws j ≡ above t n bin j y
      pub all : (x : ℕ) → count x ms ≡ count x (bin (size_at bs x))

    module _ (y f z : ℕ) (ws ws' ms ms' l : List ℕ) (fl : first l ≡ f) (nf : f ≢ 0) (yz : y < z) (zn : z ≤ n) (t1 : 1 ≤ t) (lk : LinkedL z l)
        (level-word : word_at 4 bs (f + level_at) ≡ height t z) (ix : Indexed bs (height t z) f ws ws')
        (sp : (x : ℕ) → count x ms ≡ count x l + count x ms') (B : Binned z (next_on bs 1 f) ws' ms') where
      unfoldable b : ℕ → List ℕ
      b = rebin B.bin z l

      b-same : b z ≡ l
      unfolding b
      b-same = rebin-same B.bin z l

      b-other : (u : ℕ) → u ≢ z → b u ≡ B.bin u
      unfolding b
      b-other u h = rebin-other B.bin z l u h

      b-first : first (b z) ≡ f
      b-first = ap first b-same ∙ fl

      b-below : (u : ℕ) → u < z → b u ≡ []
      b-below u h = b-other u (omega arith) ∙ B.below u (omega arith)

      b-out : (u : ℕ) → n < u → b u ≡ []
      b-out u h = b-other u (omega arith) ∙ B.out u h

      gap : (u : ℕ) → y < u → u < z → first (b u) ≡ 0
      gap u c d = ap first (b-below u d) ∙ first-nil

      past : (j u : ℕ) → z ≤ u → above t n B.bin j u ≡ above t n b j u
      past j u h = above-cong t n B.bin b j u (λ v k. sym (b-other v (omega arith)))

      top-z : Tops b z
      top-z nz = (
        ap (λ (v : ℕ). word_at 4 bs (v + level_at)) b-first ∙ level-word,
        λ j j1 jh. ap (λ (v : ℕ). word_at 4 bs (v + word_of j)) b-first ∙ (ix.here j j1 jh).1
            ∙ ap (link_word f) (sym (ix.next j j1 jh) ∙ B.begins j j1 (omega (arith, height-le t z)) ∙ past j z (omega arith))
            ∙ ap (λ (v : ℕ). link_word v (above t n b j z)) (sym b-first),
      )

      cons-tops : (u : ℕ) → Tops b u
      cons-tops u =
          by= u z (λ e. subst (Tops b) (sym e) top-z)
          (λ ne nz. by< u z (λ lt. absurd (nz (ap first (b-below u lt) ∙ first-nil)))
          (λ ge. let q : first (b u) ≡ first (B.bin u) = ap first (b-other u ne) in
          let r = B.tops u (λ o. nz (q ∙ o)) in (
            ap (λ (v : ℕ). word_at 4 bs (v + level_at)) q ∙ r.0,
            λ j j1 jh. ap (λ (v : ℕ). word_at 4 bs (v + word_of j)) q ∙ r.1 j j1 jh ∙ ap (link_word (first (B.bin u))) (past j u ge)
                ∙ ap (λ (v : ℕ). link_word v (above t n b j u)) (sym q),
          )))

      -- a level that f reaches awaited f; the others await what they await past it
      cons-begins : (j : ℕ) → 1 ≤ j → j ≤ t → awaited f ws j ≡ above t n b j y
      cons-begins j j1 jt =
          by< (height t z) j
          (λ lo. sym (ix.others j (height-pos t z t1) lo) ∙ B.begins j j1 jt ∙ past j z (omega arith)
          ∙ sym (above-skip t n b y z yz zn gap (λ u m. ap first (b-out u m) ∙ first-nil) j lo))
          (λ hi. (ix.here j j1 hi).0 ∙ sym b-first ∙ sym (above-stop t n b y z yz zn gap j hi (λ e. nf (sym b-first ∙ e))))

      cons-all : (x : ℕ) → count x ms ≡ count x (b (size_at bs x))
      cons-all x =
          by= (size_at bs x) z
          (λ e. omega (
            arith,
            sp x,
            B.all x,
            ap (λ (v : ℕ). count x (b v)) e,
            ap (count x) b-same,
            ap (λ (v : ℕ). count x (B.bin v)) e,
            ap (count x)
                (B.below z (omega arith)),
            count-nil x,
          ))
          (λ ne. let o : count x l ≡ 0 = by= (count x l) 0 (λ e. e) (λ k. absurd (ne (large-sz z l x lk (omega arith)))) in
          omega (arith, sp x, B.all x, ap (count x) (b-other (size_at bs x) ne)))

      cons-binned : Binned y f ws ms
      cons-binned = record {
        bin = b;
        below = λ u h. b-below u (omega arith);
        out = b-out;
        linked = λ u. by= u z (λ e. subst (λ (v : ℕ). LinkedL v (b v)) (sym e) (subst (LinkedL z) (sym b-same) lk))
            (λ ne. subst (LinkedL u) (sym (b-other u ne)) (B.linked u));
        tops = cons-tops;
        begins = cons-begins;
        all = cons-all;
      }

    module _ (t1 : 1 ≤ t) (t13 : t ≤ levels) where
      pub chain-inv : (c k : ℕ) (ms : List ℕ) (y f : ℕ) (ws : List ℕ) → k ≡ length ms → length ws ≡ levels - 1 → ((x : ℕ) → 1 ≤ count x ms → size_at bs x ≤ n)
          → chain list_marks t bs c k ms y f ws ≡ true → Binned y f ws ms
      unfolding chain first_indexed first
      chain-inv zero k ms y f ws e lw i h = absurd (false-true h)
      chain-inv (suc c) k ms y f ws e lw i h =
          by= f 0
          (λ z. let r = guard-inv (same k 0 ∷ holds (ended t ws) ∷ []) false true true false-true (sym (if=-yes f 0 _ _ z) ∙ h) in
          let m : ms ≡ [] = no_length ms (omega (arith, r.0.0)) in
          record {
            bin = λ u. [];
            below = λ u l. refl;
            out = λ u l. refl;
            linked = λ u. tt;
            tops = λ u o. absurd (o refl);
            begins = λ j j1 jt. ended-inv t f ws t13 z r.0.1.0 j j1 jt ∙ sym (above-nil t n (λ u. []) j y (λ u l. refl));
            all = λ x. ap (count x) m;
          })
          (λ z. let v = inv-awaiting (first_indexed bs t y (size_at bs f) f ws) false true
          (λ ws'. if_left (follow list_marks (large_tests bs (size_at bs f)) (next_large bs) k ms 0 f) false
          (λ k' ms'. chain list_marks t bs c k' ms' (size_at bs f) (next_on bs 1 f) ws')) false-true (sym (if=-no f 0 _ _ z) ∙ h) in
          let r = guard-inv (first_tests bs t y (size_at bs f) f) astray (indexed bs (height t (size_at bs f)) f ws) (awaiting v.0) (astray-not v.0) v.1 in
          let x = indexed-inv bs (height t (size_at bs f)) f ws v.0 lw r.1 in
          let s = inv_left (follow list_marks (large_tests bs (size_at bs f)) (next_large bs) k ms 0 f) false true
          (λ k' ms'. chain list_marks t bs c k' ms' (size_at bs f) (next_on bs 1 f) v.0) false-true v.2 in
          let l = follow-inv (large_tests bs (size_at bs f)) (next_large bs) k ms 0 f s.0 s.1 e s.2 in
          let B = chain-inv c s.0 s.1 (size_at bs f) (next_on bs 1 f) v.0 l.4 (x.long ∙ lw) (λ q o. i q (omega (arith, l.3 q))) s.3 in
          let in-l : 1 ≤ count f l.0 = first_count l.0 f l.1 z in
          cons-binned y f (size_at bs f) ws v.0 ms s.1 l.0 l.1 z r.0.0 (i f (omega (arith, l.3 f))) t1 l.2 r.0.1.0 x l.3 B)

  -- ---- the small bins, over the bins b of the large ones
  pub record Smalls (b : ℕ → List ℕ) (z : ℕ) (ms : List ℕ) : Type 0 where
    pub bin : ℕ → List ℕ
    pub above : (u : ℕ) → 64 < u → bin u ≡ b u
    pub below : (u : ℕ) → u < z → u ≤ 64 → bin u ≡ []
    pub linked : (u : ℕ) → u ≤ 64 → LinkedS u (bin u)
    pub firsts : (u : ℕ) → z ≤ u → u ≤ 64 → u % 8 ≡ 0 → first (bin u) ≡ word_at 4 bs (u + small_bins)
    pub all : (x : ℕ) → count x ms ≡ count x (bin (size_at bs x))

  module _ (b : ℕ → List ℕ) (z : ℕ) (ms ms' l : List ℕ) (z8 : z % 8 ≡ 0) (z64 : z ≤ 64) (fl : first l ≡ word_at 4 bs (z + small_bins)) (lk : LinkedS z l)
      (sp : (x : ℕ) → count x ms ≡ count x l + count x ms') (B : Smalls b (z + 8) ms') where
    unfoldable c : ℕ → List ℕ
    c = rebin B.bin z l

    c-same : c z ≡ l
    unfolding c
    c-same = rebin-same B.bin z l

    c-other : (u : ℕ) → u ≢ z → c u ≡ B.bin u
    unfolding c
    c-other u h = rebin-other B.bin z l u h

    cons-smalls : Smalls b z ms
    cons-smalls = record {
      bin = c;
      above = λ u h. c-other u (omega arith) ∙ B.above u h;
      below = λ u h h'. c-other u (omega arith) ∙ B.below u (omega arith) h';
      linked = λ u h. by= u z (λ e. subst (λ (v : ℕ). LinkedS v (c v)) (sym e) (subst (LinkedS z) (sym c-same) lk))
          (λ ne. subst (LinkedS u) (sym (c-other u ne)) (B.linked u h));
      firsts = λ u h h' u8. by= u z (λ e. ap (λ (v : ℕ). first (c v)) e ∙ ap first c-same ∙ fl ∙ ap (λ (v : ℕ). word_at 4 bs (v + small_bins)) (sym e))
          (λ ne. ap first (c-other u ne) ∙ B.firsts u (omega arith) h' u8);
      all = λ x. by= (size_at bs x) z
          (λ e. omega (
            arith,
            sp x,
            B.all x,
            ap (λ (v : ℕ). count x (c v)) e,
            ap (count x) c-same,
            ap (λ (v : ℕ). count x (B.bin v)) e,
            ap (count x)
                (B.below z (omega arith) z64),
            count-nil x,
          ))
          (λ ne. let o : count x l ≡ 0 = by= (count x l) 0 (λ e. e) (λ k. absurd (ne (small-sz z l x lk (omega arith)))) in
          omega (arith, sp x, B.all x, ap (count x) (c-other (size_at bs x) ne)));
    }

  pub smalls-inv : (c z k : ℕ) (ms : List ℕ) (k' : ℕ) (ms' : List ℕ) → z + 8 * c ≡ large → z % 8 ≡ 0 → k ≡ length ms
      → smalls list_marks bs c z k ms ≡ left k' ms'
      → (k' ≡ length ms') × ((x : ℕ) → count x ms' ≤ count x ms)
      × ((b : ℕ → List ℕ) → ((u : ℕ) → u ≤ 64 → b u ≡ []) → ((x : ℕ) → count x ms' ≡ count x (b (size_at bs x))) → Smalls b z ms)
  unfolding smalls
  smalls-inv zero z k ms k' ms' e z8 i h =
      let a : k ≡ k' = cc in let m : ms ≡ ms' = cc in (
        sym a ∙ i ∙ ap length m,
        (λ x. rw m (omega arith)),
        λ b nil all. record {
          bin = b;
          above = λ u l. refl;
          below = λ u l l'. nil u l';
          linked = λ u l. subst (LinkedS u) (sym (nil u l)) tt;
          firsts = λ u l l'. absurd (omega arith);
          all = λ x. ap (count x) m ∙ all x;
        },
      )
  smalls-inv (suc c) z k ms k' ms' e z8 i h =
      let s = inv_left (follow list_marks (small_tests bs z) (next_small bs) k ms 0 (word_at 4 bs (z + small_bins))) lost (left k' ms')
      (λ k₁ ms₁. smalls list_marks bs c (z + 8) k₁ ms₁) (lost-left k' ms') h in
      let l = follow-inv (small_tests bs z) (next_small bs) k ms 0 (word_at 4 bs (z + small_bins)) s.0 s.1 i s.2 in
      let r = smalls-inv c (z + 8) s.0 s.1 k' ms' (omega arith) (omega arith) l.4 s.3 in (
        r.0,
        (λ x. omega (arith, r.1 x, l.3 x)),
        λ b nil all. cons-smalls b z ms s.1 l.0 z8 (omega arith) l.1 l.2 l.3
            (r.2 b nil all),
      )
