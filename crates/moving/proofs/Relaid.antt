-- Where the sheets of the two layouts differ: only level words and index words above level 1, of the false block and of the first block of each
-- large bin. Level 1 has every bin in either layout, so its words are the same.
use mathlib.Core.List.{List}
use mathlib.Core.Logic.{◌≢◌, ◌⊎◌, inl, inr}
use mathlib.Core.Option.{Option, none, some}
use mathlib.Core.Path.{◌∙◌, ◌≡◌, ap, fun_ext, refl, sym}
use Prim.Native.Nat.{◌%◌, ◌*◌, ◌+◌, ◌-◌, ◌/◌, ◌<◌, ◌≤◌, suc, ℕ}
use native.Mathlib.Omega.{arith}
use Rattle.heads.specs.Links.{link_word}
use Rattle.paper.proofs.runs.Walk.{In, in-aligned, walk-rel}
use Rattle.paper.proofs.sheet.Fields.{at_block, height-le}
use Rattle.paper.proofs.steps.First.{reach-at}
use Rattle.paper.specs.Bins.{first, seek}
use Rattle.paper.specs.Blocks.{Block, State, block, blocks, end, free, held, remainder, with_top}
use Rattle.paper.specs.Governed.{above, block_word, header_word, height, index, large_word, sheet, small_word}
use Rattle.paper.specs.Layout.{blocks_at, chain_at, false_block, large, level_at}
use Rattle.paper.specs.Sound.{Sized, WellFormed}
use Rattle.words.specs.Choice.{by<, by=, ifs}

-- the same blocks and lists are well formed in either layout
pub formed : (s : State) → WellFormed s → (t : ℕ) → (t ≡ 1) ⊎ (t ≡ 13) → WellFormed (with_top t s)
formed s W t e =
    record {
      layout = e;
      low_ok = W.low_ok;
      high_ok = W.high_ok;
      sized = W.sized;
      fits = W.fits;
      listed = W.listed;
    }

-- the level word, or the index word of a level above level 1
abbrev pub Upper : ℕ → Type 0
Upper o = (o ≡ level_at) ⊎ ((j : ℕ) × (2 ≤ j) × (j ≤ 13) × (o ≡ 68 - 4 * j))

-- a is such a word of the false block, or of the first block of a large bin
pub data Relaid (s : State) (a : ℕ) : Type 0 where
  in-false : (o : ℕ) → a ≡ false_block + o → Upper o → Relaid s a
  in-first : (q z P o : ℕ) → In (blocks s) blocks_at 1 q (block z free) P → large ≤ z → first (s.bins z) ≡ q → a ≡ q + o → Upper o → Relaid s a

-- every bin stands in level 1
pub height-one : (t z : ℕ) → 1 ≤ t → 1 ≤ height t z
unfolding height
height-one t z l = omega arith

-- so the next bin of level 1 does not depend on the height of the index
pub above-one : (t t' n : ℕ) (b : ℕ → List ℕ) (y : ℕ) → 1 ≤ t → 1 ≤ t' → above t n b 1 y ≡ above t' n b 1 y
unfolding above
above-one t t' n b y l l' =
    ap (λ (g : ℕ → ℕ). seek g n (suc y))
    (fun_ext (λ z. reach-at t n b 1 z (height-one t z l) ∙ sym (reach-at t' n b 1 z (height-one t' z l'))))

-- the words of one index: below +16 and from +64 on they are the same, whatever its height
index-differs : (t t' n : ℕ) (b : ℕ → List ℕ) (d : Option ℕ) (h h' q y o : ℕ) → o % 4 ≡ 0 → 1 ≤ t → 1 ≤ t' → 1 ≤ h → h ≤ 13 → 1 ≤ h' → h' ≤ 13
    → (index t n b d h q y o ≡ index t' n b d h' q y o) ⊎ Upper o
unfolding index
index-differs t t' n b d h h' q y o al l l' h1 h13 k1 k13 =
    by= o level_at (λ e. inr (inl e))
    (λ e. by< o 16
    (λ m. let m1 : o < 68 - 4 * h = omega arith in let m2 : o < 68 - 4 * h' = omega arith in inl (simp ifs))
    (λ m. by< o chain_at (λ u. inr (inr ((68 - o) / 4, omega arith, omega arith, omega arith)))
    (λ u. let u1 : 68 - 4 * h ≤ o = omega arith in let u2 : 68 - 4 * h' ≤ o = omega arith in
    by< chain_at o (λ v. inl (simp ifs))
    (λ v. let w : (68 - o) / 4 ≡ 1 = omega arith in
    inl (simp (ifs, w) (ap (λ (x : ℕ). some (link_word q x)) (above-one t t' n b y l l')))))))

-- the words of one block
block-differs : (s : State) (t t' n q : ℕ) (b : Block) (P a : ℕ) → 1 ≤ t → t ≤ 13 → 1 ≤ t' → t' ≤ 13 → In (blocks s) blocks_at 1 q b P
    → q ≤ a → (a - q) % 4 ≡ 0 → (block_word t n s.bins q b P (a - q) ≡ block_word t' n s.bins q b P (a - q)) ⊎ Relaid s a
unfolding large_word small_word
block-differs s t t' n q (block z held) P a t1 t13 u1 u13 i l al = inl refl
block-differs s t t' n q (block z remainder) P a t1 t13 u1 u13 i l al = inl refl
block-differs s t t' n q (block z free) P a t1 t13 u1 u13 i l al =
    by< z large (λ m. inl (simp ifs))
    (λ m. by= (first (s.bins z)) q
    (λ f. go m f (index-differs t t' n s.bins none (height t z) (height t' z) q z (a - q) al t1 u1
    (height-one t z t1) (omega (arith, height-le t z)) (height-one t' z u1) (omega (arith, height-le t' z))))
    (λ f. inl (simp ifs)))
  where
    go : large ≤ z → first (s.bins z) ≡ q
        → (index t n s.bins none (height t z) q z (a - q) ≡ index t' n s.bins none (height t' z) q z (a - q)) ⊎ Upper (a - q)
        → (block_word t n s.bins q (block z free) P (a - q) ≡ block_word t' n s.bins q (block z free) P (a - q)) ⊎ Relaid s a
    go m f (inl e) = inl (rw e refl)
    go m f (inr u) = inr (in-first q z P (a - q) i m f (omega arith) u)

-- at every other word the two sheets are the same
pub same-elsewhere : (s : State) → Sized (blocks s) → (t : ℕ) → 1 ≤ t → t ≤ 13 → 1 ≤ s.top → s.top ≤ 13 → (a : ℕ) → a % 4 ≡ 0
    → (sheet (with_top t s) a ≡ sheet s a) ⊎ Relaid s a
unfolding sheet header_word
same-elsewhere s sol t t1 t13 u1 u13 a al =
    by< a false_block (λ l. inl (simp ifs))
    (λ l. by< a blocks_at
    (λ m. false l m
    (index-differs t s.top (end s) s.bins (some 0) t s.top false_block 64 (a - false_block) (omega arith) t1 u1 t1 t13 u1 u13))
    (λ m. simp ifs (walk-rel (λ x y. (x ≡ y) ⊎ Relaid s a) (inl refl) (block_word t (end s) s.bins) (block_word s.top (end s) s.bins)
    (blocks s) blocks_at 1 a m
    (λ q b P i qa ab. block-differs s t s.top (end s) q b P a t1 t13 u1 u13 i qa
    (omega (arith, in-aligned (blocks s) blocks_at 1 q b P sol refl i))))))
  where
    false : false_block ≤ a → a < blocks_at
        → (index t (end s) s.bins (some 0) t false_block 64 (a - false_block)
        ≡ index s.top (end s) s.bins (some 0) s.top false_block 64 (a - false_block)) ⊎ Upper (a - false_block)
        → (sheet (with_top t s) a ≡ sheet s a) ⊎ Relaid s a
    false l m (inl e) = inl (simp ifs e)
    false l m (inr u) = inr (in-false (a - false_block) (omega arith) u)

-- past the height of the index the false block's words are 0
pub false-clear : (s : State) (t j : ℕ) → t < j → j ≤ 13 → sheet (with_top t s) (false_block + (68 - 4 * j)) ≡ some 0
unfolding sheet index
false-clear s t j l j13 =
    let b1 : 96 ≤ 96 + (68 - 4 * j) = omega arith in
    let b2 : 96 + (68 - 4 * j) < 168 = omega arith in
    let e : 96 + (68 - 4 * j) - 96 ≡ 68 - 4 * j = omega arith in
    let a1 : 68 - 4 * j ≢ 12 = omega arith in
    let a2 : 68 - 4 * j < 68 - 4 * t = omega arith in
    simp (ifs, e)

-- past its height a bin's first block has no governed index words
pub past-height : (s : State) (t q z P : ℕ) → In (blocks s) blocks_at 1 q (block z free) P → large ≤ z → first (s.bins z) ≡ q
    → (j : ℕ) → height t z < j → j ≤ 13 → sheet (with_top t s) (q + (68 - 4 * j)) ≡ none
unfolding index large_word
past-height s t q z P i m f j l j13 =
    at_block (with_top t s) q (block z free) P (68 - 4 * j) i (omega arith)
    ∙ go (68 - 4 * j) (omega arith) (omega arith) (omega arith)
  where
    go : (o : ℕ) → 16 ≤ o → o ≤ chain_at → o < 68 - 4 * height t z → block_word t (end s) s.bins q (block z free) P o ≡ none
    go o a b c =
        let o0 : o ≢ 0 = omega arith in
        let o4 : o ≢ 4 = omega arith in
        let o8 : o ≢ 8 = omega arith in
        let o12 : o ≢ 12 = omega arith in
        let oz : o ≢ z - 4 = omega arith in
        simp ifs
