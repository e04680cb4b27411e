-- The sheets with p in the list of bin z and without it: where they can differ at all. Leaving and entering share this frame.
use mathlib.Core.List.{List, ◌++◌, ◌∷◌}
use mathlib.Core.Logic.{◌≢◌, ◌⊎◌, inl, inr}
use mathlib.Core.Option.{Option, none, some}
use mathlib.Core.Path.{◌∙◌, ◌≡◌, ap, fun_ext, refl, sym}
use Prim.Native.Nat.{◌%◌, ◌*◌, ◌+◌, ◌-◌, ◌/◌, ◌<◌, ◌≤◌, suc, ℕ}
use native.Mathlib.Omega.{arith}
use Rattle.heads.specs.Links.{link_word}
use Rattle.paper.proofs.bins.Bins.{last_or, next-keep, prev-keep}
use Rattle.paper.proofs.runs.Walk.{In, in-unique, walk-rel}
use Rattle.paper.specs.Bins.{first, next_in, prev_in, seek}
use Rattle.paper.specs.Blocks.{Block, State, block, blocks, end, free, held, remainder, size}
use Rattle.paper.specs.Governed.{above, block_word, header_word, height, index, large_word, link, reach, sheet, small_word}
use Rattle.paper.specs.Layout.{blocks_at, chain_at, false_block, large, level_at, next_at, previous_at}
use Rattle.paper.specs.Sound.{Sized}
use Rattle.words.specs.Choice.{by<, by=, if=, ifs}

-- nothing, or as before
abbrev pub NothingNew : Option ℕ → Option ℕ → Type 0
NothingNew x y = (x ≡ none) ⊎ (x ≡ y)

pub nothing-new-trans : (x y z : Option ℕ) → NothingNew x y → NothingNew y z → NothingNew x z
nothing-new-trans x y z (inl e) k = inl e
nothing-new-trans x y z (inr e) (inl k) = inl (e ∙ k)
nothing-new-trans x y z (inr e) (inr k) = inr (e ∙ k)

-- index words differ only where the block above at that level does
pub index_same : (t n : ℕ) (b b' : ℕ → List ℕ) (d : Option ℕ) (h q y o : ℕ) → o % 4 ≡ 0 → h ≤ 13
    → ((j : ℕ) → 1 ≤ j → j ≤ h → o ≡ 68 - 4 * j → above t n b' j y ≡ above t n b j y)
    → index t n b' d h q y o ≡ index t n b d h q y o
unfolding index
index_same t n b b' d h q y o al hh k =
    by= o level_at (λ e. simp ifs)
    (λ e. by< o (68 - 4 * h) (λ e'. simp ifs)
    (λ e'. by< chain_at o (λ f. simp ifs)
    (λ f. simp ifs (ap (λ (v : ℕ). some (link_word q v)) (k ((68 - o) / 4) (omega arith) (omega arith) (omega arith))))))

pub index-none : (t n : ℕ) (b : ℕ → List ℕ) (h q y o : ℕ) → o % 4 ≡ 0 → h ≤ 13 → o ≢ level_at
    → ((j : ℕ) → 1 ≤ j → j ≤ h → o ≢ 68 - 4 * j) → index t n b none h q y o ≡ none
unfolding index
index-none t n b h q y o al hh e k =
    by< o (68 - 4 * h) (λ e'. simp ifs)
    (λ e'. by< chain_at o (λ f. simp ifs) (λ f. absurd (k ((68 - o) / 4) (omega arith) (omega arith) (omega arith))))

-- the same first blocks: the same index
pub reach-same : (t n : ℕ) (b b' : ℕ → List ℕ) (j y : ℕ) → first (b' y) ≡ first (b y) → reach t n b' j y ≡ reach t n b j y
unfolding reach
reach-same t n b b' j y h = rw h

pub above_same : (t n : ℕ) (b b' : ℕ → List ℕ) (j y : ℕ) → ((w : ℕ) → reach t n b' j w ≡ reach t n b j w) → above t n b' j y ≡ above t n b j y
unfolding above
above_same t n b b' j y h = ap (λ (g : ℕ → ℕ). seek g n (suc y)) (fun_ext h)

-- Q relates what the sheet without p has with what the one with p has
module _ (Q : Option ℕ → Option ℕ → Type 0) (q-refl : (x y : Option ℕ) → x ≡ y → Q x y)
    (t n : ℕ) (bins bins' : ℕ → List ℕ) (z p : ℕ) (us vs : List ℕ)
    (bz : bins z ≡ us ++ p ∷ vs) (bz' : bins' z ≡ us ++ vs) (other : (y : ℕ) → y ≢ z → bins' y ≡ bins y) where
  back : (q y : ℕ) → (q ≡ p → Q (link q (prev_in 0 (bins' y) q)) (link q (prev_in 0 (bins y) q))) → (y ≡ z → q ≢ p → first vs ≢ q)
      → Q (link q (prev_in 0 (bins' y) q)) (link q (prev_in 0 (bins y) q))
  back q y own k =
      by= q p own
      (λ m. q-refl _ _ (ap (link q) (by= y z
      (λ e. ap (λ (l : List ℕ). prev_in 0 l q) (ap bins' e ∙ bz') ∙ sym (prev-keep 0 p q us vs m (k e m))
      ∙ ap (λ (l : List ℕ). prev_in 0 l q) (sym (ap bins e ∙ bz)))
      (λ d. ap (λ (l : List ℕ). prev_in 0 l q) (other y d)))))

  on : (q y : ℕ) → (q ≡ p → Q (link q (next_in (bins' y) q)) (link q (next_in (bins y) q))) → (y ≡ z → q ≢ p → last_or 0 us ≢ q)
      → Q (link q (next_in (bins' y) q)) (link q (next_in (bins y) q))
  on q y own k =
      by= q p own
      (λ m. q-refl _ _ (ap (link q) (by= y z
      (λ e. ap (λ (l : List ℕ). next_in l q) (ap bins' e ∙ bz') ∙ sym (next-keep 0 p q us vs m (k e m))
      ∙ ap (λ (l : List ℕ). next_in l q) (sym (ap bins e ∙ bz)))
      (λ d. ap (λ (l : List ℕ). next_in l q) (other y d)))))

  small : (q y o : ℕ) → y ≢ z → small_word t n bins' q y o ≡ small_word t n bins q y o
  unfolding small_word
  small q y o m = rw (other y m)

  -- all the words of a block that is somewhere
  inner-rel : (q : ℕ) (b : Block) (P o : ℕ) → large ≤ z
      → ((y : ℕ) → b ≡ block y free → q ≡ p → o ≡ previous_at → Q (link q (prev_in 0 (bins' y) q)) (link q (prev_in 0 (bins y) q)))
      → ((y : ℕ) → b ≡ block y free → q ≡ p → o ≡ next_at → Q (link q (next_in (bins' y) q)) (link q (next_in (bins y) q)))
      → (o ≡ previous_at → q ≢ p → first vs ≢ q) → (o ≡ next_at → q ≢ p → last_or 0 us ≢ q)
      → ((y : ℕ) → b ≡ block y free → large ≤ y → o ≢ previous_at → o ≢ next_at
      → Q (if= (first (bins' y)) q (index t n bins' none (height t y) q y o) none)
      (if= (first (bins y)) q (index t n bins none (height t y) q y o) none))
      → Q (block_word t n bins' q b P o) (block_word t n bins q b P o)
  unfolding large_word
  inner-rel q (block y held) P o z72 own4 own8 kb ko ki = q-refl _ _ refl
  inner-rel q (block y remainder) P o z72 own4 own8 kb ko ki = q-refl _ _ refl
  inner-rel q (block y free) P o z72 own4 own8 kb ko ki =
      by= o 0 (λ e. simp ifs (q-refl _ _ refl))
      (λ e0. by< y large (λ l. q-refl _ _ (let m : y ≢ z = omega arith in simp ifs (small q y o m)))
      (λ l. by= o previous_at (λ e. simp ifs (back q y (λ f. own4 y refl f e) (λ _ m. kb e m)))
      (λ e4. by= o next_at (λ e. simp ifs (on q y (λ f. own8 y refl f e) (λ _ m. ko e m)))
      (λ e8. by= o (y - 4) (λ e. simp ifs (q-refl _ _ refl)) (λ e. simp ifs (ki y refl l e4 e8))))))

-- ---- states: s has p in the list of bin z, at us ++ p ∷ vs; s' has not
abbrev pub with-bins : State → (ℕ → List ℕ) → State
with-bins s b = record { top = s.top; low = s.low; rest = s.rest; high = s.high; bins = b }

pub record Leaves (s : State) (bins' : ℕ → List ℕ) (z p : ℕ) (us vs : List ℕ) : Type 0 where
  pub is-in : s.bins z ≡ us ++ p ∷ vs
  pub is-out : bins' z ≡ us ++ vs
  pub other : (y : ℕ) → y ≢ z → bins' y ≡ s.bins y
  pub is-large : large ≤ z
  pub top13 : s.top ≤ 13
  pub flag : ℕ
  pub at : In (blocks s) blocks_at 1 p (block z free) flag
  pub sized : Sized (blocks s)

module _ (s : State) (bins' : ℕ → List ℕ) (z p : ℕ) (us vs : List ℕ) (L : Leaves s bins' z p us vs) where
  header-same : (w : ℕ) → w < 12 → header_word (with-bins s bins') w ≡ header_word s w
  unfolding header_word
  header-same w l =
      by= w 0 (λ e. simp ifs) (λ n0. by= w 1 (λ e. simp ifs) (λ n1. by= w 2 (λ e. simp ifs) (λ n2. by= w 3 (λ e. simp ifs)
      (λ n3. simp ifs (ap first (L.other (8 * (w - 3)) (omega (arith, L.is-large))))))))

  -- address a, with p and without
  pub frame : (Q : Option ℕ → Option ℕ → Type 0) (q-refl : (x y : Option ℕ) → x ≡ y → Q x y) (a : ℕ) → a % 4 ≡ 0
      → (a ≡ p + previous_at → Q (link p (prev_in 0 (us ++ vs) p)) (link p (prev_in 0 (us ++ p ∷ vs) p)))
      → (a ≡ p + next_at → Q (link p (next_in (us ++ vs) p)) (link p (next_in (us ++ p ∷ vs) p)))
      → (blocks_at ≤ a → a ≢ first vs + previous_at) → (blocks_at ≤ a → a ≢ last_or 0 us + next_at)
      → ((j : ℕ) → 1 ≤ j → j ≤ s.top → a ≡ false_block + (68 - 4 * j) → above s.top (end s) bins' j 64 ≡ above s.top (end s) s.bins j 64)
      → ((q y P : ℕ) → In (blocks s) blocks_at 1 q (block y free) P → large ≤ y → q ≤ a → a < q + y
      → Q (if= (first (bins' y)) q (index s.top (end s) bins' none (height s.top y) q y (a - q)) none)
      (if= (first (s.bins y)) q (index s.top (end s) s.bins none (height s.top y) q y (a - q)) none))
      → Q (sheet (with-bins s bins') a) (sheet s a)
  unfolding sheet
  frame Q q-refl a al own4 own8 kb ko kf ki =
      by< a false_block
      (λ l. q-refl _ _ (simp ifs (ap (λ (v : ℕ). if= (a % 8) 0 (some v) (some 0)) (header-same (a / 8) (omega arith)))))
      (λ l. by< a blocks_at
      (λ m. q-refl _ _ (simp ifs (index_same s.top (end s) s.bins bins' (some 0) s.top false_block 64 (a - false_block) (omega arith) L.top13
      (λ j j1 jh e. kf j j1 jh (omega (arith, L.top13))))))
      (λ m. simp ifs
      (walk-rel Q (q-refl _ _ refl) (block_word s.top (end s) bins') (block_word s.top (end s) s.bins) (blocks s) blocks_at 1 a m
      (λ q b P' h qa ab.
      let size_is : (w : ℕ) → b ≡ block w free → q ≡ p → w ≡ z =
      (λ w f e. ap size (sym f ∙ (in-unique (blocks s) blocks_at 1 p b (block z free) P' L.flag L.sized (rw e at h) L.at).0)) in
      inner-rel Q q-refl s.top (end s) s.bins bins' z p us vs L.is-in L.is-out L.other q b P' (a - q) L.is-large
      (λ w f e o4. rw (size_is w f e, L.is-out, L.is-in, e) (own4 (omega arith)))
      (λ w f e o8. rw (size_is w f e, L.is-out, L.is-in, e) (own8 (omega arith)))
      (λ e _ f. kb m (omega arith)) (λ e _ f. ko m (omega arith))
      (λ y e y72 _ _. ki q y P' (rw e at h) y72 qa (omega (arith, ap size e)))))))
