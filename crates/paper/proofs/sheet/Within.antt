-- Which words are governed, whatever their values: the header, the false block and every head are; past its head a block governs the words
-- that its kind and its place in its bin say. So a state with fewer listed blocks governs words only that the other governs too.
use mathlib.Core.List.{List, [], ◌++◌, ◌∷◌}
use mathlib.Core.Logic.{◌≢◌}
use mathlib.Core.Option.{Option, none, some}
use mathlib.Core.Path.{◌∙◌, ◌≡◌, ap, refl, sym}
use Prim.Native.Nat.{◌%◌, ◌*◌, ◌+◌, ◌-◌, ◌/◌, ◌<◌, ◌≤◌, ℕ}
use native.Mathlib.Omega.{arith}
use Rattle.heads.specs.Links.{link_word}
use Rattle.paper.proofs.bins.Bins.{next-absent, next-mem, prev-absent, prev-some}
use Rattle.paper.specs.Bins.{count, first, next_in, prev_in}
use Rattle.paper.specs.Blocks.{Block, Kind, State, block, blocks, end, free, held, remainder, size}
use Rattle.paper.specs.Governed.{above, block_word, flag_above, head_word, header_word, height, index, large_word, link, sheet, small_word, walk}
use Rattle.paper.specs.Layout.{blocks_at, chain_at, false_block, large, level_at, next_at, previous_at, small_next_at}
use Rattle.paper.specs.Sheet.{Sheet}
use Rattle.words.specs.Choice.{by<, by=, if<-no, if=-no, if=-yes, ifs}

-- every word that g' governs is governed by g
abbrev pub Within : Sheet → Sheet → Type 0
Within g' g = (a : ℕ) → g a ≡ none → g' a ≡ none

pub governed-is-some : (v : ℕ) → some v ≡ none → ⊥
governed-is-some v e = let z : ◌≡◌ {A = ℕ} 0 1 = cc in omega arith

-- ---- header and false block

header-governed : (s : State) (a : ℕ) → a < blocks_at → sheet s a ≡ none → ⊥
unfolding sheet index
header-governed s a l h =
    by< a false_block
    (λ m. by= (a % 8) 0
    (λ e. governed-is-some (header_word s (a / 8)) (simp ifs at h))
    (λ e. governed-is-some 0 (simp ifs at h)))
    (λ m. by= (a - false_block) level_at
    (λ e. governed-is-some s.top (simp ifs at h))
    (λ e. by< (a - false_block) (chain_at + 4 - 4 * s.top)
    (λ k. governed-is-some 0 (simp ifs at h))
    (λ k. by< chain_at (a - false_block)
    (λ j. governed-is-some 0 (simp ifs at h))
    (λ j. governed-is-some (link_word false_block (above s.top (end s) s.bins ((chain_at + 4 - (a - false_block)) / 4) 64)) (simp ifs at h)))))

sheet-walk : (s : State) (a : ℕ) → blocks_at ≤ a → sheet s a ≡ walk (block_word s.top (end s) s.bins) (blocks s) blocks_at 1 a
unfolding sheet
sheet-walk s a l = if<-no a 96 _ _ (omega arith) ∙ if<-no a 168 _ _ l

pub within-by-walk : (s s' : State)
    → ((a : ℕ) → blocks_at ≤ a → walk (block_word s.top (end s) s.bins) (blocks s) blocks_at 1 a ≡ none
    → walk (block_word s'.top (end s') s'.bins) (blocks s') blocks_at 1 a ≡ none)
    → Within (sheet s') (sheet s)
within-by-walk s s' k a h =
    by< a blocks_at (λ l. absurd (header-governed s a l h)) (λ l. sheet-walk s' a l ∙ k a l (sym (sheet-walk s a l) ∙ h))

-- ---- one block, of fewer listed ones

link-none : (p : ℕ) (o : Option ℕ) → link p o ≡ none → o ≡ none
link-none p none h = refl
link-none p (some q) h = absurd (governed-is-some (link_word p q) h)

unlisted-next : (xs : List ℕ) (q : ℕ) → next_in xs q ≡ none → count q xs ≡ 0
unlisted-next xs q h =
    by= (count q xs) 0 (λ e. e) (λ n. let m = next-mem q xs (omega arith) in absurd (governed-is-some m.0 (sym m.1 ∙ h)))

unlisted-prev : (xs : List ℕ) (q : ℕ) → q ≢ 0 → prev_in 0 xs q ≡ none → count q xs ≡ 0
unlisted-prev xs q z h =
    by= (count q xs) 0 (λ e. e) (λ n. let m = prev-some 0 q xs (omega arith) (omega arith) in absurd (governed-is-some m.0 (sym m.1 ∙ h)))

index-within : (t n n' : ℕ) (bins bins' : ℕ → List ℕ) (h p y o : ℕ) → index t n bins none h p y o ≡ none → index t n' bins' none h p y o ≡ none
unfolding index
index-within t n n' bins bins' h p y o e =
    by= o level_at (λ a. absurd (governed-is-some h (simp ifs at e)))
    (λ a. by< o (chain_at + 4 - 4 * h) (λ b. simp ifs)
    (λ b. by< chain_at o (λ c. simp ifs)
    (λ c. absurd (governed-is-some (link_word p (above t n bins ((chain_at + 4 - o) / 4) y)) (simp ifs at e)))))

-- the same, or nothing is first
abbrev pub FirstOf : (ℕ → List ℕ) → (ℕ → List ℕ) → Type 0
FirstOf bins' bins = (y q : ℕ) → large ≤ y → q ≢ 0 → first (bins' y) ≡ q → first (bins y) ≡ q

abbrev pub CountOf : (ℕ → List ℕ) → (ℕ → List ℕ) → Type 0
CountOf bins' bins = (y q : ℕ) → count q (bins' y) ≤ count q (bins y)

module _ (t n n' : ℕ) (bins bins' : ℕ → List ℕ) (fewer : CountOf bins' bins) (firsts : FirstOf bins' bins) where
  small-within : (q z o : ℕ) → small_word t n bins q z o ≡ none → small_word t n' bins' q z o ≡ none
  unfolding small_word
  small-within q z o h =
      by= o small_next_at
      (λ e. let h' : next_in (bins z) q ≡ none = simp ifs at h in
      simp ifs (next-absent (bins' z) q (omega (arith, fewer z q, unlisted-next (bins z) q h'))))
      (λ e. simp ifs)

  large-within : (q z P P' o : ℕ) → q ≢ 0 → large ≤ z → large_word t n bins q z P o ≡ none → large_word t n' bins' q z P' o ≡ none
  unfolding large_word
  large-within q z P P' o nz l h =
      by= o previous_at
      (λ e. let h' : link q (prev_in 0 (bins z) q) ≡ none = simp ifs at h in
      let c : prev_in 0 (bins' z) q ≡ none =
      prev-absent 0 (bins' z) q (omega (arith, fewer z q, unlisted-prev (bins z) q nz (link-none q (prev_in 0 (bins z) q) h'))) in
      simp ifs (ap (link q) c))
      (λ e. by= o next_at
      (λ f. let h' : link q (next_in (bins z) q) ≡ none = simp ifs at h in
      let c : next_in (bins' z) q ≡ none =
      next-absent (bins' z) q (omega (arith, fewer z q, unlisted-next (bins z) q (link-none q (next_in (bins z) q) h'))) in
      simp ifs (ap (link q) c))
      (λ f. by= o (z - 4)
      (λ g. absurd (governed-is-some (head_word z free P) (simp ifs at h)))
      (λ g. by= (first (bins' z)) q
      (λ i. let j : first (bins z) ≡ q = firsts z q l nz i in
      let h' : index t n bins none (height t z) q z o ≡ none = simp ifs at h in
      simp ifs (index-within t n n' bins bins' (height t z) q z o h'))
      (λ i. simp ifs))))

  pub block_within : (q : ℕ) (b : Block) (P P' o : ℕ) → q ≢ 0 → block_word t n bins q b P o ≡ none → block_word t n' bins' q b P' o ≡ none
  block_within q (block z held) P P' o nz h =
      by= o 0 (λ e. absurd (governed-is-some (head_word z held P) (simp ifs at h))) (λ e. if=-no o 0 _ _ e)
  block_within q (block z remainder) P P' o nz h =
      by= o 0 (λ e. absurd (governed-is-some (head_word z remainder P) (simp ifs at h))) (λ e. if=-no o 0 _ _ e)
  block_within q (block z free) P P' o nz h =
      by= o 0 (λ e. absurd (governed-is-some (head_word z free P) (simp ifs at h)))
      (λ e. by< z large
      (λ l. let h' : small_word t n bins q z o ≡ none = simp ifs at h in simp ifs (small-within q z o h'))
      (λ l. let h' : large_word t n bins q z P o ≡ none = simp ifs at h in simp ifs (large-within q z P P' o nz l h')))

  -- a block that is held, or the remainder, governs its head only, as any block does
  pub held-within : (q z : ℕ) (k : Kind) (P P' o : ℕ) → block_word t n bins q (block z k) P o ≡ none → block_word t n' bins' q (block z held) P' o ≡ none
  held-within q z k P P' o h =
      by= o 0 (λ e. absurd (governed-is-some (head_word z k P) (sym (if=-yes o 0 _ _ e) ∙ h))) (λ e. if=-no o 0 _ _ e)

  -- ---- the walk

  walk-within : (xs : List Block) (p P P' a : ℕ) → blocks_at ≤ p → walk (block_word t n bins) xs p P a ≡ none → walk (block_word t n' bins') xs p P' a ≡ none
  unfolding walk
  walk-within [] p P P' a l h = refl
  walk-within (b ∷ xs) p P P' a l h =
      by< a (p + size b)
      (λ m. let h' : block_word t n bins p b P (a - p) ≡ none = simp ifs at h in simp ifs (block_within p b P P' (a - p) (omega arith) h'))
      (λ m. let h' : walk (block_word t n bins) xs (p + size b) (flag_above b) a ≡ none = simp ifs at h in
      simp ifs (walk-within xs (p + size b) (flag_above b) (flag_above b) a (omega arith) h'))

  -- one block is held instead
  pub walk-within-held : (us : List Block) (z : ℕ) (k : Kind) (vs : List Block) (p P P' a : ℕ) → blocks_at ≤ p
      → walk (block_word t n bins) (us ++ block z k ∷ vs) p P a ≡ none → walk (block_word t n' bins') (us ++ block z held ∷ vs) p P' a ≡ none
  unfolding walk
  walk-within-held [] z k vs p P P' a l h =
      by< a (p + z)
      (λ m. let h' : block_word t n bins p (block z k) P (a - p) ≡ none = simp ifs at h in simp ifs (held-within p z k P P' (a - p) h'))
      (λ m. let h' : walk (block_word t n bins) vs (p + z) (flag_above (block z k)) a ≡ none = simp ifs at h in
      simp ifs (walk-within vs (p + z) (flag_above (block z k)) 1 a (omega arith) h'))
  walk-within-held (b ∷ us) z k vs p P P' a l h =
      by< a (p + size b)
      (λ m. let h' : block_word t n bins p b P (a - p) ≡ none = simp ifs at h in simp ifs (block_within p b P P' (a - p) (omega arith) h'))
      (λ m. let h' : walk (block_word t n bins) (us ++ block z k ∷ vs) (p + size b) (flag_above b) a ≡ none = simp ifs at h in
      simp ifs (walk-within-held us z k vs (p + size b) (flag_above b) (flag_above b) a (omega arith) h'))

  -- two blocks are one remainder instead
  pub walk-within-joined : (us : List Block) (z : ℕ) (k : Kind) (y : ℕ) (j : Kind) (vs : List Block) (p P P' a : ℕ) → blocks_at ≤ p → p ≤ a → 1 ≤ z
      → walk (block_word t n bins) (us ++ block z k ∷ block y j ∷ vs) p P a ≡ none
      → walk (block_word t n' bins') (us ++ block (z + y) remainder ∷ vs) p P' a ≡ none
  unfolding walk
  walk-within-joined [] z k y j vs p P P' a l b o h =
      by< a (p + (z + y))
      (λ m. by= (a - p) 0
      (λ e. let c : a < p + z = omega arith in absurd (governed-is-some (head_word z k P) (simp ifs at h)))
      (λ e. simp ifs))
      (λ m. let c : p + z ≤ a = omega arith in let d : p + z + y ≤ a = omega arith in
      let h' : walk (block_word t n bins) vs (p + z + y) (flag_above (block y j)) a ≡ none = simp ifs at h in
      let i : p + z + y ≡ p + (z + y) = omega arith in
      simp ifs (walk-within vs (p + (z + y)) (flag_above (block y j)) 1 a (omega arith) (rw i at h')))
  walk-within-joined (c ∷ us) z k y j vs p P P' a l b o h =
      by< a (p + size c)
      (λ m. let h' : block_word t n bins p c P (a - p) ≡ none = simp ifs at h in simp ifs (block_within p c P P' (a - p) (omega arith) h'))
      (λ m. let h' : walk (block_word t n bins) (us ++ block z k ∷ block y j ∷ vs) (p + size c) (flag_above c) a ≡ none = simp ifs at h in
      simp ifs (walk-within-joined us z k y j vs (p + size c) (flag_above c) (flag_above c) a (omega arith) (omega arith) o h'))
