-- What the model reads of a block in a pool between two steps: its size, where its links lead, and each of its index words.
use mathlib.Core.List.{List, ◌++◌, ◌∷◌}
use mathlib.Core.Logic.{◌≢◌, ◌⊎◌, inl, inr}
use mathlib.Core.Option.{some}
use mathlib.Core.Path.{◌∙◌, ◌≡◌, ap, refl, subst, sym}
use Prim.Native.Nat.{◌+◌, ◌≤◌, ℕ}
use native.Mathlib.Omega.{arith}
use Rattle.bins.specs.Find.{linked_at, size_at}
use Rattle.bins.proofs.Between.{Between, head_read}
use Rattle.levels.specs.Levels.{top_of, word_of}
use Rattle.heads.specs.Heads.{head_of}
use Rattle.heads.specs.declared.head.Head.{Head}
use Rattle.paper.proofs.reads.HeadWords.{head-of-word}
use Rattle.heads.specs.Links.{followed, link_word}
use Rattle.paper.proofs.bins.Bins.{count-append, count-here, last_or, next-mem, next-p, prev-mem, prev-p, prev-some}
use Rattle.paper.proofs.bins.Distances.{followed-link_word}
use Rattle.paper.proofs.bins.Listed.{Loose, start}
use Rattle.paper.proofs.reads.LooseReads.{above-some, bin-unique, false-reads, following-reads, index_reads, previous-reads, reach-in, word-reads}
use Rattle.paper.proofs.runs.Walk.{In, in-flag}
use Rattle.paper.proofs.sheet.Fields.{false-level}
use Rattle.paper.proofs.steps.First.{OnLevel}
use Rattle.paper.specs.Bins.{count, first, next_in, prev_in}
use Rattle.paper.specs.Blocks.{Kind, State, block, blocks, end, free}
use Rattle.paper.specs.Governed.{above}
use Rattle.paper.specs.Layout.{blocks_at, false_block, large, level_at, levels, next_at, previous_at}
use Rattle.words.specs.Choice.{by=, if=, if=-no, if=-yes}
use Rattle.words.specs.Words.{word_at}

some_inj : (a b : ℕ) → some a ≡ some b → a ≡ b
some_inj a b p = cc

module _ (s : State) (bs : List ℕ) (B : Between s bs) where
  abbrev W : Loose s
  W = B.loose

  pub size-read : (q z : ℕ) (k : Kind) (P : ℕ) → In (blocks s) blocks_at 1 q (block z k) P → size_at bs q ≡ z
  unfolding size_at
  size-read q z k P i =
      ap (λ (w : ℕ). (head_of w).size) (head_read s bs B q z k P i)
      ∙ ap (λ (h : Head). h.size) (head-of-word z k P (in-flag (blocks s) blocks_at 1 q (block z k) P (omega arith) i))

  pub listed-size-read : (q z : ℕ) → 1 ≤ count q (s.bins z) → size_at bs q ≡ z
  listed-size-read q z i = let f = W.found z q i in size-read q z free f.0 f.1

  followed-in : (q v offset : ℕ) → q ≤ 65536 → v ≤ 65536 → v ≢ q → word_at 4 bs (q + offset) ≡ link_word q v → linked_at bs q offset ≡ v
  unfolding linked_at
  followed-in q v offset a b n e = ap (followed q) e ∙ followed-link_word q v a b n

  module _ (q z : ℕ) (big : large ≤ z) (i : 1 ≤ count q (s.bins z)) where
    near : q ≤ 65536
    near = omega (arith, start s W z q i, B.fits)

    listed-near : (v : ℕ) → 1 ≤ count v (s.bins z) → v ≤ 65536
    listed-near v k = omega (arith, start s W z v k, B.fits)

    pub previous-read : (v : ℕ) → prev_in 0 (s.bins z) q ≡ some v → linked_at bs q previous_at ≡ v
    previous-read v e =
        let m = prev-some 0 q (s.bins z) (omega (arith, (start s W z q i).0)) i in
        let same : m.0 ≡ v = some_inj m.0 v (sym m.1 ∙ e) in
        followed-in q v previous_at near (bound (prev-mem 0 q v (s.bins z) e)) (λ k. m.2 (same ∙ k)) (previous-reads bs s W B.fits B.long B.holds q z big i v e)
      where
        bound : (v ≡ 0) ⊎ (1 ≤ count v (s.bins z)) → v ≤ 65536
        bound (inl k) = omega arith
        bound (inr k) = listed-near v k

    pub next-read : (v : ℕ) → next_in (s.bins z) q ≡ some v → linked_at bs q next_at ≡ v
    next-read v e =
        let m = next-mem q (s.bins z) i in
        let same : m.0 ≡ v = some_inj m.0 v (sym m.1 ∙ e) in
        followed-in q v next_at near (subst (λ (k : ℕ). k ≤ 65536) same (bound m.0 m.2))
        (subst (λ (k : ℕ). k ≢ q) same (apart m.0 m.2)) (following-reads bs s W B.fits B.long B.holds q z big i v e)
      where
        bound : (k : ℕ) → (k ≡ 0) ⊎ ((1 ≤ count k (s.bins z)) × (k ≡ q → 2 ≤ count q (s.bins z))) → k ≤ 65536
        bound k (inl o) = omega arith
        bound k (inr o) = listed-near k o.0

        apart : (k : ℕ) → (k ≡ 0) ⊎ ((1 ≤ count k (s.bins z)) × (k ≡ q → 2 ≤ count q (s.bins z))) → k ≢ q
        apart k (inl o) = λ f. omega (arith, (start s W z q i).0)
        apart k (inr o) = λ f. omega (arith, o.1 f, W.once z q)

  -- what the index leads to is in the pool, past the false block, and in a larger bin
  module _ (j y : ℕ) where
    abbrev next : ℕ
    next = above s.top (end s) s.bins j y

    above-near : (next ≤ 65536) × (next ≢ false_block)
    above-near =
        by= next 0 (λ e. (omega arith, omega arith))
        (λ n. let m = above-some s W j y n in
        let st = start s W m.0 _ (reach-in s W j m.0 _ m.2 n).2 in (omega (arith, B.fits), omega arith))

    pub index_read : (w : ℕ) → OnLevel s j y w → 1 ≤ j → j ≤ s.top → linked_at bs w (word_of j) ≡ next
    index_read w (inl b) j1 jt =
        rw b.1 (followed-in false_block next (word_of j) (omega arith) above-near.0 above-near.1
        (false-reads bs s W B.fits B.long B.holds j j1 jt ∙ ap (λ (k : ℕ). link_word false_block (above s.top (end s) s.bins j k)) (sym b.0)))
    index_read w (inr b) j1 jt =
        let r = reach-in s W j y w b.0 b.1 in
        followed-in w next (word_of j) (near w y b.2 r.2) above-near.0 (apart r.2)
        (index_reads bs s W B.fits B.long B.holds w y b.2 r.2 r.0 j j1 r.1)
      where
        apart : 1 ≤ count w (s.bins y) → next ≢ w
        apart i k =
            let m = above-some s W j y (λ o. b.1 (sym k ∙ o)) in
            let u : m.0 ≡ y = bin-unique s W w m.0 y (reach-in s W j m.0 w (m.2 ∙ k) b.1).2 i in
            omega (arith, m.1)

  pub top_read : top_of bs ≡ s.top
  unfolding top_of
  top_read =
      go B.layout
      (word-reads bs s W B.fits B.long B.holds (false_block + level_at) s.top refl (omega arith) (omega (arith, W.top13)) (false-level s))
    where
      go : (s.top ≡ 1) ⊎ (s.top ≡ 13) → word_at 4 bs (false_block + level_at) ≡ s.top → if= (word_at 4 bs (false_block + level_at)) levels levels 1 ≡ s.top
      go (inl t) e = if=-no (word_at 4 bs (false_block + level_at)) levels _ _ (omega arith) ∙ sym t
      go (inr t) e = if=-yes (word_at 4 bs (false_block + level_at)) levels _ _ (omega arith) ∙ sym t

  -- the neighbours in us ++ q ∷ vs
  module _ (q z : ℕ) (us vs : List ℕ) (big : large ≤ z) (is-in : s.bins z ≡ us ++ q ∷ vs) where
    pub member : 1 ≤ count q (s.bins z)
    member = omega (arith, ap (count q) is-in, count-append q us (q ∷ vs), count-here q vs)

    absent-before : count q us ≡ 0
    absent-before = omega (arith, W.once z q, ap (count q) is-in, count-append q us (q ∷ vs), count-here q vs)

    pub previous-in : linked_at bs q previous_at ≡ last_or 0 us
    previous-in = previous-read q z big member (last_or 0 us) (ap (λ (k : List ℕ). prev_in 0 k q) is-in ∙ prev-p 0 q us vs absent-before)

    pub next-in : linked_at bs q next_at ≡ first vs
    next-in = next-read q z big member (first vs) (ap (λ (k : List ℕ). next_in k q) is-in ∙ next-p q us vs absent-before)
