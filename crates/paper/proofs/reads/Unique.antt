-- Two well_formed states that hold of one pool are equal: blocks by their heads, lists by their links.
use mathlib.Core.List.{List, [], ◌++◌, ◌∷◌}
use mathlib.Core.Logic.{inl, inr}
use mathlib.Core.Option.{some}
use mathlib.Core.Path.{◌∙◌, ◌≡◌, ap, refl, subst, sym}
use Prim.Native.Nat.{◌+◌, ◌≤◌, ℕ}
use native.Mathlib.Omega.{arith}
use lib.ListN.{length}
use Rattle.paper.proofs.bins.Bins.{by-links, empty, first_count}
use Rattle.paper.proofs.bins.Distances.{link_word-inj}
use Rattle.paper.proofs.bins.Listed.{loose}
use Rattle.paper.proofs.reads.Readings.{back-reads, first_reads, head-reads, low_reads, next-reads, no_zero, rest-reads, small-reads, start_of, top-reads}
use Rattle.paper.proofs.runs.Walk.{In, in_left, in-mid, sized-parts, total-append}
use Rattle.paper.specs.Bins.{count, first, next_in}
use Rattle.paper.specs.Blocks.{Block, Kind, State, block, blocks, end, free, held, remainder, size, total}
use Rattle.paper.specs.Governed.{flag_above, head_word, sheet}
use Rattle.paper.specs.Layout.{blocks_at, large}
use Rattle.paper.specs.Sheet.{Holds}
use Rattle.paper.specs.Sound.{High, Low, Sized, WellFormed, free_at}
use Rattle.words.specs.Choice.{by<, by=}
use Rattle.words.specs.Words.{word_at}

-- ---- blocks by their heads
abbrev pub NoRemainder : List Block → Type 0
NoRemainder [] = Unit {0}
NoRemainder (block z held ∷ xs) = NoRemainder xs
NoRemainder (block z free ∷ xs) = NoRemainder xs
NoRemainder (block z remainder ∷ xs) = ⊥

pub low-no-remainder : (xs : List Block) → Low xs → NoRemainder xs
low-no-remainder [] h = tt
low-no-remainder (block z held ∷ xs) h = low-no-remainder xs h.1
low-no-remainder (block z remainder ∷ xs) h = h
low-no-remainder (block z free ∷ []) h = absurd h
low-no-remainder (block z free ∷ block y held ∷ xs) h = low-no-remainder xs h.2
low-no-remainder (block z free ∷ block y free ∷ xs) h = absurd h
low-no-remainder (block z free ∷ block y remainder ∷ xs) h = absurd h

pub high-no-remainder : (xs : List Block) → High xs → NoRemainder xs
high-no-remainder [] h = tt
high-no-remainder (block z held ∷ xs) h = high-no-remainder xs h.1
high-no-remainder (block z free ∷ xs) h = high-no-remainder xs h.1
high-no-remainder (block z remainder ∷ xs) h = h

same_head : (z z' P : ℕ) (k k' : Kind) (xs xs' : List Block) → NoRemainder (block z k ∷ xs) → NoRemainder (block z' k' ∷ xs')
    → head_word z k P ≡ head_word z' k' P
    → (block z k ≡ block z' k') × (NoRemainder xs × NoRemainder xs')
same_head z z' P held held xs xs' a b e = (ap (λ (w : ℕ). block w held) (omega arith), (a, b))
same_head z z' P held free xs xs' a b e = absurd (omega arith)
same_head z z' P held remainder xs xs' a b e = absurd b
same_head z z' P free held xs xs' a b e = absurd (omega arith)
same_head z z' P free free xs xs' a b e = (ap (λ (w : ℕ). block w free) (omega arith), (a, b))
same_head z z' P free remainder xs xs' a b e = absurd b
same_head z z' P remainder k' xs xs' a b e = absurd a

same-list : (f : ℕ → ℕ) (xs xs' : List Block) (p P : ℕ) → NoRemainder xs → NoRemainder xs' → Sized xs → Sized xs' → total xs ≡ total xs'
    → ((q z : ℕ) (k : Kind) (P' : ℕ) → In xs p P q (block z k) P' → f q ≡ head_word z k P')
    → ((q z : ℕ) (k : Kind) (P' : ℕ) → In xs' p P q (block z k) P' → f q ≡ head_word z k P') → xs ≡ xs'
same-list f [] [] p P n n' s s' t h h' = refl
same-list f [] (b ∷ xs') p P n n' s s' t h h' = absurd (omega arith)
same-list f (b ∷ xs) [] p P n n' s s' t h h' = absurd (omega arith)
same-list f (block z k ∷ xs) (block z' k' ∷ xs') p P n n' s s' t h h' =
    let r = same_head z z' P k k' xs xs' n n' (sym (h p z k P (inl (refl, refl, refl))) ∙ h' p z' k' P (inl (refl, refl, refl))) in
    let ih : xs ≡ xs' =
    same-list f xs xs' (p + z) (flag_above (block z k)) r.1.0 r.1.1 s.1 s'.1 (omega (arith, ap size r.0))
    (λ q w l P' i. h q w l P' (inr i))
    (λ q w l P' i. h' q w l P' (inr (subst (λ (b : Block). In xs' (p + size b) (flag_above b) q (block w l) P') r.0 i))) in
    λ i. r.0 i ∷ ih i

module _ (bs : List ℕ) (s s' : State) (W : WellFormed s) (W' : WellFormed s') (l : length bs ≡ end s) (l' : length bs ≡ end s')
    (h : Holds (sheet s) bs) (h' : Holds (sheet s') bs) where
  same_total : total s.low ≡ total s'.low
  same_total = omega (arith, low_reads bs s W l h, low_reads bs s' W' l' h')

  same_rest : s.rest ≡ s'.rest
  same_rest = omega (arith, same_total, rest-reads bs s W l h, rest-reads bs s' W' l' h')

  same_low : s.low ≡ s'.low
  same_low =
      same-list (word_at 4 bs) s.low s'.low blocks_at 1 (low-no-remainder s.low W.low_ok) (low-no-remainder s'.low W'.low_ok)
      (sized-parts s.low _ W.sized).0 (sized-parts s'.low _ W'.sized).0 same_total
      (λ q z k P i. head-reads bs s W l h q z k P (in_left s.low _ blocks_at 1 q (block z k) P i))
      (λ q z k P i. head-reads bs s' W' l' h' q z k P (in_left s'.low _ blocks_at 1 q (block z k) P i))

  same-high : s.high ≡ s'.high
  same-high =
      same-list (word_at 4 bs) s.high s'.high (blocks_at + total s.low + s.rest) 1 (high-no-remainder s.high W.high_ok)
      (high-no-remainder s'.high W'.high_ok)
      (sized-parts s.low _ W.sized).1.1 (sized-parts s'.low _ W'.sized).1.1
      (omega (
        arith,
        same_total,
        same_rest,
        total-append s.low (block s.rest remainder ∷ s.high),
        total-append s'.low
            (block s'.rest remainder ∷ s'.high),
      ))
      (λ q z k P i. head-reads bs s W l h q z k P (in-mid s.low (block s.rest remainder ∷ s.high) blocks_at 1 q (block z k) P (inr i)))
      (λ q z k P i. head-reads bs s' W' l' h' q z k P (in-mid s'.low (block s'.rest remainder ∷ s'.high) blocks_at 1 q (block z k) P
      (inr (subst (λ (n : ℕ). In s'.high n 1 q (block z k) P) (omega (arith, same_total, same_rest)) i))))

  same_blocks : blocks s ≡ blocks s'
  same_blocks = λ i. same_low i ++ block (same_rest i) remainder ∷ same-high i

  same_count : (y q : ℕ) → count q (s.bins y) ≡ count q (s'.bins y)
  same_count y q = W.listed y q ∙ ap (λ (b : List Block). free_at b blocks_at y q) same_blocks ∙ sym (W'.listed y q)

  same_next : (y q : ℕ) → 1 ≤ count q (s.bins y) → next_in (s.bins y) q ≡ next_in (s'.bins y) q
  same_next y q o =
      let o' : 1 ≤ count q (s'.bins y) = omega (arith, same_count y q) in
      let r = next-reads bs s W l h y q o in let r' = next-reads bs s' W' l' h' y q o' in
      let v : r.0 ≡ r'.0 =
      by< y large (λ c. sym (r.4 c) ∙ r'.4 c)
      (λ c. link_word-inj q r.0 r'.0 (omega (arith, start_of bs s W l h y q o)) r.2 r'.2 r.3 r'.3 (sym (r.5 c) ∙ r'.5 c)) in
      r.1 ∙ ap some v ∙ sym r'.1

  same_first : (y : ℕ) → first (s.bins y) ≡ first (s'.bins y)
  same_first y =
      by= (first (s.bins y)) 0
      (λ e. by= (first (s'.bins y)) 0 (λ e'. e ∙ sym e')
      (λ n. absurd (omega (
        arith,
        empty (s.bins y) (first (s'.bins y)) e (no_zero bs s W l h y),
        same_count y (first (s'.bins y)),
        first_count
            (s'.bins y) (first (s'.bins y)) refl n,
      ))))
      (λ n. let o = first_count (s.bins y) (first (s.bins y)) refl n in
      let st = start_of bs s W l h y (first (s.bins y)) o in
      by< y large (λ c. sym (small-reads bs s W l h y st.3 (omega arith) st.4) ∙ small-reads bs s' W' l' h' y st.3 (omega arith) st.4)
      (λ c. sym (first_reads bs s' W' l' h' y (first (s.bins y)) c (omega (arith, same_count y (first (s.bins y))))
      (back-reads bs s W l h y (first (s.bins y)) c o refl))))

  pub same-state : s ≡ s'
  same-state = λ i. record {
    top = (sym (top-reads bs s W l h) ∙ top-reads bs s' W' l' h') i;
    low = same_low i;
    rest = same_rest i;
    high = same-high i;
    bins = λ y. by-links (s.bins y) (s'.bins y) ((loose s W).once y) (same_count y) (same_first y) (same_next y) i;
  }
