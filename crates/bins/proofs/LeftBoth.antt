-- Two blocks leave, and the words of the second are put back: the bytes are as if each had left alone, and the second keeps its own.
use mathlib.Core.List.{List}
use mathlib.Core.Logic.{◌≢◌, ◌⊎◌, inl, inr}
use mathlib.Core.Option.{none}
use mathlib.Core.Path.{◌∙◌, ◌≡◌, ap, refl, subst, sym}
use Prim.Native.Nat.{◌%◌, ◌*◌, ◌+◌, ◌-◌, ◌/◌, ◌<◌, ◌≤◌, ℕ}
use native.Mathlib.Omega.{arith}
use lib.ListN.{get_or, length}
use Rattle.bins.proofs.Between.{Between}
use Rattle.bins.proofs.Left.{Grows, Left, grows_same, leave-kept-but, leave-left}
use Rattle.bins.proofs.Restored.{restored-in, restored-length, restored-out, words-end}
use Rattle.bins.proofs.LinkRead.{size-read, top_read}
use Rattle.bins.specs.Leave.{leave, leave_both, restored}
use Rattle.levels.specs.Levels.{word_of}
use Rattle.paper.proofs.bins.BinLaws.{count-rebin-leave}
use Rattle.paper.proofs.bins.Listed.{Loose, start}
use Rattle.paper.proofs.bins.Members.{leave-member, split-member}
use Rattle.paper.proofs.runs.Walk.{In}
use Rattle.paper.proofs.sheet.Fields.{at_block}
use Rattle.paper.proofs.sheet.Written.{holds-through}
use Rattle.paper.proofs.steps.Leave.{index-none, with-bins}
use Rattle.paper.proofs.steps.Leaving.{height-top}
use Rattle.paper.proofs.steps.LinkWords.{Grow, grow-trans, leave-grows, unlisted}
use Rattle.paper.specs.Bins.{count, first, rebin, leave as leave-list}
use Rattle.paper.specs.Blocks.{State, block, blocks, end, free}
use Rattle.paper.specs.Governed.{height, large_word, sheet}
use Rattle.paper.specs.Layout.{blocks_at, large, level_at, previous_at}
use Rattle.words.specs.Choice.{by<, by=, if=, if=-yes, ifs}
use Rattle.words.specs.Words.{Bytes}

past-height : (h j o : ℕ) → j ≤ h → o < word_of h → o ≢ word_of j
past-height h j o l m e = omega arith

-- an index word past the height of a block is governed by no state
middle-none : (s : State) (W : Loose s) (q z P : ℕ) → In (blocks s) blocks_at 1 q (block z free) P → large ≤ z → (o : ℕ) → o % 4 ≡ 0
    → level_at + 4 ≤ o → o < word_of (height s.top z) → sheet s (q + o) ≡ none
unfolding large_word
middle-none s W q z P h l o al a b =
    let o0 : o ≢ 0 = omega arith in let o4 : o ≢ 4 = omega arith in let o8 : o ≢ 8 = omega arith in let of : o ≢ z - 4 = omega arith in
    at_block s q (block z free) P o h (omega arith)
    ∙ by= (first (s.bins z)) q
    (λ e. simp ifs (index-none s.top (end s) s.bins (height s.top z) q z o al (height-top s W z) (omega arith)
    (λ j j1 jh. past-height (height s.top z) j o jh b)))
    (λ e. simp ifs)

list-grows : (b : ℕ → List ℕ) (z r : ℕ) → 1 ≤ count r (b z) → Grow r b (rebin b z (leave-list r (b z)))
list-grows b z r i =
    let m = split-member r (b z) i in
    subst (λ (l : List ℕ). Grow r b (rebin b z l)) (sym (ap (leave-list r) m.2 ∙ leave-member r m.0 m.1 m.3))
    (leave-grows b z r m.0 m.1 m.2)

module _ (s : State) (bs : List ℕ) (N : Between s bs) (B : Bytes bs) (p z : ℕ) (big : large ≤ z) (listed : 1 ≤ count p (s.bins z)) where
  abbrev pub s₁ : State
  s₁ = with-bins s (rebin s.bins z (leave-list p (s.bins z)))

  A : Left s bs s₁.bins (leave bs p)
  A = leave-left s bs N p z big listed

  module _ (r y : ℕ) (big₂ : large ≤ y) (listed₂ : 1 ≤ count r (s₁.bins y)) where
    abbrev pub s₂ : State
    s₂ = with-bins s (rebin s₁.bins y (leave-list r (s₁.bins y)))

    abbrev cs : List ℕ
    cs = leave (leave bs p) r

    C : Left s₁ (leave bs p) s₂.bins cs
    C = leave-left s₁ (leave bs p) A.now r y big₂ listed₂

    abbrev h : ℕ
    h = height s.top y

    place : (blocks_at ≤ r) × (r + y ≤ end s) × (r % 8 ≡ 0)
    place = start s₁ A.now.loose y r listed₂

    at-r : (P : ℕ) × In (blocks s) blocks_at 1 r (block y free) P
    at-r = A.now.loose.found y r listed₂

    gone : count r (s₂.bins y) ≡ 0
    gone =
        omega (
          arith,
          A.now.loose.once y r,
          count-rebin-leave s₁.bins y r y r listed₂,
          if=-yes {A = ℕ} y y (if= r r 1 0) 0 refl,
          if=-yes {A = ℕ} r r 1 0 refl,
        )

    long : length cs ≡ length bs
    long = C.now.long ∙ sym N.long

    room : r + words-end ≤ length cs
    room = omega (arith, place, long, N.long)

    room-before : r + words-end ≤ length bs
    room-before = omega (arith, place, N.long)

    h13 : h ≤ 13
    h13 = height-top s N.loose y

    -- nothing is stored at its index words past its height
    middle : (i : ℕ) → r + level_at + 4 ≤ i → i < r + word_of h → get_or cs i 0 ≡ get_or bs i 0
    middle i a b =
        let P = place in
        let o : r + (i / 4 * 4 - r) ≡ i / 4 * 4 = omega arith in
        C.kept s₂ C.now.loose refl (grows_same s₂.bins) i (omega (arith, A.now.long, N.long))
        (ap (sheet s₂) (sym o) ∙ middle-none s₂ C.now.loose r y at-r.0 at-r.1 big₂ (i / 4 * 4 - r) (omega arith) (omega arith) (omega arith))
        ∙ A.kept s₁ A.now.loose refl (grows_same s₁.bins) i (omega (arith, N.long))
        (ap (sheet s₁) (sym o) ∙ middle-none s₁ A.now.loose r y at-r.0 at-r.1 big₂ (i / 4 * 4 - r) (omega arith) (omega arith) (omega arith))

    out : (i : ℕ) → (i < r + previous_at) ⊎ (r + words-end ≤ i) → get_or (restored bs cs r h) i 0 ≡ get_or cs i 0
    out = restored-out bs cs r h B h13 room room-before

    -- a byte of a word of r, which is governed no more
    bare : (i : ℕ) → r + previous_at ≤ i → i < r + words-end → sheet s₂ (i / 4 * 4) ≡ none
    bare i a b =
        let P = place in
        let o : r + (i / 4 * 4 - r) ≡ i / 4 * 4 = omega arith in
        ap (sheet s₂) (sym o) ∙ unlisted s₂ r y at-r.0 at-r.1 big₂ gone (i / 4 * 4 - r) (omega arith) (omega arith) (omega arith)

    outside : (s' : State) → Loose s' → s'.top ≡ s.top → Grows s₂.bins s'.bins → (i : ℕ) → i < length bs
        → sheet s' (i / 4 * 4) ≡ none → (i < r + previous_at) ⊎ (r + words-end ≤ i) → get_or cs i 0 ≡ get_or bs i 0
    outside s' W' te G i m e w =
        C.kept s' W' te G i (omega (arith, A.now.long, N.long)) e
        ∙ go (leave-kept-but s bs N p z big listed s' W' te r
        (grow-trans r s₁.bins s₂.bins s'.bins (list-grows s₁.bins y r listed₂) (G r)) i m e) w
      where
        go : ((r + previous_at ≤ i / 4 * 4) × (i / 4 * 4 < r + words-end)) ⊎ (get_or (leave bs p) i 0 ≡ get_or bs i 0)
            → (i < r + previous_at) ⊎ (r + words-end ≤ i) → get_or (leave bs p) i 0 ≡ get_or bs i 0
        go (inr k) v = k
        go (inl k) (inl v) = absurd (omega (arith, k, place))
        go (inl k) (inr v) = absurd (omega (arith, k, place))

    restored-left : Left s bs s₂.bins (restored bs cs r h)
    restored-left =
        record {
          now = record {
            loose = C.now.loose;
            layout = N.layout;
            fits = N.fits;
            long = restored-length bs cs r h B h13 room room-before ∙ C.now.long;
            holds = holds-through (sheet s₂) cs (restored bs cs r h) (restored-length bs cs r h B h13 room room-before) C.now.holds
                (λ i m. by< i (r + previous_at) (λ a. inr (out i (inl a)))
                (λ a. by< i (r + words-end) (λ b. inl (bare i a b)) (λ b. inr (out i (inr b)))));
          };
          kept = λ s' W' te G i m e.
              by< i (r + previous_at) (λ a. out i (inl a) ∙ outside s' W' te G i m e (inl a))
              (λ a. by< i (r + words-end) (λ b. restored-in bs cs r h B h13 room room-before middle i a b)
              (λ b. out i (inr b) ∙ outside s' W' te G i m e (inr b)));
        }

    pub both_left : Left s bs s₂.bins (leave_both bs p r)
    unfolding leave_both
    both_left =
        subst (λ (k : ℕ). Left s bs s₂.bins (restored bs cs r k))
        (sym (λ i. height (top_read s bs N i) (size-read s bs N r y free at-r.0 at-r.1 i))) restored-left
