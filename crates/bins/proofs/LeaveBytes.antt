-- Leaving a bin on bytes: the model's stores are those that fit the sheet of the state without the block.
use mathlib.Core.List.{List, [], ◌++◌, ◌∷◌}
use mathlib.Core.Logic.{◌≢◌}
use mathlib.Core.Path.{◌∙◌, ◌≡◌, ap, refl, subst, sym}
use Prim.Native.Nat.{◌+◌, ◌≤◌, ℕ}
use native.Mathlib.Omega.{arith}
use Rattle.bins.proofs.Before.{before}
use Rattle.bins.proofs.Between.{Between}
use Rattle.bins.proofs.Found.{Found, exact-found}
use Rattle.bins.proofs.Index.{Index, between-index, block-spares, index-put}
use Rattle.bins.proofs.Led.{Led}
use Rattle.bins.proofs.LinkRead.{listed-size-read, member, next-in, previous-in}
use Rattle.bins.proofs.Reheading.{rehead-stores}
use Rattle.bins.specs.Find.{exact, linked_at}
use Rattle.bins.specs.Head.{rehead}
use Rattle.bins.specs.Leave.{leave, leave_first, leave_later, pass_over}
use Rattle.bins.specs.declared.chain.Bin.{Bin}
use Rattle.heads.specs.Links.{link_word}
use Rattle.paper.proofs.bins.Bins.{count-append, count-cons, count-here, last-count, last_or}
use Rattle.paper.proofs.bins.Listed.{Loose, start}
use Rattle.paper.proofs.sheet.Stores.{puts}
use Rattle.paper.proofs.steps.First.{Pred, first-puts, level-puts}
use Rattle.paper.proofs.steps.LeaveStep.{leave-puts}
use Rattle.paper.proofs.steps.Leaving.{back-puts, later-puts}
use Rattle.paper.specs.Bins.{count, first}
use Rattle.paper.specs.Blocks.{State}
use Rattle.paper.specs.Governed.{height}
use Rattle.paper.specs.Layout.{large, level_at, next_at, previous_at}
use Rattle.words.specs.Choice.{by=, if=, if=-no, if=-yes, ifs}
use Rattle.words.specs.Words.{put_at}

pub link-none : (x : ℕ) → link_word x 0 ≡ 0
unfolding link_word
link-none x = if=-yes 0 0 _ _ refl

module _ (s : State) (bs : List ℕ) (B : Between s bs) (q z : ℕ) (big : large ≤ z) where
  abbrev W : Loose s
  W = B.loose

  I : Index s s.top bs
  I = between-index s bs B

  listed-nonzero : (v : ℕ) → 1 ≤ count v (s.bins z) → v ≢ 0
  listed-nonzero v i = omega (arith, (start s W z v i).0)

  -- q is not the first: r stands before it
  module _ (u : ℕ) (us vs : List ℕ) (is-in : s.bins z ≡ u ∷ us ++ q ∷ vs) where
    before-listed : 1 ≤ count (last_or u us) (s.bins z)
    before-listed = omega (arith, ap (count (last_or u us)) is-in, count-append (last_or u us) (u ∷ us) (q ∷ vs), last-count u us)

    pub leave_later-stores : (ws : List ℕ) → vs ≡ ws → leave_later bs (last_or u us) q ≡ puts (later-puts u us ws) bs
    unfolding leave_later later-puts back-puts first link_word
    leave_later-stores [] e =
        if=-yes (linked_at bs q next_at) 0 _ _ (next-in s bs B q z (u ∷ us) vs big is-in ∙ ap first e)
        ∙ ap (put_at 4 bs (last_or u us + next_at)) (sym (if=-yes 0 0 _ _ refl))
    leave_later-stores (x ∷ ws) e =
        let nx : linked_at bs q next_at ≡ x = next-in s bs B q z (u ∷ us) vs big is-in ∙ ap first e in
        let x-in : 1 ≤ count x (s.bins z) = omega (arith, ap (count x) is-in, count-append x (u ∷ us) (q ∷ vs), count-cons x q vs, ap (count x) e, count-here x ws) in
        let x0 : x ≢ 0 = listed-nonzero x x-in in
        let r0 : last_or u us ≢ 0 = listed-nonzero (last_or u us) before-listed in
        rw nx (simp ifs)

  -- q is the first
  module _ (vs : List ℕ) (is-in : s.bins z ≡ q ∷ vs) where
    is-first : first (s.bins z) ≡ q
    unfolding first
    is-first = ap first is-in

    near : z ≤ 65536
    near = omega (arith, start s W z q (omega (arith, ap (count q) is-in, count-here q vs)), B.fits)

    exact-at : Found s (height s.top z) z 0 (exact bs z)
    exact-at = exact-found s W bs I z big near

    -- its bin was found on its highest level
    module _ (bin : Bin) (highest : bin.level ≡ height s.top z) (y : ℕ) (A : Pred s z (height s.top z) y bin.before) where
      only_stores : rehead bs bin z q 0 ≡ puts (first-puts s z (before s z) []) bs
      unfolding first-puts back-puts level-puts first
      only_stores = ap (λ (k : ℕ). rehead bs bin z k 0) (sym is-first) ∙ rehead-stores s W z big [] tt bs I bin highest y A

      leave_first-stores : (ws : List ℕ) → vs ≡ ws → leave_first bs bin z q ≡ puts (first-puts s z (before s z) ws) bs
      unfolding leave_first first-puts back-puts level-puts first
      leave_first-stores [] e = if=-yes (linked_at bs q next_at) 0 _ _ (next-in s bs B q z [] vs big is-in ∙ ap first e) ∙ only_stores
      leave_first-stores (x ∷ ws) e =
          let nx : linked_at bs q next_at ≡ x = next-in s bs B q z [] vs big is-in ∙ ap first e in
          let x-in : 1 ≤ count x (s.bins z) = omega (arith, ap (count x) is-in, count-cons x q vs, ap (count x) e, count-here x ws) in
          let f = W.found z x x-in in
          let cs : List ℕ = put_at 4 (put_at 4 bs (x + previous_at) (link_word x 0)) (x + level_at) (height s.top z) in
          let J : Index s s.top cs =
          index-put s s.top (put_at 4 bs (x + previous_at) (link_word x 0))
          (index-put s s.top bs I (x + previous_at) (link_word x 0)
          (block-spares s W s.top x z f.0 previous_at big f.1 (omega arith) (omega (arith, W.top13))))
          (x + level_at) (height s.top z) (block-spares s W s.top x z f.0 level_at big f.1 (omega arith) (omega (arith, W.top13))) in
          ap (λ (n : ℕ). if= n 0 (rehead bs bin z q 0)
          (rehead (put_at 4 (put_at 4 bs (n + previous_at) 0) (n + level_at) bin.level) bin z q n)) nx
          ∙ if=-no x 0 _ _ (listed-nonzero x x-in)
          ∙ (λ i. rehead (put_at 4 (put_at 4 bs (x + previous_at) (sym (link-none x) i)) (x + level_at) (highest i)) bin z (sym is-first i) x)
          ∙ rehead-stores s W z big (x ∷ ws) f cs J bin highest y A

    -- the only block of a bin that was found on some level
    pub pass_over-stores : (bin : Bin) → Led s z bin → pass_over bs bin ≡ puts (first-puts s z (before s z) []) bs
    unfolding pass_over
    pass_over-stores bin L =
        (λ i. if= bin.level (height (I.top i) (L.sized i)) (rehead bs bin (L.sized i) ((L.leads ∙ is-first) i) 0)
        (rehead bs (exact bs (L.sized i)) (L.sized i) ((L.leads ∙ is-first) i) 0))
        ∙ by= bin.level (height s.top z)
        (λ e. if=-yes bin.level _ _ _ e ∙ only_stores bin e L.y (subst (λ (k : ℕ). Pred s z k L.y bin.before) e L.pred))
        (λ n. if=-no bin.level _ _ _ n ∙ only_stores (exact bs z) exact-at.level exact-at.y exact-at.pred)

  -- wherever q stands
  pub leave-stores : (us vs : List ℕ) → s.bins z ≡ us ++ q ∷ vs → leave bs q ≡ puts (leave-puts s z (before s z) us vs) bs
  unfolding leave last_or leave-puts
  leave-stores [] vs is-in =
      let F = exact-at vs is-in in
      if=-yes (linked_at bs q previous_at) 0 _ _ (previous-in s bs B q z [] vs big is-in)
      ∙ ap (λ (k : ℕ). leave_first bs (exact bs k) k q) (listed-size-read s bs B q z (member s bs B q z [] vs big is-in))
      ∙ leave_first-stores vs is-in (exact bs z) F.level F.y F.pred vs refl
  leave-stores (u ∷ us) vs is-in =
      let r : linked_at bs q previous_at ≡ last_or u us = previous-in s bs B q z (u ∷ us) vs big is-in in
      let r0 : last_or u us ≢ 0 = listed-nonzero (last_or u us) (before-listed u us vs is-in) in
      if=-no (linked_at bs q previous_at) 0 _ _ (λ e. r0 (sym r ∙ e))
      ∙ ap (λ (k : ℕ). leave_later bs k q) r
      ∙ leave_later-stores u us vs is-in vs refl
