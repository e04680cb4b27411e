-- Looking up finds every block, at each of its addresses. For an offset, in the words of what starts 4 below it: a block has at least 8 bytes,
-- so the offset is in the block that starts there. And in two runs of blocks, one above the other, an address is looked up in the one that
-- it is in.
use mathlib.Core.List.{List, [], ◌∷◌, ◌++◌}
use mathlib.Core.Logic.{◌≢◌, inl, inr}
use mathlib.Core.Path.{◌∙◌, ◌≡◌, ap, refl, sym}
use Prim.Native.Nat.{◌+◌, ◌-◌, ◌<◌, ◌≤◌, ℕ}
use native.Mathlib.Omega.{arith}
use Rattle.paper.proofs.runs.HeldPlaces.{held_at}
use Rattle.paper.proofs.runs.Splitting.{starts-below}
use Rattle.paper.proofs.runs.Walk.{In, in-low}
use Rattle.paper.specs.Blocks.{Block, Kind, State, block, blocks, free, held, remainder, size, total}
use Rattle.paper.specs.declared.Found.{Found}
use Rattle.paper.specs.Governed.{flag_above}
use Rattle.paper.specs.Layout.{blocks_at}
use Rattle.paper.specs.LookingUp.{block_at, by_offset, found, look_up}
use Rattle.paper.specs.Runs.{held_size, starts_at}
use Rattle.paper.specs.Sound.{Sized}
use Rattle.words.specs.Choice.{by<, by=, if<, if<-no, if<-yes, if=, if=-no, if=-yes}
use Rattle.paper.specs.declared.Refusal.TheVariants.{NotHeld}
use Rattle.paper.specs.declared.Refusal.{Refusal}

-- ---- every block is found, at each of its addresses

block_in : (xs : List Block) (p P q z : ℕ) (k : Kind) (P' a : ℕ) → In xs p P q (block z k) P' → q ≤ a → a < q + z → block_at xs p a ≡ found k q z
unfolding block_at
block_in [] p P q z k P' a h l m = absurd h
block_in (block y j ∷ xs) p P q z k P' a (inl h) l m =
    let e : z ≡ y = ap size h.1 in
    if<-yes a (p + y) _ _ (omega arith) ∙ (λ i. here (sym h.1 i) (sym h.0 i))
  where
    here : Block → ℕ → Found
    here (block y j) p = found j p y
block_in (block y j ∷ xs) p P q z k P' a (inr h) l m =
    if<-no a (p + y) _ _ (omega (arith, in-low xs (p + y) (flag_above (block y j)) q (block z k) P' h))
    ∙ block_in xs (p + y) (flag_above (block y j)) q z k P' a h l m

pub look_up-in : (s : State) (q z : ℕ) (k : Kind) (P a : ℕ) → In (blocks s) blocks_at 1 q (block z k) P → q ≤ a → a < q + z → look_up s a ≡ found k q z
unfolding look_up
look_up-in s q z k P a h l m =
    if<-no a 168 _ _ (omega (arith, in-low (blocks s) blocks_at 1 q (block z k) P h)) ∙ block_in (blocks s) blocks_at 1 q z k P a h l m

-- ---- the held block of an offset

module _ {A : Type 0} (offset : ℕ) (f : Refusal → A) (g : ℕ → ℕ → A) where
  -- refused, or done with a held block of size z that starts 4 below
  abbrev pub on : ℕ → A
  on z = if= z 0 (f NotHeld) (g (offset - 4) z)

  -- no held block starts there
  none : (z : ℕ) → z ≡ 0 → f NotHeld ≡ on z
  none z e = sym (if=-yes z 0 _ _ e)

  module _ (xs : List Block) (p z : ℕ) (four : 4 ≤ offset) (big : 8 ≤ z) (inside : offset < p + z) where
    here : (k : Kind) → by_offset (found k p z) offset f g ≡ on (starts_at held_size (block z k ∷ xs) p (offset - 4))
    unfolding starts_at
    here k = by= p (offset - 4) (starts k) (apart k)
      where
        starts : (k : Kind) → p ≡ offset - 4 → by_offset (found k p z) offset f g ≡ on (if= p (offset - 4) (held_size (block z k)) (starts_at held_size xs (p + z) (offset - 4)))
        starts held e =
            if=-yes offset (p + 4) _ _ (omega arith) ∙ ap (λ (q : ℕ). g q z) e
            ∙ sym (ap on (if=-yes p (offset - 4) _ _ e) ∙ if=-no z 0 _ _ (omega arith))
        starts free e = none _ (if=-yes p (offset - 4) _ _ e)
        starts remainder e = none _ (if=-yes p (offset - 4) _ _ e)

        below : (k : Kind) → p ≢ offset - 4 → if= p (offset - 4) (held_size (block z k)) (starts_at held_size xs (p + z) (offset - 4)) ≡ 0
        below k n = if=-no p (offset - 4) _ _ n ∙ starts-below held_size xs (p + z) (offset - 4) (omega arith)

        apart : (k : Kind) → p ≢ offset - 4 → by_offset (found k p z) offset f g ≡ on (if= p (offset - 4) (held_size (block z k)) (starts_at held_size xs (p + z) (offset - 4)))
        apart held n = if=-no offset (p + 4) _ _ (λ e. n (omega arith)) ∙ none _ (below held n)
        apart free n = none _ (below free n)
        apart remainder n = none _ (below remainder n)

  at-start : (xs : List Block) (p : ℕ) → Sized xs → 4 ≤ p → p ≤ offset
      → by_offset (block_at xs p offset) offset f g ≡ on (starts_at held_size xs p (offset - 4))
  unfolding block_at starts_at
  at-start [] p s l m = none 0 refl
  at-start (block z k ∷ xs) p s l m =
      by< offset (p + z)
      (λ h. ap (λ (x : Found). by_offset x offset f g) (if<-yes offset (p + z) _ _ h) ∙ here xs p z (omega arith) s.0.0 h k)
      (λ h. ap (λ (x : Found). by_offset x offset f g) (if<-no offset (p + z) _ _ h) ∙ at-start xs (p + z) s.1 (omega arith) h
      ∙ ap on (sym (if=-no p (offset - 4) _ _ (omega (arith, s.0)))))

  pub by-held : (s : State) → Sized (blocks s) → by_offset (look_up s offset) offset f g ≡ on (held_at s offset)
  unfolding look_up held_at
  by-held s S =
      by< offset blocks_at
      (λ l. ap (λ (x : Found). by_offset x offset f g) (if<-yes offset 168 _ _ l) ∙ none _ (nothing l))
      (λ l. ap (λ (x : Found). by_offset x offset f g) (if<-no offset 168 _ _ l) ∙ at-start (blocks s) blocks_at S (omega arith) l
      ∙ ap on (sym (if<-no offset 4 _ _ (omega arith))))
    where
      nothing : offset < blocks_at → if< offset 4 0 (starts_at held_size (blocks s) blocks_at (offset - 4)) ≡ 0
      nothing l =
          by< offset 4 (λ m. if<-yes offset 4 _ _ m)
          (λ m. if<-no offset 4 _ _ m ∙ starts-below held_size (blocks s) blocks_at (offset - 4) (omega arith))

  pub look_up-none : (s : State) → Sized (blocks s) → held_at s offset ≡ 0 → by_offset (look_up s offset) offset f g ≡ f NotHeld
  look_up-none s S e = by-held s S ∙ if=-yes (held_at s offset) 0 _ _ e

  pub look_up-held : (s : State) → Sized (blocks s) → held_at s offset ≢ 0 → by_offset (look_up s offset) offset f g ≡ g (offset - 4) (held_at s offset)
  look_up-held s S n = by-held s S ∙ if=-no (held_at s offset) 0 _ _ n

-- ---- two runs

pub block-below : (xs ys : List Block) (p a : ℕ) → a < p + total xs → p ≤ a → block_at (xs ++ ys) p a ≡ block_at xs p a
unfolding block_at
block-below [] ys p a l m = absurd (omega arith)
block-below (block z k ∷ xs) ys p a l m =
    by< a (p + z) (λ h. if<-yes a (p + z) _ _ h ∙ sym (if<-yes a (p + z) _ _ h))
    (λ h. if<-no a (p + z) _ _ h ∙ block-below xs ys (p + z) a (omega arith) h ∙ sym (if<-no a (p + z) _ _ h))

pub block-above : (xs ys : List Block) (p a : ℕ) → p + total xs ≤ a → block_at (xs ++ ys) p a ≡ block_at ys (p + total xs) a
unfolding block_at
block-above [] ys p a l = ap (λ (q : ℕ). block_at ys q a) (omega arith)
block-above (block z k ∷ xs) ys p a l =
    if<-no a (p + z) _ _ (omega arith) ∙ block-above xs ys (p + z) a (omega arith) ∙ ap (λ (q : ℕ). block_at ys q a) (omega arith)
