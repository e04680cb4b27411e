-- One block of a run replaced by others, as long in all: what is the same of the run, and what differs by that block only.
use mathlib.Core.List.{List, [], ◌++◌, ◌∷◌}
use mathlib.Core.Logic.{inl}
use mathlib.Core.Path.{◌∙◌, ◌≡◌, ap, refl, subst, sym}
use Prim.Native.Nat.{◌+◌, ℕ}
use native.Mathlib.Omega.{arith}
use Rattle.paper.proofs.runs.Splitting.{free_at-mid, in_is, in-replace, in-starts, sized-mid, sized-mid-parts, starts-mid, total-mid}
use Rattle.paper.proofs.runs.Walk.{In, flag_past, in-mid}
use Rattle.paper.specs.Blocks.{Block, size, total}
use Rattle.paper.specs.Runs.{from, replace, starts_at, under}
use Rattle.paper.specs.Sound.{Sized, free_at}

module _ (xs : List Block) (p P q : ℕ) (b : Block) (P' : ℕ) (S : Sized xs) (i : In xs p P q b P') where
  below : List Block
  below = under xs p q

  beyond : List Block
  beyond = from xs p (q + size b)

  parts : Sized below × Sized (b ∷ []) × Sized beyond
  unfolding below beyond
  parts = sized-mid-parts below (b ∷ []) beyond (subst Sized (in_is xs p P q b P' S i) S)

  -- a fact of the run with b in it that gives one of the run with the new blocks
  pub replaced-by : (F : List Block → Type 0) (new : List Block)
      → (F (under xs p q ++ b ∷ from xs p (q + size b)) → F (under xs p q ++ (new ++ from xs p (q + size b))))
      → F xs → F (replace xs p q (q + size b) new)
  replaced-by F new g f = subst F (sym (in-replace xs p P q b P' S i new)) (g (subst F (in_is xs p P q b P' S i) f))

  pub replaced-sized : (new : List Block) → Sized new → Sized (replace xs p q (q + size b) new)
  unfolding below beyond
  replaced-sized new n = subst Sized (sym (in-replace xs p P q b P' S i new)) (sized-mid below new beyond parts.0 n parts.2)

  pub replaced-total : (new : List Block) → total new ≡ size b → total (replace xs p q (q + size b) new) ≡ total xs
  unfolding below beyond
  replaced-total new t =
      ap total (in-replace xs p P q b P' S i new)
      ∙ omega (arith, total-mid below new beyond, total-mid below (b ∷ []) beyond, ap total (in_is xs p P q b P' S i))

  pub replaced-free_at : (new : List Block) → total new ≡ size b → (y x : ℕ)
      → free_at (replace xs p q (q + size b) new) p y x + free_at (b ∷ []) q y x ≡ free_at xs p y x + free_at new q y x
  unfolding below beyond
  replaced-free_at new t y x =
      let a = in-starts xs p P q b P' S i in
      let e = ap (λ (l : List Block). free_at l p y x) (in-replace xs p P q b P' S i new) in
      let f = ap (λ (l : List Block). free_at l p y x) (in_is xs p P q b P' S i) in
      let g = free_at-mid below new beyond p q (q + size b) y x a (omega arith) in
      let h = free_at-mid below (b ∷ []) beyond p q (q + size b) y x a (omega arith) in
      omega arith

  pub replaced-starts : (f : Block → ℕ) (new : List Block) → Sized new → total new ≡ size b → (x : ℕ)
      → starts_at f (replace xs p q (q + size b) new) p x + starts_at f (b ∷ []) q x ≡ starts_at f xs p x + starts_at f new q x
  unfolding below beyond
  replaced-starts f new n t x =
      let a = in-starts xs p P q b P' S i in
      let e = ap (λ (l : List Block). starts_at f l p x) (in-replace xs p P q b P' S i new) in
      let g = ap (λ (l : List Block). starts_at f l p x) (in_is xs p P q b P' S i) in
      let h = starts-mid f below new beyond p q (q + size b) x parts.0 n a (omega arith) in
      let k = starts-mid f below (b ∷ []) beyond p q (q + size b) x parts.0 parts.1 a (omega arith) in
      omega arith

  -- the first of the new blocks starts where the old one did
  pub in-replaced : (c : Block) (new : List Block) → In (replace xs p q (q + size b) (c ∷ new)) p P q c (flag_past P (under xs p q))
  in-replaced c new =
      subst (λ (l : List Block). In l p P q c (flag_past P (under xs p q))) (sym (in-replace xs p P q b P' S i (c ∷ new)))
      (in-mid (under xs p q) ((c ∷ new) ++ from xs p (q + size b)) p P q c (flag_past P (under xs p q))
      (inl (sym (in-starts xs p P q b P' S i), refl, refl)))
