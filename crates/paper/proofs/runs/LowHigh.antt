-- The two runs put together from parts: the blocks below a free large one end with a held one, so they make a low run by themselves.
use mathlib.Core.List.{List, [], ◌++◌, ◌∷◌}
use Prim.Native.Nat.{◌≤◌, ℕ}
use Rattle.paper.specs.Blocks.{Block, block, free, held, remainder}
use Rattle.paper.specs.Layout.{large}
use Rattle.paper.specs.Sound.{HeldFirst, High, Low}

-- ---- the low run
pub low-append : (us vs : List Block) → Low us → Low vs → Low (us ++ vs)
low-append [] vs l m = m
low-append (block z held ∷ us) vs l m = (l.0, low-append us vs l.1 m)
low-append (block z remainder ∷ us) vs l m = absurd l
low-append (block z free ∷ []) vs l m = absurd l
low-append (block z free ∷ block y held ∷ us) vs l m = (l.0, l.1, low-append us vs l.2 m)
low-append (block z free ∷ block y free ∷ us) vs l m = absurd l
low-append (block z free ∷ block y remainder ∷ us) vs l m = absurd l

pub low-parts-at-free : (us : List Block) (z : ℕ) (vs : List Block) → Low (us ++ block z free ∷ vs) → Low us × Low (block z free ∷ vs)
low-parts-at-free [] z vs l = (tt, l)
low-parts-at-free (block y held ∷ us) z vs l = let r = low-parts-at-free us z vs l.1 in ((l.0, r.0), r.1)
low-parts-at-free (block y remainder ∷ us) z vs l = absurd l
low-parts-at-free (block y free ∷ []) z vs l = absurd l
low-parts-at-free (block y free ∷ block x held ∷ us) z vs l =
    let r = low-parts-at-free us z vs l.2 in ((l.0, l.1, r.0), r.1)
low-parts-at-free (block y free ∷ block x free ∷ us) z vs l = absurd l
low-parts-at-free (block y free ∷ block x remainder ∷ us) z vs l = absurd l

-- what stands above a free block is a low run, and so it is with a free block of another size below it
pub low-above-free : (z : ℕ) (vs : List Block) → Low (block z free ∷ vs) → Low vs
low-above-free z [] l = absurd l
low-above-free z (block y held ∷ vs) l = (l.1, l.2)
low-above-free z (block y free ∷ vs) l = absurd l
low-above-free z (block y remainder ∷ vs) l = absurd l

pub low-resize-free : (z w : ℕ) (vs : List Block) → large ≤ w → Low (block z free ∷ vs) → Low (block w free ∷ vs)
low-resize-free z w [] h l = absurd l
low-resize-free z w (block y held ∷ vs) h l = (h, l.1, l.2)
low-resize-free z w (block y free ∷ vs) h l = absurd l
low-resize-free z w (block y remainder ∷ vs) h l = absurd l

-- a free block is held, whole or its low part
pub low-hold : (us : List Block) (z b : ℕ) (vs : List Block) → large ≤ b → Low (us ++ block z free ∷ vs) → Low (us ++ block b held ∷ vs)
low-hold us z b vs h l =
    let r = low-parts-at-free us z vs l in low-append us (block b held ∷ vs) r.0 (h, low-above-free z vs r.1)

pub low-cut : (us : List Block) (z b w : ℕ) (vs : List Block) → large ≤ b → large ≤ w → Low (us ++ block z free ∷ vs)
    → Low (us ++ block b held ∷ block w free ∷ vs)
low-cut us z b w vs h k l =
    let r = low-parts-at-free us z vs l in low-append us (block b held ∷ block w free ∷ vs) r.0 (h, low-resize-free z w vs k r.1)

-- ---- the high run
pub high-append : (us vs : List Block) → High us → High vs → High (us ++ vs)
high-append [] vs l m = m
high-append (block z held ∷ us) vs l m = (l.0, high-append us vs l.1 m)
high-append (block z free ∷ us) vs l m = (l.0, high-append us vs l.1 m)
high-append (block z remainder ∷ us) vs l m = absurd l

pub high_parts : (us vs : List Block) → High (us ++ vs) → High us × High vs
high_parts [] vs l = (tt, l)
high_parts (block z held ∷ us) vs l = let r = high_parts us vs l.1 in ((l.0, r.0), r.1)
high_parts (block z free ∷ us) vs l = let r = high_parts us vs l.1 in ((l.0, r.0), r.1)
high_parts (block z remainder ∷ us) vs l = absurd l

pub high-hold : (us : List Block) (z : ℕ) (vs : List Block) → High (us ++ block z free ∷ vs) → High (us ++ block z held ∷ vs)
high-hold us z vs l = let r = high_parts us (block z free ∷ vs) l in high-append us (block z held ∷ vs) r.0 r.1

-- ---- the edge
-- a held block anywhere in the high run, and what stands above it, leave the edge as it is
pub edge-hold : (us : List Block) (z : ℕ) (xs ys : List Block) → HeldFirst (us ++ xs) → HeldFirst (us ++ block z held ∷ ys)
edge-hold [] z xs ys h = tt
edge-hold (block y held ∷ us) z xs ys h = tt
edge-hold (block y free ∷ us) z xs ys h = absurd h
edge-hold (block y remainder ∷ us) z xs ys h = absurd h
