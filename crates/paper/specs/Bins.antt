-- A bin as a list of starts: "its first block", "the previous and next block of its bin", "the next larger bin". No start is 0, so 0 stands for none.
use Rattle.std.specs.Prelude.{List, [], ◌∷◌, ℕ, zero, suc, ◌+◌}
use Rattle.std.proofs.Math.Option.{Option, none, some}
use Rattle.words.specs.Choice.{if=}

unfoldable pub first : List ℕ → ℕ
first [] = 0
first (x ∷ xs) = x

-- the one before p, where r stands before the first; none where p is not in the list
unfoldable pub prev_in : ℕ → List ℕ → ℕ → Option ℕ
prev_in r [] p = none
prev_in r (x ∷ xs) p = if= x p (some r) (prev_in x xs p)

-- the one after p, 0 after the last; none where p is not in the list
unfoldable pub next_in : List ℕ → ℕ → Option ℕ
next_in [] p = none
next_in (x ∷ xs) p = if= x p (some (first xs)) (next_in xs p)

-- how often p stands in the list
unfoldable pub count : ℕ → List ℕ → ℕ
count p [] = 0
count p (x ∷ xs) = if= x p 1 0 + count p xs

-- the first number that is not 0 of g z, g (z + 1), .. , k of them; 0 if there is none
unfoldable pub seek : (ℕ → ℕ) → ℕ → ℕ → ℕ
seek g zero z = 0
seek g (suc k) z = if= (g z) 0 (seek g k (suc z)) (g z)

-- the bins with another list for size z
unfoldable pub rebin : (ℕ → List ℕ) → ℕ → List ℕ → ℕ → List ℕ
rebin bins z l y = if= y z l (bins y)

-- "Entering means second place, or first where the bin was empty."
unfoldable pub enter : ℕ → List ℕ → List ℕ
enter q [] = q ∷ []
enter q (x ∷ xs) = x ∷ q ∷ xs

-- the list without q
unfoldable pub leave : ℕ → List ℕ → List ℕ
leave q [] = []
leave q (x ∷ xs) = if= x q xs (x ∷ leave q xs)

-- "Within a bin, the second block is used where there is one, else the first."
unfoldable pub used : List ℕ → ℕ
used [] = 0
used (x ∷ []) = x
used (x ∷ y ∷ xs) = y
