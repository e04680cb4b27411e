-- "After a call each governed byte has the value that the new blocks and lists give it; every other byte of the pool keeps its old value."
use Rattle.std.specs.Prelude.{◌≡◌, List, [], ◌∷◌, ℕ, suc, ◌*◌, ◌/◌, ◌%◌, ◌^◌}
use Rattle.std.proofs.Math.Option.{Option, none, some}

-- the governed words: at each address that is a multiple of 4 a value of 4 bytes, or none
abbrev pub Sheet : Type 0
Sheet = ℕ → Option ℕ

-- byte j of a word, the low one first
abbrev pub octet : ℕ → ℕ → ℕ
octet v j = v / 256 ^ j % 256

-- byte j of a governed word, or the old byte
abbrev pub pick : Option ℕ → ℕ → ℕ → ℕ
pick none j old = old
pick (some v) j old = octet v j

-- byte i of the pool
unfoldable pub byte : Sheet → ℕ → ℕ → ℕ
byte g i old = pick (g (i / 4 * 4)) (i % 4) old

-- a map that sees the index
unfoldable pub map_at : (ℕ → ℕ → ℕ) → ℕ → List ℕ → List ℕ
map_at f k [] = []
map_at f k (x ∷ xs) = f k x ∷ map_at f (suc k) xs

-- the governed words put over the bytes
unfoldable pub write : Sheet → List ℕ → List ℕ
write g bs = map_at (byte g) 0 bs

-- each governed byte has its value already
unfoldable pub Holds : Sheet → List ℕ → Type 0
Holds g bs = write g bs ≡ bs
