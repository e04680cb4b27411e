-- What a sheet writes: byte by byte, and when bytes hold it already.
use mathlib.Core.List.{List, [], ◌∷◌}
use mathlib.Core.Logic.{◌⊎◌, inl, inr}
use mathlib.Core.Option.{Option, none, some}
use mathlib.Core.Path.{◌∙◌, ◌≡◌, ap, refl, sym}
use Prim.Native.Nat.{◌%◌, ◌*◌, ◌+◌, ◌/◌, ◌<◌, ◌^◌, ◌≤◌, suc, zero, ℕ}
use native.Mathlib.Nat.{add-suc, add-zero, le_of_suc-le-suc, not-suc-le-zero, suc-add, zero-add}
use native.Mathlib.Omega.{arith}
use lib.ListN.{get_or, length}
use lib.Seq.{ext_get_or}
use Rattle.paper.proofs.sheet.Octets.{octet-word, word-octets}
use Rattle.paper.specs.Sheet.{Holds, Sheet, byte, map_at, octet, pick, write}
use Rattle.words.specs.Words.{Bytes, word_at}

pub length-map_at : (f : ℕ → ℕ → ℕ) (k : ℕ) (xs : List ℕ) → length (map_at f k xs) ≡ length xs
unfolding map_at
length-map_at f k [] = refl
length-map_at f k (x ∷ xs) = ap suc (length-map_at f (suc k) xs)

pub get_or-map_at : (f : ℕ → ℕ → ℕ) (k : ℕ) (xs : List ℕ) (i : ℕ) → i < length xs → get_or (map_at f k xs) i 0 ≡ f (k + i) (get_or xs i 0)
unfolding map_at
get_or-map_at f k [] i h = absurd (not-suc-le-zero h)
get_or-map_at f k (x ∷ xs) zero h = ap (λ (j : ℕ). f j x) (sym (add-zero k))
get_or-map_at f k (x ∷ xs) (suc i) h = get_or-map_at f (suc k) xs i (le_of_suc-le-suc h)
    ∙ ap (λ (j : ℕ). f j (get_or xs i 0)) (suc-add k i ∙ sym (add-suc k i))

pub length-write : (g : Sheet) (bs : List ℕ) → length (write g bs) ≡ length bs
unfolding write
length-write g bs = length-map_at (byte g) 0 bs

pub get_or-write : (g : Sheet) (bs : List ℕ) (i : ℕ) → i < length bs → get_or (write g bs) i 0 ≡ byte g i (get_or bs i 0)
unfolding write
get_or-write g bs i h = get_or-map_at (byte g) 0 bs i h ∙ ap (λ (k : ℕ). byte g k (get_or bs i 0)) (zero-add i)

-- two lists are equal that are as long and agree at each byte: by a sheet's bytes
pub is-write : (g : Sheet) (bs cs : List ℕ) → length cs ≡ length bs → ((i : ℕ) → i < length bs → get_or cs i 0 ≡ byte g i (get_or bs i 0))
    → cs ≡ write g bs
is-write g bs cs l h =
    ext_get_or 0 cs (write g bs) (l ∙ sym (length-write g bs)) (λ i b. let m : i < length bs = omega arith in h i m ∙ sym (get_or-write g bs i m))

pick-twice : (o : Option ℕ) (j x : ℕ) → pick o j (pick o j x) ≡ pick o j x
pick-twice none j x = refl
pick-twice (some v) j x = refl

pub holds-write : (g : Sheet) (bs : List ℕ) → Holds g (write g bs)
unfolding Holds byte
holds-write g bs =
    sym (is-write g (write g bs) (write g bs) refl
    (λ i h. let m : i < length bs = omega (arith, length-write g bs) in
    get_or-write g bs i m ∙ sym (pick-twice (g (i / 4 * 4)) (i % 4) (get_or bs i 0)) ∙ ap (byte g i) (sym (get_or-write g bs i m))))

-- ungoverned bytes stay
pub write_keeps : (g : Sheet) (bs : List ℕ) (i : ℕ) → i < length bs → g (i / 4 * 4) ≡ none → get_or (write g bs) i 0 ≡ get_or bs i 0
unfolding byte
write_keeps g bs i h e = get_or-write g bs i h ∙ ap (λ (o : Option ℕ). pick o (i % 4) (get_or bs i 0)) e

unique-at : (o : Option ℕ) (j x y : ℕ) → pick o j y ≡ y → (o ≡ none → y ≡ x) → y ≡ pick o j x
unique-at none j x y h k = k refl
unique-at (some v) j x y h k = sym h

-- what holds the sheet, and agrees with bs where the sheet says nothing, is what is written
pub write-unique : (g : Sheet) (bs cs : List ℕ) → length cs ≡ length bs → Holds g cs
    → ((i : ℕ) → i < length bs → g (i / 4 * 4) ≡ none → get_or cs i 0 ≡ get_or bs i 0) → cs ≡ write g bs
unfolding Holds byte
write-unique g bs cs l h k =
    is-write g bs cs l
    (λ i b. let m : i < length cs = omega arith in
    unique-at (g (i / 4 * 4)) (i % 4) (get_or bs i 0) (get_or cs i 0)
    (sym (get_or-write g cs i m) ∙ ap (λ (t : List ℕ). get_or t i 0) h) (k i b))

-- a governed word reads its value
pub holds-word : (g : Sheet) (bs : List ℕ) (a v : ℕ) → Holds g bs → a % 4 ≡ 0 → a + 4 ≤ length bs → v < 256 ^ 4 → g a ≡ some v → word_at 4 bs a ≡ v
unfolding Holds byte
holds-word g bs a v h al l s e =
    word-octets 4 bs a v l s
    (λ j b. ap (λ (t : List ℕ). get_or t (a + j) 0) (sym h) ∙ get_or-write g bs (a + j) (omega arith)
    ∙ ap (λ (o : Option ℕ). pick o ((a + j) % 4) (get_or bs (a + j) 0)) (ap g (omega arith) ∙ e)
    ∙ ap (octet v) (omega arith))

-- ---- phases
-- what keeps the governed bytes holds the sheet still
pub holds-through : (g : Sheet) (bs cs : List ℕ) → length cs ≡ length bs → Holds g bs
    → ((i : ℕ) → i < length bs → (g (i / 4 * 4) ≡ none) ⊎ (get_or cs i 0 ≡ get_or bs i 0)) → Holds g cs
unfolding Holds byte
holds-through g bs cs l h k =
    sym (is-write g cs cs refl (λ i b. let m : i < length bs = omega arith in at i m (k i m)))
  where
    at : (i : ℕ) → i < length bs → (g (i / 4 * 4) ≡ none) ⊎ (get_or cs i 0 ≡ get_or bs i 0) → get_or cs i 0 ≡ byte g i (get_or cs i 0)
    at i m (inl e) = sym (ap (λ (o : Option ℕ). pick o (i % 4) (get_or cs i 0)) e)
    at i m (inr e) = e ∙ sym (sym (get_or-write g bs i m) ∙ ap (λ (t : List ℕ). get_or t i 0) h) ∙ ap (byte g i) (sym e)

over-at : (o : Option ℕ) (j x y : ℕ) → (o ≡ none → x ≡ y) → pick o j x ≡ pick o j y
over-at none j x y k = k refl
over-at (some v) j x y k = refl

-- a sheet hides every change at the words that it governs: it is enough that the others are as they were
pub write-over : (g : Sheet) (bs cs : List ℕ) → length cs ≡ length bs → ((i : ℕ) → i < length bs → g (i / 4 * 4) ≡ none → get_or cs i 0 ≡ get_or bs i 0)
    → write g cs ≡ write g bs
unfolding byte
write-over g bs cs l k =
    is-write g bs (write g cs) (length-write g cs ∙ l)
    (λ i b. get_or-write g cs i (omega arith) ∙ over-at (g (i / 4 * 4)) (i % 4) (get_or cs i 0) (get_or bs i 0) (k i b))

-- a phase changes nothing where its sheet has nothing new
pub phase-keeps : (g g' : Sheet) (bs : List ℕ) (i : ℕ) → Holds g bs → i < length bs → (g' (i / 4 * 4) ≡ none) ⊎ (g' (i / 4 * 4) ≡ g (i / 4 * 4))
    → get_or (write g' bs) i 0 ≡ get_or bs i 0
unfolding Holds byte
phase-keeps g g' bs i h b (inl e) = write_keeps g' bs i b e
phase-keeps g g' bs i h b (inr e) =
    get_or-write g' bs i b ∙ ap (λ (o : Option ℕ). pick o (i % 4) (get_or bs i 0)) e ∙ sym (get_or-write g bs i b) ∙ ap (λ (t : List ℕ). get_or t i 0) h

-- the word at a is as the sheet has it
abbrev pub Ok : List ℕ → ℕ → Option ℕ → Type 0
Ok bs a none = Unit {0}
Ok bs a (some v) = word_at 4 bs a ≡ v

pub ok_from : (bs : List ℕ) (a : ℕ) (o : Option ℕ) → ((v : ℕ) → o ≡ some v → word_at 4 bs a ≡ v) → Ok bs a o
ok_from bs a none h = tt
ok_from bs a (some v) h = h v refl

pick-ok : (bs : List ℕ) (i : ℕ) (o : Option ℕ) → i / 4 * 4 + 4 ≤ length bs → Bytes bs → Ok bs (i / 4 * 4) o → get_or bs i 0 ≡ pick o (i % 4) (get_or bs i 0)
pick-ok bs i none l h k = refl
pick-ok bs i (some v) l h k = ap (λ (j : ℕ). get_or bs j 0) (omega arith) ∙ sym (octet-word 4 bs (i / 4 * 4) (i % 4) l h (omega arith))
    ∙ ap (λ (w : ℕ). octet w (i % 4)) k

pub holds-from : (g : Sheet) (bs : List ℕ) → length bs % 4 ≡ 0 → Bytes bs → ((a : ℕ) → a % 4 ≡ 0 → a < length bs → Ok bs a (g a)) → Holds g bs
unfolding Holds byte
holds-from g bs m h k =
    sym (is-write g bs bs refl (λ i l. pick-ok bs i (g (i / 4 * 4)) (omega arith) h (k (i / 4 * 4) (omega arith) (omega arith))))
