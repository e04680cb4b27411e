-- Stores over whatever stands in a buffer, as a sheet: a store over what a sheet writes is what that sheet writes with one word more.
-- The later store counts, so nothing need be known of the buffer or of the words that are stored twice.
use mathlib.Core.List.{List}
use mathlib.Core.Logic.{◌≢◌, ◌⊎◌, inl, inr}
use mathlib.Core.Option.{Option, none, some}
use mathlib.Core.Path.{◌∙◌, ◌≡◌, ap, refl, sym}
use Prim.Native.Nat.{◌%◌, ◌*◌, ◌+◌, ◌/◌, ◌<◌, ◌≤◌, suc, zero, ℕ}
use native.Mathlib.Omega.{arith}
use lib.ListN.{get_or, length}
use Rattle.paper.proofs.sheet.Octets.{get_or-put-in}
use Rattle.paper.proofs.sheet.Written.{get_or-write, is-write, length-write}
use Rattle.paper.specs.Sheet.{Sheet, byte, pick, write}
use Rattle.laying.specs.LayingOut.{cleared_to}
use Rattle.words.proofs.Laws.{get_or-put, put-add, put-length}
use Rattle.words.specs.Choice.{by<, by=, if<, if<-no, if<-yes, if=, if=-no, if=-yes, lt?}
use Rattle.words.specs.Words.{put_at}

-- the sheet with the value v at a
unfoldable pub over : ℕ → ℕ → Sheet → Sheet
over a v g x = if= x a (some v) (g x)

-- k words of 0
unfoldable pub zeros : ℕ → Sheet
zeros k x = if< x (4 * k) (some 0) none

pub write_same : (g g' : Sheet) (bs : List ℕ) → ((a : ℕ) → a % 4 ≡ 0 → a < length bs → g a ≡ g' a) → write g bs ≡ write g' bs
unfolding byte
write_same g g' bs h =
    is-write g' bs (write g bs) (length-write g bs)
    (λ i l. get_or-write g bs i l ∙ ap (λ (o : Option ℕ). pick o (i % 4) (get_or bs i 0)) (h (i / 4 * 4) (omega arith) (omega arith)))

pub put-over : (g : Sheet) (bs : List ℕ) (a v : ℕ) → a % 4 ≡ 0 → a + 4 ≤ length bs → put_at 4 (write g bs) a v ≡ write (over a v g) bs
unfolding byte over
put-over g bs a v al l =
    is-write (over a v g) bs (put_at 4 (write g bs) a v) (put-length 4 (write g bs) a v ∙ length-write g bs)
    (λ i b. by= (i / 4 * 4) a
    (λ e. get_or-put-in 4 (write g bs) a v i (i % 4) (omega arith) (omega arith) (omega (arith, length-write g bs))
    ∙ ap (λ (o : Option ℕ). pick o (i % 4) (get_or bs i 0)) (sym (if=-yes (i / 4 * 4) a (some v) (g (i / 4 * 4)) e)))
    (λ n. get_or-put 4 (write g bs) a v i (side i n (lt? i a)) ∙ get_or-write g bs i b
    ∙ ap (λ (o : Option ℕ). pick o (i % 4) (get_or bs i 0)) (sym (if=-no (i / 4 * 4) a (some v) (g (i / 4 * 4)) n))))
  where
    side : (i : ℕ) → i / 4 * 4 ≢ a → (i < a) ⊎ (a ≤ i) → (i < a) ⊎ (a + 4 ≤ i)
    side i n (inl h) = inl h
    side i n (inr h) = inr (omega arith)

-- a word of 8 bytes whose high half is 0
pub put-over-8 : (g : Sheet) (bs : List ℕ) (a v : ℕ) → a % 4 ≡ 0 → a + 8 ≤ length bs → v < 4294967296
    → put_at 8 (write g bs) a v ≡ write (over (a + 4) 0 (over a v g)) bs
put-over-8 g bs a v al l h =
    let z : v / 4294967296 ≡ 0 = omega arith in
    put-add 4 4 (write g bs) a v (omega (arith, length-write g bs)) ∙ ap (λ (k : ℕ). put_at 4 (put_at 4 (write g bs) a v) (a + 4) k) z
    ∙ ap (λ (t : List ℕ). put_at 4 t (a + 4) 0) (put-over g bs a v al (omega arith))
    ∙ put-over (over a v g) bs (a + 4) 0 (omega arith) (omega arith)

pub cleared-zeros : (k : ℕ) (bs : List ℕ) → 4 * k ≤ length bs → cleared_to k bs ≡ write (zeros k) bs
unfolding cleared_to byte zeros over
cleared-zeros zero bs l =
    is-write (zeros 0) bs bs refl
    (λ i b. ap (λ (o : Option ℕ). pick o (i % 4) (get_or bs i 0)) (sym (if<-no {A = Option ℕ} (i / 4 * 4) 0 (some 0) none (omega arith))))
cleared-zeros (suc k) bs l =
    ap (λ (t : List ℕ). put_at 4 t (4 * k) 0) (cleared-zeros k bs (omega arith))
    ∙ put-over (zeros k) bs (4 * k) 0 (omega arith) (omega arith)
    ∙ write_same (over (4 * k) 0 (zeros k)) (zeros (suc k)) bs
    (λ a al b. by= a (4 * k)
    (λ e. if=-yes a (4 * k) _ _ e ∙ sym (if<-yes a (4 * suc k) _ _ (omega arith)))
    (λ n. if=-no a (4 * k) _ _ n ∙ by< a (4 * k)
    (λ h. if<-yes a (4 * k) _ _ h ∙ sym (if<-yes a (4 * suc k) _ _ (omega arith)))
    (λ h. if<-no a (4 * k) _ _ h ∙ sym (if<-no a (4 * suc k) _ _ (omega arith)))))
