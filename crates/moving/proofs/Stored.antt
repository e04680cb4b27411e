-- The stores that were made so far, one more at a time: each fits the sheet after, and a word at which one was made stays stored.
use mathlib.Core.List.{List, [], ◌++◌, ◌∷◌}
use mathlib.Core.Option.{some}
use mathlib.Core.Path.{◌∙◌, ◌≡◌, ap, refl, sym}
use Prim.Native.Nat.{◌%◌, ◌+◌, ◌≤◌, ℕ}
use Rattle.paper.proofs.sheet.FreeWordLast.{puts-append}
use Rattle.paper.proofs.sheet.StoreRuns.{elsewhere-append, good-append}
use Rattle.paper.proofs.sheet.Stores.{Elsewhere, Good, puts}
use Rattle.paper.specs.Sheet.{Sheet}
use Rattle.words.specs.Words.{put_at}

-- a is a word of n bytes, and the sheet has v there
abbrev pub Fits : Sheet → ℕ → ℕ → ℕ → Type 0
Fits g n a v = (a % 4 ≡ 0) × (a + 4 ≤ n) × (g a ≡ some v)

-- a store is at a
abbrev pub Stored : ℕ → List (ℕ × ℕ) → Type 0
Stored a ps = Elsewhere a ps → ⊥

-- one more store
abbrev pub also : List (ℕ × ℕ) → ℕ → ℕ → List (ℕ × ℕ)
also ps a v = ps ++ (a, v) ∷ []

pub stored-still : (ps : List (ℕ × ℕ)) (a b v : ℕ) → Stored a ps → Stored a (also ps b v)
stored-still ps a b v h o = h (elsewhere-append a ps ((b, v) ∷ []) o).0

pub stored-now : (ps : List (ℕ × ℕ)) (a v : ℕ) → Stored a (also ps a v)
stored-now ps a v o = (elsewhere-append a ps ((a, v) ∷ []) o).1.0 refl

-- the stores ps made cs of bs, which are n bytes, and each fits the sheet
pub record Made (g : Sheet) (n : ℕ) (bs cs : List ℕ) (ps : List (ℕ × ℕ)) : Type 0 where
  pub is : cs ≡ puts ps bs
  pub good : Good g n ps

pub nothing-made : (g : Sheet) (n : ℕ) (bs : List ℕ) → Made g n bs bs []
nothing-made g n bs = record { is = refl; good = tt }

pub made-also : {g : Sheet} {n : ℕ} {bs cs : List ℕ} {ps : List (ℕ × ℕ)} → Made g n bs cs ps → (a v : ℕ) → Fits g n a v
    → Made g n bs (put_at 4 cs a v) (also ps a v)
made-also {g} {n} {bs} {cs} {ps} M a v F =
    record {
      is = ap (λ (k : List ℕ). put_at 4 k a v) M.is ∙ sym (puts-append ps ((a, v) ∷ []) bs);
      good = good-append g n ps ((a, v) ∷ []) M.good (F, tt);
    }
