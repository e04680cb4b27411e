-- A step of an operation makes the bytes of the next sheet, and keeps every byte of a word at which it stores nothing.
use mathlib.Core.List.{List}
use mathlib.Core.Path.{◌∙◌, ◌≡◌, ap, subst, sym}
use Prim.Native.Nat.{◌%◌, ◌*◌, ◌/◌, ◌<◌, ℕ}
use native.Mathlib.Omega.{arith}
use lib.ListN.{get_or, length}
use Rattle.paper.proofs.steps.Leave.{NothingNew}
use Rattle.paper.proofs.sheet.Stores.{Elsewhere, Good, finish, puts}
use Rattle.paper.proofs.sheet.Written.{holds-write, phase-keeps}
use Rattle.paper.specs.Sheet.{Holds, Sheet, write}

pub record Step (n : ℕ) (g g' : Sheet) (ps : List (ℕ × ℕ)) : Type 0 where
  pub good : Good g' n ps
  pub frame : (a : ℕ) → a % 4 ≡ 0 → a < n → Elsewhere a ps → NothingNew (g' a) (g a)

module _ (g g' : Sheet) (bs : List ℕ) (ps : List (ℕ × ℕ)) (S : Step (length bs) g g' ps) (h : Holds g bs) where
  pub step-write : puts ps bs ≡ write g' bs
  step-write = finish g g' bs ps h S.good S.frame

  pub step-holds : Holds g' (puts ps bs)
  step-holds = subst (Holds g') (sym step-write) (holds-write g' bs)

  -- a byte of a word at which nothing was stored
  pub step_keeps : (i : ℕ) → i < length bs → Elsewhere (i / 4 * 4) ps → get_or (puts ps bs) i 0 ≡ get_or bs i 0
  step_keeps i l o = ap (λ (t : List ℕ). get_or t i 0) step-write ∙ phase-keeps g g' bs i h l (S.frame (i / 4 * 4) (omega arith) (omega arith) o)
