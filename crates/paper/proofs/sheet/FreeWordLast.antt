-- The free word is stored last by the model and first by the paper's steps: stores past it can be made before it or after it.
-- And a word that a sheet does not govern is none at which a store fits that sheet.
use mathlib.Core.List.{List, [], ◌++◌, ◌∷◌}
use mathlib.Core.Logic.{◌≢◌, inl, inr}
use mathlib.Core.Option.{Option, none, some}
use mathlib.Core.Path.{◌∙◌, ◌≡◌, ap, refl, sym}
use Prim.Native.Nat.{◌*◌, ◌-◌, ◌/◌, ◌≤◌, ℕ}
use native.Mathlib.Omega.{arith}
use lib.ListN.{get_or, length}
use Rattle.paper.proofs.sheet.Stores.{Good, puts}
use Rattle.paper.proofs.runs.Walk.{free_sum-le}
use Rattle.paper.proofs.sheet.Written.{holds-word}
use Rattle.paper.specs.Blocks.{State, blocks, end, free_sum}
use Rattle.paper.specs.Governed.{header_word, sheet}
use Rattle.paper.specs.Layout.{free_word_at}
use Rattle.paper.specs.Sheet.{Holds, Sheet}
use Rattle.words.proofs.Laws.{get_or-put, put-comm, word-apart}
use Rattle.words.specs.Choice.{by<, if<, if=}
use Rattle.words.specs.Words.{put_at, word_at}

pub puts-append : (ps qs : List (ℕ × ℕ)) (bs : List ℕ) → puts (ps ++ qs) bs ≡ puts qs (puts ps bs)
puts-append [] qs bs = refl
puts-append (p ∷ ps) qs bs = puts-append ps qs (put_at 4 bs p.0 p.1)

-- all stores are past the free word
abbrev pub Past : List (ℕ × ℕ) → Type 0
Past [] = Unit {0}
Past (p ∷ ps) = (4 ≤ p.0) × Past ps

pub past_word : (ps : List (ℕ × ℕ)) (bs : List ℕ) → Past ps → word_at 4 (puts ps bs) free_word_at ≡ word_at 4 bs free_word_at
past_word [] bs h = refl
past_word (p ∷ ps) bs h = past_word ps (put_at 4 bs p.0 p.1) h.1 ∙ word-apart 4 bs 0 4 p.0 p.1 (inl h.0)

pub past-put : (ps : List (ℕ × ℕ)) (bs : List ℕ) (v : ℕ) → Past ps → put_at 4 (puts ps bs) free_word_at v ≡ puts ps (put_at 4 bs free_word_at v)
past-put [] bs v h = refl
past-put (p ∷ ps) bs v h =
    past-put ps (put_at 4 bs p.0 p.1) v h.1 ∙ ap (puts ps) (put-comm 4 bs 0 v 4 p.0 p.1 (inl h.0))

some-not-none : (x : Option ℕ) (v : ℕ) → x ≡ some v → x ≡ none → ⊥
some-not-none x v e f = let z : ◌≡◌ {A = ℕ} 0 1 = cc in omega arith

-- a byte of a word that the sheet does not govern
pub good-keeps : (g : Sheet) (n : ℕ) (ps : List (ℕ × ℕ)) (bs : List ℕ) → Good g n ps → (i : ℕ) → g (i / 4 * 4) ≡ none
    → get_or (puts ps bs) i 0 ≡ get_or bs i 0
good-keeps g n [] bs h i e = refl
good-keeps g n (p ∷ ps) bs h i e =
    good-keeps g n ps (put_at 4 bs p.0 p.1) h.1 i e
    ∙ get_or-put 4 bs p.0 p.1 i (by< i p.0 (λ l. inl l) (λ l. inr (omega (arith, h.0.0, apart))))
  where
    apart : i / 4 * 4 ≢ p.0
    apart k = some-not-none (g p.0) p.1 h.0.2 (ap g (sym k) ∙ e)

-- the free word of bytes that hold a state's sheet, between two steps too
pub free-word-reads : (bs : List ℕ) (s : State) → end s ≤ 65536 → length bs ≡ end s → Holds (sheet s) bs → word_at 4 bs free_word_at ≡ free_sum (blocks s) - 4
unfolding sheet header_word if< if=
free-word-reads bs s fits l h =
    holds-word (sheet s) bs 0 (free_sum (blocks s) - 4) h refl (omega arith) (omega (arith, free_sum-le (blocks s))) refl
