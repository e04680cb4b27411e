-- Inside the remainder nothing is governed: what went home keeps its bytes.
use mathlib.Core.List.{◌∷◌}
use mathlib.Core.Logic.{inl}
use mathlib.Core.Option.{none}
use mathlib.Core.Path.{◌∙◌, ◌≡◌, ap, refl, sym}
use Prim.Native.Nat.{◌*◌, ◌+◌, ◌-◌, ◌/◌, ◌<◌, ◌≤◌, ℕ}
use native.Mathlib.Omega.{arith}
use Rattle.paper.proofs.keeps.Kept.{sized-low}
use Rattle.paper.proofs.runs.Flags.{low-flag}
use Rattle.paper.proofs.runs.Walk.{In, in-mid, sized-eight}
use Rattle.paper.proofs.sheet.Fields.{at_block}
use Rattle.paper.specs.Blocks.{State, block, blocks, remainder}
use Rattle.paper.specs.Governed.{sheet}
use Rattle.paper.specs.Granting.{E, R}
use Rattle.paper.specs.Layout.{blocks_at}
use Rattle.paper.specs.Sound.{WellFormed}
use Rattle.words.specs.Choice.{if=-no}

pub inside-remainder : (t : State) → WellFormed t → (i : ℕ) → R t + 4 ≤ i → i < E t → sheet t (i / 4 * 4) ≡ none
inside-remainder t W i l m =
    let al = sized-eight t.low (sized-low t W) in
    let at-R : In (blocks t) blocks_at 1 (R t) (block t.rest remainder) 1 =
    in-mid t.low (block t.rest remainder ∷ t.high) blocks_at 1 (R t) (block t.rest remainder) 1
    (inl (refl, refl, sym (low-flag t.low W.low_ok))) in
    ap (sheet t) (place (i / 4 * 4) (omega arith))
    ∙ at_block t (R t) (block t.rest remainder) 1 (i / 4 * 4 - R t) at-R (omega arith)
    ∙ if=-no (i / 4 * 4 - R t) 0 _ _ (omega arith)
  where
    place : (a : ℕ) → R t ≤ a → a ≡ R t + (a - R t)
    place a k = omega arith
