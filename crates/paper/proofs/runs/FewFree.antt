-- There are at most as many free large blocks as held large ones: right above each free one stands a held one.
use mathlib.Core.List.{List, [], ◌∷◌}
use mathlib.Core.Path.{◌≡◌, refl}
use Prim.Native.Nat.{◌≤◌, ℕ}
use native.Mathlib.Omega.{arith}
use Rattle.paper.proofs.runs.Splitting.{sum_of-append}
use Rattle.paper.specs.Blocks.{Block, State, block, blocks, free, held, remainder}
use Rattle.paper.specs.Counting.{free_large_one}
use Rattle.paper.specs.Layout.{large}
use Rattle.paper.specs.Runs.{sum_of}
use Rattle.paper.specs.Sound.{High, Low, WellFormed}
use Rattle.words.specs.Choice.{if<, if<-no, if<-yes}

-- 1 for a held large block
abbrev pub held_large_one : Block → ℕ
held_large_one (block z held) = if< z large 0 1
held_large_one (block z free) = 0
held_large_one (block z remainder) = 0

pub low-few-free : (xs : List Block) → Low xs → sum_of free_large_one xs ≤ sum_of held_large_one xs
unfolding sum_of
low-few-free [] h = omega arith
low-few-free (block z held ∷ xs) h = omega (arith, low-few-free xs h.1)
low-few-free (block z remainder ∷ xs) h = absurd h
low-few-free (block z free ∷ []) h = absurd h
low-few-free (block z free ∷ block y held ∷ xs) h =
    omega (arith, low-few-free xs h.2, if<-no {A = ℕ} z large 0 1 h.0, if<-no {A = ℕ} y large 0 1 h.1)
low-few-free (block z free ∷ block y free ∷ xs) h = absurd h
low-few-free (block z free ∷ block y remainder ∷ xs) h = absurd h

pub high-no-free-large : (xs : List Block) → High xs → sum_of free_large_one xs ≡ 0
unfolding sum_of
high-no-free-large [] h = refl
high-no-free-large (block z held ∷ xs) h = omega (arith, high-no-free-large xs h.1)
high-no-free-large (block z free ∷ xs) h =
    omega (arith, high-no-free-large xs h.1, if<-yes {A = ℕ} z large 0 1 (omega (arith, h.0)))
high-no-free-large (block z remainder ∷ xs) h = absurd h

pub few-free : (s : State) → WellFormed s → sum_of free_large_one (blocks s) ≤ sum_of held_large_one (blocks s)
unfolding sum_of
few-free s W = omega (
  arith,
  sum_of-append free_large_one s.low (block s.rest remainder ∷ s.high),
  sum_of-append held_large_one s.low (block s.rest remainder ∷ s.high),
  low-few-free s.low W.low_ok,
  high-no-free-large s.high W.high_ok,
)
