-- What the walks along the blocks promise.
use Rattle.std.specs.Prelude.{◌≡◌, List, [], ◌∷◌, Option, Some, None, IfSome, ℕ, suc, ◌+◌, ◌≤◌}
use Rattle.heads.specs.Heads.{held_flags}
use Rattle.guards.specs.Tests.{Test, less, same}
use Rattle.marks.specs.MarkSets.{bit_marks}
use Rattle.runs.specs.Runs.{Scanned, stray, seen, scan, scanned_between, small}
use Rattle.runs.specs.declared.Seen.{Seen}

-- of a block of size z in a run of small blocks (c is 1) or of large ones (c is 0): the tests of its size alone
abbrev pub of_kind : ℕ → ℕ → List Test
of_kind z c = less 7 z ∷ same (small z) c ∷ []

-- the answer, as the model has it: the marks are what the call left behind
abbrev pub to_seen : Option Seen → List ℕ → Scanned (List ℕ)
to_seen (Some r) ms = seen r.count ms r.sum
to_seen None ms = stray

-- one run; the count and the sum have room
pub record Scans (s : List ℕ) (c e from n0 sum0 : ℕ) (m m' : List ℕ) (r : Option Seen) : Type 0 where
  pub few : IfSome r (λ t. t.count ≤ n0 + e)
  pub less_sum : IfSome r (λ t. t.sum ≤ sum0 + e)
  pub all : to_seen r m' ≡ scan bit_marks s (suc e) c e from held_flags n0 m sum0

-- both runs
pub record ScansBoth (s : List ℕ) (a b e : ℕ) (m m' : List ℕ) (r : Option Seen) : Type 0 where
  pub less_sum : IfSome r (λ t. t.sum ≤ a + e)
  pub all : to_seen r m' ≡ scanned_between bit_marks s a b e m
