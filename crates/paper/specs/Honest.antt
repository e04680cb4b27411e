-- "Inspection accepts a pool exactly if it could have come about honestly: some buffer of that length, laid out, then some takes and
-- give-backs, ends in these very bytes." And "demand 3 holds for each layout by itself" (request 2026-04).
use Rattle.std.specs.Prelude.{◌≡◌, ◌⊎◌, List, [], ◌∷◌, ℕ, ◌<◌, ◌^◌, length}
use Rattle.words.specs.Words.{Bytes}
use Rattle.paper.specs.Allowed.{Allowed}
use Rattle.paper.specs.Calls.{Reading, Reads, lay_out_call, take_call, give_back_call}
use Rattle.paper.specs.Answers.{Out}

-- a take of a size, and a give-back of an offset
pub data Call : Type 0 where
  takes : ℕ → Call
  gives : ℕ → Call

abbrev pub number_of : Call → ℕ
number_of (takes size) = size
number_of (gives offset) = offset

-- what the public call answers and leaves of a pool that reads so, refused or not
abbrev pub outcome : Reading → List ℕ → Call → Out
outcome r bs (takes size) = take_call r bs size
outcome r bs (gives offset) = give_back_call r bs offset

-- the calls, one after the other, make p of bs; each has a 32-bit number
abbrev pub Ends : List ℕ → List Call → List ℕ → Type 0
Ends bs [] p = bs ≡ p
Ends bs (c ∷ cs) p = (number_of c < 2 ^ 32) × (r : Reading) × Reads bs r × Ends (outcome r bs c).after cs p

-- a buffer of bytes, as long as p, whose laying out in that layout is not refused, and calls that end in p
pub record Honest (layout : ℕ) (p : List ℕ) : Type 0 where
  pub buffer : List ℕ
  pub bytes : Bytes buffer
  pub as_long : length buffer ≡ length p
  pub length_allowed : Allowed (length buffer)
  pub layout_named : (layout ≡ 1) ⊎ (layout ≡ 2)
  pub calls : List Call
  pub ends : Ends (lay_out_call buffer layout).after calls p
