-- One step along the blocks: the block that stands next on the way, and where the way goes on behind it.
use Rattle.std.specs.Prelude.{◌≡◌, ◌≢◌, ◌⊎◌, List, ℕ, ◌+◌, ◌^◌, ◌<◌, ◌≤◌, Option, MatchOption}
use Rattle.walk.specs.declared.blocks.Block.{Block}
use Rattle.walk.specs.declared.blocks.Blocks.{Blocks}
use Rattle.walk.specs.Blocks.{head_at}

-- the way from one position to another
pub record Between (bs : List ℕ) (from to : ℕ) (s : Blocks) : Type 0 where
  pub pool : s.pool.now ≡ bs
  pub at : s.at ≡ from
  pub end : s.end ≡ to

-- the block at the place s stands at, behind which t stands
pub record Step (s : Blocks) (b : Block) (t : Blocks) : Type 0 where
  pub below : s.at < s.end
  pub start : b.start ≡ s.at
  pub head : b.head ≡ head_at s.pool.now s.at
  pub sized : b.head.size ≢ 0
  pub short : b.head.size < 2 ^ 30
  pub on : t.at ≡ s.at + b.head.size

-- the way ends at s: there is no more room, or a size of 0
abbrev pub Ends : Blocks → Type 0
Ends s = (s.end ≤ s.at) ⊎ ((s.at < s.end) × ((head_at s.pool.now s.at).size ≡ 0))

pub record Steps (s : Blocks) (r : Option Block) (t : Blocks) : Type 0 where
  pub pool : t.pool.now ≡ s.pool.now
  pub end : t.end ≡ s.end
  pub gives : MatchOption r (Ends s) (λ b. Step s b t)
