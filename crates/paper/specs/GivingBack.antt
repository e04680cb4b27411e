-- "How a block comes back": the answer of a give-back, and the state afterwards; and asking, which answers the same.
use Rattle.std.specs.Prelude.{List, [], ◌∷◌, ℕ, ◌+◌, ◌-◌}
use Rattle.words.specs.Choice.{if=, if<}
use Rattle.paper.specs.Layout.{blocks_at, large}
use Rattle.paper.specs.Blocks.{free, block, State}
use Rattle.paper.specs.Bins.{rebin, enter, leave}
use Rattle.paper.specs.Runs.{under, replace, starts_at, ends_at, free_size}
use Rattle.paper.specs.Granting.{Result, refused, R, E}
use Rattle.paper.specs.GoingHome.{go_home}
use Rattle.paper.specs.LookingUp.{look_up, by_offset}
use Rattle.std.specs.declared.result.Result.TheVariants.{Ok, Err}
use Rattle.paper.specs.Answers.{Answer}

-- "Ask returns the payload bytes, block size less 4"
unfoldable pub ask : State → ℕ → Answer
ask s offset = by_offset (look_up s offset) offset Err (λ q z. Ok (z - 4))

-- "Small: put at the front of its bin." What then stands at E may go home.
unfoldable pub give_back_small : State → ℕ → ℕ → State
give_back_small s q z =
    record {
      top = s.top;
      low = s.low;
      rest = s.rest;
      high = replace s.high (E s) q (q + z) (block z free ∷ []);
      bins = rebin s.bins z (q ∷ s.bins z);
    }

-- a free large block of size z at q leaves its bin; z is 0 where there is none
unfoldable pub left : (ℕ → List ℕ) → ℕ → ℕ → ℕ → List ℕ
left bins z q = if= z 0 bins (rebin bins z (leave q (bins z)))

-- the run from a to e, whose neighbours have left: "if the run then touches R, it joins the remainder; otherwise it enters its bin"
unfoldable pub settle : State → (ℕ → List ℕ) → ℕ → ℕ → State
settle s bins a e =
    if= e (R s)
    (record { top = s.top; low = under s.low blocks_at a; rest = e - a + s.rest; high = s.high; bins = bins })
    (record {
      top = s.top;
      low = replace s.low blocks_at a e (block (e - a) free ∷ []);
      rest = s.rest;
      high = s.high;
      bins = rebin bins (e - a) (enter a (bins (e - a)));
    })

-- "Large: joined with the free large block below and the one above, which leave their bins."
unfoldable pub give_back_large : State → ℕ → ℕ → State
give_back_large s q z =
    let d = ends_at free_size s.low blocks_at q in
    let u = starts_at free_size s.low blocks_at (q + z) in
    settle s (left (left s.bins d (q - d)) u (q + z)) (q - d) (q + z + u)

-- "Give-back returns the payload bytes, block size less 4, read from the head."
unfoldable pub give_back : State → ℕ → Result
give_back s offset =
    by_offset (look_up s offset) offset
    (λ k. refused k s)
    (λ q z. record { answer = Ok (z - 4); state = if< z large (go_home (give_back_small s q z)) (give_back_large s q z) })
