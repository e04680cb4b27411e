-- "How a block is granted": where the block for a payload comes from; and the answer of a take that it gives, and the state afterwards.
use Rattle.std.specs.Prelude.{[], ◌∷◌, ◌++◌, ℕ, ◌+◌, ◌-◌}
use Rattle.words.specs.Choice.{if=, if<}
use Rattle.heads.specs.Heads.{block_size}
use Rattle.paper.specs.Layout.{blocks_at, large}
use Rattle.paper.specs.Blocks.{held, free, block, State, total, end}
use Rattle.paper.specs.Bins.{first, seek, rebin, enter, leave, used}
use Rattle.paper.specs.Runs.{replace}
use Rattle.std.specs.declared.result.Result.TheVariants.{Ok, Err}
use Rattle.paper.specs.declared.Refusal.TheVariants.{NoRoom, NoSize}
use Rattle.paper.specs.Answers.{Answer}
use Rattle.paper.specs.declared.Refusal.{Refusal}

-- what is answered, and the state afterwards
pub record Result : Type 0 where
  pub answer : Answer
  pub state : State

abbrev pub refused : Refusal → State → Result
refused k s = record { answer = Err k; state = s }

-- "Take returns the payload offset (block start plus 4)."
abbrev pub granted : ℕ → State → Result
granted q s = record { answer = Ok (q + 4); state = s }

-- "R to E: the remainder"
abbrev pub R : State → ℕ
R s = blocks_at + total s.low

abbrev pub E : State → ℕ
E s = R s + s.rest

-- ---- where a block of b bytes comes from

-- One case for each clause of the rule, with b. A larger bin stands with its size, and then b; a refusal with its number.
pub data Choice : Type 0 where
  first_of_bin high_end exact_bin low_end : ℕ → Choice
  larger_bin : ℕ → ℕ → Choice
  refusal : Refusal → Choice

-- ".. if the remainder is at least b + 8; otherwise 4."
abbrev pub if_room : State → ℕ → Choice → Choice
if_room s b c = if< s.rest (b + 8) (refusal NoRoom) c

-- "Small: the first of its bin; otherwise cut from the remainder's high end"
unfoldable pub choose_small : State → ℕ → Choice
choose_small s b = if= (first (s.bins b)) 0 (if_room s b (high_end b)) (first_of_bin b)

-- the size of the smallest bin of at least y, 0 where there is none
unfoldable pub smallest_bin : State → ℕ → ℕ
smallest_bin s y = seek (λ z. if= (first (s.bins z)) 0 0 z) (end s) y

-- "Large, first that applies: a bin of size exactly b; the smallest bin of size at least b + 72, ..; the remainder's low end"
unfoldable pub choose_large : State → ℕ → Choice
choose_large s b =
    let z = smallest_bin s (b + large) in
    if= (first (s.bins b)) 0 (if= z 0 (if_room s b (low_end b)) (larger_bin z b)) (exact_bin b)

-- "A payload of s bytes needs a block of b = s + 4 rounded up to a multiple of 8"; "b of 72 or more is large"; "size is 0" is asked first.
unfoldable pub choose : State → ℕ → Choice
choose s payload =
    if= payload 0
    (refusal NoSize)
    (if< (block_size payload) large (choose_small s (block_size payload)) (choose_large s (block_size payload)))

-- ---- what each choice does

-- the first of the small bin leaves it
unfoldable pub take_first : State → ℕ → Result
take_first s b =
    let q = first (s.bins b) in
    granted q
    (record {
      top = s.top;
      low = s.low;
      rest = s.rest;
      high = replace s.high (E s) q (q + b) (block b held ∷ []);
      bins = rebin s.bins b (leave q (s.bins b));
    })

-- the remainder gives its last b bytes
unfoldable pub cut_high : State → ℕ → Result
cut_high s b =
    granted (E s - b) (record { top = s.top; low = s.low; rest = s.rest - b; high = block b held ∷ s.high; bins = s.bins })

-- "Within a bin, the second block is used where there is one, else the first."
unfoldable pub take_whole : State → ℕ → Result
take_whole s b =
    let q = used (s.bins b) in
    granted q
    (record {
      top = s.top;
      low = replace s.low blocks_at q (q + b) (block b held ∷ []);
      rest = s.rest;
      high = s.high;
      bins = rebin s.bins b (leave q (s.bins b));
    })

-- ".. giving its low b bytes, the rest entering its own bin as a free large block"
unfoldable pub take_part : State → ℕ → ℕ → Result
take_part s z b =
    let q = used (s.bins z) in
    let left = rebin s.bins z (leave q (s.bins z)) in
    granted q
    (record {
      top = s.top;
      low = replace s.low blocks_at q (q + z) (block b held ∷ block (z - b) free ∷ []);
      rest = s.rest;
      high = s.high;
      bins = rebin left (z - b) (enter (q + b) (left (z - b)));
    })

-- the remainder gives its first b bytes
unfoldable pub cut_low : State → ℕ → Result
cut_low s b =
    granted (R s) (record { top = s.top; low = s.low ++ block b held ∷ []; rest = s.rest - b; high = s.high; bins = s.bins })

abbrev pub carry_out : State → Choice → Result
carry_out s (first_of_bin b) = take_first s b
carry_out s (high_end b) = cut_high s b
carry_out s (exact_bin b) = take_whole s b
carry_out s (larger_bin z b) = take_part s z b
carry_out s (low_end b) = cut_low s b
carry_out s (refusal k) = refused k s

unfoldable pub take : State → ℕ → Result
take s payload = carry_out s (choose s payload)
