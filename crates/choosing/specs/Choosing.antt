-- The model of choosing where a block comes from, on a list of bytes: the block size, then the small or the large way.
use Rattle.std.specs.Prelude.{List, ℕ, ◌+◌}
use Rattle.words.specs.Choice.{if<, if=, when}
use Rattle.words.specs.Sums.{plus}
use Rattle.words.specs.Words.{word_at}
use Rattle.heads.specs.Heads.{block_size}
use Rattle.paper.specs.Layout.{large, small_bins}
use Rattle.bins.specs.declared.chain.Bin.{Bin}
use Rattle.bins.specs.Find.{empty, exact, find_on, none, size}
use Rattle.choosing.specs.Remainder.{remainder}
use Rattle.choosing.specs.declared.Choice.{Choice}
use Rattle.choosing.specs.declared.Choice.TheVariants.{ExactBin, FirstOfBin, HighEnd, LargerBin, LowEnd}
use Rattle.choosing.specs.declared.remainder.Rest.{Rest}
use Rattle.std.specs.declared.result.Result.{Result}
use Rattle.std.specs.declared.result.Result.TheVariants.{Ok, Err}
use Rattle.paper.specs.declared.Refusal.{Refusal}
use Rattle.paper.specs.declared.Refusal.TheVariants.{NoRoom, NoSize}

-- the remainder, if 8 bytes are left of it
unfoldable pub room : List ℕ → ℕ → Result Rest Refusal
room bs b =
    let rest = remainder bs in
    if< rest.size (b + 8) (Err NoRoom) (Ok rest)

-- one of its ends, if there is room
abbrev pub an_end : (Rest → Choice) → Result Rest Refusal → Result Choice Refusal
an_end choice (Ok rest) = Ok (choice rest)
an_end choice (Err k) = Err k

unfoldable pub high_end_choice : List ℕ → ℕ → Result Choice Refusal
high_end_choice bs b = an_end (λ rest. HighEnd rest b) (room bs b)

unfoldable pub low_end_choice : List ℕ → ℕ → Result Choice Refusal
low_end_choice bs b = an_end (λ rest. LowEnd rest b) (room bs b)

unfoldable pub choose_small : List ℕ → ℕ → Result Choice Refusal
choose_small bs b =
    let q = word_at 4 bs (small_bins + b) in
    if= q 0 (high_end_choice bs b) (Ok (FirstOfBin q b))

-- the smallest bin of at least b + 72, past where that of b would stand, or the remainder
unfoldable pub choose_larger : List ℕ → Bin → ℕ → Result Choice Refusal
choose_larger bs at b =
    let larger = find_on bs at (plus b large) in
    when (none larger) (low_end_choice bs b) (Ok (LargerBin larger b))

unfoldable pub choose_large : List ℕ → ℕ → Result Choice Refusal
choose_large bs b =
    let at = exact bs b in
    when (empty bs) (low_end_choice bs b) (if= (size at) b (Ok (ExactBin at b)) (choose_larger bs at b))

unfoldable pub choose : List ℕ → ℕ → Result Choice Refusal
choose bs s =
    if= s 0
    (Err NoSize)
    (if< 65536 (block_size s) (Err NoRoom) (if< (block_size s) large (choose_small bs (block_size s)) (choose_large bs (block_size s))))
