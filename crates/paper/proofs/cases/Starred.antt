-- The starred cases of "On both sides of the edge", one list under one claim: each is computed by the definitions.
use mathlib.Core.Path.{◌≡◌, refl}
use mathlib.Core.Option.{Option, some}
use mathlib.Core.List.{List, [], ◌∷◌}
use Prim.Native.Nat.{ℕ}
use Rattle.words.specs.Choice.{if<, if=}
use Rattle.heads.specs.Heads.{block_size}
use Rattle.heads.specs.Links.{link_word}
use Rattle.classes.specs.Class.{class_of, least_from, size}
use Rattle.paper.specs.Blocks.{held, free, block, State}
use Rattle.paper.specs.Bins.{first, prev_in, next_in, seek}
use lib.Count.{count_trailing_zeros}
use Rattle.paper.specs.Governed.{height, reach, above, index, large_word, small_word, walk, header_word, sheet}
use Rattle.paper.specs.Fresh.{fresh}

-- one block of 104 bytes at 168, held or free, and a held one of 72 above it
abbrev two : State
two = record { top = 1; low = block 104 held ∷ block 72 held ∷ []; rest = 680; high = []; bins = λ z. [] }

abbrev one_free : State
one_free =
    record {
      top = 1;
      low = block 104 free ∷ block 72 held ∷ [];
      rest = 680;
      high = [];
      bins = λ z. if= z 104 (168 ∷ []) [];
    }

-- free blocks of equal size at 168 and 400
abbrev equals : State
equals =
    record {
      top = 1;
      low = block 80 free ∷ block 152 held ∷ block 80 free ∷ block 72 held ∷ [];
      rest = 472;
      high = [];
      bins = λ z. if= z 80 (168 ∷ 400 ∷ []) [];
    }

pub computed : List (Option ℕ)
computed =
    some (block_size 1) ∷ some (block_size 4) ∷ some (block_size 5) ∷ some (block_size 12) ∷ some (block_size 60) ∷ some (block_size 61)
    ∷ sheet (fresh 1 1024) 168 ∷ sheet (fresh 1 1024) 0
    ∷ sheet two 168 ∷ sheet one_free 168 ∷ sheet one_free 272
    ∷ sheet equals 176 ∷ sheet equals 404
    ∷ some (class_of 12) ∷ some (class_of 60)
    ∷ []

pub stated : List (Option ℕ)
stated =
    some 8 ∷ some 8 ∷ some 16 ∷ some 16 ∷ some 64 ∷ some 72
    ∷ some 3426 ∷ some 852
    ∷ some 419 ∷ some 418 ∷ some 289
    ∷ some 232 ∷ some 4294967064
    ∷ some 2 ∷ some 12
    ∷ []

pub starred-cases : computed ≡ stated
unfolding computed stated block_size if< if= link_word class_of least_from size first prev_in next_in seek count_trailing_zeros height reach above index large_word small_word walk header_word sheet fresh
starred-cases = refl
