-- The inspection computed: a fresh pool and one with lists are accepted, in either layout, and with one word changed they are refused.
use mathlib.Core.Bool.{false, true}
use mathlib.Core.List.{List, [], ◌∷◌}
use mathlib.Core.Path.{◌≡◌, refl}
use Prim.Native.Nat.{ℕ}
use lib.Count.{count_trailing_zeros}
use lib.ListN.{replicate}
use Rattle.heads.specs.Heads.{free_head, word_of}
use Rattle.heads.specs.Links.{followed, link_word}
use Rattle.header.specs.Header.{cleared}
use Rattle.accept.specs.Inspect.{inspect, scanned}
use Rattle.levels.specs.Levels.{top_of}
use Rattle.lists.specs.Index.{climb, climbed, ended, first_indexed, indexed, nothing}
use Rattle.lists.specs.Lists.{chain, follow, lists, smalls}
use Rattle.marks.specs.MarkSets.{bit_marks, mark_at}
use Rattle.runs.specs.Runs.{scan}
use Rattle.marks.specs.Marks.{bit_at, put_bit, put_bit_at}
use Rattle.paper.specs.Allowed.{allowed}
use Rattle.paper.specs.Bins.{first, next_in, prev_in, seek}
use Rattle.paper.specs.Blocks.{State, block, free, held}
use Rattle.paper.specs.Governed.{above, header_word, height, index, large_word, reach, sheet, small_word, walk}
use Rattle.paper.specs.Sheet.{byte, map_at, write}
use Rattle.words.specs.Choice.{if<, if=}
use Rattle.words.specs.Words.{digits_at, put_at, put_digits, word_at}

fresh : ℕ → State
fresh t = record { top = t; low = []; rest = 8; high = []; bins = λ z. [] }

fresh-pool : ℕ → List ℕ
fresh-pool t = write (sheet (fresh t)) (replicate 176 0)

listed-bins : ℕ → List ℕ
listed-bins z = if= z 72 (168 ∷ 312 ∷ []) (if= z 80 (456 ∷ []) (if= z 16 (616 ∷ []) []))

-- sizes 72 and 80: in layout 2 the first stands on one level, the second on two
listed : ℕ → State
listed t =
    record {
      top = t;
      low = block 72 free ∷ block 72 held ∷ block 72 free ∷ block 72 held ∷ block 80 free ∷ block 72 held ∷ [];
      rest = 8;
      high = block 16 free ∷ [];
      bins = listed-bins;
    }

listed-pool : ℕ → List ℕ
listed-pool t = write (sheet (listed t)) (replicate 632 0)

fresh-accepted : inspect bit_marks (fresh-pool 1) ∷ inspect bit_marks (fresh-pool 13) ∷ [] ≡ true ∷ true ∷ []
unfolding fresh fresh-pool write byte map_at digits_at put_digits word_at sheet header_word if= if< walk index large_word small_word link_word height count_trailing_zeros reach above seek first prev_in next_in followed cleared top_of climb climbed indexed first_indexed nothing ended smalls chain lists scanned inspect allowed follow scan mark_at bit_at put_bit_at put_bit free_head word_of
fresh-accepted = refl

-- in turn: as it is; another level word; no link back; another size; a chain that goes on; two members that point at each other;
-- another free word; a high half that is not 0; a bin whose first block was taken off; a reserved word of the false block
listed_tried :
    inspect bit_marks (listed-pool 1) ∷ inspect bit_marks (put_at 4 (listed-pool 1) 180 2) ∷ inspect bit_marks (put_at 4 (listed-pool 1) 316 0)
    ∷ inspect bit_marks (put_at 4 (listed-pool 1) 456 290) ∷ inspect bit_marks (put_at 4 (listed-pool 1) 520 4)
    ∷ inspect bit_marks (put_at 4 (listed-pool 1) 320 4294967152) ∷ inspect bit_marks (put_at 4 (listed-pool 1) 0 8)
    ∷ inspect bit_marks (put_at 4 (listed-pool 1) 60 1) ∷ inspect bit_marks (put_at 4 (listed-pool 1) 40 0)
    ∷ inspect bit_marks (put_at 4 (listed-pool 1) 156 360) ∷ []
    ≡ true ∷ false ∷ false ∷ false ∷ false ∷ false ∷ false ∷ false ∷ false ∷ false ∷ []
unfolding listed listed-bins listed-pool put_at write byte map_at digits_at put_digits word_at sheet header_word if= if< walk index large_word small_word link_word height count_trailing_zeros reach above seek first prev_in next_in followed cleared top_of climb climbed indexed first_indexed nothing ended smalls chain lists scanned inspect allowed follow scan mark_at bit_at put_bit_at put_bit free_head word_of
listed_tried = refl

-- in turn: as it is; the level word of the false block 1; a height one too low; level 2 begins with nothing, or with a bin that is not on it;
-- a level ends with a block still awaited; level 3 begins with a block that has two levels; a word past the height, which is reserved
indexed-tried :
    inspect bit_marks (listed-pool 13) ∷ inspect bit_marks (put_at 4 (listed-pool 13) 108 1) ∷ inspect bit_marks (put_at 4 (listed-pool 13) 468 1)
    ∷ inspect bit_marks (put_at 4 (listed-pool 13) 156 0) ∷ inspect bit_marks (put_at 4 (listed-pool 13) 156 72)
    ∷ inspect bit_marks (put_at 4 (listed-pool 13) 516 4) ∷ inspect bit_marks (put_at 4 (listed-pool 13) 152 360)
    ∷ inspect bit_marks (put_at 4 (listed-pool 13) 512 360) ∷ []
    ≡ true ∷ false ∷ false ∷ false ∷ false ∷ false ∷ false ∷ true ∷ []
unfolding listed listed-bins listed-pool put_at write byte map_at digits_at put_digits word_at sheet header_word if= if< walk index large_word small_word link_word height count_trailing_zeros reach above seek first prev_in next_in followed cleared top_of climb climbed indexed first_indexed nothing ended smalls chain lists scanned inspect allowed follow scan mark_at bit_at put_bit_at put_bit free_head word_of
indexed-tried = refl
