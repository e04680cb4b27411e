-- What the tests of the header say, each by a name.
use mathlib.Core.Bool.{true}
use mathlib.Core.List.{List}
use mathlib.Core.Path.{◌≡◌}
use Prim.Native.Nat.{◌%◌, ◌+◌, ◌-◌, ◌<◌, suc, ℕ}
use lib.ListN.{length}
use Rattle.guards.proofs.Guards.{All}
use Rattle.header.specs.Header.{E, R, cleared, false_tests, rest_tests}
use Rattle.heads.specs.Heads.{free_head}
use Rattle.levels.specs.Levels.{top_of}
use Rattle.paper.specs.Layout.{blocks_at, chain_at, false_block, false_word_at, level_at, levels}
use Rattle.words.specs.Words.{word_at}

module _ (bs : List ℕ) where
  -- of the remainder: where it stands, and its head
  pub record RestStands : Type 0 where
    pub past-blocks : blocks_at - 1 < R bs
    pub room : R bs + 7 < E bs
    pub inside : E bs < suc (length bs)
    pub start-eights : R bs % 8 ≡ 0
    pub end-eights : E bs % 8 ≡ 0
    pub head : word_at 4 bs (R bs) ≡ free_head (E bs - R bs)

  pub rest-stands : All (rest_tests bs) → RestStands
  rest-stands t =
      record {
        past-blocks = t.0;
        room = t.1.0;
        inside = t.1.1.0;
        start-eights = t.1.1.1.0;
        end-eights = t.1.1.1.1.0;
        head = t.1.1.1.1.1.0;
      }

  pub rest-passes : RestStands → All (rest_tests bs)
  rest-passes r = (r.past-blocks, (r.room, (r.inside, (r.start-eights, (r.end-eights, (r.head, tt))))))

  -- of the header's fixed words and the false block, but for its index words
  pub record FalseStands : Type 0 where
    pub false-word : word_at 4 bs false_word_at ≡ false_block
    pub past-chain : word_at 4 bs (false_block + chain_at + 4) ≡ 0
    pub halves : cleared bs 12 8 4 ≡ true
    pub below-level : cleared bs 3 4 false_block ≡ true
    pub long : blocks_at - 1 < length bs
    pub level-word : word_at 4 bs (false_block + level_at) ≡ top_of bs
    pub reserved : cleared bs (levels - top_of bs) 4 (false_block + 16) ≡ true

  pub false-stands : All (false_tests bs) → FalseStands
  false-stands t =
      record {
        false-word = t.0;
        past-chain = t.1.0;
        halves = t.1.1.0;
        below-level = t.1.1.1.0;
        long = t.1.1.1.1.0;
        level-word = t.1.1.1.1.1.0;
        reserved = t.1.1.1.1.1.1.0;
      }

  pub false-passes : FalseStands → All (false_tests bs)
  false-passes f = (f.false-word, (f.past-chain, (f.halves, (f.below-level, (f.long, (f.level-word, (f.reserved, tt)))))))
