-- The model of laying out, on a list of bytes: the header and the false block are cleared, then the words that are not 0 are stored.
use Rattle.std.specs.Prelude.{List, ℕ, zero, suc, ◌+◌, ◌*◌}
use Rattle.words.specs.Sums.{minus}
use Rattle.words.specs.Words.{put_at}
use Rattle.heads.specs.Heads.{free_head}
use Rattle.paper.specs.Layout.{free_word_at, false_word_at, start_at, end_at, false_block, level_at, blocks_at}

-- the first k words of 4 bytes are 0
unfoldable pub cleared_to : ℕ → List ℕ → List ℕ
cleared_to zero bs = bs
cleared_to (suc k) bs = put_at 4 (cleared_to k bs) (4 * k) 0

-- as a pool of n bytes, with an index t high
unfoldable pub lay_out : List ℕ → ℕ → ℕ → List ℕ
lay_out bs n t =
    let rest = minus n blocks_at in
    let s1 = put_at 8 (cleared_to 42 bs) free_word_at (minus rest 4) in
    let s2 = put_at 8 s1 false_word_at false_block in
    let s3 = put_at 8 s2 start_at blocks_at in
    let s4 = put_at 8 s3 end_at n in
    let s5 = put_at 4 s4 (false_block + level_at) t in
    put_at 4 s5 blocks_at (free_head rest)
