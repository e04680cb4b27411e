-- The model of granting a small block, on a list of bytes.
use Rattle.std.specs.Prelude.{List, ℕ, ◌+◌}
use Rattle.words.specs.Sums.{minus}
use Rattle.words.specs.Words.{word_at, put_at}
use Rattle.heads.specs.Heads.{held_head, free_head}
use Rattle.paper.specs.Layout.{end_at, small_bins, small_next_at}
use Rattle.choosing.specs.declared.remainder.Rest.{Rest}
use Rattle.grant.specs.Granted.{granted}
use Rattle.paper.specs.Answers.{Out}

-- the first block q of the bin of size b
unfoldable pub take_first : List ℕ → ℕ → ℕ → Out
take_first bs q b = granted (put_at 4 (put_at 4 bs (small_bins + b) (word_at 4 bs (q + small_next_at))) q (held_head b)) q b

-- the remainder's high end, from q on
unfoldable pub cut_high : List ℕ → Rest → ℕ → Out
cut_high bs rest b =
    let q = minus rest.end b in
    granted (put_at 4 (put_at 4 (put_at 4 bs end_at q) rest.start (free_head (minus rest.size b))) q (held_head b)) q b
