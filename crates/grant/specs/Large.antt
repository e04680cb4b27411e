-- The model of granting a large block, on a list of bytes.
use Rattle.std.specs.Prelude.{List, true, ℕ}
use Rattle.words.specs.Sums.{plus, minus}
use Rattle.words.specs.Words.{word_at, put_at}
use Rattle.heads.specs.Heads.{held_head, free_head, with_p}
use Rattle.paper.specs.Layout.{start_at}
use Rattle.bins.specs.declared.chain.Bin.{Bin}
use Rattle.bins.specs.Find.{size}
use Rattle.bins.specs.Leave.{used_in, take_out}
use Rattle.bins.specs.Enter.{enter}
use Rattle.grant.specs.Granted.{granted}
use Rattle.choosing.specs.declared.remainder.Rest.{Rest}
use Rattle.paper.specs.Answers.{Out}

unfoldable pub hold : List ℕ → ℕ → ℕ → List ℕ
hold bs q b =
    let held = put_at 4 bs q (held_head b) in
    put_at 4 held (plus q b) (with_p (word_at 4 held (plus q b)) true)

unfoldable pub split : List ℕ → ℕ → ℕ → ℕ → List ℕ
split bs q z b = enter (put_at 4 bs q (held_head b)) (plus q b) (minus z b)

unfoldable pub take_whole : List ℕ → Bin → ℕ → Out
take_whole bs bin b =
    let q = used_in bs bin in
    granted (hold (take_out bs bin) q b) q b

unfoldable pub take_part : List ℕ → Bin → ℕ → Out
take_part bs bin b =
    let q = used_in bs bin in
    granted (split (take_out bs bin) q (size bin) b) q b

-- the remainder's low end
unfoldable pub cut_low : List ℕ → Rest → ℕ → Out
cut_low bs rest b =
    let above = plus rest.start b in
    granted (put_at 4 (put_at 4 (put_at 4 bs start_at above) rest.start (held_head b)) above (free_head (minus rest.size b))) rest.start b
