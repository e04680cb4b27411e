-- What C hears of a call of the piston bank, and what is left in the lent pool and in the lent bank. The calls' meaning is the bank's own (crate bank,
-- specs/Calls).
use Rattle.std.specs.Prelude.{List, ℕ}
use Rattle.bank.specs.Calls.{After}
use Rattle.board.specs.Heard.{Halves, heard}

pub record LeftBoth : Type 0 where
  pub hears : Halves
  pub pool : List ℕ
  pub bank : List ℕ

abbrev pub left_both : Halves → List ℕ → List ℕ → LeftBoth
left_both h bs bank = record { hears = h; pool = bs; bank = bank }

abbrev pub leaves_both : After → LeftBoth
leaves_both a = left_both (heard a.answer) a.pool a.bank
