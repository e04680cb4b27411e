-- `allowed` follows the paper's three bounds.
use mathlib.Core.Path.{◌≡◌, sym, ◌∙◌}
use mathlib.Core.Bool.{false}
use Prim.Native.Nat.{ℕ, ◌%◌, ◌≤◌, ◌<◌}
use native.Mathlib.Omega.{arith}
use lib.Dec.{eqb}
use borrow.Author.Tests.{eq-eqb, ne_eqb}
use Rattle.words.specs.Choice.{if<-yes, if<-no, if=-yes, if=-no, by=}
use Rattle.paper.specs.Allowed.{allowed}
use Rattle.inspect.proofs.allowed.Goals as goal

short : (n : ℕ) → n < 176 → false ≡ allowed n
unfolding allowed
short n h = sym (if<-yes n 176 _ _ h)

long : (n : ℕ) → 176 ≤ n → 65536 < n → false ≡ allowed n
unfolding allowed
long n h k = sym (if<-no n 176 _ _ h ∙ if<-yes 65536 n _ _ k)

within : (n : ℕ) → 176 ≤ n → n ≤ 65536 → eqb (n % 8) 0 ≡ allowed n
unfolding allowed
within n h k =
    by= (n % 8) 0 (λ e. eq-eqb (n % 8) 0 e ∙ sym (if<-no n 176 _ _ h ∙ if<-no 65536 n _ _ k ∙ if=-yes (n % 8) 0 _ _ e))
    (λ e. ne_eqb (n % 8) 0 e ∙ sym (if<-no n 176 _ _ h ∙ if<-no 65536 n _ _ k ∙ if=-no (n % 8) 0 _ _ e))

pub returns-then-n-lt176 : goal.returns-then-n-lt176
returns-then-n-lt176 c = short _ (omega (arith, c.if-n-lt176.true))

pub returns-then-n-gt65536 : goal.returns-then-n-gt65536
returns-then-n-gt65536 c = long _ (omega (arith, c.if-n-lt176.false, c.if-n-gt65536.true)) c.if-n-gt65536.true

pub returns : goal.returns
returns c = within _ (omega (arith, c.if-n-lt176.false)) c.if-n-gt65536.false
