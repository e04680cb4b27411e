-- The halves of the number that a call returns are the answer's: a value is below 2^32, and a refusal stands above it.
use mathlib.Core.Path.{◌≡◌, ap, sym, ◌∙◌}
use mathlib.Core.List.{List}
use Prim.Native.Nat.{ℕ, ◌*◌, ◌/◌, ◌%◌, ◌<◌}
use native.Mathlib.Omega.{arith}
use Rattle.bank.specs.Calls.{After, after}
use Rattle.pool.specs.Calls as call
use Rattle.board.specs.Heard.{Halves, halves, heard, left, leaves, tallied, figures}
use Rattle.board.specs.Pistons.{leaves_both, left_both}
use Rattle.std.specs.declared.result.Result.TheVariants.{Ok, Err}
use Rattle.paper.specs.Answers.{Answer, code, out, Out, Tally}
use Rattle.paper.specs.declared.Refusal.{Refusal}

pub done-halves : (v : ℕ) → v < 4294967296 → heard (Ok v) ≡ halves v
done-halves v h =
    let e : 0 ≡ v / 4294967296 = omega arith in
    let f : v ≡ v % 4294967296 = omega arith in
    λ i. record { upper = e i; lower = f i }

pub refused-halves : (k : Refusal) (n : ℕ) → n ≡ code k → heard (Err k) ≡ halves (4294967296 * n)
refused-halves k n c =
    let e : code k ≡ 4294967296 * n / 4294967296 = omega (arith, c) in
    let f : 0 ≡ 4294967296 * n % 4294967296 = omega arith in
    λ i. record { upper = e i; lower = f i }

-- what a call answers, told as one number
pub told : (o : Out) {a : Answer} {s : List ℕ} {h : Halves} → o ≡ out a s → heard a ≡ h → leaves o ≡ left h s
told o {s = s} e f = ap leaves e ∙ ap (λ (x : Halves). left x s) f

-- the same of the piston bank
pub told-both : (o : After) {a : Answer} {bs bank : List ℕ} {h : Halves} → o ≡ after a bs bank → heard a ≡ h → leaves_both o ≡ left_both h bs bank
told-both o {bs = bs} {bank = bank} e f = ap leaves_both e ∙ ap (λ (x : Halves). left_both x bs bank) f

-- the pool's figures, put into a list
pub figures-told : (bs xs : List ℕ) {t : Tally} {o : Out} → t ≡ call.figures bs → tallied t xs ≡ o → figures bs xs ≡ o
unfolding figures
figures-told bs xs e f = ap (λ (u : Tally). tallied u xs) (sym e) ∙ f
