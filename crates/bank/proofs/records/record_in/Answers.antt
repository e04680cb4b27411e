-- bank::record_in meets its contract, by the kind that the first byte says.
use Rattle.bank.proofs.RecordLaws.{first-byte, in-short, in-unknown, in-whole, no-byte, none-in}
use Rattle.bank.specs.Records.{body_of, kind_of}
use mathlib.Core.Path.{◌≡◌, ap, ◌∙◌}
use Prim.Native.Nat.{ℕ, ◌+◌}
use Rattle.std.specs.declared.option.Option.TheVariants.{Some}
use native.Mathlib.Omega.{arith}
use Rattle.bank.proofs.records.record_in.Goals as goal

pub returns-in_default : goal.returns-in_default
returns-in_default c = none-in _ (no-byte _ c.in_default.ensures.value)

pub returns-in_default-try_from : goal.returns-in_default-try_from
returns-in_default-try_from c = in-unknown _ (c.try_from.ensures ∙ ap kind_of (first-byte _ _ c.in-Some.ensures.value)) _ c.in_default-try_from.is

pub returns-then-payload-size : goal.returns-then-payload-size
returns-then-payload-size c =
    in-short _ (c.try_from.ensures ∙ ap kind_of (first-byte _ _ c.in-Some.ensures.value)) _ c.in-Ok.is
    (omega (arith, c.if-payload-size.true, c.body-size.ensures))

pub returns : goal.returns
returns c =
    let l : c.body-size.result ≡ body_of c.in-Ok.kind = c.body-size.ensures in
    ap (λ (n : ℕ). Some (1 + n)) l
    ∙ in-whole _ (c.try_from.ensures ∙ ap kind_of (first-byte _ _ c.in-Some.ensures.value)) _ c.in-Ok.is (omega (arith, c.if-payload-size.false, l))
