-- records::request::read meets its contract: each way out is where the tests of the reader lead.
use Rattle.std.proofs.Common.{◌≡◌, ◌<◌, get_or, length, ◌∙◌, arith, rules}
use Rattle.records.proofs.Records.{past, no_body, short, laid, taken, given, indexed, other}
use Rattle.records.proofs.request.read.Goals as goal

pub returns-in_err-kind : goal.returns-in_err-kind
returns-in_err-kind c = c.from_residual.ensures ∙ past _ _ (omega (arith, c.in_err-kind.ensures))

pub returns-then-kind-eq-FIGURES : goal.returns-then-kind-eq-FIGURES
returns-then-kind-eq-FIGURES c =
    let e : c.in_ok-kind.field-0.now ≡ get_or c.args.tape.now c.args.at 0 = search (rules, c.in_ok-kind.ensures) in
    let h : c.args.at < length c.args.tape.now = omega (arith, c.in_ok-kind.ensures) in
    no_body _ _ h (omega arith)

pub returns-then-tape-body-lt4 : goal.returns-then-tape-body-lt4
returns-then-tape-body-lt4 c =
    let e : c.in_ok-kind.field-0.now ≡ get_or c.args.tape.now c.args.at 0 = search (rules, c.in_ok-kind.ensures) in
    let h : c.args.at < length c.args.tape.now = omega (arith, c.in_ok-kind.ensures) in
    short _ _ h (omega arith) c.if-tape-body-lt4.true

pub returns-in-1 : goal.returns-in-1
returns-in-1 c =
    let e : c.in_ok-kind.field-0.now ≡ get_or c.args.tape.now c.args.at 0 = search (rules, c.in_ok-kind.ensures) in
    let h : c.args.at < length c.args.tape.now = omega (arith, c.in_ok-kind.ensures) in
    laid _ _ _ c.get-number.ensures h (omega arith) c.if-tape-body-lt4.false (omega arith)

pub returns-in-2 : goal.returns-in-2
returns-in-2 c =
    let e : c.in_ok-kind.field-0.now ≡ get_or c.args.tape.now c.args.at 0 = search (rules, c.in_ok-kind.ensures) in
    let h : c.args.at < length c.args.tape.now = omega (arith, c.in_ok-kind.ensures) in
    taken _ _ _ c.get-number.ensures h (omega arith) c.if-tape-body-lt4.false (omega arith) (omega arith)

pub returns-in-3 : goal.returns-in-3
returns-in-3 c =
    let e : c.in_ok-kind.field-0.now ≡ get_or c.args.tape.now c.args.at 0 = search (rules, c.in_ok-kind.ensures) in
    let h : c.args.at < length c.args.tape.now = omega (arith, c.in_ok-kind.ensures) in
    given _ _ _ c.get-number.ensures h (omega arith) c.if-tape-body-lt4.false (omega arith) (omega arith) (omega arith)

pub returns-in-5 : goal.returns-in-5
returns-in-5 c =
    let e : c.in_ok-kind.field-0.now ≡ get_or c.args.tape.now c.args.at 0 = search (rules, c.in_ok-kind.ensures) in
    let h : c.args.at < length c.args.tape.now = omega (arith, c.in_ok-kind.ensures) in
    indexed _ _ _ c.get-number.ensures h (omega arith) c.if-tape-body-lt4.false (omega arith) (omega arith) (omega arith) (omega arith)

pub returns-in_default : goal.returns-in_default
returns-in_default c =
    let e : c.in_ok-kind.field-0.now ≡ get_or c.args.tape.now c.args.at 0 = search (rules, c.in_ok-kind.ensures) in
    let h : c.args.at < length c.args.tape.now = omega (arith, c.in_ok-kind.ensures) in
    other _ _ _ c.get-number.ensures h (omega arith) c.if-tape-body-lt4.false (omega arith) (omega arith) (omega arith) (omega arith)
