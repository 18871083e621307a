use Rattle.std.proofs.Common.{◌<◌, length, ◌∙◌, arith}
use Rattle.text.proofs.Reading.{found-there, too-large, no-digit-is, a-digit-is, many-stop, total-stop, many_more, total-more, many-end, total-end}
use Rattle.text.proofs.decimal.get_digits.Goals as goal

pub returns-in_default : goal.returns-in_default
returns-in_default c =
    let x = c.loop-n in
    let r = c.rest-rest.result.now in
    let l : x.n < length r = c.loop-n-test.true in
    let e = no-digit-is _ c.in_default.ensures.cases in
    c.found.ensures ∙ found-there c.args.s.now r c.args.at c.rest-rest.ensures x.n x.v (omega (arith, x.invariant.1, many-stop r x.n l e)) (x.invariant.0 ∙ total-stop r x.n x.v l e)

pub returns-then-v-gt922337203685477580 : goal.returns-then-v-gt922337203685477580
returns-then-v-gt922337203685477580 c =
    let x = c.loop-n in
    let d = c.in-Some.ensures in
    let s : c.in-Some.d < 10 = omega arith in
    let big : 922337203685477580 < x.v = c.if-v-gt922337203685477580.true in
    too-large c.args.s.now c.rest-rest.result.now c.args.at c.rest-rest.ensures x.n x.v c.in-Some.d c.loop-n-test.true x.invariant.0 x.invariant.1 (a-digit-is _ _ s d.cases) s (omega arith)

pub loop-n-preserved : goal.loop-n-preserved
loop-n-preserved c =
    let x = c.loop-n in
    let r = c.rest-rest.result.now in
    let d = c.in-Some.ensures in
    let s : c.in-Some.d < 10 = omega arith in
    let is = a-digit-is _ _ s c.in-Some.ensures.cases in
    (x.invariant.0 ∙ total-more r x.n c.loop-n-test.true c.in-Some.d is x.v s, omega (arith, x.invariant.1, many_more r x.n c.loop-n-test.true c.in-Some.d is s))

pub returns : goal.returns
returns c =
    let x = c.loop-n in
    let r = c.rest-rest.result.now in
    c.found-2.ensures ∙ found-there c.args.s.now r c.args.at c.rest-rest.ensures (length r) x.v (omega (arith, x.invariant.1, many-end r x.n (omega arith))) (x.invariant.0 ∙ total-end r x.n x.v (omega arith))
