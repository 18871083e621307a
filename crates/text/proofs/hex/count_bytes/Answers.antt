use Rattle.std.proofs.Common.{length, sym, ap, ◌∙◌, arith}
use Rattle.text.proofs.Pairs.{read_none, read_more, read_end}
use Rattle.text.proofs.hex.count_bytes.Goals as goal

pub returns-in_default : goal.returns-in_default
returns-in_default c =
    let e = read_none _ (sym c.byte_at.ensures ∙ c.in_default.is) in
    omega (arith, c.loop-n.invariant, ap length e)

pub loop-n-preserved : goal.loop-n-preserved
loop-n-preserved c =
    let e = read_more c.args.s.now c.loop-n.n _ (sym c.byte_at.ensures ∙ c.in-Some.is) in
    omega (arith, c.loop-n.invariant, ap length e)

pub returns : goal.returns
returns c = omega (arith, c.loop-n.invariant, ap length (read_end c.args.s.now c.loop-n.n (omega arith)))
