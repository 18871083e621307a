use Rattle.std.proofs.Common.{length, sym, ap, ◌∙◌, refl, arith}
use Rattle.std.proofs.Common.{add-one}
use Rattle.text.proofs.Pairs.{read_none, read_more, read_end}
use Rattle.text.proofs.hex.fill_bytes.Goals as goal

pub returns-in_default : goal.returns-in_default
returns-in_default c =
    let e = read_none _ (sym c.byte_at.ensures ∙ c.in_default.is) in
    sym (c.loop-j.invariant.1 ∙ rw e refl)

pub bounds-out-j : goal.bounds-out-j
bounds-out-j c =
    let e = read_more c.args.s.now c.loop-j.j _ (sym c.byte_at.ensures ∙ c.in-Some.is) in
    omega (arith, c.loop-j.invariant.0, ap length e)

pub loop-j-preserved : goal.loop-j-preserved
loop-j-preserved c =
    let x = c.loop-j in
    let e = read_more c.args.s.now x.j _ (sym c.byte_at.ensures ∙ c.in-Some.is) in
    (omega (arith, x.invariant.0, ap length e), x.invariant.1 ∙ rw (e, add-one x.j) refl)

pub returns : goal.returns
returns c = sym (c.loop-j.invariant.1 ∙ rw (read_end c.args.s.now c.loop-j.j (omega arith)) refl)
