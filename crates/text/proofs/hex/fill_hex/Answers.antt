use Rattle.std.proofs.Common.{◌≡◌, ◌+◌, ◌*◌, sym, ◌∙◌, refl, arith}
use Rattle.std.proofs.Common.{length-set, add-one, suc}
use Rattle.text.proofs.Pairs.{text-length, text-more, text-end}
use Rattle.text.proofs.hex.fill_hex.Goals as goal

pub overflow_add-i : goal.overflow_add-i
overflow_add-i c = omega (arith, text-length c.args.bytes.now)

pub bounds-out-i : goal.bounds-out-i
bounds-out-i c = omega (arith, text-length c.args.bytes.now)

pub overflow_add-out : goal.overflow_add-out
overflow_add-out c = omega (arith, text-length c.args.bytes.now)

pub bounds-out-i-in-loop-j : goal.bounds-out-i-in-loop-j
bounds-out-i-in-loop-j c = simp length-set (omega (arith, text-length c.args.bytes.now))

pub loop-j-preserved : goal.loop-j-preserved
loop-j-preserved c =
    let x = c.loop-j in
    let a = c.args in
    let k : a.at + 2 * (x.j + 1) ≡ suc (suc (a.at + 2 * x.j)) = omega arith in
    x.invariant ∙ rw (text-more a.bytes.now x.j (omega arith), k, add-one (a.at + 2 * x.j), c.digit_of.ensures, c.digit_of-in-loop-j.ensures) refl

pub returns : goal.returns
returns c = sym (c.loop-j.invariant ∙ rw (text-end c.args.bytes.now c.loop-j.j (omega arith)) refl)
