use Rattle.std.proofs.Common.{◌∷◌, ◌+◌, ◌∙◌, arith}
use Rattle.text.proofs.Room.{room, no_room}
use Rattle.text.specs.Decimal.{digits}
use Rattle.text.proofs.Width.{digits-below}
use native.Mathlib.Numerals.{add-one}
use Rattle.text.proofs.decimal.put_below.Goals as goal

pub overflow_add-k : goal.overflow_add-k
overflow_add-k c = omega (arith, c.width-k.ensures, digits-below 19 c.args.n (omega arith))

pub returns-in_err-end : goal.returns-in_err-end
returns-in_err-end c =
    let a = c.args in
    rw c.from_residual.ensures (no_room a.out.now a.at _ (45 ∷ digits a.n) (omega (arith, c.width-k.ensures)) c.in_err-end.ensures)

pub returns : goal.returns
returns c =
    let a = c.args in
    let f = c.in_ok-end.ensures in
    let r = room a.out.now a.at (c.width-k.result + 1) (45 ∷ digits a.n) (omega (arith, c.width-k.ensures)) c.in_ok-end.end f.0 f.1 in
    (r.0, c.fill_digits.ensures ∙ rw add-one r.1)
