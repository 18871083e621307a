use Rattle.std.proofs.Common.{◌∙◌}
use Rattle.text.proofs.Room.{room, no_room}
use Rattle.text.specs.Decimal.{digits}
use Rattle.text.proofs.decimal.put_natural.Goals as goal

pub returns-in_err-end : goal.returns-in_err-end
returns-in_err-end c =
    let a = c.args in
    rw c.from_residual.ensures (no_room a.out.now a.at _ (digits a.n) c.width-k.ensures c.in_err-end.ensures)

pub returns : goal.returns
returns c =
    let a = c.args in
    let f = c.in_ok-end.ensures in
    let r = room a.out.now a.at c.width-k.result (digits a.n) c.width-k.ensures c.in_ok-end.end f.0 f.1 in
    (r.0, c.fill_digits.ensures ∙ r.1)
