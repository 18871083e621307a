use Rattle.std.proofs.Common.{◌≡◌, length, ◌-◌, ◌∙◌, refl, arith}
use Rattle.text.proofs.Room.{room, no_room, copied}
use Rattle.text.proofs.word.put_word.Goals as goal

pub returns-in_err-end : goal.returns-in_err-end
returns-in_err-end c =
    let a = c.args in
    rw c.from_residual.ensures (no_room a.out.now a.at _ a.word.now refl c.in_err-end.ensures)

pub returns : goal.returns
returns c =
    let a = c.args in
    let w = a.word.now in
    let f = c.in_ok-end.ensures in
    let r = room a.out.now a.at (length w) w refl c.in_ok-end.end f.0 f.1 in
    let k : c.in_ok-end.end - a.at ≡ length w = omega (arith, f.1) in
    (r.0, rw (k, c.copy_from_slice.ensures.after) (copied a.out.now a.at (length w) w refl f.0 ∙ r.1))
