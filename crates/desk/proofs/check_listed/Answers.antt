use mathlib.Core.Path.{refl}
use native.Mathlib.Omega.{arith}
use Rattle.whole.specs.Sized.{width_of}
use Rattle.sheet.specs.Sheet.{steps_of}
use Rattle.panel.proofs.Answers.{four-each}
use Rattle.desk.proofs.Answers.{checked-short, checked-all}
use Rattle.desk.proofs.check_listed.Goals as goal

pub returns-then-room-n : goal.returns-then-room-n
returns-then-room-n c =
    let e = four-each c.args.steps.now c.args.n c.requires.1 in
    rw (checked-short (width_of c.args.size) (steps_of c.args.steps.now) c.args.room.now (omega (arith, c.if-room-n.true))) (refl, refl)

pub returns : goal.returns
returns c =
    let e = four-each c.args.steps.now c.args.n c.requires.1 in
    rw (checked-all (width_of c.args.size) (steps_of c.args.steps.now) c.args.room.now (omega (arith, c.if-room-n.false))) c.check_steps.ensures
