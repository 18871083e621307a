use mathlib.Core.Path.{refl, sym, ◌∙◌}
use native.Mathlib.Omega.{arith}
use Rattle.whole.specs.Sized.{width_of}
use Rattle.step.specs.Run.{run_op}
use Rattle.sheet.specs.Sheet.{steps_of}
use Rattle.panel.proofs.Answers.{ran-short, ran-unsuited, ran-suited, four-each}
use Rattle.panel.proofs.run_listed.Goals as goal

pub returns-then-room-n : goal.returns-then-room-n
returns-then-room-n c =
    let e = four-each c.args.steps.now c.args.n c.requires.1 in
    rw (ran-short (run_op (width_of c.args.size)) (steps_of c.args.steps.now) c.args.inputs.now c.args.room.now (omega (arith, c.if-room-n.true))) (refl, refl)

pub returns-then-not-suits : goal.returns-then-not-suits
returns-then-not-suits c =
    let e = four-each c.args.steps.now c.args.n c.requires.1 in
    rw (ran-unsuited (run_op (width_of c.args.size)) (steps_of c.args.steps.now) c.args.inputs.now c.args.room.now (omega (arith, c.if-room-n.false)) (sym c.suits.ensures ∙ c.if-not-suits.true)) (refl, refl)

pub returns : goal.returns
returns c =
    let e = four-each c.args.steps.now c.args.n c.requires.1 in
    rw (ran-suited (run_op (width_of c.args.size)) (steps_of c.args.steps.now) c.args.inputs.now c.args.room.now (omega (arith, c.if-room-n.false)) (sym c.suits.ensures ∙ c.if-not-suits.false)) c.run_steps.ensures
