use mathlib.Core.Path.{ap, ◌∙◌}
use Rattle.std.specs.Prelude.{Err}
use Rattle.say.proofs.Saying.{◌and_then◌}
use Rattle.ask.proofs.Running.{ended-said, stopped-said, run-refused-at, run-refused}
use borrow.Author.Rules.{rules}
use Rattle.ask.proofs.sheets.run_inputs.Goals as goal

pub slice_bounds-numbers-end : goal.slice_bounds-numbers-end
slice_bounds-numbers-end c =
    let r = c.run in
    let h = ended-said _ _ _ _ _ r.ensures.0 r.ensures.1 c.in-Ok.n c.in-Ok.is (search rules) in
    search (h.0, rules)

pub slice_bounds-numbers-end-in-Err-AtStep : goal.slice_bounds-numbers-end-in-Err-AtStep
slice_bounds-numbers-end-in-Err-AtStep c =
    let r = c.run in
    let h = stopped-said _ _ _ _ _ r.ensures.0 r.ensures.1 c.in-Err-AtStep.why c.in-Err-AtStep.step (c.in-Err-AtStep.is ∙ ap Err c.in-Err-AtStep.field-0-is) (search rules) in
    search (h.0, rules)

pub returns-in-Ok : goal.returns-in-Ok
returns-in-Ok c =
    let r = c.run in
    let h = ended-said _ _ _ _ _ r.ensures.0 r.ensures.1 c.in-Ok.n c.in-Ok.is (search rules) in
    rw h.1 (c.word.ensures and_then c.numbers.ensures)

pub returns-in-Err-AtStep : goal.returns-in-Err-AtStep
returns-in-Err-AtStep c =
    let r = c.run in
    let h = stopped-said _ _ _ _ _ r.ensures.0 r.ensures.1 c.in-Err-AtStep.why c.in-Err-AtStep.step (c.in-Err-AtStep.is ∙ ap Err c.in-Err-AtStep.field-0-is) (search rules) in
    rw h.1 (c.stopped_at.ensures and_then c.numbers-in-Err-AtStep.ensures)

pub returns-in-Err-AtByte : goal.returns-in-Err-AtByte
returns-in-Err-AtByte c =
    let r = c.run in
    rw (run-refused-at _ _ _ _ _ r.ensures.0 r.ensures.1 c.in-Err-AtByte.why c.in-Err-AtByte.place (c.in-Err-AtByte.is ∙ ap Err c.in-Err-AtByte.field-0-is) (search rules)) c.refused_at.ensures

pub returns-in-Err-By : goal.returns-in-Err-By
returns-in-Err-By c =
    let r = c.run in
    rw (run-refused _ _ _ _ _ r.ensures.0 r.ensures.1 c.in-Err-By.why (c.in-Err-By.is ∙ ap Err c.in-Err-By.field-0-is) (search rules)) c.refused.ensures
