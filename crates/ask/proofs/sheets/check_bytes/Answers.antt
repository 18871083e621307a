use mathlib.Core.Path.{ap, ◌∙◌}
use Rattle.std.specs.Prelude.{Err}
use Rattle.say.proofs.Saying.{◌and_then◌}
use Rattle.desk.proofs.Told.{never-short}
use Rattle.ask.proofs.Checking.{passed-said, refused-said, check-refused-at}
use borrow.Author.Rules.{rules}
use Rattle.ask.proofs.sheets.check_bytes.Goals as goal

pub overflow_mul-n : goal.overflow_mul-n
overflow_mul-n c =
    let r = c.check in
    let h = passed-said _ _ _ _ r.ensures.0 r.ensures.1 (search rules) c.in-Ok.n c.in-Ok.is in
    search (h.0, rules)

pub slice_bounds-numbers-end : goal.slice_bounds-numbers-end
slice_bounds-numbers-end c =
    let r = c.check in
    let h = passed-said _ _ _ _ r.ensures.0 r.ensures.1 (search rules) c.in-Ok.n c.in-Ok.is in
    search (h.0, rules)

pub overflow_mul-step : goal.overflow_mul-step
overflow_mul-step c =
    let r = c.check in
    let h = refused-said _ _ _ _ r.ensures.0 r.ensures.1 (search rules) c.in-Err-AtStep.why c.in-Err-AtStep.step (c.in-Err-AtStep.is ∙ ap Err c.in-Err-AtStep.field-0-is) in
    search (h.0, rules)

pub slice_bounds-numbers-end-in-Err-AtStep : goal.slice_bounds-numbers-end-in-Err-AtStep
slice_bounds-numbers-end-in-Err-AtStep c =
    let r = c.check in
    let h = refused-said _ _ _ _ r.ensures.0 r.ensures.1 (search rules) c.in-Err-AtStep.why c.in-Err-AtStep.step (c.in-Err-AtStep.is ∙ ap Err c.in-Err-AtStep.field-0-is) in
    search (h.0, rules)

pub returns-in-Ok : goal.returns-in-Ok
returns-in-Ok c =
    let r = c.check in
    let h = passed-said _ _ _ _ r.ensures.0 r.ensures.1 (search rules) c.in-Ok.n c.in-Ok.is in
    rw h.1 (c.word.ensures and_then c.numbers.ensures)

pub returns-in-Err-AtStep : goal.returns-in-Err-AtStep
returns-in-Err-AtStep c =
    let r = c.check in
    let h = refused-said _ _ _ _ r.ensures.0 r.ensures.1 (search rules) c.in-Err-AtStep.why c.in-Err-AtStep.step (c.in-Err-AtStep.is ∙ ap Err c.in-Err-AtStep.field-0-is) in
    rw h.1 (c.word-in-Err-AtStep.ensures and_then c.place_by.ensures and_then c.numbers-in-Err-AtStep.ensures)

pub returns-in-Err-AtByte : goal.returns-in-Err-AtByte
returns-in-Err-AtByte c =
    let r = c.check in
    let h = check-refused-at _ _ _ _ r.ensures.0 r.ensures.1 (search rules) c.in-Err-AtByte.why c.in-Err-AtByte.place (c.in-Err-AtByte.is ∙ ap Err c.in-Err-AtByte.field-0-is) in
    rw h c.refused_at.ensures

pub returns-in-Err-By : goal.returns-in-Err-By
returns-in-Err-By c =
    let r = c.check in
    absurd (never-short _ _ _ _ r.ensures.0 r.ensures.1 (search rules) c.in-Err-By.why (c.in-Err-By.is ∙ ap Err c.in-Err-By.field-0-is))
