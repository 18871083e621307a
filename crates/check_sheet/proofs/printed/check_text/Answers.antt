use mathlib.Core.Path.{ap, ◌∙◌}
use Rattle.std.specs.Prelude.{Err}
use Rattle.say.proofs.Saying.{◌and_then◌}
use Rattle.desk.proofs.Told.{never-short}
use Rattle.check_sheet.proofs.Printing.{passed-text, refused-text, unread-text}
use borrow.Author.Rules.{rules}
use Rattle.check_sheet.proofs.printed.check_text.Goals as goal

pub lines-requires : goal.lines-requires
lines-requires c =
    let r = c.check in
    let h = passed-text _ _ _ _ r.ensures.0 r.ensures.1 (search rules) c.in-Ok.n c.in-Ok.is in
    search (h.0, rules)

pub lines-requires-in-Err-AtStep : goal.lines-requires-in-Err-AtStep
lines-requires-in-Err-AtStep c =
    let r = c.check in
    let h = refused-text _ _ _ _ r.ensures.0 r.ensures.1 (search rules) c.in-Err-AtStep.why c.in-Err-AtStep.step (c.in-Err-AtStep.is ∙ ap Err c.in-Err-AtStep.field-0-is) in
    search (h.0, rules)

pub returns-in-Ok : goal.returns-in-Ok
returns-in-Ok c =
    let r = c.check in
    let h = passed-text _ _ _ _ r.ensures.0 r.ensures.1 (search rules) c.in-Ok.n c.in-Ok.is in
    rw h.1 (c.lines.ensures and_then c.count_line.ensures)

pub returns-in-Err-AtStep : goal.returns-in-Err-AtStep
returns-in-Err-AtStep c =
    let r = c.check in
    let h = refused-text _ _ _ _ r.ensures.0 r.ensures.1 (search rules) c.in-Err-AtStep.why c.in-Err-AtStep.step (c.in-Err-AtStep.is ∙ ap Err c.in-Err-AtStep.field-0-is) in
    rw h.1 (c.lines-in-Err-AtStep.ensures and_then c.place_line.ensures)

pub returns-in-Err-AtByte : goal.returns-in-Err-AtByte
returns-in-Err-AtByte c =
    let r = c.check in
    let h = unread-text _ _ _ _ r.ensures.0 r.ensures.1 (search rules) c.in-Err-AtByte.why c.in-Err-AtByte.place (c.in-Err-AtByte.is ∙ ap Err c.in-Err-AtByte.field-0-is) in
    rw h c.place_line-in-Err-AtByte.ensures

pub returns-in-Err-By : goal.returns-in-Err-By
returns-in-Err-By c =
    let r = c.check in
    absurd (never-short _ _ _ _ r.ensures.0 r.ensures.1 (search rules) c.in-Err-By.why (c.in-Err-By.is ∙ ap Err c.in-Err-By.field-0-is))
