use mathlib.Core.Path.{ap, ◌∙◌}
use Rattle.std.specs.Prelude.{Err}
use Rattle.say.proofs.Saying.{◌and_then◌}
use Rattle.run_sheet.proofs.Printing.{ended-text, stopped-text, unread-text, unsuited-text}
use Rattle.run_sheet.proofs.Room.{ended-size, stopped-size, unread-size, unsuited-size}
use borrow.Author.Rules.{rules}
use Rattle.run_sheet.proofs.printed.run_text.Goals as goal

pub slice_bounds-lines-end : goal.slice_bounds-lines-end
slice_bounds-lines-end c =
    let r = c.run in
    let h = ended-text _ _ _ _ _ r.ensures.0 r.ensures.1 (search rules) c.in-Ok.n c.in-Ok.is in
    search (h.0, rules)

pub slice_bounds-lines-end-in-Err-AtStep : goal.slice_bounds-lines-end-in-Err-AtStep
slice_bounds-lines-end-in-Err-AtStep c =
    let r = c.run in
    let h = stopped-text _ _ _ _ _ r.ensures.0 r.ensures.1 (search rules) c.in-Err-AtStep.why c.in-Err-AtStep.step (c.in-Err-AtStep.is ∙ ap Err c.in-Err-AtStep.field-0-is) in
    search (h.0, rules)

pub returns-in-Ok : goal.returns-in-Ok
returns-in-Ok c =
    let r = c.run in
    let h = ended-text _ _ _ _ _ r.ensures.0 r.ensures.1 (search rules) c.in-Ok.n c.in-Ok.is in
    let l = c.lines.ensures in
    (rw h.2 (l.0 and_then c.count_line.ensures), rw h.2 (ended-size _ h.0 _ h.1 l.1))

pub returns-in-Err-AtStep : goal.returns-in-Err-AtStep
returns-in-Err-AtStep c =
    let r = c.run in
    let h = stopped-text _ _ _ _ _ r.ensures.0 r.ensures.1 (search rules) c.in-Err-AtStep.why c.in-Err-AtStep.step (c.in-Err-AtStep.is ∙ ap Err c.in-Err-AtStep.field-0-is) in
    let l = c.lines-in-Err-AtStep.ensures in
    (rw h.2 (l.0 and_then c.place_line.ensures), rw h.2 (stopped-size _ h.0 _ h.1 l.1 c.in-Err-AtStep.why))

pub returns-in-Err-AtByte : goal.returns-in-Err-AtByte
returns-in-Err-AtByte c =
    let r = c.run in
    let h = unread-text _ _ _ _ _ r.ensures.0 r.ensures.1 (search rules) c.in-Err-AtByte.why c.in-Err-AtByte.place (c.in-Err-AtByte.is ∙ ap Err c.in-Err-AtByte.field-0-is) in
    (rw h c.place_line-in-Err-AtByte.ensures, rw h (unread-size _ c.in-Err-AtByte.why (search rules)))

pub returns-in-Err-By : goal.returns-in-Err-By
returns-in-Err-By c =
    let r = c.run in
    let h = unsuited-text _ _ _ _ _ r.ensures.0 r.ensures.1 (search rules) c.in-Err-By.why (c.in-Err-By.is ∙ ap Err c.in-Err-By.field-0-is) in
    (rw h (c.refused.ensures and_then c.word.ensures), rw h (unsuited-size c.in-Err-By.why))
