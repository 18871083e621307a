use mathlib.Core.Path.{sym}
use Rattle.say.proofs.Saying.{◌and_then◌}
use Rattle.ask.proofs.Sheeting.{read-room, read-said, read-refused}
use borrow.Author.Rules.{rules}
use Rattle.ask.proofs.sheets.read_bytes.Goals as goal

pub overflow_mul-steps : goal.overflow_mul-steps
overflow_mul-steps c =
    let h = read-room _ _ c.in-Ok.n (sym c.in-Ok.ensures.0) in
    search (h, rules)

pub slice_bounds-steps-end : goal.slice_bounds-steps-end
slice_bounds-steps-end c =
    let h = read-room _ _ c.in-Ok.n (sym c.in-Ok.ensures.0) in
    search (h, rules)

pub slice_bounds-numbers-end : goal.slice_bounds-numbers-end
slice_bounds-numbers-end c =
    let h = read-room _ _ c.in-Ok.n (sym c.in-Ok.ensures.0) in
    search (h, rules)

pub returns-in-Ok : goal.returns-in-Ok
returns-in-Ok c =
    let r = c.in-Ok.ensures in
    rw (read-said _ _ c.in-Ok.n (sym r.0), ← r.1) (c.word.ensures and_then c.numbers.ensures)

pub returns-in-Err : goal.returns-in-Err
returns-in-Err c = rw (read-refused _ _ c.in-Err.fault (search rules) c.in-Err.ensures.0) c.refused.ensures
