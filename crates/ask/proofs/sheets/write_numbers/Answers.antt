use mathlib.Core.Path.{sym}
use Rattle.say.proofs.Saying.{◌and_then◌}
use Rattle.ask.proofs.Sheeting.{write-room, write-said, write-refused}
use borrow.Author.Rules.{rules}
use Rattle.ask.proofs.sheets.write_numbers.Goals as goal

pub slice_bounds-bytes-end : goal.slice_bounds-bytes-end
slice_bounds-bytes-end c =
    let h = write-room _ _ c.in-Ok.n (sym c.in-Ok.ensures.0) in
    search (h, rules)

pub slice_bounds-bytes-end-in-Ok : goal.slice_bounds-bytes-end-in-Ok
slice_bounds-bytes-end-in-Ok c =
    let h = write-room _ _ c.in-Ok.n (sym c.in-Ok.ensures.0) in
    search (h, rules)

pub returns-in-Ok : goal.returns-in-Ok
returns-in-Ok c =
    let r = c.in-Ok.ensures in
    rw (write-said _ _ (search rules) c.in-Ok.n (sym r.0), ← r.1) (c.word.ensures and_then c.bytes.ensures)

pub returns-in-Err : goal.returns-in-Err
returns-in-Err c = rw (write-refused _ _ (search rules) c.in-Err.fault c.in-Err.ensures.0) c.refused.ensures
