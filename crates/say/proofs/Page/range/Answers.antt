use Rattle.say.proofs.Saying.{◌and_then◌}
use mir.Syntax.{w64}
use mir.ValLaws.{to_z-of_z}
use Rattle.say.proofs.Page.range.Goals as goal

pub returns : goal.returns
returns c =
    c.word.ensures and_then (rw (to_z-of_z w64 c.args.low c.ranges.low) at c.range_end.ensures)
    and_then c.word-2.ensures and_then (rw (to_z-of_z w64 c.args.high c.ranges.high) at c.range_end-2.ensures)
    and_then c.word-3.ensures
