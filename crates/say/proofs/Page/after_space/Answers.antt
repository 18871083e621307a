use Rattle.say.proofs.Saying.{◌and_then◌}
use mir.Syntax.{w64}
use mir.ValLaws.{to_z-of_z}
use Rattle.say.proofs.Page.after_space.Goals as goal

pub returns : goal.returns
returns c =
    c.word.ensures and_then (rw (to_z-of_z w64 c.args.n c.ranges.n) at c.number.ensures)
