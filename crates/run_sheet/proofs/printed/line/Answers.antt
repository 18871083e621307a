use Rattle.say.proofs.Saying.{◌and_then◌}
use mir.Syntax.{w64}
use mir.ValLaws.{to_z-of_z}
use Rattle.run_sheet.proofs.Room.{line-size}
use Rattle.run_sheet.proofs.printed.line.Goals as goal

pub returns : goal.returns
returns c = (
  c.natural.ensures
      and_then c.word.ensures
      and_then (rw (to_z-of_z w64 c.args.n c.ranges.n) at c.number.ensures)
      and_then c.word-2.ensures,
  λ h. line-size _ _ h c.ranges.n,
)
