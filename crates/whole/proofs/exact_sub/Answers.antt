use mir.Syntax.{w64}
use mir.Facts.{to_z-of_z}
use Rattle.whole.proofs.Library.{exactly_is}
use Rattle.whole.proofs.exact_sub.Goals as goal

pub returns : goal.returns
returns c = rw (to_z-of_z c.ranges.x, to_z-of_z c.ranges.y) at (exactly_is w64 _ _ c.checked_sub.ensures)
