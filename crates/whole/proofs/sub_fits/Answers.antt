use mir.Syntax.{w64}
use mir.Facts.{to_z-of_z}
use Rattle.whole.proofs.Library.{found_is}
use Rattle.whole.proofs.sub_fits.Goals as goal

pub returns : goal.returns
returns c = rw (to_z-of_z c.ranges.x, to_z-of_z c.ranges.y) at (found_is w64 _ _ _ c.is_some.ensures c.exact_sub.ensures)
