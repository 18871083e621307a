use Rattle.whole.proofs.Decides.{is-fit}
use Rattle.whole.specs.Range.{fits?}
use mir.Facts.{to_z-of_z}
use mir.Syntax.{w64}
use mathlib.Core.Path.{sym}
use Rattle.whole.proofs.Size.fits.Goals as goal

pub returns-in-B16 : goal.returns-in-B16
unfolding fits?
returns-in-B16 c = rw c.in-B16.is (simp (to_z-of_z c.ranges.x) at c.between.ensures)

pub returns-in-B32 : goal.returns-in-B32
unfolding fits?
returns-in-B32 c = rw c.in-B32.is (simp (to_z-of_z c.ranges.x) at c.between-in-B32.ensures)

pub returns-in-B64 : goal.returns-in-B64
returns-in-B64 c = rw c.in-B64.is (sym (is-fit {w = w64} c.ranges.x))
