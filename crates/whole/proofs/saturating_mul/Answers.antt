use mathlib.Core.Path.{◌≡◌, ◌∙◌}
use lib.IntN.{◌*ℤ◌}
use mir.Syntax.{w64}
use mir.Facts.{to_z-of_z}
use Rattle.whole.specs.Range.{clamp}
use Rattle.whole.proofs.Flags.{flags}
use Rattle.whole.proofs.Library.{clamp_is}
use Rattle.whole.proofs.saturating_mul.Goals as goal

pub returns : goal.returns
returns c =
    let e : c.saturating_mul.result ≡ clamp w64 (c.args.x *ℤ c.args.y) = (rw (to_z-of_z c.ranges.x, to_z-of_z c.ranges.y) at c.saturating_mul.ensures) ∙ clamp_is w64 (c.args.x *ℤ c.args.y) in
    search flags
