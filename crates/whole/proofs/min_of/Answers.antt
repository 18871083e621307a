use mathlib.Core.Path.{◌≡◌, ◌∙◌}
use mir.Facts.{to_z-of_z}
use Rattle.whole.specs.Whole.{min_ℤ}
use Rattle.whole.proofs.Flags.{flags}
use Rattle.whole.proofs.Library.{min_is}
use Rattle.whole.proofs.min_of.Goals as goal

pub returns : goal.returns
returns c =
    let e : c.min.result ≡ min_ℤ c.args.a c.args.b = (rw (to_z-of_z c.ranges.a, to_z-of_z c.ranges.b) at c.min.ensures.value) ∙ min_is c.args.a c.args.b in
    search flags
