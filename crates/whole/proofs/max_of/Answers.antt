use mathlib.Core.Path.{◌≡◌, ◌∙◌}
use mir.Facts.{to_z-of_z}
use Rattle.whole.specs.Whole.{max_ℤ}
use Rattle.whole.proofs.Flags.{flags}
use Rattle.whole.proofs.Library.{max_is}
use Rattle.whole.proofs.max_of.Goals as goal

pub returns : goal.returns
returns c =
    let e : c.max.result ≡ max_ℤ c.args.a c.args.b = (rw (to_z-of_z c.ranges.a, to_z-of_z c.ranges.b) at c.max.ensures.value) ∙ max_is c.args.a c.args.b in
    search flags
