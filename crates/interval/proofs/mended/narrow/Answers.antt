use Rattle.whole.proofs.Flags.{flags}
use Rattle.interval.specs.Mended.{narrow}
use Rattle.interval.proofs.Calls.{asked, is_made, filled-called}
use Rattle.interval.proofs.mended.narrow.Goals.{then-not-canonical-via-then-not-canonical, then-not-canonical-via-else-not-canonical+then-not-canonical-2}
use Rattle.interval.proofs.mended.narrow.Goals as goal

pub returns-then-not-canonical : goal.returns-then-not-canonical
unfolding narrow
returns-then-not-canonical c = elim c.then-not-canonical.branch [ then-not-canonical-via-then-not-canonical w ↦ search (asked, flags) depth 8 fits 5000 | then-not-canonical-via-else-not-canonical+then-not-canonical-2 w ↦ search (asked, flags) depth 8 fits 5000 ]

pub returns : goal.returns
unfolding narrow
returns c = search (is_made, filled-called, asked, flags) depth 8 fits 5000
