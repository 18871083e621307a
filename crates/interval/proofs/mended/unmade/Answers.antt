use Rattle.whole.proofs.Flags.{flags}
use Rattle.interval.specs.Full.{unmade}
use Rattle.interval.proofs.Calls.{asked, is_made}
use Rattle.interval.proofs.mended.unmade.Goals.{else-canonical-via-then-canonical+else-canonical-2, else-canonical-via-else-canonical}
use Rattle.interval.proofs.mended.unmade.Goals as goal

pub returns-then-canonical-2 : goal.returns-then-canonical-2
unfolding unmade
returns-then-canonical-2 c = search (is_made, asked, flags) depth 8 fits 5000

pub returns-else-canonical : goal.returns-else-canonical
unfolding unmade
returns-else-canonical c = elim c.else-canonical.branch [ else-canonical-via-then-canonical+else-canonical-2 w ↦ search (asked, flags) depth 8 fits 5000 | else-canonical-via-else-canonical w ↦ search (asked, flags) depth 8 fits 5000 ]
