use Rattle.interval.proofs.Calls.{asked}
use Rattle.interval.specs.Mended.{filled}
use Rattle.whole.proofs.Flags.{flags}
use Rattle.interval.proofs.filled.Goals as goal

pub returns-then-is_empty : goal.returns-then-is_empty
unfolding filled
returns-then-is_empty c = search (asked, flags)

pub returns-else-is_empty : goal.returns-else-is_empty
unfolding filled
returns-else-is_empty c = search (asked, flags)
