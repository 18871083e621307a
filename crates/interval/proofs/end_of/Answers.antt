use Rattle.whole.proofs.Flags.{flags}
use Rattle.interval.proofs.end_of.Goals as goal

pub returns-then-previous-infinite : goal.returns-then-previous-infinite
returns-then-previous-infinite c = search flags

pub returns-else-previous-infinite : goal.returns-else-previous-infinite
returns-else-previous-infinite c = search flags
