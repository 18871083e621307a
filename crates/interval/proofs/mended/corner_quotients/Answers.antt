use Rattle.whole.proofs.Flags.{flags}
use Rattle.interval.proofs.Ranges.{quotients-held, quot-called}
use Rattle.interval.proofs.mended.corner_quotients.Goals as goal

pub returns : goal.returns
returns c = search (quotients-held, quot-called, flags) depth 8 fits 5000
