use mathlib.Core.Path.{sym}
use Rattle.ask.proofs.Storing.{fitting}
use Rattle.ask.proofs.take.bytes.Goals as goal

pub returns-else-n-eq0 : goal.returns-else-n-eq0
returns-else-n-eq0 c = fitting _ _ _ _ _ (sym c.in_ok-n-in-32-2.ensures.0)
