use Rattle.whole.proofs.Flags.{flags}
use Rattle.sheet.proofs.faults.check_unused.Goals as goal

pub returns-in-Unused : goal.returns-in-Unused
returns-in-Unused c = rw c.in-Unused.is (search flags)

pub returns-in_default : goal.returns-in_default
returns-in_default c = rw c.in-Unused.is (search flags)
