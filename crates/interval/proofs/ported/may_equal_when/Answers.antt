use Rattle.whole.proofs.Flags.{flags}
use Rattle.interval.specs.Ported.{may_equal_when, meet}
use Rattle.interval.proofs.Calls.{asked}
use Rattle.interval.proofs.ported.may_equal_when.Goals as goal

pub returns-then-one_bottom : goal.returns-then-one_bottom
unfolding may_equal_when meet
returns-then-one_bottom c = search (asked, flags) depth 8 fits 5000

pub returns : goal.returns
unfolding may_equal_when meet
returns c = search (asked, flags) depth 8 fits 5000
