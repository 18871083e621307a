use Rattle.whole.proofs.Flags.{flags}
use Rattle.interval.specs.Ported.{sign_of}
use Rattle.interval.proofs.Calls.{asked}
use Rattle.interval.proofs.sign_of.Goals as goal

pub returns-then-is_bottom : goal.returns-then-is_bottom
unfolding sign_of
returns-then-is_bottom c = search (asked, flags) depth 8 fits 5000

pub returns-then-is_only : goal.returns-then-is_only
unfolding sign_of
returns-then-is_only c = search (asked, flags) depth 8 fits 5000

pub returns : goal.returns
unfolding sign_of
returns c = search (asked, flags) depth 8 fits 5000
