use mathlib.Core.Path.{refl}
use Rattle.whole.proofs.Flags.{flags}
use Rattle.interval.specs.Ends.{range_of}
use Rattle.interval.proofs.mended.range_of.Goals as goal

pub returns-in_default : goal.returns-in_default
unfolding range_of
returns-in_default c = rw (c.in_default.is-0, c.in_default.is-1) refl

pub returns-in_default-2 : goal.returns-in_default-2
unfolding range_of
returns-in_default-2 c = rw c.in_default.is-0 refl

pub returns : goal.returns
unfolding range_of
returns c = rw (c.in-Some-Some.is-0, c.in-Some-Some.is-1) (search flags)
