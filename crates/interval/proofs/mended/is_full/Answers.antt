use Rattle.whole.proofs.Flags.{flags, told, was-false, was-true}
use Rattle.interval.specs.Full.{full?}
use Rattle.interval.proofs.mended.is_full.Goals as goal

pub returns-then-not-is_empty : goal.returns-then-not-is_empty
unfolding full?
returns-then-not-is_empty c = search (told, was-false, was-true, flags)

pub returns-else-not-is_empty : goal.returns-else-not-is_empty
unfolding full?
returns-else-not-is_empty c = search (told, was-true, flags)
