use Rattle.whole.proofs.Flags.{flags, told}
use Rattle.interval.specs.Set.{canonical?}
use Rattle.interval.proofs.mended.canonical.Goals as goal

pub returns-then-is_empty : goal.returns-then-is_empty
unfolding canonical?
returns-then-is_empty c = search (told, flags)

pub returns-else-is_empty : goal.returns-else-is_empty
unfolding canonical?
returns-else-is_empty c = search (told, flags)
