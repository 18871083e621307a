use Rattle.whole.proofs.Flags.{flags}
use Rattle.whole.proofs.Sizes.{fits_told}
use Rattle.whole.specs.Exact.{exactly}
use Rattle.whole.proofs.Size.exact.Goals as goal

pub returns-then-fits : goal.returns-then-fits
unfolding exactly
returns-then-fits c = search (fits_told, flags)

pub returns-else-fits : goal.returns-else-fits
unfolding exactly
returns-else-fits c = search (fits_told, flags)
