use Rattle.whole.proofs.Sizes.{mul-held}
use Rattle.whole.proofs.Flags.{flags}
use Rattle.whole.proofs.Size.mul.Goals as goal

pub returns : goal.returns
returns c = search (mul-held, flags) depth 8
