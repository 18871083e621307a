use Rattle.whole.proofs.Sizes.{quot-held}
use Rattle.whole.proofs.Flags.{flags}
use Rattle.whole.proofs.Size.quotient.Goals as goal

pub returns : goal.returns
returns c = search (quot-held, flags) depth 8
