use Rattle.whole.proofs.Sizes.{neg-held}
use Rattle.whole.proofs.Flags.{flags}
use Rattle.whole.proofs.Size.neg.Goals as goal

pub returns : goal.returns
returns c = search (neg-held, flags) depth 8
