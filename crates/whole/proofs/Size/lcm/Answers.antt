use Rattle.whole.proofs.Sizes.{held-is}
use Rattle.whole.proofs.Flags.{flags}
use Rattle.whole.proofs.Size.lcm.Goals as goal

pub returns : goal.returns
returns c = search (held-is, flags) depth 8
