use Rattle.whole.proofs.Sizes.{sub_held}
use Rattle.whole.proofs.Flags.{flags}
use Rattle.whole.proofs.Size.sub.Goals as goal

pub returns : goal.returns
returns c = search (sub_held, flags) depth 8
