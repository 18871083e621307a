use Rattle.whole.proofs.Sizes.{add-held}
use Rattle.whole.proofs.Flags.{flags}
use Rattle.whole.proofs.Size.add.Goals as goal

pub returns : goal.returns
returns c = search (add-held, flags) depth 8
