use Rattle.whole.specs.declared.Size.TheVariants.{B64}
use Rattle.whole.proofs.Flags.{flags}
use Rattle.interval.specs.Mended.{mul}
use Rattle.interval.proofs.Ranges.{products-made, mul-called}
use Rattle.interval.proofs.mended.mul.Goals as goal

pub returns : goal.returns
unfolding mul
returns c = search (products-made, mul-called B64, flags) depth 8 fits 5000
