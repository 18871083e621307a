use mathlib.Core.Path.{◌∙◌}
use Rattle.whole.specs.Test.{◌<?◌}
use Rattle.congruence.proofs.Values.{turned}
use Rattle.congruence.proofs.mended.greater.Goals as goal

pub returns : goal.returns
returns c = c.less.ensures ∙ turned _ ◌<?◌ c.args.b c.args.a
