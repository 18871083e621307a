use mathlib.Core.Path.{◌∙◌}
use Rattle.whole.specs.Test.{◌≤?◌}
use Rattle.congruence.proofs.Values.{turned}
use Rattle.congruence.proofs.mended.greater_or_equal.Goals as goal

pub returns : goal.returns
returns c = c.less_or_equal.ensures ∙ turned _ ◌≤?◌ c.args.b c.args.a
