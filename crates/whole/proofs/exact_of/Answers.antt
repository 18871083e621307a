use mathlib.Core.Path.{◌∙◌}
use mir.Syntax.{w64}
use Rattle.whole.proofs.Library.{converted_is}
use Rattle.whole.proofs.exact_of.Goals as goal

pub returns : goal.returns
returns c = c.ok.ensures.value ∙ converted_is w64 _ _ c.try_from.ensures
