use mathlib.Core.Path.{ap₂, ◌∙◌}
use mathlib.Core.Bool.{◌&&◌}
use Rattle.congruence.proofs.Values.{eq-number}
use Rattle.congruence.specs.Set.{bottom?}
use Rattle.congruence.proofs.Congruence.is_bottom.Goals as goal

pub returns : goal.returns
unfolding bottom?
returns c = c.eq.ensures ∙ ap₂ ◌&&◌ (eq-number _ _) (eq-number _ _)
