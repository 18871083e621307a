use mathlib.Core.Path.{ap, ◌∙◌}
use lib.IntN.{pos}
use mir.Syntax.{w64}
use mir.Val.{SFits}
use Rattle.whole.specs.Choice.{pick}
use Rattle.whole.specs.Test.{truth}
use Rattle.whole.proofs.Flags.{le_is}
use Rattle.congruence.proofs.Values.{values}
use Rattle.congruence.specs.Set.{cong, top, singles?}
use Rattle.congruence.specs.Mended.{comparison}
use Rattle.congruence.proofs.rules.at_most.Goals as goal

pub returns : goal.returns
unfolding comparison
returns c =
    let f : SFits w64 c.args.a.constant = search values in
    let g : SFits w64 c.args.b.constant = search values in
    c.compared.ensures ∙ ap (λ t. pick (singles? c.args.a c.args.b) (cong (truth t) (pos 0)) top) (le_is c.args.a.constant c.args.b.constant f g)
