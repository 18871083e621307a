use mathlib.Core.Path.{◌≡◌}
use mir.Syntax.{w64}
use mir.Val.{to_z, of_z}
use borrow.Author.Rules.{rules}
use Rattle.say.proofs.Page.interval_at.Goals as goal

pub returns : goal.returns
returns c =
    let i = c.args.i in
    let el : to_z w64 (of_z w64 i.min) ≡ i.min = search rules in
    let eh : to_z w64 (of_z w64 i.max) ≡ i.max = search rules in
    rw (el, eh) at c.range.ensures
