use mathlib.Core.Path.{◌≡◌}
use lib.IntN.{pos}
use lib.ListN.{get_or}
use mir.Syntax.{w64}
use mir.Val.{to_z, of_z}
use borrow.Author.Rules.{rules}
use Rattle.say.specs.Texts.{spaced}
use Rattle.say.proofs.Saying.{◌and_then◌, nothing}
use Rattle.say.proofs.Spaced.{spaced-all, spaced-more}
use Rattle.say.proofs.Page.numbers.Goals as goal

pub loop-n-init : goal.loop-n-init
unfolding spaced
loop-n-init c = nothing _

pub loop-n-preserved : goal.loop-n-preserved
loop-n-preserved c =
    let v = c.loop-n in
    let l = c.args.list.now in
    let e : to_z w64 (of_z w64 (get_or l v.n-index (pos 0))) ≡ get_or l v.n-index (pos 0) = search rules in
    rw (spaced-more l v.n-index (search rules)) (v.invariant and_then (rw e at c.after_space.ensures))

pub returns : goal.returns
returns c =
    let l = c.args.list.now in
    rw (← spaced-all l c.loop-n.n-index (search rules)) c.loop-n.invariant
