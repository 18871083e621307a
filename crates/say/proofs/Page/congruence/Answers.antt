use Rattle.say.proofs.Saying.{◌and_then◌}
use mathlib.Core.Path.{◌≡◌}
use mir.Syntax.{w64}
use mir.Val.{to_z, of_z}
use borrow.Author.Rules.{rules}
use Rattle.say.proofs.Page.congruence.Goals as goal

pub returns : goal.returns
returns c =
    let x = c.args.c in
    let ec : to_z w64 (of_z w64 x.constant) ≡ x.constant = search rules in
    let em : to_z w64 (of_z w64 x.modulus) ≡ x.modulus = search rules in
    (rw ec at c.number.ensures) and_then c.word.ensures and_then (rw em at c.number-2.ensures)
