use Rattle.std.proofs.Common.{sym, ◌∙◌, arith}
use Rattle.text.proofs.Reading.{minus-there, plus-there, minus-inside}
use Rattle.text.proofs.decimal.get_number.Goals as goal

pub overflow_add-at : goal.overflow_add-at
overflow_add-at c =
    let a = c.args in
    omega (arith, minus-inside a.s.now a.at (sym c.begins_with.ensures ∙ c.if-begins_with.true))

pub returns-then-begins_with : goal.returns-then-begins_with
returns-then-begins_with c =
    let a = c.args in
    c.get_minus.ensures ∙ minus-there a.s.now a.at (sym c.begins_with.ensures ∙ c.if-begins_with.true)

pub returns-else-begins_with : goal.returns-else-begins_with
returns-else-begins_with c =
    let a = c.args in
    c.get_plus.ensures ∙ plus-there a.s.now a.at (sym c.begins_with.ensures ∙ c.if-begins_with.false)
