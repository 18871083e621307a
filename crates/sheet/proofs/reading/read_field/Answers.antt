use mathlib.Core.Path.{◌≡◌}
use mir.Syntax.{w64}
use mir.Val.{of_z, to_z}
use Rattle.sheet.specs.Field.{field_at}
use borrow.Author.Rules.{rules}
use Rattle.sheet.proofs.reading.read_field.Goals as goal

pub returns-in-Unused : goal.returns-in-Unused
unfolding field_at
returns-in-Unused c = rw c.in-Unused.is

pub returns-in-Signed : goal.returns-in-Signed
unfolding field_at
returns-in-Signed c = rw c.in-Signed.is c.read_signed.ensures

pub returns-in-High : goal.returns-in-High
unfolding field_at
returns-in-High c =
    let low = c.args.low in
    let e : to_z w64 (of_z w64 low) ≡ low = search rules in
    rw c.in-High.is (rw e at c.read_high.ensures)

pub returns-in-Earlier : goal.returns-in-Earlier
unfolding field_at
returns-in-Earlier c = rw c.in-Earlier.is c.read_operand.ensures
