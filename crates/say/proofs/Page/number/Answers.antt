use mir.Syntax.{w64}
use mir.ValLaws.{to_z-of_z}
use Rattle.std.proofs.Common.{refl}
use Rattle.say.proofs.Saying.{puts-one}
use Rattle.text.specs.Decimal.{decimal}
use Rattle.say.proofs.Page.number.Goals as goal

pub returns : goal.returns
returns c =
    let a = c.args in
    let p = (rw (to_z-of_z w64 a.n c.ranges.n) at c.put_number.ensures) in
    puts-one (decimal a.n) _ p.0 p.1 c.unwrap_or-self.ensures refl
