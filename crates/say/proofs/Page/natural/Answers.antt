use Rattle.std.proofs.Common.{refl}
use Rattle.say.proofs.Saying.{puts-one}
use Rattle.text.specs.Decimal.{digits}
use Rattle.say.proofs.Page.natural.Goals as goal

pub returns : goal.returns
returns c =
    let a = c.args in
    let p = c.put_natural.ensures in
    puts-one (digits a.n) _ p.0 p.1 c.unwrap_or-self.ensures refl
