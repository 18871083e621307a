use Rattle.text.specs.Hex.{hex_text}
use Rattle.std.proofs.Common.{refl}
use Rattle.say.proofs.Saying.{puts-one}
use Rattle.say.proofs.Page.bytes.Goals as goal

pub returns : goal.returns
returns c =
    let a = c.args in
    let p = c.put_hex.ensures in
    puts-one (hex_text a.b.now) _ p.0 p.1 c.unwrap_or-self.ensures refl
