use mir.Syntax.{w64}
use mir.ValLaws.{to_z-of_z}
use Rattle.whole.specs.Sized.{width_of}
use Rattle.text.specs.End.{end_text}
use Rattle.std.proofs.Common.{refl}
use Rattle.say.proofs.Saying.{puts-one}
use Rattle.say.proofs.Page.range_end.Goals as goal

pub returns : goal.returns
returns c =
    let a = c.args in
    let p = (rw (to_z-of_z w64 a.n c.ranges.n) at c.put_end.ensures) in
    puts-one (end_text (width_of a.size) a.n) _ p.0 p.1 c.unwrap_or-self.ensures refl
