use Rattle.std.proofs.Common.{refl}
use Rattle.say.proofs.Saying.{puts-one}
use Rattle.say.proofs.Page.word.Goals as goal

pub returns : goal.returns
returns c =
    let a = c.args in
    let p = c.put_word.ensures in
    puts-one a.w.now _ p.0 p.1 c.unwrap_or-self.ensures refl
