use native.Mathlib.Omega.{arith}
use Rattle.say.proofs.Sizes.{joined-size}
use borrow.Author.Rules.{rules}
use Rattle.say.proofs.Saying.{done}
use Rattle.say.proofs.Claims.{prints-all}
use Rattle.run_sheet.proofs.printed.run.Goals as goal

pub returns : goal.returns
returns c =
    let e = c.run_text.ensures in
    prints-all _ _ _ _ (done e.0.says (search (rules, e.0.same))) (rw joined-size (omega (arith, e.1)))
