use native.Mathlib.Omega.{arith}
use borrow.Author.Rules.{rules}
use Rattle.say.proofs.Saying.{done}
use Rattle.say.proofs.Claims.{prints-all}
use Rattle.sheet.specs.Lent.{Bytes}
use Rattle.check_sheet.proofs.Room.{check-has-room}
use Rattle.check_sheet.proofs.printed.check.Goals as goal

pub returns : goal.returns
returns c =
    let s = c.args.bytes.now in
    let b : Bytes s = λ j. omega (arith, c.shared_slice_known-1.given j) in
    let r = check-has-room s b (search rules) in
    let e = c.check_text.ensures in
    prints-all _ _ _ _ (done e.says (search (rules, e.same))) (omega (arith, r))
