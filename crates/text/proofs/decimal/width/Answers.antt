use Rattle.std.proofs.Common.{sym, arith}
use Rattle.text.proofs.Digits.{width-between, one-digit}
use Rattle.text.proofs.decimal.width.Goals as goal

pub returns-in-Some : goal.returns-in-Some
returns-in-Some c = sym (width-between c.in-Some.k c.args.n c.in-Some.ensures.power_le c.in-Some.ensures.next_power_gt)

pub returns-in-None : goal.returns-in-None
returns-in-None c = sym (one-digit c.args.n (omega (arith, c.in-None.ensures.none)))

pub returns-then-n-lt10 : goal.returns-then-n-lt10
returns-then-n-lt10 c = sym (one-digit c.args.n (omega arith))

pub returns-then-n-lt100 : goal.returns-then-n-lt100
returns-then-n-lt100 c = sym (width-between 1 c.args.n (omega arith) (omega arith))

pub returns-then-n-lt1000 : goal.returns-then-n-lt1000
returns-then-n-lt1000 c = sym (width-between 2 c.args.n (omega arith) (omega arith))
