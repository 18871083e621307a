use lib.ListN.{get_or-eq_default}
use borrow.Author.Tests.{eq-eqb, ne_eqb}
use Rattle.question.specs.Taken.{number_after}
use Rattle.question.proofs.take.number.Goals as goal

pub returns-then-line-at : goal.returns-then-line-at
unfolding number_after
returns-then-line-at c = rw (get_or-eq_default c.args.line.now 0 c.if-line-at.true)

pub returns-then-line-at-eq32 : goal.returns-then-line-at-eq32
unfolding number_after
returns-then-line-at-eq32 c = rw (eq-eqb _ 32 c.if-line-at-eq32.true) c.get_number.ensures

pub returns-else-line-at-eq32 : goal.returns-else-line-at-eq32
unfolding number_after
returns-else-line-at-eq32 c = rw (ne_eqb _ 32 c.if-line-at-eq32.false)
