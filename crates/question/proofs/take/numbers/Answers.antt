use Rattle.question.specs.Taken.{number_after, numbers_after, count_after}
use Rattle.question.proofs.Taking.{number-ends}
use Rattle.question.proofs.take.numbers.Goals as goal

pub returns-clause-told : goal.returns-clause-told
unfolding numbers_after count_after
returns-clause-told c = c.operands.ensures.told number_after (record { answered = λ s p r k. k; ends = number-ends })
