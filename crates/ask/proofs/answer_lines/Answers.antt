use Rattle.std.proofs.Common.{take_all, arith, rules}
use Rattle.ask.proofs.Ending.{unfinished-none, left-count, left-first}
use Rattle.ask.proofs.answer_lines.Goals as goal

pub returns-in_default-clause-count : goal.returns-in_default-clause-count
returns-in_default-clause-count g c = rw (unfinished-none c.args.text.now (search rules))

pub returns-in_default-clause-left : goal.returns-in_default-clause-left
returns-in_default-clause-left g c = rw (unfinished-none c.args.text.now (search rules)) (take_all _ c.args.text.now (omega arith))

pub returns-clause-count : goal.returns-clause-count
returns-clause-count g c = left-count c.args.text.now c.in-Some.last (search rules) (search rules) (search rules) _ (omega arith)

pub returns-clause-left : goal.returns-clause-left
returns-clause-left g c = left-first c.args.text.now c.in-Some.last (search rules) (search rules) (search rules) c.copy_within.new.self _ c.copy_within.ensures.after (omega arith)
