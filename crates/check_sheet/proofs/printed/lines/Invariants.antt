use Rattle.say.specs.Said.{Puts}
use Rattle.say.specs.Texts.{numbered}
use Rattle.desk.specs.Five.{shown_first}
use Rattle.check_sheet.specs.Text.{step_line}
use Rattle.check_sheet.proofs.printed.lines.Given as goal

abbrev pub invariant-loop-k : goal.invariant-loop-k
invariant-loop-k l = Puts (numbered step_line 0 (shown_first l.room l.k)) l.initial.page l.page
