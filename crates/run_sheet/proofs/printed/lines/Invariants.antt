use Prim.Native.Nat.{◌*◌, ◌≤◌}
use lib.ListN.{length, take}
use Rattle.say.specs.Said.{size, Puts}
use Rattle.say.specs.Texts.{numbered}
use Rattle.run_sheet.specs.Text.{step_line}
use Rattle.run_sheet.proofs.printed.lines.Given as goal

abbrev pub invariant-loop-k : goal.invariant-loop-k
invariant-loop-k l = Puts (numbered step_line 0 (take l.k l.numbers)) l.initial.page l.page × (length l.numbers ≤ 256 → size (numbered step_line 0 (take l.k l.numbers)) ≤ 25 * l.k)
