use Rattle.text.proofs.Digits.{Storing}
use Rattle.std.proofs.Common.{◌+◌, ◌≤◌}
use Rattle.std.proofs.lemmas.List.Edits.{sets}
use Rattle.text.specs.Decimal.{digits}
use Rattle.text.proofs.decimal.fill_digits.Given as goal

abbrev pub invariant-loop-i : goal.invariant-loop-i
invariant-loop-i l = (l.at + 1 ≤ l.i) × Storing (sets l.initial.out l.at (digits l.n)) l.out l.at l.i l.m
