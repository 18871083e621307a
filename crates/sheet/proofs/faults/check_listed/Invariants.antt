use Rattle.sheet.specs.Sheet.{steps_fault, steps_of}
use lib.ListN.{drop}
use mathlib.Core.Path.{◌≡◌}
use Prim.Native.Nat.{◌*◌, ◌≤◌}
use Rattle.sheet.proofs.faults.check_listed.Given as goal

abbrev pub invariant-loop-k : goal.invariant-loop-k
invariant-loop-k l = (l.k ≤ l.n) × (steps_fault 0 (steps_of l.steps) ≡ steps_fault l.k (steps_of (drop (l.k * 4) l.steps)))
