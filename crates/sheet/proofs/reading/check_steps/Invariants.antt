use Prim.Native.Nat.{◌-◌, ◌≤◌}
use mathlib.Core.Path.{◌≡◌}
use Rattle.sheet.specs.Got.{verdict_of}
use Rattle.sheet.specs.Sheet.{steps_from}
use Rattle.sheet.proofs.reading.check_steps.Given as goal

abbrev pub invariant-loop-k : goal.invariant-loop-k
invariant-loop-k l = (l.k ≤ l.n) × (verdict_of (steps_from l.n l.s 0 l.from) ≡ verdict_of (steps_from (l.n - l.k) l.s l.k l.at))
