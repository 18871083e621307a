use Prim.Native.Nat.{◌≤◌}
use Rattle.whole.specs.Sized.{width_of}
use Rattle.desk.proofs.Walk.{Walked}
use Rattle.desk.proofs.check_steps.Given as goal

abbrev pub invariant-loop-k : goal.invariant-loop-k
invariant-loop-k l = (l.k ≤ l.n) × Walked (width_of l.size) l.steps l.initial.room l.room l.k
