use Prim.Native.Nat.{◌*◌, ◌≤◌}
use mathlib.Core.Path.{◌≡◌}
use lib.ListN.{length, take, drop}
use Rattle.whole.specs.Sized.{width_of}
use Rattle.step.specs.Run.{run_op}
use Rattle.sheet.specs.Sheet.{steps_of}
use Rattle.panel.specs.Run.{actions_of, run_from, run_sheet}
use Rattle.panel.proofs.run_steps.Given as goal

abbrev pub invariant-loop-k : goal.invariant-loop-k
invariant-loop-k l =
    (l.k ≤ l.n)
    × (l.j ≤ l.k)
    × (length l.room ≡ length l.initial.room)
    × (drop l.k l.room ≡ drop l.k l.initial.room)
    × (run_from (run_op (width_of l.size)) (drop l.j l.inputs) (take l.k l.room) (actions_of (steps_of (drop (l.k * 4) l.steps))) ≡ run_sheet (run_op (width_of l.size)) l.inputs (steps_of l.steps))
