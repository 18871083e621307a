use Prim.Native.Nat.{◌*◌, ◌≤◌}
use mathlib.Core.Path.{◌≡◌}
use lib.ListN.{length, drop}
use Rattle.sheet.specs.Sheet.{steps_of}
use Rattle.panel.specs.Run.{actions_of, suits?}
use Rattle.panel.proofs.suits.Given as goal

abbrev pub invariant-loop-k : goal.invariant-loop-k
invariant-loop-k l =
    (l.k ≤ l.n)
    × (l.j ≤ length l.inputs)
    × (suits? (actions_of (steps_of (drop (l.k * 4) l.steps))) (drop l.j l.inputs) ≡ suits? (actions_of (steps_of l.steps)) l.inputs)
