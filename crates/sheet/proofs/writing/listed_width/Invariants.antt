use Rattle.sheet.specs.Sheet.{steps_bytes, steps_of}
use lib.ListN.{length, drop}
use mathlib.Core.Path.{◌≡◌}
use Prim.Native.Nat.{◌+◌, ◌*◌, ◌≤◌}
use Rattle.sheet.proofs.writing.listed_width.Given as goal

abbrev pub invariant-loop-k : goal.invariant-loop-k
invariant-loop-k l =
    (l.k ≤ l.n)
    × (l.sum ≤ l.k * 40)
    × (l.sum + length (steps_bytes (steps_of (drop (l.k * 4) l.steps))) ≡ length (steps_bytes (steps_of l.steps)))
