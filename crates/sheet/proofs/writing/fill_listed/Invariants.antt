use lib.Seq.{sets}
use Rattle.sheet.specs.Sheet.{steps_bytes, steps_of}
use lib.ListN.{length, drop}
use mathlib.Core.Path.{◌≡◌}
use Prim.Native.Nat.{◌+◌, ◌*◌, ◌≤◌}
use Rattle.sheet.proofs.writing.fill_listed.Given as goal

abbrev pub invariant-loop-k : goal.invariant-loop-k
invariant-loop-k l =
    (l.k ≤ l.n)
    × (length l.out ≡ length l.initial.out)
    × (l.at + length (steps_bytes (steps_of (drop (l.k * 4) l.steps))) ≤ length l.initial.out)
    × (sets l.initial.out l.from (steps_bytes (steps_of l.steps)) ≡ sets l.out l.at (steps_bytes (steps_of (drop (l.k * 4) l.steps))))
