use Prim.Native.Nat.{◌≤◌, ◌<◌, ◌-◌, ◌^◌, ◌/◌, ◌%◌}
use mathlib.Core.Path.{◌≡◌}
use lib.ListN.{length, drop}
use Rattle.sheet.specs.Number.{read_number, groups_from}
use Rattle.sheet.proofs.number.read_number.Given as goal

abbrev pub invariant-loop-shift : goal.invariant-loop-shift
invariant-loop-shift l =
    (l.shift ≤ 70)
    × (l.shift % 7 ≡ 0)
    × (l.value < 2 ^ l.shift)
    × (read_number l.s l.at ≡ groups_from (10 - l.shift / 7) (drop l.i l.s) l.at (length l.s) l.i (2 ^ l.shift) l.value)

abbrev pub decreases-loop-shift : goal.decreases-loop-shift
decreases-loop-shift l = 70 - l.shift
