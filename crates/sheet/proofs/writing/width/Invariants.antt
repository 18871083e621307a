use Prim.Native.Nat.{◌≤◌, ◌<◌, ◌-◌, ◌+◌, ◌*◌, ◌^◌}
use mathlib.Core.Path.{◌≡◌}
use lib.ListN.{length}
use Rattle.sheet.specs.Number.{write_number, groups_of}
use Rattle.sheet.proofs.writing.width.Given as goal

abbrev pub invariant-loop-m : goal.invariant-loop-m
invariant-loop-m l =
    (l.k ≤ 9)
    × (l.m < 2 ^ (64 - 7 * l.k))
    × (length (write_number l.n) ≡ l.k + length (groups_of (9 - l.k) l.m))

abbrev pub decreases-loop-m : goal.decreases-loop-m
decreases-loop-m l = 9 - l.k
