use Prim.Native.Nat.{◌≤◌, ◌<◌, ◌-◌, ◌+◌, ◌*◌, ◌^◌}
use mathlib.Core.Path.{◌≡◌}
use lib.ListN.{length}
use Rattle.sheet.specs.Number.{write_number, groups_of}
use lib.Seq.{sets}
use Rattle.sheet.proofs.writing.fill_number.Given as goal

abbrev pub invariant-loop-m : goal.invariant-loop-m
invariant-loop-m l =
    (l.at ≤ l.i)
    × (l.i ≤ l.at + 9)
    × (l.m < 2 ^ (64 - 7 * (l.i - l.at)))
    × (length l.out ≡ length l.initial.out)
    × (l.i + length (groups_of (9 - (l.i - l.at)) l.m) ≤ length l.initial.out)
    × (sets l.initial.out l.at (write_number l.n) ≡ sets l.out l.i (groups_of (9 - (l.i - l.at)) l.m))
    × (l.i + length (groups_of (9 - (l.i - l.at)) l.m) ≡ l.at + length (write_number l.n))

abbrev pub decreases-loop-m : goal.decreases-loop-m
decreases-loop-m l = 9 - (l.i - l.at)
