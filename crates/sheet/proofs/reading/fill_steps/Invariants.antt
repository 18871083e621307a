use Prim.Native.Nat.{◌-◌, ◌*◌, ◌≤◌}
use mathlib.Core.Path.{◌≡◌}
use lib.ListN.{length}
use lib.Seq.{sets}
use Rattle.sheet.specs.Got.{fine, verdict_of}
use Rattle.sheet.specs.Sheet.{steps_from, steps_in, flat}
use Rattle.sheet.proofs.reading.fill_steps.Given as goal

abbrev pub invariant-loop-k : goal.invariant-loop-k
invariant-loop-k l =
    (l.k ≤ l.n)
    × (verdict_of (steps_from (l.n - l.k) l.s l.k l.at) ≡ fine)
    × (length l.out ≡ length l.initial.out)
    × (sets l.initial.out 0 (flat (steps_in (steps_from l.n l.s 0 l.from))) ≡ sets l.out (l.k * 4) (flat (steps_in (steps_from (l.n - l.k) l.s l.k l.at))))
