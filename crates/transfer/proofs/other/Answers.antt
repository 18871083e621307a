use mathlib.Core.Path.{sym, ◌∙◌}
use mathlib.Core.Bool.{true, false}
use lib.IntN.{pos}
use mir.Syntax.{w64}
use mir.Val.{SFits}
use Rattle.whole.proofs.Fits.{machine}
use Rattle.whole.proofs.Flags.{lt-flag}
use Rattle.transfer.specs.Operator.{other}
use Rattle.transfer.proofs.other.Goals as goal
use Rattle.transfer.proofs.other.Goals.{then-op-lt2, else-op-lt2}

fits-2 : SFits w64 (pos 2)
fits-2 = omega machine

fits-15 : SFits w64 (pos 15)
fits-15 = omega machine

pub returns-then-op-gt15 : goal.returns-then-op-gt15
unfolding other
returns-then-op-gt15 c = elim c.if-op-lt2.branch [
  | then-op-lt2 w ↦ rw (lt-flag c.args.op (pos 2) true w.if-op-lt2.true c.ranges.op fits-2)
  | else-op-lt2 w ↦ rw (
    lt-flag c.args.op (pos 2) false w.if-op-lt2.false c.ranges.op fits-2,
    lt-flag (pos 15) c.args.op true (sym w.value-is ∙ c.if-op-gt15.true) fits-15 c.ranges.op,
  )
]

pub returns-else-op-gt15 : goal.returns-else-op-gt15
unfolding other
returns-else-op-gt15 c = elim c.if-op-lt2.branch [
  | then-op-lt2 w ↦ cc
  | else-op-lt2 w ↦ rw (
    lt-flag c.args.op (pos 2) false w.if-op-lt2.false c.ranges.op fits-2,
    lt-flag (pos 15) c.args.op false (sym w.value-is ∙ c.if-op-gt15.false) fits-15 c.ranges.op,
  )
]
