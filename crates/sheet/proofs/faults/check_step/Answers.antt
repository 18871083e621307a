use Prim.Native.Nat.{◌≤◌, ◌<◌}
use mathlib.Core.Path.{◌≡◌}
use mathlib.Core.Bool.{false}
use borrow.Author.Tests.{lt-ltb, le-ltb}
use borrow.Author.Rules.{rules}
use lib.IntN.{pos}
use mir.Syntax.{w64}
use mir.Val.{SFits}
use mir.ValLaws.{to_z-of_z}
use Rattle.whole.specs.Whole.{up}
use Rattle.whole.specs.Test.{◌<?◌}
use Rattle.whole.proofs.Flags.{flags}
use Rattle.sheet.specs.Step.{step_fault}
use Rattle.sheet.proofs.faults.check_step.Goals as goal

pub returns-then-step-lt0 : goal.returns-then-step-lt0
unfolding step_fault
returns-then-step-lt0 c =
    let f : SFits w64 c.args.step.operator = search rules in
    search flags

pub returns-then-op-lt-OPERATORS : goal.returns-then-op-lt-OPERATORS
unfolding step_fault
returns-then-op-lt-OPERATORS c =
    let op = c.args.step.operator in
    let f : SFits w64 op = search rules in
    let n = rw (to_z-of_z w64 op f) at c.natural-op.ensures in
    let m : (op <? pos 0) ≡ false = search flags in
    let t : up op < 17 = rw n at c.if-op-lt-OPERATORS.true in
    rw (m, lt-ltb (up op) 17 t) (rw (c.fields_of.ensures, n) at c.check_fields.ensures)

pub returns-else-op-lt-OPERATORS : goal.returns-else-op-lt-OPERATORS
unfolding step_fault
returns-else-op-lt-OPERATORS c =
    let op = c.args.step.operator in
    let f : SFits w64 op = search rules in
    let n = rw (to_z-of_z w64 op f) at c.natural-op.ensures in
    let m : (op <? pos 0) ≡ false = search flags in
    let t : 17 ≤ up op = rw n at c.if-op-lt-OPERATORS.false in
    rw (m, le-ltb (up op) 17 t)
