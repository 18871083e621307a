use mathlib.Core.Path.{◌≡◌, sym, ◌∙◌}
use mir.Syntax.{w64}
use mir.Val.{of_z, to_z}
use Rattle.sheet.specs.Step.{fields_fault}
use Rattle.sheet.proofs.Refusals.{fault-refused}
use borrow.Author.Rules.{rules}
use Rattle.sheet.proofs.faults.check_fields.Goals as goal

pub returns-in_err-check_unused : goal.returns-in_err-check_unused
unfolding fields_fault
returns-in_err-check_unused c =
    let ea : to_z w64 (of_z w64 c.args.step.a) ≡ c.args.step.a = search rules in
    let u₁ = rw (c.first.ensures, ea) at c.in_err-check_unused.ensures in
    fault-refused c.from_residual.result _ c.from_residual.ensures.1 ∙ rw (sym u₁)

pub returns-in_err-check_unused-2 : goal.returns-in_err-check_unused-2
unfolding fields_fault
returns-in_err-check_unused-2 c =
    let ea : to_z w64 (of_z w64 c.args.step.a) ≡ c.args.step.a = search rules in
    let eb : to_z w64 (of_z w64 c.args.step.b) ≡ c.args.step.b = search rules in
    let u₁ = rw (c.first.ensures, ea) at c.in_ok-check_unused.ensures in
    let u₂ = rw (c.second.ensures, eb) at c.in_err-check_unused-2.ensures in
    fault-refused c.from_residual-in_err-check_unused-2.result _ c.from_residual-in_err-check_unused-2.ensures.1 ∙ rw (sym u₁, sym u₂)

pub returns-in_err-check_unused-3 : goal.returns-in_err-check_unused-3
unfolding fields_fault
returns-in_err-check_unused-3 c =
    let ea : to_z w64 (of_z w64 c.args.step.a) ≡ c.args.step.a = search rules in
    let eb : to_z w64 (of_z w64 c.args.step.b) ≡ c.args.step.b = search rules in
    let ec : to_z w64 (of_z w64 c.args.step.c) ≡ c.args.step.c = search rules in
    let u₁ = rw (c.first.ensures, ea) at c.in_ok-check_unused.ensures in
    let u₂ = rw (c.second.ensures, eb) at c.in_ok-check_unused-2.ensures in
    let u₃ = rw (c.third.ensures, ec) at c.in_err-check_unused-3.ensures in
    fault-refused c.from_residual-in_err-check_unused-3.result _ c.from_residual-in_err-check_unused-3.ensures.1 ∙ rw (sym u₁, sym u₂, sym u₃)

pub returns-in_err-check_field : goal.returns-in_err-check_field
unfolding fields_fault
returns-in_err-check_field c =
    let ea : to_z w64 (of_z w64 c.args.step.a) ≡ c.args.step.a = search rules in
    let eb : to_z w64 (of_z w64 c.args.step.b) ≡ c.args.step.b = search rules in
    let ec : to_z w64 (of_z w64 c.args.step.c) ≡ c.args.step.c = search rules in
    let u₁ = rw (c.first.ensures, ea) at c.in_ok-check_unused.ensures in
    let u₂ = rw (c.second.ensures, eb) at c.in_ok-check_unused-2.ensures in
    let u₃ = rw (c.third.ensures, ec) at c.in_ok-check_unused-3.ensures in
    let f₁ = rw (c.first-2.ensures, ea) at c.in_err-check_field.ensures in
    fault-refused c.from_residual-in_err-check_field.result _ c.from_residual-in_err-check_field.ensures.1 ∙ rw (sym u₁, sym u₂, sym u₃, sym f₁)

pub returns-in_err-check_field-2 : goal.returns-in_err-check_field-2
unfolding fields_fault
returns-in_err-check_field-2 c =
    let ea : to_z w64 (of_z w64 c.args.step.a) ≡ c.args.step.a = search rules in
    let eb : to_z w64 (of_z w64 c.args.step.b) ≡ c.args.step.b = search rules in
    let ec : to_z w64 (of_z w64 c.args.step.c) ≡ c.args.step.c = search rules in
    let u₁ = rw (c.first.ensures, ea) at c.in_ok-check_unused.ensures in
    let u₂ = rw (c.second.ensures, eb) at c.in_ok-check_unused-2.ensures in
    let u₃ = rw (c.third.ensures, ec) at c.in_ok-check_unused-3.ensures in
    let f₁ = rw (c.first-2.ensures, ea) at c.in_ok-check_field.ensures in
    let f₂ = rw (c.second-2.ensures, ea, eb) at c.in_err-check_field-2.ensures in
    fault-refused c.from_residual-in_err-check_field-2.result _ c.from_residual-in_err-check_field-2.ensures.1 ∙ rw (sym u₁, sym u₂, sym u₃, sym f₁, sym f₂)

pub returns : goal.returns
unfolding fields_fault
returns c =
    let ea : to_z w64 (of_z w64 c.args.step.a) ≡ c.args.step.a = search rules in
    let eb : to_z w64 (of_z w64 c.args.step.b) ≡ c.args.step.b = search rules in
    let ec : to_z w64 (of_z w64 c.args.step.c) ≡ c.args.step.c = search rules in
    let u₁ = rw (c.first.ensures, ea) at c.in_ok-check_unused.ensures in
    let u₂ = rw (c.second.ensures, eb) at c.in_ok-check_unused-2.ensures in
    let u₃ = rw (c.third.ensures, ec) at c.in_ok-check_unused-3.ensures in
    let f₁ = rw (c.first-2.ensures, ea) at c.in_ok-check_field.ensures in
    let f₂ = rw (c.second-2.ensures, ea, eb) at c.in_ok-check_field-2.ensures in
    let f₃ = rw (c.third-2.ensures, ea, ec) at c.check_field-3.ensures in
    rw (f₃, sym u₁, sym u₂, sym u₃, sym f₁, sym f₂)
