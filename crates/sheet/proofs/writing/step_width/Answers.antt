use Rattle.sheet.proofs.Sizes.{number_size, field-size, step-parts}
use mir.Val.{of_z, to_z}
use mir.Syntax.{w64}
use native.Mathlib.Omega.{arith}
use mathlib.Core.Path.{◌≡◌, sym}
use borrow.Author.Rules.{rules}
use Prim.Native.Nat.{◌≤◌}
use Rattle.sheet.proofs.writing.step_width.Goals as goal
use Rattle.sheet.proofs.writing.step_width.Goals.{After-width}

-- each part is at most ten bytes long
small : (c : After-width) → (c.width.result ≤ 10) × (c.field_width-a.result ≤ 10) × (c.field_width-b.result ≤ 10) × (c.field_width-c.result ≤ 10)
small c = (
  rw c.width.ensures (number_size c.natural-o.result),
  rw c.field_width-a.ensures (field-size c.first.result (to_z w64 (of_z w64 c.args.step.a))),
  rw c.field_width-b.ensures (field-size c.second.result (to_z w64 (of_z w64 c.args.step.b))),
  rw c.field_width-c.ensures (field-size c.third.result (to_z w64 (of_z w64 c.args.step.c))),
)

pub overflow_add-result : goal.overflow_add-result
overflow_add-result c = record { fits = omega (arith, small c) }

pub overflow_add-result-2 : goal.overflow_add-result-2
overflow_add-result-2 c = record { fits = omega (arith, small c) }

pub overflow_add-result-3 : goal.overflow_add-result-3
overflow_add-result-3 c = record { fits = omega (arith, small c) }

pub returns : goal.returns
returns c =
    let s = c.args.step in
    let eo : to_z w64 (of_z w64 s.operator) ≡ s.operator = search rules in
    let ea : to_z w64 (of_z w64 s.a) ≡ s.a = search rules in
    let eb : to_z w64 (of_z w64 s.b) ≡ s.b = search rules in
    let ec : to_z w64 (of_z w64 s.c) ≡ s.c = search rules in
    let o = rw eo at c.natural-o.ensures in
    let f = rw o at c.fields_of-f.ensures in
    let a = rw (c.first.ensures, f, ea) at c.field_width-a.ensures in
    let b = rw (c.second.ensures, f, eb) at c.field_width-b.ensures in
    let d = rw (c.third.ensures, f, ec) at c.field_width-c.ensures in
    let w = rw o at c.width.ensures in
    rw (w, a, b, d) (sym (step-parts s))
