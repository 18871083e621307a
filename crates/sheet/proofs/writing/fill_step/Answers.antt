use Rattle.sheet.proofs.Listed.{Filled, filled-then, room-then}
use Rattle.sheet.proofs.Sizes.{step-parts}
use Rattle.sheet.specs.Step.{row_of, step_bytes}
use Rattle.sheet.specs.Field.{field_bytes}
use Rattle.sheet.specs.Operator.{fields_of, first, second, third}
use Rattle.sheet.specs.Number.{write_number}
use Rattle.whole.specs.Whole.{up}
use mir.ValLaws.{to_z-of_z}
use mir.Syntax.{w64}
use lib.IntN.{ℤ}
use lib.ListN.{length, length-append}
use native.Mathlib.Omega.{arith}
use mathlib.Core.List.{List, ◌++◌, append_assoc}
use mathlib.Core.Path.{◌≡◌, ap, ◌∙◌}
use Prim.Native.Nat.{ℕ, ◌+◌, ◌≤◌}
use borrow.Author.Rules.{rules}
use Rattle.sheet.proofs.writing.fill_step.Goals as goal
use Rattle.sheet.proofs.writing.fill_step.Goals.{After-fields_of-f, After-fill_field, After-fill_field-q, After-fill_field-t, After-fill_number-p, Start}

-- the bytes of the four parts
abbrev opening : ℤ → List ℕ
opening op = write_number (up op)

abbrev field₁ : ℤ → ℤ → List ℕ
field₁ op x = field_bytes (first (row_of op)) x

abbrev field₂ : ℤ → ℤ → List ℕ
field₂ op y = field_bytes (second (row_of op)) y

abbrev field₃ : ℤ → ℤ → List ℕ
field₃ op z = field_bytes (third (row_of op)) z

-- there is room for all four
enough : (s : Start) → s.args.at + (length (opening s.args.step.operator) + length (field₁ s.args.step.operator s.args.step.a) + length (field₂ s.args.step.operator s.args.step.b) + length (field₃ s.args.step.operator s.args.step.c)) ≤ length s.args.out.now
enough s = rw step-parts at s.requires

number_is : (w : After-fields_of-f) → w.natural-o.result ≡ up w.args.step.operator
number_is w = w.natural-o.ensures ∙ ap up (to_z-of_z w64 w.args.step.operator (search rules))

row_is : (w : After-fields_of-f) → w.fields_of-f.result ≡ row_of w.args.step.operator
row_is w = w.fields_of-f.ensures ∙ ap fields_of (number_is w)

-- what is stored after each part
filled₀ : (w : After-fill_number-p) → w.natural-o.result ≡ up w.args.step.operator → Filled w.args.out.now w.args.at (opening w.args.step.operator) w.fill_number-p.result w.fill_number-p.new.out
filled₀ w n = rw n at w.fill_number-p.ensures

filled₁ : (w : After-fill_field-q) → w.fields_of-f.result ≡ row_of w.args.step.operator →
    Filled w.args.out.now w.args.at (opening w.args.step.operator) w.fill_number-p.result w.fill_number-p.new.out →
    Filled w.args.out.now w.args.at (opening w.args.step.operator ++ field₁ w.args.step.operator w.args.step.a) w.fill_field-q.result w.fill_field-q.new.out
filled₁ w r f =
    let a = w.args in
    let e = w.first.ensures ∙ ap first r in
    filled-then _ _ (opening a.step.operator) (field₁ a.step.operator a.step.a) _ _ f _ _ (rw (e, to_z-of_z w64 a.step.a (search rules)) at w.fill_field-q.ensures)

filled₂ : (w : After-fill_field-t) → w.fields_of-f.result ≡ row_of w.args.step.operator →
    Filled w.args.out.now w.args.at (opening w.args.step.operator ++ field₁ w.args.step.operator w.args.step.a) w.fill_field-q.result w.fill_field-q.new.out →
    Filled w.args.out.now w.args.at ((opening w.args.step.operator ++ field₁ w.args.step.operator w.args.step.a) ++ field₂ w.args.step.operator w.args.step.b) w.fill_field-t.result w.fill_field-t.new.out
filled₂ w r f =
    let a = w.args in
    let e = w.second.ensures ∙ ap second r in
    filled-then _ _ (opening a.step.operator ++ field₁ a.step.operator a.step.a) (field₂ a.step.operator a.step.b) _ _ f _ _ (rw (e, to_z-of_z w64 a.step.b (search rules)) at w.fill_field-t.ensures)

filled₃ : (w : After-fill_field) → w.fields_of-f.result ≡ row_of w.args.step.operator →
    Filled w.args.out.now w.args.at ((opening w.args.step.operator ++ field₁ w.args.step.operator w.args.step.a) ++ field₂ w.args.step.operator w.args.step.b) w.fill_field-t.result w.fill_field-t.new.out →
    Filled w.args.out.now w.args.at (((opening w.args.step.operator ++ field₁ w.args.step.operator w.args.step.a) ++ field₂ w.args.step.operator w.args.step.b) ++ field₃ w.args.step.operator w.args.step.c) w.fill_field.result w.fill_field.new.out
filled₃ w r f =
    let a = w.args in
    let e = w.third.ensures ∙ ap third r in
    filled-then _ _ ((opening a.step.operator ++ field₁ a.step.operator a.step.a) ++ field₂ a.step.operator a.step.b) (field₃ a.step.operator a.step.c) _ _ f _ _ (rw (e, to_z-of_z w64 a.step.c (search rules)) at w.fill_field.ensures)

pub fill_number-p-requires : goal.fill_number-p-requires
fill_number-p-requires c =
    let n = number_is (goal.at.fill_number-p-requires c).After-fields_of-f in
    rw n (omega (arith, enough (goal.at.fill_number-p-requires c).Start))

pub fill_field-q-requires : goal.fill_field-q-requires
fill_field-q-requires c =
    let a = c.args in
    let w = (goal.at.fill_field-q-requires c).After-fields_of-f in
    let f₀ = filled₀ (goal.at.fill_field-q-requires c).After-fill_number-p (number_is w) in
    let e = c.first.ensures ∙ ap first (row_is w) in
    rw (e, to_z-of_z w64 a.step.a (search rules)) (room-then _ _ (opening a.step.operator) (field₁ a.step.operator a.step.a) _ _ f₀ (omega (arith, enough (goal.at.fill_field-q-requires c).Start)))

pub fill_field-t-requires : goal.fill_field-t-requires
fill_field-t-requires c =
    let a = c.args in
    let w = (goal.at.fill_field-t-requires c).After-fields_of-f in
    let f₀ = filled₀ (goal.at.fill_field-t-requires c).After-fill_number-p (number_is w) in
    let f₁ = filled₁ (goal.at.fill_field-t-requires c).After-fill_field-q (row_is w) f₀ in
    let e = c.second.ensures ∙ ap second (row_is w) in
    rw (e, to_z-of_z w64 a.step.b (search rules)) (room-then _ _ (opening a.step.operator ++ field₁ a.step.operator a.step.a) (field₂ a.step.operator a.step.b) _ _ f₁ (simp length-append (omega (arith, enough (goal.at.fill_field-t-requires c).Start))))

pub fill_field-requires : goal.fill_field-requires
fill_field-requires c =
    let a = c.args in
    let w = (goal.at.fill_field-requires c).After-fields_of-f in
    let f₀ = filled₀ (goal.at.fill_field-requires c).After-fill_number-p (number_is w) in
    let f₁ = filled₁ (goal.at.fill_field-requires c).After-fill_field-q (row_is w) f₀ in
    let f₂ = filled₂ (goal.at.fill_field-requires c).After-fill_field-t (row_is w) f₁ in
    let e = c.third.ensures ∙ ap third (row_is w) in
    rw (e, to_z-of_z w64 a.step.c (search rules)) (room-then _ _ ((opening a.step.operator ++ field₁ a.step.operator a.step.a) ++ field₂ a.step.operator a.step.b) (field₃ a.step.operator a.step.c) _ _ f₂ (simp length-append (omega (arith, enough (goal.at.fill_field-requires c).Start))))

pub returns : goal.returns
unfolding step_bytes
returns c =
    let w = (goal.at.returns c).After-fields_of-f in
    let f₀ = filled₀ (goal.at.returns c).After-fill_number-p (number_is w) in
    let f₁ = filled₁ (goal.at.returns c).After-fill_field-q (row_is w) f₀ in
    let f₂ = filled₂ (goal.at.returns c).After-fill_field-t (row_is w) f₁ in
    simp append_assoc at (filled₃ (goal.at.returns c).After-fill_field (row_is w) f₂)
