use mathlib.Core.Path.{◌≡◌, sym, ◌∙◌}
use native.Mathlib.Omega.{arith}
use lib.IntN.{pos}
use mir.Syntax.{w64}
use mir.Val.{of_z, to_z}
use mir.ValLaws.{to_z_pos}
use Rattle.sheet.specs.Step.{fields_at}
use Rattle.sheet.proofs.Refusals.{found-refused}
use borrow.Author.Rules.{rules}
use Rattle.sheet.proofs.reading.read_fields.Goals as goal

pub returns-in_err-a : goal.returns-in_err-a
unfolding fields_at
returns-in_err-a c =
    let h₁ = rw c.first.ensures at c.in_err-a.ensures in
    found-refused c.from_residual.result _ c.from_residual.ensures.1 ∙ rw (sym h₁)

pub returns-in_err-b : goal.returns-in_err-b
unfolding fields_at
returns-in_err-b c =
    let ea : to_z w64 (of_z w64 c.in_ok-a.a) ≡ c.in_ok-a.a = search rules in
    let h₁ = rw c.first.ensures at c.in_ok-a.ensures in
    let h₂ = rw (c.second.ensures, ea) at c.in_err-b.ensures in
    found-refused c.from_residual-in_err-b.result _ c.from_residual-in_err-b.ensures.1 ∙ rw (sym h₁, sym h₂)

pub returns-in_err-c : goal.returns-in_err-c
unfolding fields_at
returns-in_err-c c =
    let ea : to_z w64 (of_z w64 c.in_ok-a.a) ≡ c.in_ok-a.a = search rules in
    let h₁ = rw c.first.ensures at c.in_ok-a.ensures in
    let h₂ = rw (c.second.ensures, ea) at c.in_ok-b.ensures in
    let h₃ = rw (c.third.ensures, ea) at c.in_err-c.ensures in
    found-refused c.from_residual-in_err-c.result _ c.from_residual-in_err-c.ensures.1 ∙ rw (sym h₁, sym h₂, sym h₃)

pub returns : goal.returns
unfolding fields_at
returns c =
    let o : to_z w64 c.args.op ≡ pos c.args.op = to_z_pos w64 c.args.op (omega arith) in
    let ea : to_z w64 (of_z w64 c.in_ok-a.a) ≡ c.in_ok-a.a = search rules in
    let eb : to_z w64 (of_z w64 c.in_ok-b.b) ≡ c.in_ok-b.b = search rules in
    let ec : to_z w64 (of_z w64 c.in_ok-c.c) ≡ c.in_ok-c.c = search rules in
    let h₁ = rw c.first.ensures at c.in_ok-a.ensures in
    let h₂ = rw (c.second.ensures, ea) at c.in_ok-b.ensures in
    let h₃ = rw (c.third.ensures, ea) at c.in_ok-c.ensures in
    rw (o, ea, eb, ec, sym h₁, sym h₂, sym h₃)
