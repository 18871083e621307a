use mathlib.Core.Path.{◌≡◌, sym, ◌∙◌}
use mathlib.Core.Bool.{true, false}
use mir.Syntax.{w64}
use mir.Val.{of_z, to_z}
use lib.Signed.{lt_z}
use Rattle.whole.specs.Test.{◌<?◌}
use Rattle.sheet.proofs.Refusals.{found-refused}
use Rattle.sheet.proofs.Parts.{high-got, high-below, high-refused}
use borrow.Author.Rules.{rules}
use Rattle.sheet.proofs.reading.read_high.Goals as goal

pub returns-in_err-x : goal.returns-in_err-x
returns-in_err-x c = found-refused c.from_residual.result _ c.from_residual.ensures.1 ∙ sym (high-refused c.args.s.now c.args.at c.args.low _ _ (sym c.in_err-x.ensures))

pub returns-then-x-low : goal.returns-then-x-low
unfolding ◌<?◌
returns-then-x-low c =
    let a = c.args in
    let x = c.in_ok-x.x in
    let el : to_z w64 (of_z w64 a.low) ≡ a.low = search rules in
    let ex : to_z w64 (of_z w64 x) ≡ x = search rules in
    let t : lt_z x a.low ≡ true = rw (ex, el) at c.if-x-low.true in
    sym (high-below a.s.now a.at a.low x _ (sym c.in_ok-x.ensures) t)

pub returns : goal.returns
unfolding ◌<?◌
returns c =
    let a = c.args in
    let x = c.in_ok-x.x in
    let el : to_z w64 (of_z w64 a.low) ≡ a.low = search rules in
    let ex : to_z w64 (of_z w64 x) ≡ x = search rules in
    let t : lt_z x a.low ≡ false = rw (ex, el) at c.if-x-low.false in
    rw ex (sym (high-got a.s.now a.at a.low x _ (sym c.in_ok-x.ensures) t))
