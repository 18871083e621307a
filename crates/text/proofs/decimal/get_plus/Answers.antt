use Rattle.std.proofs.Common.{◌≡◌, ◌^◌, ◌-◌, ap, ◌∙◌, refl, arith}
use borrow.Author.Tests.{lt-ltb, le-ltb}
use mir.Syntax.{w64}
use mir.Val.{to_z, of_z}
use mir.ValLaws.{to_z_pos}
use lib.IntN.{pos}
use Rattle.text.specs.Number.{plus_of, plus_at}
use Rattle.text.proofs.Reading.{plus-fits, plus-large}
use Rattle.text.proofs.decimal.get_plus.Goals as goal

pub returns-in_err-m : goal.returns-in_err-m
unfolding plus_at
returns-in_err-m c = c.from_residual.ensures ∙ ap plus_of c.in_err-m.ensures

pub returns-in_err-ok : goal.returns-in_err-ok
unfolding plus_at
returns-in_err-ok c =
    let m = c.in_ok-m.m in
    c.from_residual-in_err-ok.ensures
    ∙ rw (← c.in_ok-m.ensures, lt-ltb (2 ^ 63 - 1) m (plus-large c.try_from.result m c.try_from.ensures c.in_err-ok.ensures.value)) refl

pub returns : goal.returns
unfolding plus_at
returns c =
    let m = c.in_ok-m.m in
    let f = plus-fits c.try_from.result m c.in_ok-ok.field-0 c.try_from.ensures c.in_ok-ok.ensures.value in
    let e : to_z w64 (of_z w64 c.in_ok-ok.field-0) ≡ pos m = rw f.1 (to_z_pos w64 m (omega (arith, f.0))) in
    rw (← c.in_ok-m.ensures, le-ltb (2 ^ 63 - 1) m f.0, e) refl
