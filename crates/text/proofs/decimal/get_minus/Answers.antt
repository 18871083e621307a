use Rattle.std.proofs.Common.{◌≡◌, ◌^◌, ap, ◌∙◌, refl}
use borrow.Author.Tests.{lt-ltb, le-ltb}
use mir.Syntax.{w64}
use mir.Val.{to_z, of_z}
use mir.ValLaws.{to_z-of_z}
use lib.IntN.{pos, neg_ℤ, ◌-ℤ◌, +ℤ_idl}
use Rattle.text.specs.Number.{minus_of, minus_at}
use Rattle.text.proofs.Reading.{minus-fits, minus-large}
use Rattle.text.proofs.decimal.get_minus.Goals as goal

pub returns-in_err-m : goal.returns-in_err-m
unfolding minus_at
returns-in_err-m c = c.from_residual.ensures ∙ ap minus_of c.in_err-m.ensures

pub returns-in_err-checked_sub_unsigned : goal.returns-in_err-checked_sub_unsigned
unfolding minus_at
returns-in_err-checked_sub_unsigned c =
    c.from_residual-in_err-checked_sub_unsigned.ensures
    ∙ rw (← c.in_ok-m.ensures, lt-ltb (2 ^ 63) c.in_ok-m.m (minus-large c.in_ok-m.m c.in_err-checked_sub_unsigned.ensures)) refl

pub returns : goal.returns
unfolding minus_at
returns c =
    let m = c.in_ok-m.m in
    let f = c.in_ok-checked_sub_unsigned.ensures in
    let b = minus-fits m f.0 in
    let z : pos 0 -ℤ pos m ≡ neg_ℤ (pos m) = +ℤ_idl (neg_ℤ (pos m)) in
    let e : to_z w64 (of_z w64 c.in_ok-checked_sub_unsigned.field-0) ≡ neg_ℤ (pos m) = rw f.1 (to_z-of_z w64 (pos 0 -ℤ pos m) f.0 ∙ z) in
    rw (← c.in_ok-m.ensures, le-ltb (2 ^ 63) m b, e) refl
