use mathlib.Core.Path.{◌≡◌, ◌∙◌}
use Rattle.std.specs.Prelude.{None, Some}
use Rattle.whole.proofs.Flags.{flags}
use Rattle.interval.proofs.Calls.{handed_on, or_found, or_missed}
use Rattle.interval.proofs.Remainder.{rem-single, rem-over}
use Rattle.interval.proofs.single_rem.Goals as goal

pub returns-in_err-ok_or : goal.returns-in_err-ok_or
returns-in_err-ok_or c =
    let m = or_missed _ _ _ _ c.ok_or.ensures.value c.in_err-ok_or.was in
    let n : c.quotient.result ≡ None = m.0 in
    rw m.1 at (handed_on _ _ c.from_residual.ensures.1) ∙ search (rem-over, flags) depth 8 fits 5000

pub returns : goal.returns
returns c =
    let n : c.quotient.result ≡ Some c.in_ok-ok_or.field-0 = or_found _ _ _ _ c.ok_or.ensures.value c.in_ok-ok_or.was in
    rw c.of_number.ensures (search (rem-single, flags) depth 8 fits 5000)
