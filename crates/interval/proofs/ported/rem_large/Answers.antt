use mathlib.Core.Path.{◌≡◌, ◌∙◌}
use Rattle.std.specs.Prelude.{None, Some}
use Rattle.whole.proofs.Flags.{flags}
use Rattle.interval.proofs.Calls.{handed_on, or_found, or_missed}
use Rattle.interval.proofs.PortedCalls.{large}
use Rattle.interval.proofs.ported.rem_large.Goals as goal

pub returns-in_err-m : goal.returns-in_err-m
returns-in_err-m c =
    let m = or_missed _ _ _ _ c.ok_or.ensures.value c.in_err-m.was in
    let n : c.largest.result ≡ None = m.0 in
    rw m.1 at (handed_on _ _ c.from_residual.ensures.1) ∙ search (large, flags) depth 8 fits 5000

pub rem_up_to-requires : goal.rem_up_to-requires
rem_up_to-requires c =
    let n : c.largest.result ≡ Some c.in_ok-m.m = or_found _ _ _ _ c.ok_or.ensures.value c.in_ok-m.was in
    search (large, flags) depth 8 fits 5000

pub returns : goal.returns
returns c =
    let n : c.largest.result ≡ Some c.in_ok-m.m = or_found _ _ _ _ c.ok_or.ensures.value c.in_ok-m.was in
    search (large, flags) depth 8 fits 5000
