use Rattle.std.proofs.Common.{◌<◌, arith}
use Rattle.text.proofs.Pairs.{not-first, not-second, both, a-nibble, no_nibble}
use Rattle.text.proofs.hex.byte_at.Goals as goal

pub returns-in_err-high : goal.returns-in_err-high
returns-in_err-high c = rw (c.from_residual.ensures, ← c.rest.ensures) (not-first c.rest.result.now (no_nibble _ c.in_err-high.ensures.value))

pub returns-in_err-low : goal.returns-in_err-low
returns-in_err-low c = rw (c.from_residual-in_err-low.ensures, ← c.rest.ensures) (not-second c.rest.result.now (no_nibble _ c.in_err-low.ensures.value))

pub returns : goal.returns
returns c =
    let h = c.in_ok-high.ensures in
    let l = c.in_ok-low.ensures in
    let hs : c.in_ok-high.high < 16 = omega arith in
    let ls : c.in_ok-low.low < 16 = omega arith in
    rw (← c.rest.ensures) (both c.rest.result.now _ _ c.in-len2-up.len_at_least hs ls (a-nibble _ _ hs h.cases) (a-nibble _ _ ls l.cases))
