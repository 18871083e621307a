-- The numbers of a signed width: the least and the greatest, the test whether a number is one of them, and the nearest of them.
use Rattle.std.specs.Prelude.{Bool, ◌&&◌, ◌-◌, ◌^◌, ℤ, pos, negsuc}
use Rattle.std.specs.Int.{Width}
use mir.Val.{hbits}
use Rattle.whole.specs.Choice.{pick}
use Rattle.whole.specs.Test.{◌≤?◌, ◌<?◌}

abbrev pub least : Width → ℤ
least w = negsuc (2 ^ hbits w - 1)

abbrev pub greatest : Width → ℤ
greatest w = pos (2 ^ hbits w - 1)

unfoldable pub fits? : Width → ℤ → Bool
fits? w z = (least w ≤? z) && (z ≤? greatest w)

-- z itself, or the end of the width that z lies beyond
unfoldable pub clamp : Width → ℤ → ℤ
clamp w z = pick (z <? least w) (least w) (pick (greatest w <? z) (greatest w) z)
