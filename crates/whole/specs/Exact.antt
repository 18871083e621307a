-- What an exact operation answers: the number, or that it is none of the width.
use Rattle.std.specs.Prelude.{ℤ, None, Option, Some}
use Rattle.std.specs.Int.{Width}
use Rattle.whole.specs.Choice.{pick}
use Rattle.whole.specs.Range.{fits?}

unfoldable pub exactly : Width → ℤ → Option ℤ
exactly w z = pick (fits? w z) (Some z) None
