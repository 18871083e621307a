-- The text of an end of a range: `inf` for MAX of the width, `-inf` for MIN, and any other number in decimal.
use Rattle.std.specs.Prelude.{ℕ, List, ℤ}
use Rattle.std.specs.Int.{Width}
use Rattle.whole.specs.Choice.{pick}
use Rattle.whole.specs.Test.{◌≟◌}
use Rattle.whole.specs.Range.{least, greatest}
use Rattle.text.specs.Ascii.{ascii}
use Rattle.text.specs.Decimal.{decimal}

unfoldable pub end_text : Width → ℤ → List ℕ
end_text w z = pick (z ≟ greatest w) (ascii "inf") (pick (z ≟ least w) (ascii "-inf") (decimal z))
