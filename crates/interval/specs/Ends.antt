-- The ends of a range as exact numbers: the range between two, and the lesser and the greater of two, each asking that both fit.
use Rattle.std.specs.Prelude.{None, Option, Some, ℤ}
use Rattle.std.specs.Int.{Width}
use Rattle.whole.specs.Whole.{min_ℤ, max_ℤ}
use Rattle.interval.specs.Set.{Interval, ◌⋯◌}
use Rattle.refusal.specs.Answer.{Answer, is, refused}
use Rattle.interval.specs.Mended.{ranged}

unfoldable pub range_of : Option ℤ → Option ℤ → Answer Interval
range_of (Some lo) (Some hi) = is (lo ⋯ hi)
range_of (Some lo) None = refused 2
range_of None hi = refused 2

unfoldable pub least_of : Option ℤ → Option ℤ → Option ℤ
least_of (Some x) (Some y) = Some (min_ℤ x y)
least_of (Some x) None = None
least_of None y = None

unfoldable pub greatest_of : Option ℤ → Option ℤ → Option ℤ
greatest_of (Some x) (Some y) = Some (max_ℤ x y)
greatest_of (Some x) None = None
greatest_of None y = None

-- a range that was made, if its ends are numbers of the width
unfoldable pub held_range : Width → Answer Interval → Answer Interval
held_range w (is v) = ranged w v.min v.max
held_range w (refused n) = refused n
