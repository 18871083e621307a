-- What an arithmetic operation meets first, as the code asks it: both canonical and not bottom, or what is answered instead.
use Rattle.std.specs.Prelude.{Bool, false, ◌&&◌}
use Rattle.std.specs.Int.{Width}
use Rattle.whole.specs.Choice.{pick}
use Rattle.refusal.specs.Answer.{Answer, is, refused}
use Rattle.interval.specs.Set.{Interval, bottom, empty?, in_width?, canonical?}

unfoldable pub full? : Width → Interval → Bool
full? w a = pick (empty? a) false (in_width? w a)

unfoldable pub unmade : Width → Interval → Interval → Answer Interval
unmade w a b = pick (canonical? w a && canonical? w b) (is (bottom w)) (refused 1)
