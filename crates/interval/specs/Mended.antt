-- The mended operations of document 01, by its set rules, over the width.
use Rattle.std.specs.Prelude.{Bool, ◌&&◌, ◌||◌, ℤ, pos, negsuc, neg_ℤ, ◌+ℤ◌, ◌-ℤ◌, ◌*ℤ◌}
use Rattle.std.specs.Int.Signed.{quot_z, rem_z}
use Rattle.std.specs.Int.{Width}
use Rattle.whole.specs.Choice.{pick}
use Rattle.whole.specs.Test.{◌≤?◌, ◌<?◌, ◌≟◌}
use Rattle.whole.specs.Range.{least, greatest}
use Rattle.whole.specs.Whole.{min_ℤ, max_ℤ, min4, max4}
use Rattle.interval.specs.Set.{Interval, ◌⋯◌, ◌∈?◌, top, bottom, single, is_only, is_bottom, empty?, canonical?}
use Rattle.refusal.specs.Answer.{Answer, is, refused}

-- the range from lo to hi, refused by 2 if an end doesn't fit
abbrev pub ranged : Width → ℤ → ℤ → Answer Interval
ranged w lo hi = pick ((lo ∈? top w) && (hi ∈? top w)) (is (lo ⋯ hi)) (refused 2)

-- what every arithmetic operation on two does first: 1 for what is not canonical, then bottom in, bottom out
abbrev pub strict : Width → Interval → Interval → Answer Interval → Answer Interval
strict w a b r = pick (canonical? w a && canonical? w b) (pick (empty? a || empty? b) (is (bottom w)) r) (refused 1)

unfoldable pub neg : Width → Interval → Answer Interval
neg w a = strict w a a (ranged w (neg_ℤ a.max) (neg_ℤ a.min))

unfoldable pub add : Width → Interval → Interval → Answer Interval
add w a b = strict w a b (ranged w (a.min +ℤ b.min) (a.max +ℤ b.max))

unfoldable pub sub : Width → Interval → Interval → Answer Interval
sub w a b = strict w a b (ranged w (a.min -ℤ b.max) (a.max -ℤ b.min))

-- the least and the greatest of the four results at the ends
abbrev pub low_corner : (ℤ → ℤ → ℤ) → Interval → Interval → ℤ
low_corner f a b = min4 (f a.min b.min) (f a.min b.max) (f a.max b.min) (f a.max b.max)

abbrev pub high_corner : (ℤ → ℤ → ℤ) → Interval → Interval → ℤ
high_corner f a b = max4 (f a.min b.min) (f a.min b.max) (f a.max b.min) (f a.max b.max)

unfoldable pub mul : Width → Interval → Interval → Answer Interval
mul w a b = strict w a b (ranged w (low_corner ◌*ℤ◌ a b) (high_corner ◌*ℤ◌ a b))

-- the divisor's range holds 0, or MIN / -1 can occur
unfoldable pub unbounded? : Width → Interval → Interval → Bool
unbounded? w a b = (pos 0 ∈? b) || ((least w ∈? a) && (negsuc 0 ∈? b))

-- the quotients toward zero: none by [0, 0], every number where they have no bounds, else those between the corners
abbrev pub quotients_of : Width → Interval → Interval → Answer Interval
quotients_of w a b =
    pick (is_only b (pos 0)) (is (bottom w))
    (pick (unbounded? w a b) (is (top w))
    (ranged w (low_corner quot_z a b) (high_corner quot_z a b)))

unfoldable pub div : Width → Interval → Interval → Answer Interval
div w a b = strict w a b (quotients_of w a b)

-- the greatest magnitude in b
abbrev pub magnitude : Interval → ℤ
magnitude b = max_ℤ (neg_ℤ b.min) b.max

-- the remainders of a's numbers, where all remainders lie from low to high
unfoldable pub rem_within : Interval → (low high : ℤ) → Interval
rem_within a low high =
    pick (is_only a (pos 0)) (single (pos 0))
    (pick (pos 0 ≤? a.min) (pos 0 ⋯ high)
    (pick (a.max ≤? pos 0) (low ⋯ pos 0)
    (low ⋯ high)))

-- those by divisors of a magnitude up to m
abbrev pub rem_range : Interval → ℤ → Interval
rem_range a m = rem_within a (pos 1 -ℤ m) (m -ℤ pos 1)

-- of two single numbers; the quotient doesn't fit for MIN and -1 alone
abbrev pub rem_single : Width → ℤ → ℤ → Answer Interval
rem_single w x y = pick (quot_z x y ∈? top w) (is (single (rem_z x y))) (refused 2)

abbrev pub rem_of : Width → Interval → Interval → Answer Interval
rem_of w a b =
    pick (is_only b (pos 0)) (is (bottom w))
    (pick ((a.min ≟ a.max) && (b.min ≟ b.max)) (rem_single w a.min b.min)
    (is (rem_range a (magnitude b))))

unfoldable pub rem : Width → Interval → Interval → Answer Interval
rem w a b = strict w a b (rem_of w a b)

-- true if it holds for every pair, false if for none, else both
unfoldable pub verdict : Bool → Bool → Interval
verdict every none = pick every (single (pos 1)) (pick none (single (pos 0)) (pos 0 ⋯ pos 1))

-- what every comparison does first: 1 for what is not canonical, then an empty side gives both
abbrev pub lenient : Width → Interval → Interval → Interval → Answer Interval
lenient w a b v = pick (canonical? w a && canonical? w b) (is (pick (empty? a || empty? b) (pos 0 ⋯ pos 1) v)) (refused 1)

abbrev pub less_v : Interval → Interval → Interval
less_v a b = verdict (a.max <? b.min) (b.max ≤? a.min)

abbrev pub less_or_equal_v : Interval → Interval → Interval
less_or_equal_v a b = verdict (a.max ≤? b.min) (b.max <? a.min)

abbrev pub equals_v : Interval → Interval → Interval
equals_v a b = verdict ((a.max ≤? b.min) && (b.max ≤? a.min)) ((a.max <? b.min) || (b.max <? a.min))

unfoldable pub equals : Width → Interval → Interval → Answer Interval
equals w a b = lenient w a b (equals_v a b)

unfoldable pub less : Width → Interval → Interval → Answer Interval
less w a b = lenient w a b (less_v a b)

unfoldable pub greater : Width → Interval → Interval → Answer Interval
greater w a b = less w b a

unfoldable pub less_or_equal : Width → Interval → Interval → Answer Interval
less_or_equal w a b = lenient w a b (less_or_equal_v a b)

unfoldable pub greater_or_equal : Width → Interval → Interval → Answer Interval
greater_or_equal w a b = less_or_equal w b a

-- the ends of previous, but the new ones where previous has none: as ported
unfoldable pub narrowed : Width → Interval → Interval → Interval
narrowed w new previous =
    pick (is_bottom w previous || is_bottom w new) (bottom w)
    (pick (previous.min ≟ least w) new.min previous.min ⋯ pick (previous.max ≟ greatest w) new.max previous.max)

-- bottom for a range that holds nothing
unfoldable pub filled : Width → Interval → Interval
filled w v = pick (empty? v) (bottom w) v

unfoldable pub narrow : Width → Interval → Interval → Answer Interval
narrow w new previous = pick (canonical? w new && canonical? w previous) (is (filled w (narrowed w new previous))) (refused 1)

-- the logic of 000
abbrev pub and_v : Interval → Interval → Interval
and_v a b = verdict (is_only a (pos 1) && is_only b (pos 1)) (is_only a (pos 0) || is_only b (pos 0))

abbrev pub or_v : Interval → Interval → Interval
or_v a b = verdict (is_only a (pos 1) || is_only b (pos 1)) (is_only a (pos 0) && is_only b (pos 0))

abbrev pub not_v : Interval → Interval
not_v a = verdict (is_only a (pos 0)) (is_only a (pos 1))

unfoldable pub join : Interval → Interval → Interval
join a b = min_ℤ a.min b.min ⋯ max_ℤ a.max b.max
