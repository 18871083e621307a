-- The ported operations, by the Rust's text: 64-bit, and a panic is a refusal by 2. (join, narrow and the logic stand in Mended, over the width.)
use Rattle.std.specs.declared.cmp.Ordering.{Ordering}
use Rattle.std.specs.declared.cmp.Ordering.TheVariants.{Equal, Greater, Less}
use Rattle.std.specs.Prelude.{Bool, ◌&&◌, ◌||◌, ℤ, pos, negsuc, neg_ℤ, nat_abs, ◌+ℤ◌, ◌-ℤ◌, ◌*ℤ◌, None, Option, Some}
use Rattle.std.specs.Int.{w64}
use Rattle.whole.specs.Choice.{pick}
use Rattle.whole.specs.Test.{◌≤?◌, ◌<?◌, ◌≟◌}
use Rattle.whole.specs.Whole.{min_ℤ, max_ℤ, min4, max4}
use Rattle.whole.specs.Range.{least, greatest, clamp}
use Rattle.whole.specs.Exact.{exactly}
use Rattle.sign.specs.declared.Sign.{Sign}
use Rattle.sign.specs.declared.Sign.TheVariants.{Top, Bottom, Negative, Zero, Positive, NonNeg, NonZero, NonPos}
use Rattle.interval.specs.declared.Pair.{Pair}
use Rattle.interval.specs.Set.{Interval, ◌⋯◌, top, bottom, single, is_only, is_bottom}
use Rattle.refusal.specs.Answer.{Answer, is, refused}
use Rattle.interval.specs.Mended.{filled, rem_single}

-- ---- signs

unfoldable pub of_sign : Sign → Interval
of_sign Top = top w64
of_sign Bottom = bottom w64
of_sign Negative = least w64 ⋯ negsuc 0
of_sign Zero = single (pos 0)
of_sign Positive = pos 1 ⋯ greatest w64
of_sign NonNeg = pos 0 ⋯ greatest w64
of_sign NonZero = top w64
of_sign NonPos = least w64 ⋯ pos 0

unfoldable pub side_sign : Interval → Sign
side_sign a =
    pick (a.max <? pos 0) Negative
    (pick (a.max ≤? pos 0) NonPos
    (pick (pos 0 <? a.min) Positive
    (pick (pos 0 ≤? a.min) NonNeg Top)))

unfoldable pub sign_of : Interval → Sign
sign_of a = pick (is_bottom w64 a) Bottom (pick (is_only a (pos 0)) Zero (side_sign a))

-- ---- comparisons of numbers

-- the one number of an interval
unfoldable pub singleton : Interval → Option ℤ
singleton a = pick (a.min ≟ a.max) (Some a.min) None

unfoldable pub same_one : Option ℤ → Option ℤ → Option Ordering
same_one (Some x) (Some y) = pick (x ≟ y) (Some Equal) None
same_one (Some x) None = None
same_one None s = None

unfoldable pub strict_cmp : Interval → Interval → Option Ordering
strict_cmp a b =
    pick (is_bottom w64 a || is_bottom w64 b) None
    (pick (a.max <? b.min) (Some Less)
    (pick (b.max <? a.min) (Some Greater) (same_one (singleton a) (singleton b))))

unfoldable pub weak_cmp : Interval → Interval → Option Ordering
weak_cmp a b =
    pick (is_bottom w64 a || is_bottom w64 b) None
    (pick (a.max ≤? b.min) (Some Less)
    (pick (b.max ≤? a.min) (Some Greater) (same_one (singleton a) (singleton b))))

unfoldable pub equal_by : Option Ordering → Interval
equal_by (Some Less) = single (pos 0)
equal_by (Some Equal) = single (pos 1)
equal_by (Some Greater) = single (pos 0)
equal_by None = pos 0 ⋯ pos 1

-- as 001 reads the weak order for <= and >=
unfoldable pub le_by : Option Ordering → Interval
le_by (Some Less) = single (pos 1)
le_by (Some Equal) = single (pos 1)
le_by (Some Greater) = single (pos 0)
le_by None = pos 0 ⋯ pos 1

unfoldable pub ge_by : Option Ordering → Interval
ge_by (Some Less) = single (pos 0)
ge_by (Some Equal) = single (pos 1)
ge_by (Some Greater) = single (pos 1)
ge_by None = pos 0 ⋯ pos 1

-- ---- where a comparison may hold

abbrev pub common : Interval → Interval → Interval
common a b = max_ℤ a.min b.min ⋯ min_ℤ a.max b.max

unfoldable pub may_equal_when : Interval → Interval → Interval
may_equal_when a b = pick (is_bottom w64 a || is_bottom w64 b) (bottom w64) (filled w64 (common a b))

abbrev pub pair : Interval → Interval → Pair
pair a b = record { left = a; right = b }

abbrev pub apart : Interval → Interval → Bool
apart a b = (is_bottom w64 a || is_bottom w64 b) || (b.max <? a.min)

unfoldable pub less_left : Interval → Interval → Interval
less_left a b = filled w64 (a.min ⋯ min_ℤ a.max (b.max -ℤ pos 1))

unfoldable pub less_right : Interval → Interval → Interval
less_right a b = filled w64 (max_ℤ (a.min +ℤ pos 1) b.min ⋯ b.max)

unfoldable pub maybe_less_when : Interval → Interval → Answer Pair
maybe_less_when a b =
    pick (apart a b) (is (pair (bottom w64) (bottom w64)))
    (pick (b.max ≟ least w64) (refused 2)
    (pick (a.min ≟ greatest w64) (refused 2)
    (is (pair (less_left a b) (less_right a b)))))

unfoldable pub le_left : Interval → Interval → Interval
le_left a b = filled w64 (a.min ⋯ min_ℤ a.max b.max)

unfoldable pub le_right : Interval → Interval → Interval
le_right a b = filled w64 (max_ℤ a.min b.min ⋯ b.max)

unfoldable pub maybe_le_when : Interval → Interval → Pair
maybe_le_when a b = pick (apart a b) (pair (bottom w64) (bottom w64)) (pair (le_left a b) (le_right a b))

-- ---- the lattice

abbrev pub same_ends : Interval → Interval → Bool
same_ends a b = (a.min ≟ b.min) && (a.max ≟ b.max)

-- a has all of b between its ends
abbrev pub around : Interval → Interval → Bool
around a b = (a.min ≤? b.min) && (b.max ≤? a.max)

unfoldable pub partial_cmp : Interval → Interval → Option Ordering
partial_cmp a b = pick (same_ends a b) (Some Equal) (pick (around a b) (Some Greater) (pick (around b a) (Some Less) None))

unfoldable pub meet : Interval → Interval → Interval
meet a b = filled w64 (common a b)

unfoldable pub widen : Interval → Interval → Interval
widen new previous =
    pick (is_bottom w64 previous) new
    (pick (new.min <? previous.min) (least w64) previous.min ⋯ pick (previous.max <? new.max) (greatest w64) previous.max)

-- ---- arithmetic

unfoldable pub add_min : ℤ → ℤ → ℤ
add_min x y = pick ((x ≟ least w64) || (y ≟ least w64)) (least w64) (clamp w64 (x +ℤ y))

unfoldable pub add_max : ℤ → ℤ → ℤ
add_max x y = pick ((x ≟ greatest w64) || (y ≟ greatest w64)) (greatest w64) (clamp w64 (x +ℤ y))

unfoldable pub add : Interval → Interval → Interval
add a b = pick (is_bottom w64 a || is_bottom w64 b) (bottom w64) (add_min a.min b.min ⋯ add_max a.max b.max)

unfoldable pub neg : Interval → Answer Interval
neg a =
    pick (is_bottom w64 a) (is a)
    (pick (a.max ≟ least w64) (refused 2)
    (is (pick (a.max ≟ greatest w64) (least w64) (neg_ℤ a.max) ⋯ pick (a.min ≟ least w64) (greatest w64) (neg_ℤ a.min))))

abbrev pub add_to : Interval → Answer Interval → Answer Interval
add_to a (is b) = is (add a b)
add_to a (refused n) = refused n

-- the right side is negated first
unfoldable pub sub : Interval → Interval → Answer Interval
sub a b = add_to a (neg b)

abbrev pub low_product : Interval → Interval → ℤ
low_product a b = min4 (clamp w64 (a.min *ℤ b.min)) (clamp w64 (a.min *ℤ b.max)) (clamp w64 (a.max *ℤ b.min)) (clamp w64 (a.max *ℤ b.max))

abbrev pub high_product : Interval → Interval → ℤ
high_product a b = max4 (clamp w64 (a.min *ℤ b.min)) (clamp w64 (a.min *ℤ b.max)) (clamp w64 (a.max *ℤ b.min)) (clamp w64 (a.max *ℤ b.max))

unfoldable pub mul : Interval → Interval → Interval
mul a b = pick (is_bottom w64 a || is_bottom w64 b) (bottom w64) (low_product a b ⋯ high_product a b)

-- the greater absolute value of two ends, which may not fit
abbrev pub largest : Interval → Option ℤ
largest b = exactly w64 (max_ℤ (pos (nat_abs b.min)) (pos (nat_abs b.max)))

unfoldable pub rem_by : Option Ordering → (low high : ℤ) → Interval
rem_by (Some Less) low high = low ⋯ pos 0
rem_by (Some Equal) low high = single (pos 0)
rem_by (Some Greater) low high = pos 0 ⋯ high
rem_by None low high = low ⋯ high

unfoldable pub rem_large : Interval → Option ℤ → Answer Interval
rem_large a (Some m) = is (rem_by (weak_cmp a (single (pos 0))) (neg_ℤ m +ℤ pos 1) (m -ℤ pos 1))
rem_large a None = refused 2

unfoldable pub rem : Interval → Interval → Answer Interval
rem a b =
    pick ((is_bottom w64 a || is_bottom w64 b) || is_only b (pos 0)) (is (bottom w64))
    (pick ((a.min ≟ a.max) && (b.min ≟ b.max)) (rem_single w64 a.min b.min) (rem_large a (largest b)))
