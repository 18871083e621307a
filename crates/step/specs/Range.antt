-- The range that each operator shows, or its refusal by 12, 13 or 14: by the mended intervals of a width.
use Rattle.std.specs.Prelude.{Result, Ok, Err, ◌&&◌, pos, negsuc}
use Rattle.std.specs.Int.{Width}
use Rattle.refusal.specs.declared.Refusal.{Refusal}
use Rattle.refusal.specs.declared.Refusal.TheVariants.{DivisorZero, ResultTooWide, NotLogical}
use Rattle.whole.specs.Choice.{pick}
use Rattle.whole.specs.Test.{◌≤?◌}
use Rattle.whole.specs.Range.{least}
use Rattle.refusal.specs.Answer.{Answer, is, refused}
use Rattle.interval.specs.declared.Interval.{Interval}
use Rattle.interval.specs.Set.{◌∈?◌, single, is_only}
use Rattle.interval.specs.Mended as M
use Rattle.interval.specs.Mended.{and_v, or_v, not_v, join}
use Rattle.step.specs.declared.Operator.{Operator}
use Rattle.step.specs.declared.Operator.TheVariants.{Constant, Add, Sub, Mul, Div, Rem, Equals, And, Or, Less, Greater, LessOrEqual, GreaterOrEqual, Not, Same, Choose}

-- 13, where the mended operation doesn't fit
abbrev pub fitting_all : Answer Interval → Result Interval Refusal
fitting_all (is v) = Ok v
fitting_all (refused n) = Err ResultTooWide

-- the divisor's range holds 0; else the left range holds MIN and the divisor's -1
abbrev pub divided_all : {A : Type 0} → Width → Interval → Interval → Result A Refusal → Result A Refusal
divided_all w i j a = pick (pos 0 ∈? j) (Err DivisorZero) (pick ((least w ∈? i) && (negsuc 0 ∈? j)) (Err ResultTooWide) a)

-- the operand's range isn't inside [0, 1]
abbrev pub logical_all : {A : Type 0} → Interval → Result A Refusal → Result A Refusal
logical_all i a = pick ((pos 0 ≤? i.min) && (i.max ≤? pos 1)) a (Err NotLogical)

-- a's value if the condition's range is [1, 1], b's if [0, 0], else the join
abbrev pub chosen_by : {S : Type 0} → Interval → S → S → S → S
chosen_by i a b joined = pick (is_only i (pos 1)) a (pick (is_only i (pos 0)) b joined)

unfoldable pub range_op : Width → Operator → Interval → Interval → Interval → Result Interval Refusal
range_op w (Constant n) i j k = Ok (single n)
range_op w Add i j k = fitting_all (M.add w i j)
range_op w Sub i j k = fitting_all (M.sub w i j)
range_op w Mul i j k = fitting_all (M.mul w i j)
range_op w Div i j k = divided_all w i j (fitting_all (M.div w i j))
range_op w Rem i j k = divided_all w i j (fitting_all (M.rem w i j))
range_op w Equals i j k = fitting_all (M.equals w i j)
range_op w And i j k = logical_all i (logical_all j (Ok (and_v i j)))
range_op w Or i j k = logical_all i (logical_all j (Ok (or_v i j)))
range_op w Less i j k = fitting_all (M.less w i j)
range_op w Greater i j k = fitting_all (M.greater w i j)
range_op w LessOrEqual i j k = fitting_all (M.less_or_equal w i j)
range_op w GreaterOrEqual i j k = fitting_all (M.greater_or_equal w i j)
range_op w Not i j k = logical_all i (Ok (not_v i))
range_op w Same i j k = Ok i
range_op w Choose i j k = logical_all i (Ok (chosen_by i j k (join j k)))
