-- The transfers of 001, by its text: what each operator answers on intervals.
use Rattle.std.specs.declared.cmp.Ordering.{Ordering}
use Rattle.std.specs.Prelude.{ℤ, pos, Option}
use Rattle.std.specs.Int.{w64}
use Rattle.whole.specs.Choice.{pick}
use Rattle.whole.specs.Test.{◌≟◌}
use Rattle.refusal.specs.Number.{number_of}
use Rattle.interval.specs.declared.Interval.{Interval}
use Rattle.interval.specs.Set.{◌⋯◌, top, single}
use Rattle.refusal.specs.Answer.{Answer, is, refused}
use Rattle.interval.specs.Mended.{and_v, or_v, not_v}
use Rattle.interval.specs.Ported.{add, sub, mul, rem, strict_cmp, weak_cmp, equal_by}
use Rattle.transfer.specs.Operator.{other}
use Rattle.transfer.specs.Order.{by_order}

abbrev pub yes : Interval
yes = single (pos 1)

abbrev pub no : Interval
no = single (pos 0)

-- what is shown for each order, and both where there is none
abbrev pub range_by : Option Ordering → (less equal greater : Interval) → Interval
range_by order less equal greater = by_order order less equal greater (pos 0 ⋯ pos 1)

-- add, sub, mul, div, mod, =, and, or, <, >, <=, >=
unfoldable pub interval_binary : ℤ → Interval → Interval → Answer Interval
interval_binary op a b =
    pick (op ≟ pos 2) (is (add a b))
    (pick (op ≟ pos 3) (sub a b)
    (pick (op ≟ pos 4) (is (mul a b))
    (pick (op ≟ pos 5) (is (top w64))
    (pick (op ≟ pos 6) (rem a b)
    (pick (op ≟ pos 7) (is (equal_by (strict_cmp a b)))
    (pick (op ≟ pos 8) (is (and_v a b))
    (pick (op ≟ pos 9) (is (or_v a b))
    (pick (op ≟ pos 10) (is (range_by (strict_cmp a b) yes no no))
    (pick (op ≟ pos 11) (is (range_by (strict_cmp a b) no no yes))
    (pick (op ≟ pos 12) (is (range_by (weak_cmp a b) yes yes no))
    (pick (op ≟ pos 13) (is (range_by (weak_cmp a b) no yes yes))
    (refused (number_of (other op))))))))))))))

-- not, same
unfoldable pub interval_unary : ℤ → Interval → Answer Interval
interval_unary op a =
    pick (op ≟ pos 14) (is (not_v a))
    (pick (op ≟ pos 15) (is a)
    (refused (number_of (other op))))
