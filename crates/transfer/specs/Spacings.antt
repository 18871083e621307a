-- The transfers of 002, by its text: what each operator answers on congruences. Outside the domain all are refused by 1, first of all.
use Rattle.std.specs.declared.cmp.Ordering.{Ordering}
use Rattle.std.specs.Prelude.{◌&&◌, ℤ, pos, Option}
use Rattle.whole.specs.Choice.{pick}
use Rattle.whole.specs.Test.{◌≟◌}
use Rattle.refusal.specs.Number.{number_of}
use Rattle.refusal.specs.Answer.{Answer, is, refused}
use Rattle.congruence.specs.declared.Congruence.{Congruence}
use Rattle.congruence.specs.Set.{cong, top, domain?}
use Rattle.congruence.specs.Answer.{within}
use Rattle.congruence.specs.Ported.{add, sub, mul, div, equals, logical_and, logical_or, logical_not, strict_cmp}
use Rattle.transfer.specs.Operator.{other}
use Rattle.transfer.specs.Order.{by_order}

abbrev pub yes : Congruence
yes = cong (pos 1) (pos 0)

abbrev pub no : Congruence
no = cong (pos 0) (pos 0)

-- what is shown for each order, and top where there is none
abbrev pub spacing_by : Option Ordering → (less equal greater : Congruence) → Congruence
spacing_by order less equal greater = by_order order less equal greater top

unfoldable pub spacing_on : Answer (Option Ordering) → (less equal greater : Congruence) → Answer Congruence
spacing_on (is o) less equal greater = is (spacing_by o less equal greater)
spacing_on (refused n) less equal greater = refused n

-- add, sub, mul, div, mod, =, and, or, <, >, <=, >=
unfoldable pub binary_within : ℤ → Congruence → Congruence → Answer Congruence
binary_within op a b =
    pick (op ≟ pos 2) (add a b)
    (pick (op ≟ pos 3) (sub a b)
    (pick (op ≟ pos 4) (mul a b)
    (pick (op ≟ pos 5) (div a b)
    (pick (op ≟ pos 6) (is top)
    (pick (op ≟ pos 7) (equals a b)
    (pick (op ≟ pos 8) (logical_and a b)
    (pick (op ≟ pos 9) (logical_or a b)
    (pick (op ≟ pos 10) (spacing_on (strict_cmp a b) yes no no)
    (pick (op ≟ pos 11) (spacing_on (strict_cmp a b) no no yes)
    (pick (op ≟ pos 12) (spacing_on (strict_cmp a b) yes yes no)
    (pick (op ≟ pos 13) (spacing_on (strict_cmp a b) no yes yes)
    (refused (number_of (other op))))))))))))))

abbrev pub congruence_binary : ℤ → Congruence → Congruence → Answer Congruence
congruence_binary op a b = within (domain? a && domain? b) (binary_within op a b)

-- not, same
unfoldable pub unary_within : ℤ → Congruence → Answer Congruence
unary_within op a =
    pick (op ≟ pos 14) (logical_not a)
    (pick (op ≟ pos 15) (is a)
    (refused (number_of (other op))))

abbrev pub congruence_unary : ℤ → Congruence → Answer Congruence
congruence_unary op a = within (domain? a) (unary_within op a)
