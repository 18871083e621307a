-- What each operation of the Rust answers. What it reads off a table is said by sets, from sides; the rest as its text has it.
use Rattle.std.specs.declared.cmp.Ordering.{Ordering}
use Rattle.std.specs.declared.cmp.Ordering.TheVariants.{Equal, Greater, Less}
use Rattle.std.specs.Prelude.{Bool, ◌&&◌, ◌||◌, ℤ, None, Option, Some}
use Rattle.whole.specs.Choice.{pick}
use Rattle.refusal.specs.Answer.{Answer, is, refused}
use Rattle.sign.specs.declared.Sign.{Sign}
use Rattle.sign.specs.declared.Sign.TheVariants.{Negative, Zero, Positive, NonNeg, NonPos}
use Rattle.sign.specs.Set.{Side, negative, nought, positive, side_of, ◌has◌}
use Rattle.sign.specs.Sides.{those, ◌inside◌, ◌same◌, with_nought, opposite, sum, product, reached}
use Rattle.sign.specs.Compared.{strictly, weakly}

-- ---- the sign of a number

abbrev pub of_side : Side → Sign
of_side negative = Negative
of_side nought = Zero
of_side positive = Positive

unfoldable pub of_number : ℤ → Sign
of_number x = of_side (side_of x)

-- ---- the lattice

unfoldable pub join : Sign → Sign → Sign
join a b = those (λ d. (a has d) || (b has d))

unfoldable pub meet : Sign → Sign → Sign
meet a b = those (λ d. (a has d) && (b has d))

unfoldable pub partial_cmp : Sign → Sign → Option Ordering
partial_cmp a b = pick (a inside b) (pick (b inside a) (Some Equal) (Some Less)) (pick (b inside a) (Some Greater) None)

-- the defaults answer the new value
abbrev pub widen : Sign → Sign → Sign
widen new previous = new

abbrev pub narrow : Sign → Sign → Sign
narrow new previous = new

-- ---- arithmetic

unfoldable pub add : Sign → Sign → Sign
add a b = reached sum a b

unfoldable pub neg : Sign → Sign
neg a = those (λ d. a has opposite d)

unfoldable pub sub : Sign → Sign → Sign
sub a b = add a (neg b)

unfoldable pub mul : Sign → Sign → Sign
mul a b = reached product a b

-- a quotient on one side may be 0
abbrev pub quotient : Sign → Sign
quotient s = pick (s same Positive) NonNeg (pick (s same Negative) NonPos s)

unfoldable pub div : Sign → Sign → Sign
div a b = quotient (mul a b)

-- on the left's side, or 0
unfoldable pub rem : Sign → Sign → Sign
rem a b = with_nought a

-- ---- logic

-- both are 0, or both are 1
abbrev pub surely : Sign → Sign → Bool → Bool
surely a b is_bool = ((a same Zero) && (b same Zero)) || ((a same Positive) && ((b same Positive) && is_bool))

unfoldable pub logical_eq : Sign → Sign → Bool → Sign
logical_eq a b is_bool = pick (surely a b is_bool) Positive (pick ((a inside b) || (b inside a)) NonNeg Zero)

unfoldable pub logical_and : Sign → Sign → Sign
logical_and a b = pick ((a same Zero) || (b same Zero)) Zero (pick ((a same Positive) && (b same Positive)) Positive NonNeg)

unfoldable pub logical_or : Sign → Sign → Sign
logical_or a b = pick ((a same Positive) || (b same Positive)) Positive (pick ((a same Zero) && (b same Zero)) Zero NonNeg)

-- refused by 4 on the five signs on which the Rust panics
unfoldable pub logical_not : Sign → Answer Sign
logical_not s = pick (s same NonNeg) (is NonNeg) (pick (s same Positive) (is Zero) (pick (s same Zero) (is Positive) (refused 4)))

-- ---- how their numbers compare, by where the differences lie

unfoldable pub strict_cmp : Sign → Sign → Option Ordering
strict_cmp a b = strictly (sub a b)

-- the right rule but for two cells, which stand exchanged
unfoldable pub weak_cmp : Sign → Sign → Option Ordering
weak_cmp a b =
    pick ((a same Zero) && (b same NonNeg)) (weakly (sub Zero NonPos))
    (pick ((a same Zero) && (b same NonPos)) (weakly (sub Zero NonNeg))
    (weakly (sub a b)))
