-- The mended operations, at any width: by document 01's rules, on values first made canonical.
use Rattle.std.specs.declared.cmp.Ordering.{Ordering}
use Rattle.std.specs.declared.cmp.Ordering.TheVariants.{Equal, Greater, Less}
use Rattle.std.specs.Prelude.{Bool, not, ◌&&◌, ◌||◌, ℕ, zero, suc, eqb, ℤ, pos, neg_ℤ, nat_abs, ◌+ℤ◌, ◌-ℤ◌, ◌*ℤ◌, None, Option, Some}
use Rattle.std.specs.Int.Signed.{quot_z}
use Rattle.std.specs.Int.{Width}
use Rattle.whole.specs.Choice.{pick}
use Rattle.whole.specs.Test.{◌≤?◌, ◌<?◌, ◌≟◌, truth}
use Rattle.whole.specs.Range.{fits?}
use Rattle.whole.specs.Divides.{gcd, lcm, floor_rem}
use Rattle.whole.specs.Exact.{exactly}
use Rattle.refusal.specs.Answer.{Answer, is}
use Rattle.congruence.specs.declared.Congruence.{Congruence}
use Rattle.congruence.specs.Set.{cong, top, bottom, bottom?, domain_at?, singles?, form}
use Rattle.congruence.specs.Numbers.{abs_then, alike?, formula, divides?}
use Rattle.congruence.specs.Answer.{within}

-- ---- what the rules are made of

-- the class of z modulo g in canonical form, or what is shown instead where one of the two doesn't fit
unfoldable pub result_of : Option ℤ → Option ℤ → Congruence → Congruence
result_of None g over = over
result_of (Some z) None over = over
result_of (Some z) (Some g) over = cong (floor_rem z g) g

-- the class of z modulo m; top if m is no number of the width
unfoldable pub class_of : Width → ℤ → ℕ → Congruence
class_of w z m = result_of (Some z) (exactly w (pos m)) top

-- a single number; bottom if it doesn't fit
unfoldable pub only_of : Option ℤ → Congruence
only_of (Some z) = cong z (pos 0)
only_of None = bottom

-- the numbers that differ from z by a multiple of m, no others
unfoldable pub exact_of : Width → ℤ → ℕ → Congruence
exact_of w z m = pick (eqb m 0) (only_of (exactly w z)) (class_of w z m)

-- bottom in, bottom out
unfoldable pub beside : Congruence → Congruence → Congruence → Congruence
beside a b v = pick (bottom? a || bottom? b) bottom v

-- ---- lattice

unfoldable pub joint : Width → Congruence → Congruence → Congruence
joint w a b =
    pick (bottom? a) b
    (pick (bottom? b) a
    (class_of w a.constant (gcd (gcd (nat_abs a.modulus) (nat_abs b.modulus)) (nat_abs (a.constant -ℤ b.constant)))))

-- z is a number of a, where a isn't bottom
unfoldable pub has? : Congruence → ℤ → Bool
has? a z = alike? (nat_abs a.modulus) z a.constant

-- what f gives at a number below n that passes the test, or d where none does
unfoldable pub found : {A : Type 0} → (ℕ → Bool) → (ℕ → A) → A → ℕ → A
found t f d zero = d
found t f d (suc n) = pick (t n) (f n) (found t f d n)

-- the class of a common number modulo the lcm; the left value if the lcm is no number of the width
unfoldable pub overlap : Width → Congruence → Congruence → Congruence
overlap w a b =
    found (λ x. has? a (pos x) && has? b (pos x))
    (λ x. pick (fits? w (pos (lcm (nat_abs a.modulus) (nat_abs b.modulus)))) (cong (pos x) (pos (lcm (nat_abs a.modulus) (nat_abs b.modulus)))) a)
    bottom
    (lcm (nat_abs a.modulus) (nat_abs b.modulus))

unfoldable pub common : Width → Congruence → Congruence → Congruence
common w a b =
    beside a b
    (pick (a.modulus ≟ pos 0) (pick (has? b a.constant) a bottom)
    (pick (b.modulus ≟ pos 0) (pick (has? a b.constant) b bottom)
    (overlap w a b)))

-- no number is common
unfoldable pub apart? : Congruence → Congruence → Bool
apart? a b = (bottom? a || bottom? b) || not (alike? (gcd (nat_abs a.modulus) (nat_abs b.modulus)) a.constant b.constant)

-- every number of a is one of b
unfoldable pub inside? : Congruence → Congruence → Bool
inside? a b = bottom? a || (not (bottom? b) && (has? b a.constant && alike? (nat_abs b.modulus) a.modulus (pos 0)))

unfoldable pub inclusion : Congruence → Congruence → Option Ordering
inclusion a b = pick (inside? a b) (pick (inside? b a) (Some Equal) (Some Less)) (pick (inside? b a) (Some Greater) None)

-- ---- arithmetic

unfoldable pub negative : Width → Congruence → Congruence
negative w a = pick (bottom? a) bottom (exact_of w (neg_ℤ a.constant) (nat_abs a.modulus))

unfoldable pub sum : Width → Congruence → Congruence → Congruence
sum w a b = beside a b (exact_of w (a.constant +ℤ b.constant) (gcd (nat_abs a.modulus) (nat_abs b.modulus)))

unfoldable pub difference : Width → Congruence → Congruence → Congruence
difference w a b = beside a b (exact_of w (a.constant -ℤ b.constant) (gcd (nat_abs a.modulus) (nat_abs b.modulus)))

-- where a number of the formula doesn't fit: bottom for two single numbers, else top
unfoldable pub over : Congruence → Congruence → Congruence
over a b = pick (singles? a b) bottom top

unfoldable pub product : Width → Congruence → Congruence → Congruence
product w a b = beside a b (result_of (exactly w (a.constant *ℤ b.constant)) (formula w a b) (over a b))

-- 000's rule for a single divisor d, its sign dropped from the modulus; bottom where the quotient doesn't fit
unfoldable pub by_number : Width → Congruence → ℤ → Congruence
by_number w a d =
    pick (divides? d a)
    (result_of (exactly w (quot_z a.constant d)) (abs_then w (exactly w (quot_z a.modulus d))) bottom)
    top

unfoldable pub quotient : Width → Congruence → Congruence → Congruence
quotient w a b =
    beside a b
    (pick (b.modulus ≟ pos 0) (pick (b.constant ≟ pos 0) bottom (by_number w a b.constant)) top)

-- ---- comparisons: true is 1, false 0

unfoldable pub equality : Congruence → Congruence → Congruence
equality a b = pick (apart? a b) (cong (pos 0) (pos 0)) (pick (singles? a b) (cong (pos 1) (pos 0)) top)

-- two single numbers are compared, all else is open
unfoldable pub comparison : (ℤ → ℤ → Bool) → Congruence → Congruence → Congruence
comparison test a b = pick (singles? a b) (cong (truth (test a.constant b.constant)) (pos 0)) top

-- ---- the operations: outside the domain of the width each is refused by 1, and values of it are first made canonical

abbrev pub on_form : Width → (Congruence → Congruence) → Congruence → Answer Congruence
on_form w f a = within (domain_at? w a) (is (f (form a)))

abbrev pub on_forms : {A : Type 0} → Width → (Congruence → Congruence → A) → Congruence → Congruence → Answer A
on_forms w f a b = within (domain_at? w a && domain_at? w b) (is (f (form a) (form b)))

abbrev pub neg : Width → Congruence → Answer Congruence
neg w = on_form w (negative w)

abbrev pub add : Width → Congruence → Congruence → Answer Congruence
add w = on_forms w (sum w)

abbrev pub sub : Width → Congruence → Congruence → Answer Congruence
sub w = on_forms w (difference w)

abbrev pub mul : Width → Congruence → Congruence → Answer Congruence
mul w = on_forms w (product w)

abbrev pub div : Width → Congruence → Congruence → Answer Congruence
div w = on_forms w (quotient w)

abbrev pub join : Width → Congruence → Congruence → Answer Congruence
join w = on_forms w (joint w)

abbrev pub meet : Width → Congruence → Congruence → Answer Congruence
meet w = on_forms w (common w)

-- of the new value and the previous one
abbrev pub widen : Width → Congruence → Congruence → Answer Congruence
widen = join

abbrev pub disjoint : Width → Congruence → Congruence → Answer Bool
disjoint w = on_forms w apart?

abbrev pub partial_cmp : Width → Congruence → Congruence → Answer (Option Ordering)
partial_cmp w = on_forms w inclusion

abbrev pub equals : Width → Congruence → Congruence → Answer Congruence
equals w = on_forms w equality

abbrev pub less : Width → Congruence → Congruence → Answer Congruence
less w = on_forms w (comparison ◌<?◌)

abbrev pub greater : Width → Congruence → Congruence → Answer Congruence
greater w = on_forms w (comparison (λ x y. y <? x))

abbrev pub less_or_equal : Width → Congruence → Congruence → Answer Congruence
less_or_equal w = on_forms w (comparison ◌≤?◌)

abbrev pub greater_or_equal : Width → Congruence → Congruence → Answer Congruence
greater_or_equal w = on_forms w (comparison (λ x y. y ≤? x))
