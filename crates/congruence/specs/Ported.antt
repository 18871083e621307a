-- The Rust's operations on congruences, by its text, at 64 bits: its order of evaluation, a panic as a refusal.
-- A participle names what an operation answers on values of the domain; the operation itself is refused by 1 outside of it.
use Rattle.std.specs.declared.cmp.Ordering.{Ordering}
use Rattle.std.specs.declared.cmp.Ordering.TheVariants.{Equal, Greater, Less}
use Rattle.std.specs.Prelude.{Bool, true, false, not, ◌&&◌, ◌||◌, ℤ, pos, neg_ℤ, nat_abs, ◌+ℤ◌, ◌-ℤ◌, ◌*ℤ◌, None, Option, Some}
use Rattle.std.specs.Int.Signed.{quot_z, rem_z}
use Rattle.std.specs.Int.{w64}
use Rattle.whole.specs.Choice.{pick}
use Rattle.whole.specs.Test.{◌<?◌, ◌≟◌}
use Rattle.whole.specs.Divides as divides
use Rattle.whole.specs.Exact.{exactly}
use Rattle.refusal.specs.Answer.{Answer, is, refused}
use Rattle.congruence.specs.declared.Congruence.{Congruence}
use Rattle.congruence.specs.Set.{cong, top, bottom, bottom?, domain?, singles?}
use Rattle.congruence.specs.Numbers.{gcd_then, abs_then, formula, divides?}
use Rattle.congruence.specs.Answer.{within}

-- ---- numbers on the way: each is one that fits, or the call is refused by 2

abbrev pub gcd_of : ℤ → ℤ → Option ℤ
gcd_of x y = exactly w64 (pos (divides.gcd (nat_abs x) (nat_abs y)))

abbrev pub lcm_of : ℤ → ℤ → Option ℤ
lcm_of x y = exactly w64 (pos (divides.lcm (nat_abs x) (nat_abs y)))

-- the Rust's `normalize`
unfoldable pub normalize : ℤ → ℤ → Congruence
normalize c m = pick (m ≟ pos 0) (cong c m) (cong (rem_z c m) m)

-- a value of these two, normalized
unfoldable pub made : Option ℤ → Option ℤ → Answer Congruence
made c None = refused 2
made None (Some m) = refused 2
made (Some c) (Some m) = is (normalize c m)

-- the Rust's `from`: it asserts that m = 0 or c < m
unfoldable pub held : ℤ → ℤ → Answer Congruence
held c m = pick ((m ≟ pos 0) || (c <? m)) (is (cong c m)) (refused 3)

unfoldable pub asserted : Option ℤ → Option ℤ → Answer Congruence
asserted None m = refused 2
asserted (Some c) None = refused 2
asserted (Some c) (Some m) = held c m

unfoldable pub from : ℤ → ℤ → Answer Congruence
from c m = pick (m <? pos 0) (refused 1) (held c m)

-- ---- questions

-- it is the single number k
unfoldable pub only? : Congruence → ℤ → Bool
only? a k = (a.modulus ≟ pos 0) && (a.constant ≟ k)

unfoldable pub same? : Congruence → Congruence → Bool
same? a b = (a.constant ≟ b.constant) && (a.modulus ≟ b.modulus)

unfoldable pub alone : Congruence → Answer (Option ℤ)
alone a = pick (a.modulus ≟ pos 0) (is (Some a.constant)) (is None)

-- d % g != 0
unfoldable pub indivisible : Option ℤ → Option ℤ → Answer Bool
indivisible d None = refused 2
indivisible None (Some g) = refused 2
indivisible (Some d) (Some g) = is (not (rem_z d g ≟ pos 0))

unfoldable pub separated : Congruence → Congruence → Answer Bool
separated a b =
    pick (a.modulus ≟ pos 0)
    (pick (b.modulus ≟ pos 0) (is (not (a.constant ≟ b.constant))) (is (not (rem_z a.constant b.modulus ≟ b.constant))))
    (pick (b.modulus ≟ pos 0) (is (not (rem_z b.constant a.modulus ≟ a.constant)))
    (indivisible (exactly w64 (a.constant -ℤ b.constant)) (gcd_of a.modulus b.modulus)))

-- what follows from a truth, or its refusal
unfoldable pub on_truth : Answer Bool → Answer Congruence → Answer Congruence → Answer Congruence
on_truth (is true) x y = x
on_truth (is false) x y = y
on_truth (refused n) x y = refused n

-- 1 for one and the same single number, else top
unfoldable pub one_number : Congruence → Congruence → Congruence
one_number a b = pick ((a.modulus ≟ pos 0) && only? b a.constant) (cong (pos 1) (pos 0)) top

unfoldable pub equated : Congruence → Congruence → Answer Congruence
equated a b = on_truth (separated a b) (is (cong (pos 0) (pos 0))) (is (one_number a b))

unfoldable pub conjoined : Congruence → Congruence → Congruence
conjoined a b =
    pick (only? a (pos 0) || only? b (pos 0)) (cong (pos 0) (pos 0))
    (pick (only? a (pos 1) && only? b (pos 1)) (cong (pos 1) (pos 0)) top)

unfoldable pub disjoined : Congruence → Congruence → Congruence
disjoined a b =
    pick (only? a (pos 1) || only? b (pos 1)) (cong (pos 1) (pos 0))
    (pick (only? a (pos 0) && only? b (pos 0)) (cong (pos 0) (pos 0)) top)

unfoldable pub inverted : Congruence → Congruence
inverted a = pick (only? a (pos 1)) (cong (pos 0) (pos 0)) (pick (only? a (pos 0)) (cong (pos 1) (pos 0)) top)

unfoldable pub compared : Congruence → Congruence → Option Ordering
compared a b =
    pick (singles? a b)
    (pick (a.constant <? b.constant) (Some Less) (pick (a.constant ≟ b.constant) (Some Equal) (Some Greater)))
    None

-- ---- lattice

-- the Rust's test of a below b
unfoldable pub below? : Congruence → Congruence → Bool
below? a b =
    not (b.modulus ≟ pos 0)
    && ((rem_z a.modulus b.modulus ≟ pos 0) && (rem_z a.constant b.modulus ≟ b.constant))

unfoldable pub ordered : Congruence → Congruence → Option Ordering
ordered a b =
    pick (same? a b) (Some Equal)
    (pick (bottom? a) (Some Less)
    (pick (bottom? b) (Some Greater)
    (pick (below? a b) (Some Less)
    (pick (below? b a) (Some Greater) None))))

unfoldable pub joined : Congruence → Congruence → Answer Congruence
joined a b =
    pick (bottom? a) (is b)
    (pick (bottom? b) (is a)
    (made (Some a.constant) (gcd_then w64 (gcd_of a.modulus b.modulus) (abs_then w64 (exactly w64 (a.constant -ℤ b.constant))))))

-- the left constant modulo the lcm
unfoldable pub reduced : ℤ → Option ℤ → Answer Congruence
reduced c None = refused 2
reduced c (Some m) = is (normalize (rem_z c m) m)

-- of two classes
unfoldable pub met_classes : Congruence → Congruence → Answer Congruence
met_classes a b =
    on_truth (indivisible (abs_then w64 (exactly w64 (a.constant -ℤ b.constant))) (gcd_of a.modulus b.modulus)) (is bottom)
    (reduced a.constant (lcm_of a.modulus b.modulus))

unfoldable pub met : Congruence → Congruence → Answer Congruence
met a b =
    pick (bottom? a || bottom? b) (is bottom)
    (pick (a.modulus ≟ pos 0) (on_truth (separated a b) (is bottom) (is a))
    (pick (b.modulus ≟ pos 0) (on_truth (separated a b) (is bottom) (is b))
    (met_classes a b)))

unfoldable pub narrowed : Congruence → Congruence → Congruence
narrowed new previous = pick (same? previous top) new previous

-- ---- arithmetic

unfoldable pub negated : Congruence → Answer Congruence
negated a = pick (bottom? a) (is a) (asserted (exactly w64 (neg_ℤ a.constant)) (Some a.modulus))

unfoldable pub added : Congruence → Congruence → Answer Congruence
added a b =
    pick (bottom? a || bottom? b) (is bottom)
    (made (exactly w64 (a.constant +ℤ b.constant)) (gcd_of a.modulus b.modulus))

-- a + (-b): the negation goes first, even beside the bottom
unfoldable pub added_to : Congruence → Answer Congruence → Answer Congruence
added_to a (is b) = added a b
added_to a (refused n) = refused n

unfoldable pub subtracted : Congruence → Congruence → Answer Congruence
subtracted a b = added_to a (negated b)

unfoldable pub multiplied : Congruence → Congruence → Answer Congruence
multiplied a b =
    pick (bottom? a || bottom? b) (is bottom)
    (made (exactly w64 (a.constant *ℤ b.constant)) (formula w64 a b))

-- by a single number d other than 0; a remainder overflows where its quotient does
unfoldable pub divided_by : Congruence → ℤ → Answer Congruence
divided_by a d =
    pick (divides? d a)
    (asserted (exactly w64 (quot_z a.constant d)) (exactly w64 (quot_z a.modulus d)))
    (is top)

unfoldable pub divided : Congruence → Congruence → Answer Congruence
divided a b =
    pick ((bottom? a || bottom? b) || only? b (pos 0)) (is bottom)
    (pick (b.modulus ≟ pos 0) (divided_by a b.constant) (is top))

-- ---- the operations

abbrev pub singleton : Congruence → Answer (Option ℤ)
singleton a = within (domain? a) (alone a)

abbrev pub disjoint : Congruence → Congruence → Answer Bool
disjoint a b = within (domain? a && domain? b) (separated a b)

abbrev pub equals : Congruence → Congruence → Answer Congruence
equals a b = within (domain? a && domain? b) (equated a b)

abbrev pub logical_and : Congruence → Congruence → Answer Congruence
logical_and a b = within (domain? a && domain? b) (is (conjoined a b))

abbrev pub logical_or : Congruence → Congruence → Answer Congruence
logical_or a b = within (domain? a && domain? b) (is (disjoined a b))

abbrev pub logical_not : Congruence → Answer Congruence
logical_not a = within (domain? a) (is (inverted a))

abbrev pub strict_cmp : Congruence → Congruence → Answer (Option Ordering)
strict_cmp a b = within (domain? a && domain? b) (is (compared a b))

abbrev pub partial_cmp : Congruence → Congruence → Answer (Option Ordering)
partial_cmp a b = within (domain? a && domain? b) (is (ordered a b))

abbrev pub join : Congruence → Congruence → Answer Congruence
join a b = within (domain? a && domain? b) (joined a b)

abbrev pub meet : Congruence → Congruence → Answer Congruence
meet a b = within (domain? a && domain? b) (met a b)

-- the default: the new value alone
abbrev pub widen : Congruence → Congruence → Answer Congruence
widen new previous = within (domain? new && domain? previous) (is new)

abbrev pub narrow : Congruence → Congruence → Answer Congruence
narrow new previous = within (domain? new && domain? previous) (is (narrowed new previous))

abbrev pub neg : Congruence → Answer Congruence
neg a = within (domain? a) (negated a)

abbrev pub add : Congruence → Congruence → Answer Congruence
add a b = within (domain? a && domain? b) (added a b)

abbrev pub sub : Congruence → Congruence → Answer Congruence
sub a b = within (domain? a && domain? b) (subtracted a b)

abbrev pub mul : Congruence → Congruence → Answer Congruence
mul a b = within (domain? a && domain? b) (multiplied a b)

abbrev pub div : Congruence → Congruence → Answer Congruence
div a b = within (domain? a && domain? b) (divided a b)
