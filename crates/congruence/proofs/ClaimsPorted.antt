-- What document 01 says of the ported operations on congruences: those that cover, with their refusals; errors 5, 6 and 8 with inputs; the logic of 000.
use mathlib.Core.Path.{◌≡◌, refl}
use mathlib.Core.Bool.{Bool, true, not, false, ◌&&◌, ◌||◌}
use lib.IntN.{pos, negsuc}
use mir.Syntax.{Width, w64}
use Rattle.std.specs.Prelude.{None}
use Rattle.whole.specs.Test.{◌≤?◌, ◌<?◌, ◌≟◌, truth}
use Rattle.whole.specs.Range.{fits?}
use Rattle.whole.specs.Divides.{steps, gcd, lcm}
use Rattle.whole.specs.Exact.{exactly}
use Rattle.whole.proofs.Decides.{yes, no}
use Rattle.refusal.specs.Answer.{is}
use Rattle.congruence.specs.declared.Congruence.{Congruence}
use Rattle.congruence.specs.Set.{cong, top, bottom, bottom?, ◌∈◌, ◌⊆◌, domain?, InDomain, Proper}
use Rattle.congruence.specs.Numbers.{abs_then, alike?}
use Rattle.congruence.specs.Meaning.{Both, Disjoint, Negation, Sum, Difference, Ports, Fits, Just, Least, JoinOver, NegOver, NegAsserts, AddOver, DifferenceOver, MulOver, PortedProduct, CoversProducts, QuotientOver, QuotientAsserts, PortedQuotient, CoversQuotients}
use Rattle.congruence.specs.Mended as mended
use Rattle.congruence.specs.Ported as ported
use Rattle.congruence.proofs.Sets as sets
use Rattle.congruence.proofs.Lattice as lattice
use Rattle.congruence.proofs.Comparisons as comparisons
use Rattle.congruence.proofs.Ports as ports

-- ---- the logic of 000, on truth values
pub and_covers : (a b : Congruence) (s t : Bool) → truth s ∈ a → truth t ∈ b → truth (s && t) ∈ ported.conjoined a b
and_covers = comparisons.and_covers

pub or-covers : (a b : Congruence) (s t : Bool) → truth s ∈ a → truth t ∈ b → truth (s || t) ∈ ported.disjoined a b
or-covers = comparisons.or-covers

pub not-covers : (a : Congruence) (s : Bool) → truth s ∈ a → truth (not s) ∈ ported.inverted a
not-covers = comparisons.not-covers

pub logic-proper : (w : Width) (a b : Congruence) → Proper w (ported.conjoined a b) × Proper w (ported.disjoined a b) × Proper w (ported.inverted a)
logic-proper w a b = (comparisons.and-proper w a b, comparisons.or-proper w a b, comparisons.not-proper w a b)

-- ---- when each is refused and by which number; what it answers otherwise covers every result

-- 3 where (-c, m) isn't what `from` asserts
pub ported-neg : (a : Congruence) → Fits w64 a → Ports (InDomain w64 a) (NegOver a) (NegAsserts a) (Just (Negation a)) (ported.neg a)
ported-neg = ports.neg-ported

module _ (a b : Congruence) (fa : Fits w64 a) (fb : Fits w64 b) where
  -- the least value; 2 where |c - e| doesn't fit
  pub ported-join : Ports (Both w64 a b) (JoinOver a b) ⊥ (Least a b) (ported.join a b)
  ported-join = ports.join-ported a b fa fb

  -- just the sums; 2 where c + e doesn't fit
  pub ported-add : Ports (Both w64 a b) (AddOver a b) ⊥ (Just (Sum a b)) (ported.add a b)
  ported-add = ports.add-ported a b fa fb

  -- just the differences; 2 and 3 also where the negation is refused
  pub ported-sub : Ports (Both w64 a b) (DifferenceOver a b) (NegAsserts b) (Just (Difference a b)) (ported.sub a b)
  ported-sub = ports.sub-ported a b fa fb

  -- by the formula; 2 where one of its four products or the gcd doesn't fit
  pub ported-mul : Ports (Both w64 a b) (MulOver a b) ⊥ (λ v. PortedProduct a b v × CoversProducts w64 a b v) (ported.mul a b)
  ported-mul = ports.mul-ported a b fa fb

  -- by a number that divides both the quotients; 2 where c / d doesn't fit, 3 where (c / d, m / d) isn't what `from` asserts
  pub ported-div : Ports (Both w64 a b) (QuotientOver a b) (QuotientAsserts a b) (λ v. PortedQuotient a b v × CoversQuotients w64 a b v) (ported.div a b)
  ported-div = ports.div-ported a b fa fb

-- ---- where the Rust is wrong by those sets

abbrev minus_one : Congruence
minus_one = cong (negsuc 0) (pos 0)

abbrev two-of-three : Congruence
two-of-three = cong (pos 2) (pos 3)

-- error 5: -1 is a number of (2, 3); the ported operations take it for none, since they compare remainders by sign
pub error-5 : (minus_one ⊆ two-of-three)
    × (ported.disjoint minus_one two-of-three ≡ is true)
    × (ported.equals minus_one two-of-three ≡ is (cong (pos 0) (pos 0)))
    × (ported.partial_cmp minus_one two-of-three ≡ is None)
    × (ported.meet minus_one two-of-three ≡ is bottom)
unfolding domain? bottom? ◌≟◌ ◌<?◌ ported.separated ported.equated ported.on_truth ported.ordered ported.same? ported.below? ported.met mended.inside? mended.has? alike?
error-5 = (yes (lattice.inside-test minus_one two-of-three) refl, refl, refl, refl, refl)

-- and `disjoint` takes the bottom for numbers: it stands for none, yet isn't disjoint from top
pub error-5-bottom : Disjoint bottom top × (ported.disjoint bottom top ≡ is false)
unfolding domain? bottom? ◌≟◌ ◌<?◌ ported.separated ported.indivisible exactly fits? ◌≤?◌ gcd steps
error-5-bottom = (λ x h k. sets.none x h, refl)

-- error 6: the meet keeps the left constant: 5 is common to (1, 2) and (2, 3), and not in (1, 6)
pub error-6 : (ported.meet (cong (pos 1) (pos 2)) two-of-three ≡ is (cong (pos 1) (pos 6)))
    × (pos 5 ∈ cong (pos 1) (pos 2)) × (pos 5 ∈ two-of-three) × (pos 5 ∈ cong (pos 1) (pos 6) → ⊥)
unfolding domain? bottom? ◌≟◌ ◌<?◌ ◌≤?◌ ported.met ported.met_classes ported.on_truth ported.indivisible ported.reduced ported.normalize abs_then exactly fits? gcd lcm steps mended.has? alike?
error-6 = (
  refl,
  yes (lattice.has-test (cong (pos 1) (pos 2)) (pos 5) refl) refl,
  yes (lattice.has-test two-of-three (pos 5) refl) refl,
  no (lattice.has-test (cong (pos 1) (pos 6)) (pos 5) refl) refl,
)

-- error 8: widening answers the new value alone, which has not the previous numbers
pub error-8 : (ported.widen (cong (pos 1) (pos 0)) (cong (pos 0) (pos 0)) ≡ is (cong (pos 1) (pos 0)))
    × (pos 0 ∈ cong (pos 0) (pos 0)) × (pos 0 ∈ cong (pos 1) (pos 0) → ⊥)
unfolding domain? bottom? ◌≟◌ ◌<?◌ mended.has? alike?
error-8 = (refl, sets.alone-in (pos 0), no (lattice.has-test (cong (pos 1) (pos 0)) (pos 0) refl) refl)
