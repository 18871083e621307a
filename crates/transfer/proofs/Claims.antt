-- The transfers: what each operator answers, by which numbers it is refused and when, and that answers are determined.
use mathlib.Core.Path.{◌≡◌, refl, sym, ap}
use mathlib.Core.Logic.{◌⊎◌, inl, inr}
use mathlib.Core.Bool.{Bool, true, false, not, ◌&&◌, ◌||◌}
use mathlib.Core.List.{List, [], ◌∷◌, map}
use native.Mathlib.Omega.{arith}
use lib.IntN.{ℤ, pos}
use lib.Signed.{◌≤ℤ◌, ◌<ℤ◌}
use mir.Syntax.{w64}
use Rattle.std.specs.declared.cmp.Ordering.{Ordering}
use Rattle.std.specs.Prelude.{None, Option, Some}
use Rattle.std.specs.declared.cmp.Ordering.TheVariants.{Equal, Greater, Less}
use Rattle.whole.specs.Choice.{pick}
use Rattle.whole.specs.Test.{◌≤?◌, ◌<?◌, ◌≟◌}
use Rattle.whole.proofs.Decides.{le_test, lt_test, both, either, is_false, yes}
use Rattle.whole.proofs.Shapes.{lin}
use Rattle.refusal.specs.Answer as answers
use Rattle.interval.specs.declared.Interval.{Interval}
use Rattle.interval.specs.Set.{top}
use Rattle.refusal.specs.Answer.{Answer, is, refused}
use Rattle.interval.specs.Mended.{and_v, or_v, not_v}
use Rattle.interval.specs.Ported as I
use Rattle.congruence.specs.declared.Congruence.{Congruence}
use Rattle.congruence.specs.Set.{domain?}
use Rattle.congruence.specs.Set as S
use Rattle.congruence.specs.Ported as C
use Rattle.transfer.specs.Operator.{outside?, one?, two?, other}
use Rattle.transfer.specs.Refuses.{Refuses, range_number, spacing_number}
use Rattle.transfer.specs.Order.{by_order}
use Rattle.transfer.specs.Ranges.{range_by, interval_binary, interval_unary}
use Rattle.transfer.specs.Ranges as range
use Rattle.transfer.specs.Spacings.{spacing_on, binary_within, congruence_binary, unary_within, congruence_unary}
use Rattle.transfer.specs.Spacings as spacing
use Rattle.transfer.proofs.Numbered.{Operator, operator, add, sub, mul, div, rem, equal, and, or, less, greater, at_most, at_least, inverse, same, none, far, own}
use Rattle.transfer.proofs.Owned as owned

-- ---- what each operator is: 2 add, 3 sub, 4 mul, 5 div, 6 mod, 7 =, 8 and, 9 or, 10 <, 11 >, 12 <=, 13 >=, 14 not, 15 same

abbrev binary : List ℤ
binary = pos 2 ∷ pos 3 ∷ pos 4 ∷ pos 5 ∷ pos 6 ∷ pos 7 ∷ pos 8 ∷ pos 9 ∷ pos 10 ∷ pos 11 ∷ pos 12 ∷ pos 13 ∷ []

pub interval-operators : (a b : Interval) → map (λ op. interval_binary op a b) binary
    ≡ (is (I.add a b) ∷ I.sub a b ∷ is (I.mul a b) ∷ is (top w64) ∷ I.rem a b ∷ is (I.equal_by (I.strict_cmp a b)) ∷ is (and_v a b) ∷ is (or_v a b)
    ∷ is (range_by (I.strict_cmp a b) range.yes range.no range.no) ∷ is (range_by (I.strict_cmp a b) range.no range.no range.yes)
    ∷ is (range_by (I.weak_cmp a b) range.yes range.yes range.no) ∷ is (range_by (I.weak_cmp a b) range.no range.yes range.yes) ∷ [])
unfolding interval_binary ◌≟◌
interval-operators a b = refl

pub interval-operators-1 : (a : Interval) → (interval_unary (pos 14) a ≡ is (not_v a)) × (interval_unary (pos 15) a ≡ is a)
unfolding interval_unary ◌≟◌
interval-operators-1 a = (refl, refl)

pub congruence-operators : (a b : Congruence) → map (λ op. binary_within op a b) binary
    ≡ (C.add a b ∷ C.sub a b ∷ C.mul a b ∷ C.div a b ∷ answers.is S.top ∷ C.equals a b ∷ C.logical_and a b ∷ C.logical_or a b
    ∷ spacing_on (C.strict_cmp a b) spacing.yes spacing.no spacing.no ∷ spacing_on (C.strict_cmp a b) spacing.no spacing.no spacing.yes
    ∷ spacing_on (C.strict_cmp a b) spacing.yes spacing.yes spacing.no ∷ spacing_on (C.strict_cmp a b) spacing.no spacing.yes spacing.yes ∷ [])
unfolding binary_within ◌≟◌
congruence-operators a b = refl

pub congruence-operators-1 : (a : Congruence) → (unary_within (pos 14) a ≡ C.logical_not a) × (unary_within (pos 15) a ≡ answers.is a)
unfolding unary_within ◌≟◌
congruence-operators-1 a = (refl, refl)

-- what 001 reads out of the weak order for <= and >= is what the order's own definitions say
pub weak-agrees : (a b : Interval) → (interval_binary (pos 12) a b ≡ is (I.le_by (I.weak_cmp a b))) × (interval_binary (pos 13) a b ≡ is (I.ge_by (I.weak_cmp a b)))
unfolding interval_binary by_order I.le_by I.ge_by ◌≟◌
weak-agrees a b = (ap is (le (I.weak_cmp a b)), ap is (ge (I.weak_cmp a b)))
  where
    le : (o : Option Ordering) → range_by o range.yes range.yes range.no ≡ I.le_by o
    le (Some Less) = refl
    le (Some Equal) = refl
    le (Some Greater) = refl
    le None = refl

    ge : (o : Option Ordering) → range_by o range.no range.yes range.yes ≡ I.ge_by o
    ge (Some Less) = refl
    ge (Some Equal) = refl
    ge (Some Greater) = refl
    ge None = refl

-- ---- by which number, and exactly when: 1 outside 2 to 15 and outside the domain, 4 for an operator of the other shape

-- a number that is no operator's
untaken : (op : ℤ) → outside? op ≡ true → two? op ≡ false
untaken op e = is_false (both (le_test (pos 2) op) (le_test op (pos 13))) (out (yes (either (lt_test op (pos 2)) (lt_test (pos 15) op)) e))
  where
    out : (op <ℤ pos 2) ⊎ (pos 15 <ℤ op) → (pos 2 ≤ℤ op) × (op ≤ℤ pos 13) → ⊥
    out (inl u) h = omega lin
    out (inr u) h = omega lin

none-range : (op : ℤ) → outside? op ≡ true → (a b : Interval) → Refuses (range_number (interval_binary op a b)) (outside? op) (one? op)
unfolding interval_binary other
none-range op e a b = rw (far op 2 e (omega arith) (omega arith), far op 3 e (omega arith) (omega arith), far op 4 e (omega arith) (omega arith), far op 5 e (omega arith) (omega arith), far op 6 e (omega arith) (omega arith), far op 7 e (omega arith) (omega arith), far op 8 e (omega arith) (omega arith), far op 9 e (omega arith) (omega arith), far op 10 e (omega arith) (omega arith), far op 11 e (omega arith) (omega arith), far op 12 e (omega arith) (omega arith), far op 13 e (omega arith) (omega arith), far op 14 e (omega arith) (omega arith), far op 15 e (omega arith) (omega arith), e) (record { by-1 = refl; by_4 = refl })

pub interval-binary-refused : (op : ℤ) (a b : Interval) → Refuses (range_number (interval_binary op a b)) (outside? op) (one? op)
unfolding interval_binary other ◌≟◌ ◌<?◌
interval-binary-refused op a b = go (operator op)
  where
    go : {op : ℤ} → Operator op → Refuses (range_number (interval_binary op a b)) (outside? op) (one? op)
    go add = record { by-1 = refl; by_4 = refl }
    go sub = own (owned.sub a b)
    go mul = record { by-1 = refl; by_4 = refl }
    go div = record { by-1 = refl; by_4 = refl }
    go rem = own (owned.rem a b)
    go equal = record { by-1 = refl; by_4 = refl }
    go and = record { by-1 = refl; by_4 = refl }
    go or = record { by-1 = refl; by_4 = refl }
    go less = record { by-1 = refl; by_4 = refl }
    go greater = record { by-1 = refl; by_4 = refl }
    go at_most = record { by-1 = refl; by_4 = refl }
    go at_least = record { by-1 = refl; by_4 = refl }
    go inverse = record { by-1 = refl; by_4 = refl }
    go same = record { by-1 = refl; by_4 = refl }
    go (none {op = op} e) = none-range op e a b

none-range-1 : (op : ℤ) → outside? op ≡ true → (a : Interval) → Refuses (range_number (interval_unary op a)) (outside? op) (two? op)
unfolding interval_unary other
none-range-1 op e a = rw (far op 14 e (omega arith) (omega arith), far op 15 e (omega arith) (omega arith), e) (record { by-1 = refl; by_4 = sym (untaken op e) })

pub interval-unary-refused : (op : ℤ) (a : Interval) → Refuses (range_number (interval_unary op a)) (outside? op) (two? op)
unfolding interval_unary other ◌≟◌ ◌<?◌ ◌≤?◌
interval-unary-refused op a = go (operator op)
  where
    go : {op : ℤ} → Operator op → Refuses (range_number (interval_unary op a)) (outside? op) (two? op)
    go add = record { by-1 = refl; by_4 = refl }
    go sub = record { by-1 = refl; by_4 = refl }
    go mul = record { by-1 = refl; by_4 = refl }
    go div = record { by-1 = refl; by_4 = refl }
    go rem = record { by-1 = refl; by_4 = refl }
    go equal = record { by-1 = refl; by_4 = refl }
    go and = record { by-1 = refl; by_4 = refl }
    go or = record { by-1 = refl; by_4 = refl }
    go less = record { by-1 = refl; by_4 = refl }
    go greater = record { by-1 = refl; by_4 = refl }
    go at_most = record { by-1 = refl; by_4 = refl }
    go at_least = record { by-1 = refl; by_4 = refl }
    go inverse = record { by-1 = refl; by_4 = refl }
    go same = record { by-1 = refl; by_4 = refl }
    go (none {op = op} e) = none-range-1 op e a

none-spacing : (op : ℤ) → outside? op ≡ true → (a b : Congruence) → Refuses (spacing_number (binary_within op a b)) (outside? op) (one? op)
unfolding binary_within other
none-spacing op e a b = rw (far op 2 e (omega arith) (omega arith), far op 3 e (omega arith) (omega arith), far op 4 e (omega arith) (omega arith), far op 5 e (omega arith) (omega arith), far op 6 e (omega arith) (omega arith), far op 7 e (omega arith) (omega arith), far op 8 e (omega arith) (omega arith), far op 9 e (omega arith) (omega arith), far op 10 e (omega arith) (omega arith), far op 11 e (omega arith) (omega arith), far op 12 e (omega arith) (omega arith), far op 13 e (omega arith) (omega arith), far op 14 e (omega arith) (omega arith), far op 15 e (omega arith) (omega arith), e) (record { by-1 = refl; by_4 = refl })

inside-binary : (op : ℤ) (a b : Congruence) → (domain? a && domain? b) ≡ true → Refuses (spacing_number (binary_within op a b)) (outside? op) (one? op)
unfolding binary_within other spacing_on ◌≟◌ ◌<?◌
inside-binary op a b d = go (operator op)
  where
    go : {op : ℤ} → Operator op → Refuses (spacing_number (binary_within op a b)) (outside? op) (one? op)
    go add = rw d (own (owned.added a b))
    go sub = rw d (own (owned.subtracted a b))
    go mul = rw d (own (owned.multiplied a b))
    go div = rw d (own (owned.divided a b))
    go rem = record { by-1 = refl; by_4 = refl }
    go equal = rw d (own (owned.equated a b))
    go and = rw d (record { by-1 = refl; by_4 = refl })
    go or = rw d (record { by-1 = refl; by_4 = refl })
    go less = rw d (record { by-1 = refl; by_4 = refl })
    go greater = rw d (record { by-1 = refl; by_4 = refl })
    go at_most = rw d (record { by-1 = refl; by_4 = refl })
    go at_least = rw d (record { by-1 = refl; by_4 = refl })
    go inverse = record { by-1 = refl; by_4 = refl }
    go same = record { by-1 = refl; by_4 = refl }
    go (none {op = op} e) = none-spacing op e a b

-- outside the domain 1 goes first, whatever the operator
pub congruence-binary-refused : (op : ℤ) (a b : Congruence) → Refuses (spacing_number (congruence_binary op a b)) (not (domain? a && domain? b) || outside? op) ((domain? a && domain? b) && (one? op))
congruence-binary-refused op a b = go (domain? a && domain? b) (inside-binary op a b)
  where
    go : (d : Bool) → (d ≡ true → Refuses (spacing_number (binary_within op a b)) (outside? op) (one? op)) →
        Refuses (spacing_number (pick d (binary_within op a b) (answers.refused 1))) (not d || outside? op) (d && (one? op))
    go true h = h refl
    go false h = record { by-1 = refl; by_4 = refl }

none-spacing-1 : (op : ℤ) → outside? op ≡ true → (a : Congruence) → Refuses (spacing_number (unary_within op a)) (outside? op) (two? op)
unfolding unary_within other
none-spacing-1 op e a = rw (far op 14 e (omega arith) (omega arith), far op 15 e (omega arith) (omega arith), e) (record { by-1 = refl; by_4 = sym (untaken op e) })

inside-unary : (op : ℤ) (a : Congruence) → domain? a ≡ true → Refuses (spacing_number (unary_within op a)) (outside? op) (two? op)
unfolding unary_within other ◌≟◌ ◌<?◌ ◌≤?◌
inside-unary op a d = go (operator op)
  where
    go : {op : ℤ} → Operator op → Refuses (spacing_number (unary_within op a)) (outside? op) (two? op)
    go add = record { by-1 = refl; by_4 = refl }
    go sub = record { by-1 = refl; by_4 = refl }
    go mul = record { by-1 = refl; by_4 = refl }
    go div = record { by-1 = refl; by_4 = refl }
    go rem = record { by-1 = refl; by_4 = refl }
    go equal = record { by-1 = refl; by_4 = refl }
    go and = record { by-1 = refl; by_4 = refl }
    go or = record { by-1 = refl; by_4 = refl }
    go less = record { by-1 = refl; by_4 = refl }
    go greater = record { by-1 = refl; by_4 = refl }
    go at_most = record { by-1 = refl; by_4 = refl }
    go at_least = record { by-1 = refl; by_4 = refl }
    go inverse = rw d (record { by-1 = refl; by_4 = refl })
    go same = record { by-1 = refl; by_4 = refl }
    go (none {op = op} e) = none-spacing-1 op e a

pub congruence-unary-refused : (op : ℤ) (a : Congruence) → Refuses (spacing_number (congruence_unary op a)) (not (domain? a) || outside? op) (domain? a && two? op)
congruence-unary-refused op a = go (domain? a) (inside-unary op a)
  where
    go : (d : Bool) → (d ≡ true → Refuses (spacing_number (unary_within op a)) (outside? op) (two? op)) →
        Refuses (spacing_number (pick d (unary_within op a) (answers.refused 1))) (not d || outside? op) (d && two? op)
    go true h = h refl
    go false h = record { by-1 = refl; by_4 = refl }
