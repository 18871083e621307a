-- The operations that the transfers call are refused by 2 and 3 alone, on values of the domain.
use mathlib.Core.Bool.{Bool, true, false, ◌&&◌, ◌||◌}
use Prim.Native.Nat.{ℕ}
use lib.IntN.{ℤ, pos}
use lib.Signed.{quot_z}
use mir.Syntax.{w64}
use Rattle.std.specs.Prelude.{None, Option, Some}
use Rattle.whole.specs.Choice.{pick}
use Rattle.whole.specs.Test.{◌≟◌, ◌<?◌}
use Rattle.whole.specs.Range.{least}
use Rattle.refusal.specs.Answer as answers
use Rattle.interval.specs.declared.Interval.{Interval}
use Rattle.interval.specs.Set.{◌∈?◌, top, is_bottom, is_only}
use Rattle.refusal.specs.Answer.{Answer, is, refused}
use Rattle.interval.specs.Ported as I
use Rattle.congruence.specs.declared.Congruence.{Congruence}
use Rattle.congruence.specs.Set.{bottom?}
use Rattle.congruence.specs.Numbers.{formula, divides?}
use Rattle.congruence.specs.Ported as C
use Rattle.transfer.specs.Refuses.{range_number, spacing_number}
use Rattle.transfer.proofs.Numbered.{Own, value, wide, asserts}

-- ---- intervals

neg : (b : Interval) → Own (range_number (I.neg b))
unfolding I.neg
neg b = go (is_bottom w64 b) (b.max ≟ least w64) _
  where
    go : (p q : Bool) (v : Interval) → Own (range_number (pick p (is b) (pick q (refused 2) (is v))))
    go true q v = value
    go false true v = wide
    go false false v = value

pub sub : (a b : Interval) → Own (range_number (I.sub a b))
unfolding I.sub
sub a b = go (I.neg b) (neg b)
  where
    go : (n : Answer Interval) → Own (range_number n) → Own (range_number (I.add_to a n))
    go (is v) h = value
    go (refused n) h = h

large : (a : Interval) (m : Option ℤ) → Own (range_number (I.rem_large a m))
unfolding I.rem_large
large a (Some m) = value
large a None = wide

pub rem : (a b : Interval) → Own (range_number (I.rem a b))
unfolding I.rem
rem a b = go ((is_bottom w64 a || is_bottom w64 b) || is_only b (pos 0)) ((a.min ≟ a.max) && (b.min ≟ b.max)) (quot_z a.min b.min ∈? top w64) _ _
  where
    go : (p q s : Bool) (u v : Interval) → Own (range_number (pick p (is u) (pick q (pick s (is v) (refused 2)) (I.rem_large a (I.largest b)))))
    go true q s u v = value
    go false true true u v = value
    go false true false u v = wide
    go false false s u v = large a (I.largest b)

-- ---- congruences

abbrev truth_number : answers.Answer Bool → ℕ
truth_number (answers.is t) = 0
truth_number (answers.refused n) = n

made : (c m : Option ℤ) → Own (spacing_number (C.made c m))
unfolding C.made
made c None = wide
made None (Some m) = wide
made (Some c) (Some m) = value

held : (c m : ℤ) → Own (spacing_number (C.held c m))
unfolding C.held
held c m = go ((m ≟ pos 0) || (c <? m)) _
  where
    go : (p : Bool) (v : Congruence) → Own (spacing_number (pick p (answers.is v) (answers.refused 3)))
    go true v = value
    go false v = asserts

asserted : (c m : Option ℤ) → Own (spacing_number (C.asserted c m))
unfolding C.asserted
asserted None m = wide
asserted (Some c) None = wide
asserted (Some c) (Some m) = held c m

-- a value, or an answer of these
first : (p : Bool) (v : Congruence) (r : answers.Answer Congruence) → Own (spacing_number r) → Own (spacing_number (pick p (answers.is v) r))
first true v r h = value
first false v r h = h

last : (p : Bool) (v : Congruence) (r : answers.Answer Congruence) → Own (spacing_number r) → Own (spacing_number (pick p r (answers.is v)))
last true v r h = h
last false v r h = value

pub added : (a b : Congruence) → Own (spacing_number (C.added a b))
unfolding C.added
added a b = first (bottom? a || bottom? b) _ _ (made _ (C.gcd_of a.modulus b.modulus))

negated : (b : Congruence) → Own (spacing_number (C.negated b))
unfolding C.negated
negated b = first (bottom? b) _ _ (asserted _ _)

pub subtracted : (a b : Congruence) → Own (spacing_number (C.subtracted a b))
unfolding C.subtracted C.added_to
subtracted a b = go (C.negated b) (negated b)
  where
    go : (n : answers.Answer Congruence) → Own (spacing_number n) → Own (spacing_number (C.added_to a n))
    go (answers.is v) h = added a v
    go (answers.refused n) h = h

pub multiplied : (a b : Congruence) → Own (spacing_number (C.multiplied a b))
unfolding C.multiplied
multiplied a b = first (bottom? a || bottom? b) _ _ (made _ (formula w64 a b))

pub divided : (a b : Congruence) → Own (spacing_number (C.divided a b))
unfolding C.divided C.divided_by
divided a b = first ((bottom? a || bottom? b) || C.only? b (pos 0)) _ _ (last (b.modulus ≟ pos 0) _ _ (last (divides? b.constant a) _ _ (asserted _ _)))

-- whatever follows from a truth that is refused by 2 alone
on_truth : (t : answers.Answer Bool) (u v : Congruence) → Own (truth_number t) → Own (spacing_number (C.on_truth t (answers.is u) (answers.is v)))
unfolding C.on_truth
on_truth (answers.is true) u v h = value
on_truth (answers.is false) u v h = value
on_truth (answers.refused n) u v h = h

indivisible : (d g : Option ℤ) → Own (truth_number (C.indivisible d g))
unfolding C.indivisible
indivisible d None = wide
indivisible None (Some g) = wide
indivisible (Some d) (Some g) = value

separated : (a b : Congruence) → Own (truth_number (C.separated a b))
unfolding C.separated
separated a b = go (a.modulus ≟ pos 0) (b.modulus ≟ pos 0) _ _ _ _ (indivisible _ _)
  where
    go : (p q x y z : Bool) (t : answers.Answer Bool) → Own (truth_number t) → Own (truth_number (pick p (pick q (answers.is x) (answers.is y)) (pick q (answers.is z) t)))
    go true true x y z t h = value
    go true false x y z t h = value
    go false true x y z t h = value
    go false false x y z t h = h

pub equated : (a b : Congruence) → Own (spacing_number (C.equated a b))
unfolding C.equated
equated a b = on_truth (C.separated a b) _ _ (separated a b)
