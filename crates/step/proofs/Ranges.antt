-- Every operator's range is fair to its run.
use lib.IntN.{ℤ, pos}
use lib.Signed.{quot_z, rem_z}
use mir.Syntax.{Width}
use mir.Val.{SFits}
use Rattle.whole.specs.Choice.{pick}
use Rattle.whole.specs.Test.{◌≟◌}
use Rattle.whole.proofs.Linear.{ints}
use Rattle.whole.proofs.Fits.{fits}
use Rattle.whole.proofs.Decides.{branch, le_test, lt_test, eq_test}
use Rattle.interval.specs.declared.Interval.{Interval}
use Rattle.interval.specs.Set.{◌∈◌, ◌∉◌, top, single, Proper, some}
use Rattle.interval.specs.Mended as M
use Rattle.interval.specs.Mended.{join}
use Rattle.interval.proofs.Test.{only-test, other}
use Rattle.interval.proofs.Ends.{low-in}
use Rattle.interval.proofs.Truth.{and-told, or-told, not-told}
use Rattle.interval.proofs.Rem.{proper}
use Rattle.interval.proofs.Remainders.{not-these}
use Rattle.interval.proofs.Claims.{add-exact, sub-exact, mul-exact, div-rule, rem-rule, equals-exact, less-exact, greater-exact, less-or-equal-exact, greater-or-equal-exact, join-left, join-right, join-proper}
use Rattle.interval.proofs.ClaimsCanonical.{div-canonical, rem-canonical}
use Rattle.step.specs.declared.Operator.{Operator}
use Rattle.step.specs.declared.Operator.TheVariants.{Constant, Add, Sub, Mul, Div, Rem, Equals, And, Or, Less, Greater, LessOrEqual, GreaterOrEqual, Not, Same, Choose}
use Rattle.step.specs.Run.{run_op}
use Rattle.step.specs.Range.{chosen_by, range_op}
use Rattle.step.specs.Valid.{ValidOperator}
use Rattle.step.specs.Fair.{Fair}
use Rattle.step.proofs.Shapes.{sure, compared, arithmetic, division, Shows, shows-all, first, second, verdict-proper}

pub self : (n : ℤ) → n ∈ single n
self n = record { low = omega ints; high = omega ints }

single-proper : {w : Width} {n : ℤ} → n ∈ top w → Proper w (single n)
single-proper h = proper (omega ints) h.low h.high

module _ {w : Width} {i j k : Interval} (p : Proper w i) (q : Proper w j) (r : Proper w k) where
  quotient-shows : pos 0 ∉ j → ((x y : ℤ) → x ∈ i → y ∈ j → quot_z x y ∈ top w) → Shows p q r quot_z (M.div w i j)
  quotient-shows nz c = shows-all p q r ((div-rule w).full p q).covers (div-canonical (some p) (some q)) (λ m. m) (λ x y s t. (other t nz, in-fits (c x y s t)))
    where
      in-fits : {n : ℤ} → n ∈ top w → SFits w n
      in-fits {n} h = fits w n h.low h.high

  remainder-shows : pos 0 ∉ j → ((x y : ℤ) → x ∈ i → y ∈ j → quot_z x y ∈ top w) → Shows p q r rem_z (M.rem w i j)
  remainder-shows nz c = shows-all p q r ((rem-rule w).full p q).covers (rem-canonical (some p) (some q)) (λ m. not-these w m (c i.min j.min (low-in p.ordered) (low-in q.ordered))) (λ x y s t. other t nz)

  chosen : (x y z : ℤ) → x ∈ i → y ∈ j → z ∈ k → pick (x ≟ pos 1) y z ∈ chosen_by i j k (join j k)
  chosen x y z s t u =
      branch (eq_test x (pos 1)) (λ n. n ∈ chosen_by i j k (join j k))
      (λ e. branch (only-test i (pos 1)) (λ v. y ∈ v) (λ _. t) λ _. branch (only-test i (pos 0)) (λ v. y ∈ v) (λ h. absurd (omega ints)) (λ _. join-left j k t))
      (λ e. branch (only-test i (pos 1)) (λ v. z ∈ v) (λ h. absurd (e (omega ints))) λ _. branch (only-test i (pos 0)) (λ v. z ∈ v) (λ _. u) (λ _. join-right j k u))

  chosen-proper : Proper w (chosen_by i j k (join j k))
  chosen-proper = branch (only-test i (pos 1)) (Proper w) (λ _. q) λ _. branch (only-test i (pos 0)) (Proper w) (λ _. r) (λ _. join-proper q r)

  pub fair : (o : Operator) → ValidOperator w o → Fair w (run_op w o) i j k (range_op w o i j k)
  unfolding run_op range_op
  fair (Constant n) f = sure p q r (λ x y z s t u. self n) (single-proper f)
  fair Add f = arithmetic p q r ((add-exact w).full p q)
  fair Sub f = arithmetic p q r ((sub-exact w).full p q)
  fair Mul f = arithmetic p q r ((mul-exact w).full p q)
  fair Div f = division p q r quot_z quotient-shows
  fair Rem f = division p q r rem_z remainder-shows
  fair Equals f = compared p q r eq_test (λ x y h k. k h) ((equals-exact w).full p q)
  fair And f = first p q r (λ _. second p q r (λ _. sure p q r (λ x y z s t u. and-told s t) (verdict-proper _ _)))
  fair Or f = first p q r (λ _. second p q r (λ _. sure p q r (λ x y z s t u. or-told s t) (verdict-proper _ _)))
  fair Less f = compared p q r lt_test (λ x y h k. omega ints) ((less-exact w).full p q)
  fair Greater f = compared p q r (λ x y. lt_test y x) (λ x y h k. omega ints) ((greater-exact w).full p q)
  fair LessOrEqual f = compared p q r le_test (λ x y h k. omega ints) ((less-or-equal-exact w).full p q)
  fair GreaterOrEqual f = compared p q r (λ x y. le_test y x) (λ x y h k. omega ints) ((greater-or-equal-exact w).full p q)
  fair Not f = first p q r (λ _. sure p q r (λ x y z s t u. not-told s) (verdict-proper _ _))
  fair Same f = sure p q r (λ x y z s t u. s) p
  fair Choose f = first p q r (λ _. sure p q r chosen chosen-proper)
