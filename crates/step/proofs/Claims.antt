-- What each operator shows is honest to its runs at every width: what is shown holds every number, and a refusal has numbers that stop.
-- So the stopping panel is lawful.
use mathlib.Core.Path.{◌≡◌, refl, sym, ap, ◌∙◌, subst}
use Prim.Native.Nat.{ℕ}
use native.Mathlib.Omega.{arith}
use lib.IntN.{ℤ, pos}
use lib.Signed.{◌≤ℤ◌}
use mir.Syntax.{Width}
use Rattle.std.specs.Prelude.{Err, Ok, Result}
use Rattle.refusal.specs.declared.Refusal.{Refusal}
use Rattle.whole.proofs.Linear.{ints}
use Rattle.whole.proofs.Fits.{fits, zero-fits}
use Rattle.whole.proofs.Decides.{branch, eq_test}
use Rattle.interval.specs.declared.Interval.{Interval}
use Rattle.interval.specs.Set.{◌⋯◌, Proper, ◌∈◌ as ◌∈ʳ◌}
use Rattle.interval.proofs.Rem.{proper, signs}
use Rattle.congruence.specs.Set.{◌∈◌ as ◌∈ˢ◌}
use Rattle.congruence.specs.Set.{Proper as ProperSpacing}
use Rattle.congruence.proofs.Sets as sets
use Rattle.step.specs.declared.Operator.{Operator}
use Rattle.step.specs.declared.show.Shown.{Shown}
use Rattle.step.specs.Range.{range_op}
use Rattle.step.specs.Run.{run_op}
use Rattle.step.specs.Spacing.{spacing_op}
use Rattle.step.specs.Signs.{sign_op}
use Rattle.step.specs.Show.{show_op, shown, beside, input_shown}
use Rattle.step.specs.Valid.{ValidOperator}
use Rattle.step.specs.Fair.{GivesIn, given, Fair, passes, refuses}
use Rattle.step.specs.Panel.{Stopped, Honest, gives-in, stops-by, Lawful}
use Rattle.step.specs.Stopping.{InShown, GoodShown, stopping}
use Rattle.step.proofs.Ranges.{fair, self}
use Rattle.step.proofs.SignHas.{sign-has}
use Rattle.step.proofs.SpacingHas.{spacing-has, spacing-proper}
use Rattle.interval.proofs.ClaimsSign.{ordered-sign-covers}

number : {v : Interval} {o : Result ℤ Refusal} → GivesIn v o → (n : ℤ) × (o ≡ Ok n) × (n ∈ʳ v)
number (given {n = n} h) = (n, refl, h)

module _ (w : Width) (o : Operator) (s t u : Shown) (f : ValidOperator w o) (ps : GoodShown w s) (pt : GoodShown w t) (pu : GoodShown w u) where
  -- spacing and sign join a range that is fair
  turned : {a : Result Interval Refusal} → Fair w (run_op w o) s.range t.range u.range a →
      Honest (stopping w) o s t u (beside (spacing_op w o s.range s.spacing t.spacing u.spacing) (sign_op o s.range s.sign t.sign u.sign) a)
  turned (passes {v = v} g p) = gives-in all (record { range = p; spacing = spacing-proper w s.range s.spacing t.spacing u.spacing ps.spacing pt.spacing pu.spacing o f })
    where
      all : (x y z : ℤ) → InShown s x → InShown t y → InShown u z → (n : ℤ) × (run_op w o x y z ≡ Ok n) × InShown (shown v (spacing_op w o s.range s.spacing t.spacing u.spacing) (sign_op o s.range s.sign t.sign u.sign)) n
      all x y z a b d =
          let (n, e, h) = number (g x y z a.range b.range d.range) in (
            n,
            e,
            record {
              range = h;
              spacing = spacing-has w s.range s.spacing t.spacing u.spacing ps.spacing pt.spacing pu.spacing x y z n a.range a.spacing b.spacing d.spacing o e;
              sign = sign-has w s.range s.sign t.sign u.sign x y z n a.range a.sign b.sign d.sign o e;
            },
          )
  turned (refuses m) = stops-by (record { x = m.x; y = m.y; z = m.z; x-in = m.x-in; y-in = m.y-in; z-in = m.z-in; stop = m.stop })

  pub honest : Honest (stopping w) o s t u (show_op w o s t u)
  unfolding show_op
  honest = turned (fair ps.range pt.range pu.range o f)

  -- v is shown: every run on numbers of the operands gives a number, and it lies in v
  pub show-sound : (v : Shown) → show_op w o s t u ≡ Ok v → (x y z : ℤ) → InShown s x → InShown t y → InShown u z → (n : ℤ) × (run_op w o x y z ≡ Ok n) × InShown v n
  show-sound v e = by_answer honest e
    where
      by_answer : {a : Result Shown Refusal} → Honest (stopping w) o s t u a → a ≡ Ok v → (x y z : ℤ) → InShown s x → InShown t y → InShown u z → (n : ℤ) × (run_op w o x y z ≡ Ok n) × InShown v n
      by_answer (gives-in {v = v'} g p) e x y z a b d = let q : v' ≡ v = cc in subst (λ k. (n : ℤ) × (run_op w o x y z ≡ Ok n) × InShown k n) q (g x y z a b d)
      by_answer (stops-by m) e x y z a b d = let q : ◌≡◌ {A = ℕ} 0 1 = cc in absurd (omega arith)

  -- refused by r: the operands' ranges hold numbers, each drawn from its own, on which the run stops by r
  pub show-refuses : (r : Refusal) → show_op w o s t u ≡ Err r → Stopped (stopping w) o s t u r
  show-refuses r e = by_answer honest e
    where
      by_answer : {a : Result Shown Refusal} → Honest (stopping w) o s t u a → a ≡ Err r → Stopped (stopping w) o s t u r
      by_answer (gives-in g p) e = let q : ◌≡◌ {A = ℕ} 0 1 = cc in absurd (omega arith)
      by_answer (stops-by {r = r'} m) e = let q : r' ≡ r = cc in subst (λ k. Stopped (stopping w) o s t u k) q m

-- ---- inputs

module _ (w : Width) (l h : ℤ) (p : Proper w (l ⋯ h)) where
  input-good : GoodShown w (input_shown l h)
  unfolding input_shown
  input-good = record {
    range = p;
    spacing = branch (eq_test l h) (ProperSpacing w) (λ e. sets.single-proper w l (fits w l p.above (omega (ints, p.ordered, p.below)))) (λ n. sets.top-proper w);
  }

  input-has : (x : ℤ) → l ≤ℤ x → x ≤ℤ h → InShown (input_shown l h) x
  unfolding input_shown
  input-has x a b = record {
    range = record { low = a; high = b };
    spacing = branch (eq_test l h) (λ v. x ∈ˢ v) (λ e. let f : x ≡ l = omega ints in rw f (sets.alone-in l)) (λ n. sets.all x);
    sign = ordered-sign-covers p.ordered x (record { low = a; high = b });
  }

pub lawful : (w : Width) → Lawful (stopping w)
lawful w = record {
  zero_has = record { range = self (pos 0); spacing = sets.alone-in (pos 0); sign = record { is = refl } };
  zero-good = record { range = proper (omega ints) (omega (ints, signs w)) (omega (ints, signs w)); spacing = sets.single-proper w (pos 0) zero-fits };
  input-good = input-good w;
  input-has = λ l h x p a b. input-has w l h p x a b;
  honest = λ o s t u f ps pt pu. honest w o s t u f ps pt pu;
}

-- ---- what a call promises leaves one answer

pub range-fixed : (w : Width) (o : Operator) (i j k : Interval) (r r' : Result Interval Refusal) → r ≡ range_op w o i j k → r' ≡ range_op w o i j k → r ≡ r'
range-fixed w o i j k r r' h l = h ∙ sym l

pub shown-fixed : (w : Width) (o : Operator) (s t u : Shown) (r r' : Result Shown Refusal) → r ≡ show_op w o s t u → r' ≡ show_op w o s t u → r ≡ r'
shown-fixed w o s t u r r' h l = h ∙ sym l
