-- A sheet that was read is one that the panel of 64 bits takes; and which inputs a run takes.
use mathlib.Core.Path.{◌≡◌, refl}
use mathlib.Core.Logic.{◌≢◌, ◌⊎◌, inl, inr}
use mathlib.Core.Bool.{true}
use mathlib.Core.List.{List, [], ◌∷◌}
use Prim.Native.Nat.{ℕ, zero, suc, ◌+◌}
use native.Mathlib.Omega.{arith}
use lib.IntN.{ℤ, pos}
use lib.ListN.{get_or, drop}
use lib.Signed.{◌≤ℤ◌, ◌<ℤ◌}
use mir.Syntax.{w64}
use mir.Val.{SFits}
use Rattle.whole.specs.Choice.{pick}
use Rattle.whole.specs.Test.{◌≟◌}
use Rattle.whole.specs.Whole.{up}
use Rattle.whole.proofs.Linear.{ints}
use Rattle.whole.proofs.Fits.{low, high}
use Rattle.whole.proofs.Decides.{branch, eq_test, le_test, both, yes, is_true}
use Rattle.sign.proofs.Laws.{and_both}
use Rattle.interval.proofs.Rem.{proper}
use Rattle.sheet.specs.Operator.{fields_of}
use Rattle.sheet.specs.declared.step.Step.{Step}
use Rattle.sheet.specs.Valid.{Fit, constant, input, Valid, ValidFrom, ended, and}
use Rattle.sheet.specs.declared.operator.Fields.TheVariants.{Constant as ConstantFields, Input as InputFields}
use Rattle.step.specs.declared.Operator.{Operator}
use Rattle.step.specs.declared.Operator.TheVariants.{Constant}
use Rattle.step.specs.declared.Action.{Action}
use Rattle.step.specs.declared.Action.TheVariants.{Input, Does}
use Rattle.step.specs.Kind.{operators, operator_of, action_of}
use Rattle.step.specs.Valid.{ValidOperator}
use Rattle.step.specs.Stopping.{stopping}
use Rattle.panel.specs.Run.{actions_of, takes, taken?, suits?}
use Rattle.desk.specs.Promise.{ValidAction, AllValid, none, next, Takes, Suits}

-- ---- the operators by their numbers: the number of a constant alone has to fit

abbrev EachValid : List Operator → Type 0
EachValid [] = Unit {0}
EachValid (o ∷ os) = ValidOperator w64 o × EachValid os

operator-at : (os : List Operator) → EachValid os → (n : ℕ) → ValidOperator w64 (get_or os n (Constant (pos 0)))
operator-at [] e n = record { low = omega ints; high = omega ints }
operator-at (o ∷ os) e zero = e.0
operator-at (o ∷ os) e (suc n) = operator-at os e.1 n

operator-valid : (n : ℕ) → ValidOperator w64 (operator_of n)
unfolding operator_of
operator-valid = operator-at operators (tt, (tt, (tt, (tt, (tt, (tt, (tt, (tt, (tt, (tt, (tt, (tt, (tt, (tt, (tt, (tt, (tt, tt)))))))))))))))))

-- ---- a sheet that was read is one that the panel takes

constant-fits : {k : ℕ} {x y z : ℤ} → Fit k ConstantFields x y z → SFits w64 x
constant-fits (constant f) = f

input-fits : {k : ℕ} {x y z : ℤ} → Fit k InputFields x y z → (SFits w64 x) × (SFits w64 y) × (x ≤ℤ y)
input-fits (input f g h) = (f, g, h)

step-valid : {k : ℕ} {s : Step} → Valid k s → ValidAction (stopping w64) (action_of s.operator s.a s.b s.c)
unfolding action_of fields_of
step-valid {s} v =
    branch (eq_test s.operator (pos 0)) Fine constants others
  where
    Fine : Action → Type 0
    Fine = ValidAction (stopping w64)

    number : SFits w64 s.a → ValidOperator w64 (Constant s.a)
    number f = record { low = low w64 s.a f; high = high w64 s.a f }

    ends : (SFits w64 s.a) × (SFits w64 s.b) × (s.a ≤ℤ s.b) → Fine (Input s.a s.b)
    ends (f, g, h) = proper h (low w64 s.a f) (high w64 s.b g)

    constants : s.operator ≡ pos 0 → Fine (Does (Constant s.a) 0 0 0)
    constants e = let z : v.number ≡ 0 = omega (ints, v.is) in number (constant-fits (rw z at v.fit))

    inputs : s.operator ≡ pos 1 → Fine (Input s.a s.b)
    inputs e = let z : v.number ≡ 1 = omega (ints, v.is) in ends (input-fits (rw z at v.fit))

    operated : s.operator ≢ pos 1 → Fine (Does (operator_of (up s.operator)) (up s.a) (up s.b) (up s.c))
    operated n = operator-valid (up s.operator)

    others : s.operator ≢ pos 0 → Fine (pick (s.operator ≟ pos 1) (Input s.a s.b) (Does (operator_of (up s.operator)) (up s.a) (up s.b) (up s.c)))
    others n = branch (eq_test s.operator (pos 1)) Fine inputs operated

pub all_valid : {k : ℕ} (xs : List Step) → ValidFrom k xs → AllValid (stopping w64) (actions_of xs)
unfolding actions_of
all_valid [] ended = none
all_valid {k = k} (x ∷ xs) (and v vs) = next (step-valid v) (all_valid {k = k + 1} xs vs)

-- ---- the inputs that the run takes are those that are as many as the sheet's, each in its range

takes-means : (s : Action) (ins : List ℤ) → taken? s ins ≡ true → Takes s ins
unfolding taken?
takes-means (Input l h) [] e = let z : ◌≡◌ {A = ℕ} 0 1 = cc in absurd (omega arith)
takes-means (Input l h) (x ∷ ins) e = yes (both (le_test l x) (le_test x h)) e
takes-means (Does o p q r) ins e = tt

pub suits-means : (ss : List Action) (ins : List ℤ) → suits? ss ins ≡ true → Suits ss ins
unfolding suits?
suits-means [] [] e = tt
suits-means [] (x ∷ ins) e = let z : ◌≡◌ {A = ℕ} 0 1 = cc in absurd (omega arith)
suits-means (s ∷ ss) ins e = let t = and_both (taken? s ins) (suits? ss (drop (takes s) ins)) e in (takes-means s ins t.0, suits-means ss (drop (takes s) ins) t.1)

takes-tells : (s : Action) (ins : List ℤ) → Takes s ins → taken? s ins ≡ true
unfolding taken?
takes-tells (Input l h) [] t = absurd t
takes-tells (Input l h) (x ∷ ins) t = is_true (both (le_test l x) (le_test x h)) (outside t.0 t.1)
  where
    outside : l ≤ℤ x → x ≤ℤ h → (x <ℤ l) ⊎ (h <ℤ x) → ⊥
    outside a b (inl c) = omega ints
    outside a b (inr c) = omega ints
takes-tells (Does o p q r) ins t = refl

pub suits-tells : (ss : List Action) (ins : List ℤ) → Suits ss ins → suits? ss ins ≡ true
unfolding suits?
suits-tells [] [] t = refl
suits-tells [] (x ∷ ins) t = absurd t
suits-tells (s ∷ ss) ins t = rw (takes-tells s ins t.0) (suits-tells ss (drop (takes s) ins) t.1)
