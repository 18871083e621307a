-- A step that stops names earlier steps alone: the places of its operands lie before its own.
use mathlib.Core.Path.{◌≡◌, refl, ap, ◌∙◌}
use mathlib.Core.Logic.{◌≢◌}
use mathlib.Core.List.{List, [], ◌∷◌, ◌++◌}
use Prim.Native.Nat.{ℕ, zero, suc, ◌+◌, ◌<◌}
use native.Mathlib.Omega.{arith}
use lib.IntN.{ℤ, pos}
use lib.ListN.{length, get_or}
use mir.Syntax.{w64}
use Rattle.std.specs.Prelude.{Err}
use Rattle.refusal.specs.declared.Refusal.{Refusal}
use Rattle.whole.specs.Choice.{pick}
use Rattle.whole.specs.Test.{◌≟◌}
use Rattle.whole.specs.Whole.{up}
use Rattle.whole.proofs.Decides.{branch, eq_test}
use Rattle.sheet.specs.Operator.{rows, fields_of}
use Rattle.sheet.specs.declared.step.Step.{Step}
use Rattle.sheet.specs.Valid.{Fit, constant, input, one, two, three, Valid, ValidFrom, ended, and}
use Rattle.sheet.specs.declared.operator.Fields.{Fields}
use Rattle.sheet.specs.declared.operator.Fields.TheVariants.{Constant as ConstantFields, Input as InputFields, One, Two, Three}
use Rattle.step.specs.declared.Operator.TheVariants.{Constant}
use Rattle.step.specs.declared.Action.{Action}
use Rattle.step.specs.declared.Action.TheVariants.{Input, Does}
use Rattle.step.specs.Kind.{operator_of, action_of}
use Rattle.step.specs.Run.{run_op}
use Rattle.panel.specs.Run.{actions_of}

-- rows of operators that name steps
abbrev Naming : Fields → Type 0
Naming ConstantFields = ⊥
Naming InputFields = ⊥
Naming One = Unit {0}
Naming Two = Unit {0}
Naming Three = Unit {0}

abbrev EachNaming : List Fields → Type 0
EachNaming [] = Unit {0}
EachNaming (f ∷ fs) = Naming f × EachNaming fs

naming-at : (fs : List Fields) → EachNaming fs → (n : ℕ) → n < length fs → Naming (get_or fs n ConstantFields)
naming-at [] e n h = absurd (omega arith)
naming-at (f ∷ fs) e zero h = e.0
naming-at (f ∷ fs) e (suc n) h = naming-at fs e.1 n (omega arith)

names : (n : ℕ) → n < length rows → n ≢ 0 → n ≢ 1 → Naming (fields_of n)
unfolding fields_of
names zero h p q = absurd (p refl)
names (suc zero) h p q = absurd (q refl)
names (suc (suc n)) h p q = naming-at (Two ∷ Two ∷ Two ∷ Two ∷ Two ∷ Two ∷ Two ∷ Two ∷ Two ∷ Two ∷ Two ∷ Two ∷ One ∷ One ∷ Three ∷ []) (tt, (tt, (tt, (tt, (tt, (tt, (tt, (tt, (tt, (tt, (tt, (tt, (tt, (tt, (tt, tt))))))))))))))) n (omega arith)

pub record Earlier (k : ℕ) (a b c : ℕ) : Type 0 where
  pub first : a < k
  pub second : b < k
  pub third : c < k

fit-earlier : {k : ℕ} {f : Fields} {x y z : ℤ} → Naming f → Fit k f x y z → Earlier k (up x) (up y) (up z)
fit-earlier n (constant f) = absurd n
fit-earlier n (input f g h) = absurd n
fit-earlier n (one p) = record { first = p; second = omega arith; third = omega arith }
fit-earlier n (two p q) = record { first = p; second = q; third = omega arith }
fit-earlier n (three p q r) = record { first = p; second = q; third = r }

-- what an action that stops says of the places it names
abbrev pub Names : ℕ → Action → Type 0
Names k (Input l h) = Unit {0}
Names k (Does o a b c) = (x y z : ℤ) (r : Refusal) → run_op w64 o x y z ≡ Err r → Earlier k a b c

step-names : {k : ℕ} {s : Step} → Valid k s → Names k (action_of s.operator s.a s.b s.c)
unfolding action_of run_op
step-names {k} {s} v = branch (eq_test s.operator (pos 0)) (Names k) constants others
  where
    constants : s.operator ≡ pos 0 → Names k (Does (Constant s.a) 0 0 0)
    constants e x y z r h = let z : ◌≡◌ {A = ℕ} 0 1 = cc in absurd (omega arith)

    operated : s.operator ≢ pos 0 → s.operator ≢ pos 1 → Names k (Does (operator_of (up s.operator)) (up s.a) (up s.b) (up s.c))
    operated p q x y z r h = fit-earlier (names v.number v.known (λ e. p (v.is ∙ ap pos e)) (λ e. q (v.is ∙ ap pos e))) v.fit

    others : s.operator ≢ pos 0 → Names k (pick (s.operator ≟ pos 1) (Input s.a s.b) (Does (operator_of (up s.operator)) (up s.a) (up s.b) (up s.c)))
    others p = branch (eq_test s.operator (pos 1)) (Names k) (λ e. tt) (operated p)

-- the step behind so many others
pub names_at : {j : ℕ} (xs : List Step) → ValidFrom j xs → (before : List Action) (s : Action) (after : List Action) → actions_of xs ≡ before ++ (s ∷ after) → Names (j + length before) s
unfolding actions_of
names_at [] ended [] s after e = let z : ◌≡◌ {A = ℕ} 0 1 = cc in absurd (omega arith)
names_at [] ended (b ∷ before) s after e = let z : ◌≡◌ {A = ℕ} 0 1 = cc in absurd (omega arith)
names_at {j = j} (x ∷ xs) (and v vs) [] s after e =
    let h : action_of x.operator x.a x.b x.c ≡ s = cc in
    let z : j + 0 ≡ j = omega arith in
    rw z (rw h at (step-names v))
names_at {j = j} (x ∷ xs) (and v vs) (b ∷ before) s after e =
    let h : actions_of xs ≡ before ++ (s ∷ after) = cc in
    let z : j + 1 + length before ≡ j + suc (length before) = omega arith in
    rw z at (names_at {j = j + 1} xs vs before s after h)
