-- The check of a sheet on shown values, for any panel: one fold over what the earlier steps showed.
use Rattle.std.specs.Prelude.{List, [], ◌∷◌, ◌++◌, ℕ, get_or, Err, Ok, Result}
use Rattle.refusal.specs.declared.Refusal.{Refusal}
use Rattle.step.specs.Panel.{Panel}
use Rattle.step.specs.declared.Action.{Action}
use Rattle.step.specs.declared.Action.TheVariants.{Input, Does}
use Rattle.sheet.specs.declared.step.Step.{Step}
use Rattle.panel.specs.Run.{actions_of}

-- what an earlier step showed; past the last stands 0
abbrev pub shown_at : (P : Panel) → List P.Shown → ℕ → P.Shown
shown_at P shown k = get_or shown k P.zero

-- what the steps show, all of them or those before the one that is refused
pub data Check (S : Type 0) : Type 0 where
  passed : List S → Check S
  refused_at : List S → Refusal → Check S

abbrev pub shown_by : {S : Type 0} → Check S → List S
shown_by (passed vs) = vs
shown_by (refused_at vs r) = vs

unfoldable pub check_step : (P : Panel) → List P.Shown → Action → Result P.Shown Refusal
check_step P shown (Input l h) = Ok (P.of_input l h)
check_step P shown (Does o p q r) = P.show o (shown_at P shown p) (shown_at P shown q) (shown_at P shown r)

abbrev pub check_on : {S : Type 0} → List S → Result S Refusal → (S → Check S) → Check S
check_on shown (Ok v) go = go v
check_on shown (Err r) go = refused_at shown r

unfoldable pub check_from : (P : Panel) → List P.Shown → List Action → Check P.Shown
check_from P shown [] = passed shown
check_from P shown (s ∷ ss) = check_on shown (check_step P shown s) (λ v. check_from P (shown ++ (v ∷ [])) ss)

abbrev pub check_sheet : (P : Panel) → List Step → Check P.Shown
check_sheet P steps = check_from P [] (actions_of steps)
