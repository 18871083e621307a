-- What the family `sheet` says: numbers, each after a space; hexadecimal bytes; or a refusal.
use Rattle.std.specs.Prelude.{ℕ, List, [], ◌∷◌, ◌++◌, leb, ℤ, length}
use Rattle.std.specs.Int.{w64}
use Rattle.whole.specs.Choice.{pick}
use Rattle.refusal.specs.Number.{number_of}
use Rattle.text.specs.Ascii.{ascii}
use Rattle.text.specs.Hex.{hex_text}
use Rattle.say.specs.Texts.{spaced, refusal_text, place_text}
use Rattle.sheet.specs.Got.{Got, got, refused}
use Rattle.sheet.specs.declared.step.Step.{Step}
use Rattle.sheet.specs.Sheet.{flat}
use Rattle.step.specs.Run.{run_op}
use Rattle.panel.specs.Run.{Run, ended, stopped_at, actions_of, suits?, run_sheet}
use Rattle.step.specs.declared.show.Shown.{Shown}
use Rattle.step.specs.Stopping.{stopping}
use Rattle.desk.specs.Check.{Check, passed, refused_at as refused_at_step, check_sheet}
use Rattle.desk.specs.Five.{flat as fives}
use Rattle.refusal.specs.Answer.{Told, done, at_step, at_byte, refused_by}
use Rattle.sheet.specs.Answer.{Plan, fill, stop}

abbrev pub refused_text : Told → List (List ℕ)
refused_text (at_step r k) = ascii "refused at " ∷ place_text k r
refused_text (at_byte r p) = ascii "refused at " ∷ place_text p r
refused_text (refused_by r) = refusal_text r
refused_text (done n) = []

abbrev pub read_said : Got (List Step) → List (List ℕ)
read_said (got xs end) = ascii "read" ∷ spaced (flat xs)
read_said (refused r p) = refused_text (at_byte r p)

-- 5,378 bytes are room for any sheet (`sheet-size` of `sheet`)
abbrev pub write_said : Plan ℕ → List (List ℕ)
write_said (fill n bs) = pick (leb (length bs) 5378) (ascii "written " ∷ (hex_text bs ∷ [])) (refused_text (refused_by 16))
write_said (stop t) = refused_text t

-- a run's numbers: those of all steps, or those before the one that stops
abbrev pub ran_said : Run → List (List ℕ)
ran_said (ended ns) = ascii "ended" ∷ spaced ns
ran_said (stopped_at ns r) = ascii "stopped at " ∷ (place_text (length ns) (number_of r) ++ spaced ns)

abbrev pub run_said : Got (List Step) → List ℤ → List (List ℕ)
run_said (got xs end) ins = pick (suits? (actions_of xs) ins) (ran_said (run_sheet (run_op w64) ins xs)) (refused_text (refused_by 15))
run_said (refused r p) ins = refused_text (at_byte r p)

-- a check's numbers, five a step: those of all steps, or those before the one that is refused
abbrev pub checked_said : Check Shown → List (List ℕ)
checked_said (passed vs) = ascii "passed" ∷ spaced (fives vs)
checked_said (refused_at_step vs r) = ascii "refused at step " ∷ (place_text (length vs) (number_of r) ++ spaced (fives vs))

abbrev pub check_said : Got (List Step) → List (List ℕ)
check_said (got xs end) = checked_said (check_sheet (stopping w64) xs)
check_said (refused r p) = refused_text (at_byte r p)
