-- What check_sheet prints of a sheet's bytes: a line for each step that is shown, and last how the check ended.
use Rattle.std.specs.Prelude.{ℕ, List, [], ◌∷◌, ◌++◌, length}
use Rattle.std.specs.Int.{w64}
use Rattle.refusal.specs.Number.{number_of}
use Rattle.text.specs.Ascii.{ascii}
use Rattle.text.specs.Decimal.{digits}
use Rattle.say.specs.Names.{sign_name}
use Rattle.say.specs.Texts.{range_text, spacing_text, numbered, place_line, count_line}
use Rattle.sheet.specs.Got.{Got, got, refused}
use Rattle.sheet.specs.declared.step.Step.{Step}
use Rattle.step.specs.declared.show.Shown.{Shown}
use Rattle.step.specs.Stopping.{stopping}
use Rattle.desk.specs.Check.{Check, passed, refused_at, check_sheet}

-- range, `constant mod modulus`, sign
abbrev pub shown_text : Shown → List (List ℕ)
shown_text v =
    range_text w64 v.range.min v.range.max
    ++ (ascii " " ∷ (spacing_text v.spacing.constant v.spacing.modulus ++ (ascii " " ∷ (sign_name v.sign ∷ []))))

-- a line: the step, and what it shows
abbrev pub step_line : ℕ → Shown → List (List ℕ)
step_line k v = digits k ∷ (ascii " " ∷ (shown_text v ++ (ascii "\n" ∷ [])))

abbrev pub checked_text : Check Shown → List (List ℕ)
checked_text (passed vs) = numbered step_line 0 vs ++ count_line (ascii "passed ") (length vs)
checked_text (refused_at vs r) = numbered step_line 0 vs ++ place_line (ascii "refused at step ") (length vs) (number_of r)

-- of what reading the bytes gives
abbrev pub check_text : Got (List Step) → List (List ℕ)
check_text (got steps end) = checked_text (check_sheet (stopping w64) steps)
check_text (refused r p) = place_line (ascii "refused at byte ") p r
