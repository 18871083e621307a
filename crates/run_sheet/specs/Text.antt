-- What run_sheet prints of a sheet's bytes and its inputs: a line for each step that gave a number, and last how the run ended.
use Rattle.std.specs.Prelude.{ℕ, List, [], ◌∷◌, ◌++◌, ℤ, length}
use Rattle.std.specs.Int.{w64}
use Rattle.refusal.specs.Number.{number_of}
use Rattle.whole.specs.Choice.{pick}
use Rattle.text.specs.Ascii.{ascii}
use Rattle.text.specs.Decimal.{digits, decimal}
use Rattle.say.specs.Texts.{numbered, refusal_text, place_line, count_line}
use Rattle.sheet.specs.Got.{Got, got, refused}
use Rattle.sheet.specs.declared.step.Step.{Step}
use Rattle.step.specs.Run.{run_op}
use Rattle.panel.specs.Run.{Run, ended, stopped_at, actions_of, suits?, run_sheet}

-- a line: the step, and its number
abbrev pub step_line : ℕ → ℤ → List (List ℕ)
step_line k n = digits k ∷ (ascii " " ∷ (decimal n ∷ (ascii "\n" ∷ [])))

abbrev pub ran_text : Run → List (List ℕ)
ran_text (ended ns) = numbered step_line 0 ns ++ count_line (ascii "ended ") (length ns)
ran_text (stopped_at ns r) = numbered step_line 0 ns ++ place_line (ascii "stopped at step ") (length ns) (number_of r)

-- of what reading the bytes gives
abbrev pub run_text : Got (List Step) → List ℤ → List (List ℕ)
run_text (got steps end) ins = pick (suits? (actions_of steps) ins) (ran_text (run_sheet (run_op w64) ins steps)) (refusal_text 15 ++ (ascii "\n" ∷ []))
run_text (refused r p) ins = place_line (ascii "refused at byte ") p r
