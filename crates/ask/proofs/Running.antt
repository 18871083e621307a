-- What is said of the run of a sheet into room for 256 numbers, by its answer.
use Prim.Native.Nat.{ℕ, ◌-◌, ◌≤◌}
use mathlib.Core.Path.{◌≡◌}
use mathlib.Core.List.{List, ◌∷◌, ◌++◌}
use lib.IntN.{ℤ}
use lib.ListN.{length, take}
use lib.Seq.{sets}
use mir.Syntax.{w64}
use Rattle.refusal.specs.declared.Refusal.{Refusal}
use Rattle.refusal.specs.Number.{number_of}
use Rattle.text.specs.Ascii.{ascii}
use Rattle.say.specs.Texts.{spaced, place_text}
use Rattle.sheet.specs.Sheet.{parse}
use Rattle.step.specs.Run.{run_op}
use Rattle.std.specs.Prelude.{Ok, Err}
use Rattle.refusal.specs.declared.Fault.TheVariants.{AtStep, AtByte, By}
use Rattle.refusal.specs.Answer.{at_byte, refused_by}
use Rattle.refusal.specs.Count.{Counted, count_told}
use Rattle.panel.specs.Answer.{running}
use Rattle.panel.proofs.Told.{ended-run, stopped-run, unread-run, unsuited-run}
use Rattle.ask.specs.Sheets.{refused_text, run_said}

module _ (s : List ℕ) (ins room left : List ℤ) (a : Counted) (t : count_told a ≡ (running (run_op w64) s ins room).told) (e : left ≡ sets room 0 (running (run_op w64) s ins room).numbers) where
  pub ended-said : (n : ℕ) → a ≡ Ok n → length room ≡ 256 → (n ≤ 256) × (run_said (parse s) ins ≡ ascii "ended" ∷ spaced (take (n - 0) left))
  ended-said n q l = let r = ended-run s ins room left a t e l n q in (r.few, rw (r.parsed, r.suited, r.ran))

  pub stopped-said : (why : Refusal) (n : ℕ) → a ≡ Err (AtStep why n) → length room ≡ 256
      → (n ≤ 256) × (run_said (parse s) ins ≡ ascii "stopped at " ∷ (place_text n (number_of why) ++ spaced (take (n - 0) left)))
  stopped-said why n q l = let r = stopped-run s ins room left a t e l why n q in (r.few, rw (r.parsed, r.suited, r.ran, r.count))

  pub run-refused-at : (why : Refusal) (p : ℕ) → a ≡ Err (AtByte why p) → length room ≡ 256 → run_said (parse s) ins ≡ refused_text (at_byte (number_of why) p)
  run-refused-at why p q l = rw (unread-run s ins room left a t e l why p q)

  pub run-refused : (why : Refusal) → a ≡ Err (By why) → length room ≡ 256 → run_said (parse s) ins ≡ refused_text (refused_by (number_of why))
  run-refused why q l = let r = unsuited-run s ins room left a t e l why q in rw (r.parsed, r.unsuited, r.fifteen)
