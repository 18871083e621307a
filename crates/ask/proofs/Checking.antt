-- What is said of the check of a sheet into room for 256 steps, by its answer.
use Prim.Native.Nat.{ℕ, ◌-◌, ◌*◌, ◌≤◌}
use mathlib.Core.Path.{◌≡◌}
use mathlib.Core.List.{List, ◌∷◌, ◌++◌}
use lib.IntN.{ℤ}
use lib.ListN.{length, take}
use lib.Seq.{sets}
use mir.Syntax.{w64}
use Rattle.refusal.specs.declared.Refusal.{Refusal}
use Rattle.refusal.specs.Number.{number_of}
use Rattle.text.specs.Ascii.{ascii}
use Rattle.say.specs.Texts.{spaced, place_text}
use Rattle.sheet.specs.Sheet.{parse}
use Rattle.std.specs.Prelude.{Ok, Err}
use Rattle.refusal.specs.declared.Fault.TheVariants.{AtStep, AtByte}
use Rattle.refusal.specs.Answer.{at_byte}
use Rattle.refusal.specs.Count.{Counted, count_told}
use Rattle.desk.specs.Answer.{checking}
use Rattle.desk.proofs.Fives.{length-first}
use Rattle.desk.proofs.Told.{passed-check, refused-check, unread-check}
use Rattle.ask.specs.Sheets.{refused_text, check_said}

module _ (s : List ℕ) (room left : List ℤ) (a : Counted) (t : count_told a ≡ (checking w64 s room).told) (e : left ≡ sets room 0 (checking w64 s room).numbers) (l : length room ≡ 1280) where
  pub passed-said : (n : ℕ) → a ≡ Ok n → (n ≤ 256) × (check_said (parse s) ≡ ascii "passed" ∷ spaced (take (n * 5 - 0) left))
  passed-said n q = let r = passed-check s room left a t e l n q in (r.few, rw (r.parsed, r.checked, r.stored))

  pub refused-said : (why : Refusal) (n : ℕ) → a ≡ Err (AtStep why n)
      → (n ≤ 256) × (check_said (parse s) ≡ ascii "refused at step " ∷ (place_text n (number_of why) ++ spaced (take (n * 5 - 0) left)))
  refused-said why n q = let r = refused-check s room left a t e l why n q in (r.few, rw (r.parsed, r.checked, r.stored, length-first left n))

  pub check-refused-at : (why : Refusal) (p : ℕ) → a ≡ Err (AtByte why p) → check_said (parse s) ≡ refused_text (at_byte (number_of why) p)
  check-refused-at why p q = rw (unread-check s room left a t e l why p q)
