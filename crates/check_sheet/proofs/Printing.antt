-- What is printed of a check, by its answer.
use Prim.Native.Nat.{ℕ, suc, ◌+◌, ◌≤◌}
use mathlib.Core.Path.{◌≡◌}
use mathlib.Core.List.{List, ◌++◌}
use native.Mathlib.Numerals.{add-one}
use lib.IntN.{ℤ}
use lib.ListN.{length}
use lib.Seq.{sets}
use mir.Syntax.{w64}
use Rattle.refusal.specs.declared.Refusal.{Refusal}
use Rattle.refusal.specs.Number.{number_of}
use Rattle.text.specs.Ascii.{ascii}
use Rattle.say.specs.Texts.{numbered, place_line, count_line}
use Rattle.say.proofs.Numbered.{numbered_more}
use Rattle.sheet.specs.Sheet.{parse}
use Rattle.desk.specs.Five.{shown_in, shown_first}
use Rattle.std.specs.Prelude.{Ok, Err}
use Rattle.refusal.specs.declared.Fault.TheVariants.{AtStep, AtByte}
use Rattle.refusal.specs.Count.{Counted, count_told}
use Rattle.desk.specs.Answer.{checking}
use Rattle.desk.proofs.Fives.{length-first}
use Rattle.desk.proofs.Told.{passed-check, refused-check, unread-check}
use Rattle.check_sheet.specs.Text.{step_line, check_text}

-- the lines of the first places, and one more
more-lines : (l : List ℤ) (k : ℕ) → numbered step_line 0 (shown_first l (suc k)) ≡ numbered step_line 0 (shown_first l k) ++ step_line k (shown_in l k)
unfolding shown_first
more-lines l k = numbered_more step_line (shown_first l k) (shown_in l k) k (length-first l k)

pub one_more : (l : List ℤ) (k : ℕ) → numbered step_line 0 (shown_first l (k + 1)) ≡ numbered step_line 0 (shown_first l k) ++ step_line k (shown_in l k)
one_more l k = rw add-one (more-lines l k)

module _ (s : List ℕ) (room left : List ℤ) (a : Counted) (t : count_told a ≡ (checking w64 s room).told) (e : left ≡ sets room 0 (checking w64 s room).numbers) (l : length room ≡ 1280) where
  pub passed-text : (n : ℕ) → a ≡ Ok n → (n ≤ 256) × (check_text (parse s) ≡ numbered step_line 0 (shown_first left n) ++ count_line (ascii "passed ") n)
  passed-text n q = let r = passed-check s room left a t e l n q in (r.few, rw (r.parsed, r.checked, length-first left n))

  pub refused-text : (why : Refusal) (n : ℕ) → a ≡ Err (AtStep why n) → (n ≤ 256) × (check_text (parse s) ≡ numbered step_line 0 (shown_first left n) ++ place_line (ascii "refused at step ") n (number_of why))
  refused-text why n q = let r = refused-check s room left a t e l why n q in (r.few, rw (r.parsed, r.checked, length-first left n))

  pub unread-text : (why : Refusal) (p : ℕ) → a ≡ Err (AtByte why p) → check_text (parse s) ≡ place_line (ascii "refused at byte ") p (number_of why)
  unread-text why p q = rw (unread-check s room left a t e l why p q)
