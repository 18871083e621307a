-- What the check answers, by the cases of its definition.
use mathlib.Core.Path.{◌≡◌, refl}
use mathlib.Core.List.{List}
use Prim.Native.Nat.{ℕ, ◌*◌, ◌≤◌, ◌<◌}
use borrow.Author.Tests.{le-leb, lt-leb}
use lib.IntN.{ℤ}
use lib.ListN.{length}
use mir.Syntax.{Width}
use Rattle.sheet.specs.Got.{got, refused}
use Rattle.sheet.specs.declared.step.Step.{Step}
use Rattle.sheet.specs.Sheet.{parse}
use Rattle.step.specs.Stopping.{stopping}
use Rattle.desk.specs.Check.{check_sheet}
use Rattle.refusal.specs.Answer.{at_byte, refused_by}
use Rattle.desk.specs.Answer.{nothing, result_of, checked_on, checking}

module _ (w : Width) (steps : List Step) (room : List ℤ) where
  pub checked-short : length room < length steps * 5 → checked_on w steps room ≡ nothing (refused_by 16)
  unfolding checked_on
  checked-short h = rw (lt-leb (length steps * 5) (length room) h) refl

  pub checked-all : length steps * 5 ≤ length room → checked_on w steps room ≡ result_of (check_sheet (stopping w) steps)
  unfolding checked_on
  checked-all h = rw (le-leb (length steps * 5) (length room) h) refl

module _ (w : Width) (s : List ℕ) (room : List ℤ) where
  pub checks-read : (steps : List Step) (p : ℕ) → parse s ≡ got steps p → checking w s room ≡ checked_on w steps room
  unfolding checking
  checks-read steps p e = rw e refl

  pub checks-refused : (n p : ℕ) → parse s ≡ refused n p → checking w s room ≡ nothing (at_byte n p)
  unfolding checking
  checks-refused n p e = rw e refl
