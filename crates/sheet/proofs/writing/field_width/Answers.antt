use Rattle.sheet.specs.Signed.{fold_signed}
use Rattle.sheet.specs.Number.{write_number}
use Rattle.whole.specs.Whole.{up}
use mathlib.Core.Logic.{⊎_elim}
use lib.ListN.{length}
use mir.Val.{of_z, to_z}
use mir.Syntax.{w64}
use Prim.Native.Nat.{ℕ}
use mathlib.Core.Path.{◌≡◌, ap, ◌∙◌}
use borrow.Author.Rules.{rules}
use Rattle.sheet.proofs.writing.field_width.Goals as goal

pub returns-in-Signed : goal.returns-in-Signed
returns-in-Signed c =
    let x = c.args.x in
    let e : to_z w64 (of_z w64 x) ≡ x = search rules in
    let r = c.width.ensures ∙ ap (λ (n : ℕ). length (write_number n)) (c.fold.ensures ∙ ap fold_signed e) in
    ⊎_elim (λ is. rw is r) (λ is. rw is r) c.in-Signed.is

pub returns-in-Earlier : goal.returns-in-Earlier
returns-in-Earlier c =
    let x = c.args.x in
    let e : to_z w64 (of_z w64 x) ≡ x = search rules in
    rw c.in-Earlier.is (c.width-in-Earlier.ensures ∙ ap (λ (n : ℕ). length (write_number n)) (c.natural.ensures ∙ ap up e))
