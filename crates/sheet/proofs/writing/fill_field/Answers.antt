use Rattle.sheet.specs.Signed.{fold_signed}
use Rattle.whole.specs.Whole.{up}
use mir.ValLaws.{to_z-of_z}
use mir.Syntax.{w64}
use native.Mathlib.Omega.{arith}
use mathlib.Core.Logic.{⊎_elim}
use mathlib.Core.Path.{refl, ap, ◌∙◌}
use Rattle.sheet.proofs.writing.fill_field.Goals as goal

pub fill_number-requires : goal.fill_number-requires
fill_number-requires c =
    let n = c.fold.ensures ∙ ap fold_signed (to_z-of_z w64 c.args.x c.ranges.x) in
    ⊎_elim (λ is. rw n (rw is at c.requires)) (λ is. rw n (rw is at c.requires)) c.in-Signed.is

pub fill_number-requires-in-Earlier : goal.fill_number-requires-in-Earlier
fill_number-requires-in-Earlier c =
    let n = c.natural.ensures ∙ ap up (to_z-of_z w64 c.args.x c.ranges.x) in
    rw n (rw c.in-Earlier.is at c.requires)

pub returns-in-Unused : goal.returns-in-Unused
returns-in-Unused c = rw c.in-Unused.is (omega arith, refl)

pub returns-in-Signed : goal.returns-in-Signed
returns-in-Signed c =
    let n = c.fold.ensures ∙ ap fold_signed (to_z-of_z w64 c.args.x c.ranges.x) in
    let r = rw n at c.fill_number.ensures in
    ⊎_elim (λ is. rw is r) (λ is. rw is r) c.in-Signed.is

pub returns-in-Earlier : goal.returns-in-Earlier
returns-in-Earlier c =
    let n = c.natural.ensures ∙ ap up (to_z-of_z w64 c.args.x c.ranges.x) in
    rw c.in-Earlier.is (rw n at c.fill_number-in-Earlier.ensures)
