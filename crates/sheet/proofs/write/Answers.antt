use Prim.Native.Nat.{◌+◌, ◌/◌}
use mathlib.Core.Path.{◌≡◌, sym, ◌∙◌}
use native.Mathlib.Omega.{arith}
use lib.ListN.{length}
use Rattle.refusal.proofs.Claims.{count-fault}
use Rattle.sheet.specs.Got.{fine}
use Rattle.sheet.specs.Sheet.{steps_of, steps_fault, bytes_of}
use Rattle.sheet.proofs.Sizes.{number_size, listed-bound}
use Rattle.sheet.proofs.Plans.{steps-count, write-uneven, write-many, write-wrong, write-size, write-short, write-long, write-stored}
use Rattle.sheet.proofs.write.Goals as goal
use Rattle.sheet.proofs.write.Goals.{After-listed_width}

-- where the list is even, short enough and right
right : (w : After-listed_width) → steps_fault 0 (steps_of w.args.steps.now) ≡ fine
right w = sym w.in_ok-check_listed.ensures

sized : (w : After-listed_width) → w.width.result + w.listed_width.result ≡ length (bytes_of (steps_of w.args.steps.now))
sized w = omega (arith, w.width.ensures, w.listed_width.ensures, write-size w.args.steps.now w.args.out.now w.if-steps-ne0.false w.if-n-gt256.false (right w))

pub returns-then-steps-ne0 : goal.returns-then-steps-ne0
returns-then-steps-ne0 c = write-uneven c.args.steps.now c.args.out.now c.if-steps-ne0.true

pub returns-then-n-gt256 : goal.returns-then-n-gt256
returns-then-n-gt256 c = write-many c.args.steps.now c.args.out.now c.if-steps-ne0.false c.if-n-gt256.true

pub returns-in_err-check_listed : goal.returns-in_err-check_listed
returns-in_err-check_listed c =
    let r = write-wrong c.args.steps.now c.args.out.now c.if-steps-ne0.false c.if-n-gt256.false _ _ (sym c.in_err-check_listed.ensures) in
    (count-fault c.from_residual.result _ c.from_residual.ensures.1 ∙ r.0, r.1)

pub overflow_add-size : goal.overflow_add-size
overflow_add-size c =
    let l = c.args.steps.now in
    let w = number_size (length l / 4) in
    let s = listed-bound (steps_of l) in
    record { fits = omega (arith, c.width.ensures, w, c.listed_width.ensures, s, steps-count l, c.if-n-gt256.false) }

pub returns-then-out-size : goal.returns-then-out-size
returns-then-out-size c =
    let a = c.args in
    let w = (goal.at.returns-then-out-size c).After-listed_width in
    write-short a.steps.now a.out.now c.if-steps-ne0.false c.if-n-gt256.false (right w) (rw (sized w) at c.if-out-size.true)

pub returns : goal.returns
returns c =
    let l = c.args.steps.now in
    let o = c.args.out.now in
    let w = (goal.at.returns c).After-listed_width in
    let f = right w in
    let r = write-long l o c.if-steps-ne0.false c.if-n-gt256.false f _ (sized w) c.if-out-size.false in
    (r.0, write-stored l o c.if-steps-ne0.false c.if-n-gt256.false f c.fill_number-at.result c.fill_number-at.new.out _ c.fill_number-at.ensures c.fill_listed.ensures ∙ r.1)
