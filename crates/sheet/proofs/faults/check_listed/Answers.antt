use Prim.Native.Nat.{◌+◌, ◌*◌}
use mathlib.Core.Path.{◌≡◌, refl, sym, ap, ◌∙◌}
use native.Mathlib.Omega.{arith}
use lib.IntN.{pos}
use lib.ListN.{get_or}
use mir.Syntax.{w64}
use mir.Val.{of_z, to_z}
use Rattle.sheet.specs.Found.{fault_found}
use Rattle.sheet.specs.Step.{step_fault}
use Rattle.sheet.proofs.Listed.{fourth, fault-next, fault-here, fault-ended}
use borrow.Author.Rules.{rules}
use Rattle.sheet.proofs.faults.check_listed.Goals as goal
use Rattle.sheet.proofs.faults.check_listed.Goals.{After-check_step}

-- the four numbers of a turn, and what is wrong with them
found : (w : After-check_step) → fault_found w.check_step.result ≡ step_fault w.loop-k.k (fourth w.args.steps.now w.loop-k.k)
found w =
    let l = w.args.steps.now in
    let i = w.loop-k.k * 4 in
    let e₀ : to_z w64 (of_z w64 (get_or l i (pos 0))) ≡ (get_or l i (pos 0)) = search rules in
    let e₁ : to_z w64 (of_z w64 (get_or l (i + 1) (pos 0))) ≡ (get_or l (i + 1) (pos 0)) = search rules in
    let e₂ : to_z w64 (of_z w64 (get_or l (i + 2) (pos 0))) ≡ (get_or l (i + 2) (pos 0)) = search rules in
    let e₃ : to_z w64 (of_z w64 (get_or l (i + 3) (pos 0))) ≡ (get_or l (i + 3) (pos 0)) = search rules in
    rw (e₀, e₁, e₂, e₃) at w.check_step.ensures

pub loop-k-init : goal.loop-k-init
loop-k-init c = (search rules, refl)

pub loop-k-preserved : goal.loop-k-preserved
loop-k-preserved c =
    let w = (goal.at.loop-k-preserved c).After-check_step in
    let x = w.loop-k in
    let h = sym (found w) ∙ ap fault_found c.in_default.is in
    (omega arith, x.invariant.1 ∙ fault-next w.args.steps.now w.args.n x.k w.requires.1 w.loop-k-test.true h)

pub returns-in-Err : goal.returns-in-Err
returns-in-Err c =
    let w = (goal.at.returns-in-Err c).After-check_step in
    let x = w.loop-k in
    let h = sym (found w) ∙ ap fault_found c.in-Err.is in
    sym (x.invariant.1 ∙ fault-here w.args.steps.now w.args.n x.k w.requires.1 _ w.loop-k-test.true h)

pub returns : goal.returns
returns c =
    let x = c.loop-k in
    sym (x.invariant.1 ∙ fault-ended c.args.steps.now c.args.n x.k c.requires.1 c.loop-k-test.false)
