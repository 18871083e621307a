use Rattle.sheet.proofs.Listed.{fourth, bytes_next, bytes-ended}
use Rattle.sheet.proofs.Sizes.{step-bound}
use Rattle.sheet.specs.Step.{step_bytes}
use mir.Val.{of_z, to_z}
use mir.Syntax.{w64}
use lib.ListN.{length, get_or, length-append}
use lib.IntN.{pos}
use native.Mathlib.Omega.{arith}
use mathlib.Core.Path.{◌≡◌, ap}
use Prim.Native.Nat.{◌+◌, ◌*◌, ◌≤◌}
use borrow.Author.Rules.{rules}
use Rattle.sheet.proofs.writing.listed_width.Goals as goal
use Rattle.sheet.proofs.writing.listed_width.Goals.{After-step_width-sum}

-- the four numbers of a turn, and how many bytes they take
found : (w : After-step_width-sum) → w.step_width-sum.result ≡ length (step_bytes (fourth w.args.steps.now w.loop-k.k))
found w =
    let l = w.args.steps.now in
    let i = w.loop-k.k * 4 in
    let e₀ : to_z w64 (of_z w64 (get_or l i (pos 0))) ≡ (get_or l i (pos 0)) = search rules in
    let e₁ : to_z w64 (of_z w64 (get_or l (i + 1) (pos 0))) ≡ (get_or l (i + 1) (pos 0)) = search rules in
    let e₂ : to_z w64 (of_z w64 (get_or l (i + 2) (pos 0))) ≡ (get_or l (i + 2) (pos 0)) = search rules in
    let e₃ : to_z w64 (of_z w64 (get_or l (i + 3) (pos 0))) ≡ (get_or l (i + 3) (pos 0)) = search rules in
    rw (e₀, e₁, e₂, e₃) at w.step_width-sum.ensures

small : (w : After-step_width-sum) → w.step_width-sum.result ≤ 40
small w = rw (found w) (step-bound (fourth w.args.steps.now w.loop-k.k))

pub loop-k-init : goal.loop-k-init
loop-k-init c = (search rules, search rules, omega arith)

pub overflow_add-sum : goal.overflow_add-sum
overflow_add-sum c = record { fits = omega (arith, small (goal.at.overflow_add-sum c).After-step_width-sum) }

pub loop-k-preserved : goal.loop-k-preserved
loop-k-preserved c =
    let w = (goal.at.loop-k-preserved c).After-step_width-sum in
    let x = c.loop-k in
    let e = ap length (bytes_next c.args.steps.now c.args.n x.k c.requires.1 c.loop-k-test.true) in
    (omega arith, omega (arith, small w, x.invariant.1), omega (arith, simp length-append at e, found w, x.invariant.2))

pub returns : goal.returns
returns c =
    let x = c.loop-k in
    omega (arith, ap length (bytes-ended c.args.steps.now c.args.n x.k c.requires.1 c.loop-k-test.false), x.invariant.2)
