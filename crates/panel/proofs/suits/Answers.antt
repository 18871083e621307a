use mathlib.Core.Path.{refl, sym, ◌∙◌}
use native.Mathlib.Omega.{arith}
use borrow.Author.Rules.{rules}
use Rattle.panel.proofs.Walk.{suits-next, suits-not, suits-end, taken-room}
use Rattle.panel.proofs.suits.Goals as goal

pub loop-k-init : goal.loop-k-init
loop-k-init c = (search rules, search rules, refl)

pub returns-then-not-taken : goal.returns-then-not-taken
returns-then-not-taken c =
    let x = c.loop-k in
    sym (sym x.invariant.2 ∙ suits-not c.args.steps.now c.args.n x.k c.requires.1 c.args.inputs.now x.j c.loop-k-test.true c.action_at-act.result c.action_at-act.ensures (sym c.taken.ensures ∙ c.if-not-taken.true))

pub overflow_add-j : goal.overflow_add-j
overflow_add-j c =
    let x = c.loop-k in
    let h = taken-room c.action_at-act.result c.args.inputs.now x.j x.invariant.1 (sym c.taken.ensures ∙ c.if-not-taken.false) in
    let u = c.used-j.ensures in
    record { fits = omega arith }

pub loop-k-preserved : goal.loop-k-preserved
loop-k-preserved c =
    let x = c.loop-k in
    let act = c.action_at-act.result in
    let t = sym c.taken.ensures ∙ c.if-not-taken.false in
    let h = taken-room act c.args.inputs.now x.j x.invariant.1 t in
    let u = c.used-j.ensures in
    (omega arith, omega arith, rw u (suits-next c.args.steps.now c.args.n x.k c.requires.1 c.args.inputs.now x.j c.loop-k-test.true act c.action_at-act.ensures t ∙ x.invariant.2))

pub returns : goal.returns
returns c =
    let x = c.loop-k in
    suits-end c.args.steps.now c.args.n x.k c.requires.1 c.loop-k-test.false c.args.inputs.now x.j ∙ x.invariant.2
