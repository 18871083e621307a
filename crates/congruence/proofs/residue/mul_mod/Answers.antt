use mathlib.Core.Path.{sym, ap, ◌∙◌, subst}
use Prim.Native.Nat.{◌+◌, ◌*◌, ◌/◌, ◌%◌, ◌<◌}
use native.Mathlib.Omega.{arith}
use native.Mathlib.Nat.{mod-lt, pos_of_ne-zero, mod-eq_of_lt, div-add-mod', zero-add}
use Rattle.congruence.proofs.Residues.{even_step, odd_step, pos_of_lt, nothing_left}
use Rattle.congruence.proofs.residue.mul_mod.Goals as goal
use Rattle.congruence.proofs.residue.mul_mod.Goals.{then-k-eq1, else-k-eq1}

-- What is gathered, and what is left times the doubled number, is the product modulo n.

pub loop-k-init : goal.loop-k-init
loop-k-init c = (omega arith, c.requires.1, ap (λ t. t % c.args.n) (zero-add (c.args.a * c.args.b)))

pub loop-k-smaller : goal.loop-k-smaller
loop-k-smaller c = let h = pos_of_ne-zero c.loop-k-test.true in omega (arith, div-add-mod' c.loop-k.k 2)

pub loop-k-preserved : goal.loop-k-preserved
loop-k-preserved c =
    let n = c.args.n in
    let l = c.loop-k in
    let p = pos_of_lt l.invariant.0 in
    elim c.if-k-eq1.branch [
      | then-k-eq1 w ↦ (
        subst (λ t. t < n) (sym w.sum-is) (mod-lt (l.sum + l.x) p),
        mod-lt (l.x + l.x) p,
        ap (λ t. (t + l.k / 2 * ((l.x + l.x) % n)) % n) w.sum-is ∙ (sym (odd_step l.sum l.k l.x n w.if-k-eq1.true) ∙ l.invariant.2),
      )
      | else-k-eq1 w ↦ (
        subst (λ t. t < n) (sym w.sum-is) l.invariant.0,
        mod-lt (l.x + l.x) p,
        ap (λ t. (t + l.k / 2 * ((l.x + l.x) % n)) % n) w.sum-is ∙ (sym (even_step l.sum l.k l.x n w.if-k-eq1.false) ∙ l.invariant.2),
      )
    ]

pub returns : goal.returns
returns c =
    let n = c.args.n in
    let i = c.loop-k.invariant in
    sym (mod-eq_of_lt i.0) ∙ (nothing_left c.loop-k.sum c.loop-k.k c.loop-k.x n c.loop-k-test.false ∙ i.2)
