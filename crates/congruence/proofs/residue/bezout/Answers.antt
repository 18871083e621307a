use mathlib.Core.Path.{◌≡◌, refl, sym, ap, ◌∙◌, subst}
use Prim.Native.Nat.{◌+◌, ◌-◌, ◌*◌, ◌/◌, ◌%◌, ◌<◌}
use native.Mathlib.Nat.{mod-lt, pos_of_ne-zero}
use lib.IntN.{pos, ◌*ℤ◌}
use Rattle.whole.specs.Divides.{Cong}
use Rattle.whole.proofs.CommonDivisor.{gcd-step}
use Rattle.congruence.proofs.Residues.{euclid, starts, ends}
use Rattle.congruence.proofs.residue.bezout.Goals as goal

-- Modulo n, x is s times a and y is t times a; each step keeps both, and the gcd of x and y.

pub loop-y-init : goal.loop-y-init
loop-y-init c = (mod-lt 1 c.requires.0, c.requires.0, refl, (starts c.args.a c.args.n).0, (starts c.args.a c.args.n).1)

pub sub_mod-u-requires : goal.sub_mod-u-requires
sub_mod-u-requires c = (c.requires.1, c.loop-y.invariant.0, subst (λ t. t < c.args.n) (sym c.mul_mod-p.ensures) (mod-lt (c.loop-y.x / c.loop-y.y * c.loop-y.t) c.requires.0))

pub loop-y-smaller : goal.loop-y-smaller
loop-y-smaller c = mod-lt c.loop-y.x (pos_of_ne-zero c.loop-y-test.true)

pub loop-y-preserved : goal.loop-y-preserved
loop-y-preserved c =
    let l = c.loop-y in
    let n = c.args.n in
    let e : c.sub_mod-u.result ≡ (l.s + (n - l.x / l.y * l.t % n)) % n = c.sub_mod-u.ensures ∙ ap (λ p. (l.s + (n - p)) % n) c.mul_mod-p.ensures in (
      l.invariant.1,
      subst (λ t. t < n) (sym c.sub_mod-u.ensures) (mod-lt (l.s + (n - c.mul_mod-p.result)) c.requires.0),
      sym (gcd-step l.x l.y (pos_of_ne-zero c.loop-y-test.true)) ∙ l.invariant.2,
      l.invariant.4,
      subst (λ t. Cong n (pos t *ℤ pos c.args.a) (pos (l.x % l.y))) (sym e) (euclid c.args.a n l.x l.y l.s l.t c.requires.0 l.invariant.3 l.invariant.4),
    )

pub returns : goal.returns
returns c = let l = c.loop-y in (l.invariant.0, ends c.args.a c.args.n l.x l.y l.s c.loop-y-test.false l.invariant.2 l.invariant.3)
