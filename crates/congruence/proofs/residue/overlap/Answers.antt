use mathlib.Core.Path.{◌≡◌, ◌∙◌, ap₂, sym, refl}
use mathlib.Core.Logic.{◌≢◌}
use Prim.Native.Nat.{ℕ, ◌<◌}
use native.Mathlib.Omega.{arith}
use lib.IntN.{ℤ, nat_abs, pos}
use mir.Facts.{to_z-of_z}
use mir.Syntax.{Width, w64}
use mir.Val.{SFits}
use Rattle.std.specs.Prelude.{Some}
use Rattle.whole.proofs.Decides.{yes, no}
use Rattle.whole.proofs.Fits.{zero-fits, range}
use Rattle.whole.proofs.Flags.{eq-false, eq-true}
use Rattle.whole.proofs.Linear.{ints, from-≢}
use Rattle.whole.specs.Divides.{gcd, lcm}
use Rattle.whole.specs.Exact.{exactly}
use Rattle.whole.specs.Sized.{width_of}
use Rattle.congruence.proofs.Calls.{alike-call, magnitude-call}
use Rattle.whole.proofs.Found.{found-is, not_found, found-fits}
use Rattle.congruence.proofs.Classes.{alike-test, overlap-none, overlap-zero, moduli-ready, moduli-met, overlap-is, over-some, overlap-some}
use Rattle.congruence.proofs.Values.{values, built}
use Rattle.congruence.proofs.residue.overlap.Goals as goal

-- the lcm that was found: its number, that it isn't 0, and that it fits
module _ (w : Width) (n : ℕ) (l : ℤ) (i : exactly w (pos n) ≡ Some l) where
  some : SFits w64 l → l ≢ pos 0 → 0 < n
  some k f = let e = found-is w (pos n) l i in omega (ints, from-≢ f)

  small : SFits w64 l → n < 9223372036854775808
  small k = let e = found-is w (pos n) l i in omega (ints, range k)

pub returns-then-not-alike : goal.returns-then-not-alike
returns-then-not-alike c =
    let fc : SFits w64 c.args.a.constant = search values in
    let fm : SFits w64 c.args.a.modulus = search values in
    let fe : SFits w64 c.args.b.constant = search values in
    let fn : SFits w64 c.args.b.modulus = search values in
    let p = magnitude-call c.args.a.modulus _ c.magnitude-p.ensures fm in
    let q = magnitude-call c.args.b.modulus _ c.magnitude-q.ensures fn in
    let a = alike-call c.args.a.constant c.args.b.constant _ _ _ c.alike.ensures (c.gcd_u64.ensures ∙ ap₂ gcd p q) fc fe in
    sym (overlap-none (width_of c.args.size) c.args.a c.args.b (no (alike-test (gcd (nat_abs c.args.a.modulus) (nat_abs c.args.b.modulus)) c.args.a.constant c.args.b.constant) (sym a ∙ c.if-not-alike.true)))

pub returns-then-l-eq0 : goal.returns-then-l-eq0
returns-then-l-eq0 c =
    let fc : SFits w64 c.args.a.constant = search values in
    let fm : SFits w64 c.args.a.modulus = search values in
    let fe : SFits w64 c.args.b.constant = search values in
    let fn : SFits w64 c.args.b.modulus = search values in
    let p = magnitude-call c.args.a.modulus _ c.magnitude-p.ensures fm in
    let q = magnitude-call c.args.b.modulus _ c.magnitude-q.ensures fn in
    let i = sym (c.lcm.ensures ∙ ap₂ (λ x y. exactly (width_of c.args.size) (pos (lcm x y))) p q) ∙ c.in-Some.is in
    let k : SFits w64 c.in-Some.l = search values in
    let z = eq-true k zero-fits c.if-l-eq0.true in
    let f = found-is (width_of c.args.size) (pos (lcm (nat_abs c.args.a.modulus) (nat_abs c.args.b.modulus))) c.in-Some.l i in
    sym (overlap-zero (width_of c.args.size) c.args.a c.args.b (omega ints))

pub shared-requires : goal.shared-requires
shared-requires c =
    let fc : SFits w64 c.args.a.constant = search values in
    let fm : SFits w64 c.args.a.modulus = search values in
    let fe : SFits w64 c.args.b.constant = search values in
    let fn : SFits w64 c.args.b.modulus = search values in
    let p = magnitude-call c.args.a.modulus _ c.magnitude-p.ensures fm in
    let q = magnitude-call c.args.b.modulus _ c.magnitude-q.ensures fn in
    let a = alike-call c.args.a.constant c.args.b.constant _ _ _ c.alike.ensures (c.gcd_u64.ensures ∙ ap₂ gcd p q) fc fe in
    let g = yes (alike-test _ _ _) (sym a ∙ c.if-not-alike.false) in
    let i = sym (c.lcm.ensures ∙ ap₂ (λ x y. exactly (width_of c.args.size) (pos (lcm x y))) p q) ∙ c.in-Some.is in
    let k : SFits w64 c.in-Some.l = search values in
    let z = eq-false k zero-fits c.if-l-eq0.false in
    let n = lcm (nat_abs c.args.a.modulus) (nat_abs c.args.b.modulus) in
    simp (to_z-of_z fc, to_z-of_z fe)
    (moduli-ready c.magnitude-p.result c.magnitude-q.result (nat_abs c.args.a.modulus) (nat_abs c.args.b.modulus) c.args.a.constant c.args.b.constant p q (some (width_of c.args.size) n c.in-Some.l i k z) (small (width_of c.args.size) n c.in-Some.l i k) g)

pub signed-requires : goal.signed-requires
signed-requires c =
    let fc : SFits w64 c.args.a.constant = search values in
    let fm : SFits w64 c.args.a.modulus = search values in
    let fe : SFits w64 c.args.b.constant = search values in
    let fn : SFits w64 c.args.b.modulus = search values in
    let p = magnitude-call c.args.a.modulus _ c.magnitude-p.ensures fm in
    let q = magnitude-call c.args.b.modulus _ c.magnitude-q.ensures fn in
    let i = sym (c.lcm.ensures ∙ ap₂ (λ x y. exactly (width_of c.args.size) (pos (lcm x y))) p q) ∙ c.in-Some.is in
    let k : SFits w64 c.in-Some.l = search values in
    let h = moduli-met c.magnitude-p.result c.magnitude-q.result (nat_abs c.args.a.modulus) (nat_abs c.args.b.modulus) c.args.a.constant c.args.b.constant p q (pos c.shared.result) c.shared.result (simp (to_z-of_z fc, to_z-of_z fe) at c.shared.ensures) in
    omega (arith, small (width_of c.args.size) (lcm (nat_abs c.args.a.modulus) (nat_abs c.args.b.modulus)) c.in-Some.l i k)

pub returns-in_default : goal.returns-in_default
returns-in_default c =
    let fc : SFits w64 c.args.a.constant = search values in
    let fm : SFits w64 c.args.a.modulus = search values in
    let fe : SFits w64 c.args.b.constant = search values in
    let fn : SFits w64 c.args.b.modulus = search values in
    let p = magnitude-call c.args.a.modulus _ c.magnitude-p.ensures fm in
    let q = magnitude-call c.args.b.modulus _ c.magnitude-q.ensures fn in
    let a = alike-call c.args.a.constant c.args.b.constant _ _ _ c.alike.ensures (c.gcd_u64.ensures ∙ ap₂ gcd p q) fc fe in
    let g = yes (alike-test _ _ _) (sym a ∙ c.if-not-alike.false) in
    let i = not_found (width_of c.args.size) (pos (lcm (nat_abs c.args.a.modulus) (nat_abs c.args.b.modulus))) (sym (c.lcm.ensures ∙ ap₂ (λ x y. exactly (width_of c.args.size) (pos (lcm x y))) p q) ∙ c.in_default.is) in
    sym (overlap-is (width_of c.args.size) c.args.a c.args.b g (over-some (width_of c.args.size) (lcm (nat_abs c.args.a.modulus) (nat_abs c.args.b.modulus)) i) ∙ rw i refl)

pub returns : goal.returns
returns c =
    let fc : SFits w64 c.args.a.constant = search values in
    let fm : SFits w64 c.args.a.modulus = search values in
    let fe : SFits w64 c.args.b.constant = search values in
    let fn : SFits w64 c.args.b.modulus = search values in
    let p = magnitude-call c.args.a.modulus _ c.magnitude-p.ensures fm in
    let q = magnitude-call c.args.b.modulus _ c.magnitude-q.ensures fn in
    let i = sym (c.lcm.ensures ∙ ap₂ (λ x y. exactly (width_of c.args.size) (pos (lcm x y))) p q) ∙ c.in-Some.is in
    let k : SFits w64 c.in-Some.l = search values in
    let r : SFits w64 c.signed.result = search values in
    let e = moduli-met c.magnitude-p.result c.magnitude-q.result (nat_abs c.args.a.modulus) (nat_abs c.args.b.modulus) c.args.a.constant c.args.b.constant p q (pos c.shared.result) c.shared.result (simp (to_z-of_z fc, to_z-of_z fe) at c.shared.ensures) in
    built _ _ _ _ (to_z-of_z r ∙ c.signed.ensures) (to_z-of_z k ∙ found-is (width_of c.args.size) (pos (lcm (nat_abs c.args.a.modulus) (nat_abs c.args.b.modulus))) c.in-Some.l i)
    ∙ sym (overlap-some (width_of c.args.size) c.args.a c.args.b c.shared.result e.0 e.1 e.2
    ∙ rw (found-fits (width_of c.args.size) (pos (lcm (nat_abs c.args.a.modulus) (nat_abs c.args.b.modulus))) c.in-Some.l i) refl)
