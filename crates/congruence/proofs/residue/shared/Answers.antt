use Prim.Native.Nat.{◌<◌}
use native.Mathlib.Omega.{arith}
use lib.IntN.{pos}
use mir.Facts.{to_z-of_z}
use Rattle.whole.proofs.CommonDivisor.{lcm-left, lcm-right, gcd-left, gcd-right}
use Rattle.whole.proofs.Congruence.{Cong-trans, Cong-sym}
use Rattle.whole.proofs.Divides.{∣-trans}
use Rattle.whole.specs.Divides.{lcm}
use Rattle.congruence.proofs.Classes.{lcm-pos, divisor-most}
use Rattle.congruence.proofs.residue.shared.Goals as goal
use Rattle.congruence.proofs.residue.shared.Goals.{Start}

lcm-some : (c : Start) → 0 < lcm c.args.p c.args.q
lcm-some c = lcm-pos c.args.p c.args.q c.requires.0 c.requires.1

pub rest-x-requires : goal.rest-x-requires
rest-x-requires c =
    let h = c.requires in
    (h.0, omega (arith, h.2, divisor-most c.args.p (lcm c.args.p c.args.q) (lcm-some c) (lcm-left c.args.p c.args.q)))

pub rest-y-requires : goal.rest-y-requires
rest-y-requires c =
    let s = c.before in
    let h = s.requires in
    (h.1, omega (arith, h.2, divisor-most s.args.q (lcm s.args.p s.args.q) (lcm-some s) (lcm-right s.args.p s.args.q)))

pub crt-requires : goal.crt-requires
crt-requires c =
    let s = c.before.before in
    let h = s.requires in
    let f = s.ranges in
    let x = c.rest-x in
    let y = c.rest-y in
    let p = simp (to_z-of_z f.c) at x.ensures.1 in
    let q = simp (to_z-of_z f.e) at y.ensures.1 in
    let g = gcd-left s.args.p s.args.q in
    let k = gcd-right s.args.p s.args.q in (
      x.ensures.0,
      y.ensures.0,
      omega (arith, h.2, divisor-most s.args.q (lcm s.args.p s.args.q) (lcm-some s) (lcm-right s.args.p s.args.q)),
      h.2,
      Cong-trans (pos x.result) s.args.c (pos y.result) (∣-trans g p)
          (Cong-trans s.args.c s.args.e (pos y.result) h.3 (Cong-sym (pos y.result) s.args.e (∣-trans k q))),
    )

pub returns : goal.returns
returns c =
    let f = c.ranges in
    let x = c.rest-x in
    let y = c.rest-y in
    let p = simp (to_z-of_z f.c) at x.ensures.1 in
    let q = simp (to_z-of_z f.e) at y.ensures.1 in
    let z = c.crt in
    (z.ensures.0, Cong-trans (pos z.result) (pos x.result) c.args.c z.ensures.1 p, Cong-trans (pos z.result) (pos y.result) c.args.e z.ensures.2 q)
