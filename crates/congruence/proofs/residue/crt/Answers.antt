use native.Mathlib.Omega.{arith}
use native.Mathlib.Nat.{mod-lt}
use Rattle.congruence.proofs.Residues.{g-pos, N-pos, crt-by, pos_of_lt}
use Rattle.congruence.proofs.residue.crt.Goals as goal

pub sub_mod-d-requires : goal.sub_mod-d-requires
sub_mod-d-requires c = (c.requires.2, c.requires.1, mod-lt c.args.c (pos_of_lt c.requires.1))

pub nonzero_div-d : goal.nonzero_div-d
nonzero_div-d c =
    g-pos c.args.c c.args.m c.args.e c.args.n c.gcd_u64-g.result c.bezout-s.result c.gcd_u64-g.ensures c.requires.0 c.requires.1 c.requires.4 c.bezout-s.ensures.1

pub nonzero_div-t : goal.nonzero_div-t
nonzero_div-t c =
    let z = c.bezout-s in
    g-pos c.args.c c.args.m c.args.e c.args.n c.gcd_u64-g.result z.result c.gcd_u64-g.ensures c.requires.0 c.requires.1 c.requires.4 z.ensures.1

pub nonzero_rem-t : goal.nonzero_rem-t
nonzero_rem-t c =
    let z = c.bezout-s in
    N-pos c.args.c c.args.m c.args.e c.args.n c.gcd_u64-g.result z.result c.gcd_u64-g.ensures c.requires.0 c.requires.1 c.requires.4 z.ensures.1

pub overflow_mul-result : goal.overflow_mul-result
overflow_mul-result c =
    let z = c.bezout-s in
    let r = crt-by c.args.c c.args.m c.args.e c.args.n c.gcd_u64-g.result z.result c.gcd_u64-g.ensures c.requires.0 c.requires.1 c.requires.4 z.ensures.1 c.sub_mod-d.result c.mul_mod.result c.sub_mod-d.ensures c.mul_mod.ensures in
    let l = c.requires.3 in record { fits = omega (arith, r.0) }

pub overflow_add-result : goal.overflow_add-result
overflow_add-result c =
    let z = c.bezout-s in
    let r = crt-by c.args.c c.args.m c.args.e c.args.n c.gcd_u64-g.result z.result c.gcd_u64-g.ensures c.requires.0 c.requires.1 c.requires.4 z.ensures.1 c.sub_mod-d.result c.mul_mod.result c.sub_mod-d.ensures c.mul_mod.ensures in
    let l = c.requires.3 in record { fits = omega (arith, r.0) }

pub returns : goal.returns
returns c =
    let z = c.bezout-s in
    crt-by c.args.c c.args.m c.args.e c.args.n c.gcd_u64-g.result z.result c.gcd_u64-g.ensures c.requires.0 c.requires.1 c.requires.4 z.ensures.1 c.sub_mod-d.result c.mul_mod.result c.sub_mod-d.ensures c.mul_mod.ensures
