use mir.Syntax.{w64}
use mir.Facts.{to_z-of_z}
use Rattle.whole.proofs.Flags.{flags, eq_no}
use lib.IntN.{pos}
use Rattle.step.specs.Kind.{action_of}
use Rattle.step.proofs.kind.action_of.Goals as goal

pub returns-then-op-eq0 : goal.returns-then-op-eq0
unfolding action_of
returns-then-op-eq0 c = search flags

pub returns-then-op-eq1 : goal.returns-then-op-eq1
unfolding action_of
returns-then-op-eq1 c = search flags

pub returns : goal.returns
unfolding action_of
returns c = let a = c.args in let f = c.ranges in rw (eq_no w64 a.op (pos 0) c.if-op-eq0.false, eq_no w64 a.op (pos 1) c.if-op-eq1.false) (cc (to_z-of_z f.op, to_z-of_z f.a, to_z-of_z f.b, to_z-of_z f.c))
