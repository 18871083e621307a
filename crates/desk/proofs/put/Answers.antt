use Prim.Native.Nat.{◌*◌}
use mathlib.Core.Path.{◌≡◌, refl}
use native.Mathlib.Omega.{arith}
use borrow.Author.Rules.{rules}
use Rattle.desk.specs.Five.{five_of}
use Rattle.desk.proofs.Fives.{copied}
use Rattle.desk.proofs.put.Goals as goal

pub returns : goal.returns
returns c =
    let a = c.args in
    let five : c.copy_from_slice.new.self ≡ five_of a.v = search rules in
    rw five (copied a.room.now (five_of a.v) (a.k * 5) refl (omega (arith, c.requires.1)))
