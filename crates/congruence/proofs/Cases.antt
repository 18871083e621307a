-- The exact class of a sum or a difference, where its modulus was found and where it wasn't.
use mathlib.Core.Path.{◌≡◌, refl, sym, ◌∙◌}
use lib.IntN.{ℤ, pos}
use native.Mathlib.Nat.{pos_of_ne-zero}
use Prim.Native.Nat.{ℕ, ◌<◌}
use lib.Signed.{◌<ℤ◌}
use borrow.Author.Tests.{ne_eqb}
use Rattle.std.specs.Prelude.{None, Option, Some}
use Rattle.whole.proofs.Linear.{ints}
use mir.Syntax.{Width}
use Rattle.whole.proofs.Found.{found-is}
use Rattle.whole.specs.Divides.{floor_rem}
use Rattle.whole.specs.Exact.{exactly}
use Rattle.congruence.specs.declared.Congruence.{Congruence}
use Rattle.congruence.specs.Set.{cong, top}
use Rattle.congruence.specs.Mended as mended

module _ (u : Width) (z : ℤ) (m : ℕ) (r : Option ℤ) (some : m ≡ 0 → ⊥) (h : r ≡ exactly u (pos m)) where
  pub class-none : r ≡ None → top ≡ mended.exact_of u z m
  unfolding mended.exact_of mended.class_of mended.result_of
  class-none p = rw (ne_eqb m 0 some, sym h ∙ p) refl

  pub class-some : (k : ℤ) (v : Congruence) → r ≡ Some k → v ≡ cong (floor_rem z k) k → v ≡ mended.exact_of u z m
  unfolding mended.exact_of mended.class_of mended.result_of
  class-some k v p e = rw (ne_eqb m 0 some, sym h ∙ p) e

  pub above_zero : (k : ℤ) → r ≡ Some k → pos 0 <ℤ k
  above_zero k p =
      let e = found-is u (pos m) k (sym h ∙ p) in
      let n : 0 < m = pos_of_ne-zero some in
      omega ints
