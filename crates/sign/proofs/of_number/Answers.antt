use mathlib.Core.Path.{◌≡◌, refl, sym, ◌∙◌}
use Prim.Native.Nat.{zero, suc}
use lib.IntN.{ℤ, pos, negsuc}
use lib.Signed.{◌<ℤ◌}
use mir.Facts.{to_z-of_z}
use Rattle.std.specs.Cmp.{int_ranked}
use Rattle.std.specs.declared.cmp.Ordering.TheVariants.{Less, Equal, Greater}
use Rattle.whole.proofs.Linear.{ints}
use Rattle.sign.specs.declared.Sign.TheVariants.{Negative, Zero, Positive}
use Rattle.sign.specs.Ported.{of_number}
use Rattle.sign.proofs.of_number.Goals as goal

-- `sign::of_number` meets its contract.
-- Assumes nothing.

below : (n : ℤ) → n <ℤ pos 0 → Negative ≡ of_number n
unfolding of_number
below (negsuc k) h = refl
below (pos k) h = absurd (omega ints)

level : (n : ℤ) → n ≡ pos 0 → Zero ≡ of_number n
unfolding of_number
level n e = rw e refl

above : (n : ℤ) → pos 0 <ℤ n → Positive ≡ of_number n
unfolding of_number
above (negsuc k) h = absurd (omega ints)
above (pos zero) h = absurd (omega ints)
above (pos (suc k)) h = refl

pub returns-in-Less : goal.returns-in-Less
returns-in-Less c =
    let n = c.args.n in
    below n (int_ranked n (pos 0) Less (simp (to_z-of_z c.ranges.n) at (sym c.in-Less.is ∙ c.cmp.ensures)))

pub returns-in-Equal : goal.returns-in-Equal
returns-in-Equal c =
    let n = c.args.n in
    level n (int_ranked n (pos 0) Equal (simp (to_z-of_z c.ranges.n) at (sym c.in-Equal.is ∙ c.cmp.ensures)))

pub returns-in-Greater : goal.returns-in-Greater
returns-in-Greater c =
    let n = c.args.n in
    above n (int_ranked n (pos 0) Greater (simp (to_z-of_z c.ranges.n) at (sym c.in-Greater.is ∙ c.cmp.ensures)))
