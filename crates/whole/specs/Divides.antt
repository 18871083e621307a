-- Divisibility over ℤ, the greatest common divisor and the least common multiple of natural numbers, congruence, and the floored remainder.
use Rattle.std.specs.Prelude.{◌≡◌, ℕ, zero, suc, ◌*◌, ◌/◌, ◌%◌, ℤ, pos, nat_abs, ◌+ℤ◌, ◌-ℤ◌, ◌*ℤ◌}
use Rattle.std.specs.Int.Signed.{rem_z}
use Rattle.whole.specs.Choice.{pick}
use Rattle.whole.specs.Test.{◌<?◌}

infix 4 ◌∣ℤ◌
pub record ◌∣ℤ◌ (m z : ℤ) : Type 0 where
  pub by : ℤ
  pub is : z ≡ by *ℤ m

-- Euclid's steps, at most so many
unfoldable pub steps : ℕ → ℕ → ℕ → ℕ
steps zero a b = a
steps (suc f) a zero = a
steps (suc f) a (suc b) = steps f (suc b) (a % suc b)

-- the second number falls at each step, so it bounds their count
unfoldable pub gcd : ℕ → ℕ → ℕ
gcd a b = steps b a b

unfoldable pub lcm : ℕ → ℕ → ℕ
lcm a b = a / gcd a b * b

-- x is c modulo m; modulo 0 that is equality
abbrev pub Cong : ℕ → ℤ → ℤ → Type 0
Cong m x c = pos m ∣ℤ (x -ℤ c)

-- the number from 0 to |m| - 1 that differs from x by a multiple of m; x itself if m is 0
unfoldable pub floor_rem : ℤ → ℤ → ℤ
floor_rem x m = pick (rem_z x m <? pos 0) (rem_z x m +ℤ pos (nat_abs m)) (rem_z x m)
