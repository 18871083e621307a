-- Numbers that are made on the way to an answer: each is one of the width, or it doesn't fit, and then nothing made of it does.
use Rattle.std.specs.Prelude.{ℕ, ◌%◌, Bool, ◌&&◌, eqb, ℤ, pos, nat_abs, ◌-ℤ◌, ◌*ℤ◌, None, Option, Some}
use Rattle.std.specs.Int.Signed.{rem_z}
use Rattle.std.specs.Int.{Width}
use Rattle.whole.specs.Test.{◌≟◌}
use Rattle.whole.specs.Divides.{gcd}
use Rattle.congruence.specs.declared.Congruence.{Congruence}
use Rattle.whole.specs.Exact.{exactly}

-- the gcd of the absolute values
unfoldable pub gcd_then : Width → Option ℤ → Option ℤ → Option ℤ
gcd_then w None y = None
gcd_then w (Some x) None = None
gcd_then w (Some x) (Some y) = exactly w (pos (gcd (nat_abs x) (nat_abs y)))

-- the absolute value
unfoldable pub abs_then : Width → Option ℤ → Option ℤ
abs_then w None = None
abs_then w (Some x) = exactly w (pos (nat_abs x))

-- x and y differ by a multiple of m; for m = 0 they are equal
unfoldable pub alike? : ℕ → ℤ → ℤ → Bool
alike? m x y = eqb (nat_abs (x -ℤ y) % m) 0

-- the modulus of a product: the gcd of the product of the moduli and of each modulus with the other's constant
unfoldable pub formula : Width → Congruence → Congruence → Option ℤ
formula w a b =
    gcd_then w (gcd_then w (exactly w (a.modulus *ℤ b.modulus)) (exactly w (a.modulus *ℤ b.constant)))
    (exactly w (b.modulus *ℤ a.constant))

-- d divides both numbers of a
unfoldable pub divides? : ℤ → Congruence → Bool
divides? d a = (rem_z a.constant d ≟ pos 0) && (rem_z a.modulus d ≟ pos 0)
