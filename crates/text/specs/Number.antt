-- The number at a place of a text: digits, or `-` and digits, of a number that is an i64. Zeros may lead.
use Rattle.std.specs.Prelude.{ℕ, suc, ◌+◌, ◌-◌, ◌*◌, ◌^◌, ◌<◌, List, [], ◌∷◌, ltb, eqb, ℤ, pos, neg_ℤ, get_or, drop, Option, Some, None}
use Rattle.whole.specs.Choice.{pick}

-- the digit that a byte is, and 10 for any other byte
abbrev pub digit_of : ℕ → ℕ
digit_of b = pick (ltb b 48) 10 (pick (ltb 57 b) 10 (b - 48))

-- bytes that begin with no digit, or are none
abbrev pub NoDigit : List ℕ → Type 0
NoDigit r = 9 < digit_of (get_or r 0 0)

-- the number of the digits at the start of bs, after digits that make v
unfoldable pub total : List ℕ → ℕ → ℕ
total [] v = v
total (b ∷ bs) v = pick (ltb 9 (digit_of b)) v (total bs (v * 10 + digit_of b))

-- how many digits there are at the start of bs
unfoldable pub many : List ℕ → ℕ
many [] = 0
many (b ∷ bs) = pick (ltb 9 (digit_of b)) 0 (suc (many bs))

-- n digits from a place on that make v, and the place after them: not there if there are none, or if v is above 2^63
unfoldable pub digits_found : (at n v : ℕ) → Option (ℕ × ℕ)
digits_found at n v = pick (eqb n 0) None (pick (ltb (2 ^ 63) v) None (Some (v, at + n)))

-- the digits at a place
unfoldable pub digits_at : List ℕ → ℕ → Option (ℕ × ℕ)
digits_at s at = digits_found at (many (drop at s)) (total (drop at s) 0)

abbrev pub minus_of : Option (ℕ × ℕ) → Option (ℤ × ℕ)
minus_of (Some (m, e)) = pick (ltb (2 ^ 63) m) None (Some (neg_ℤ (pos m), e))
minus_of None = None

abbrev pub plus_of : Option (ℕ × ℕ) → Option (ℤ × ℕ)
plus_of (Some (m, e)) = pick (ltb (2 ^ 63 - 1) m) None (Some (pos m, e))
plus_of None = None

unfoldable pub minus_at : List ℕ → ℕ → Option (ℤ × ℕ)
minus_at s at = minus_of (digits_at s at)

unfoldable pub plus_at : List ℕ → ℕ → Option (ℤ × ℕ)
plus_at s at = plus_of (digits_at s at)

-- the number at a place, and the place after it
unfoldable pub number_at : List ℕ → ℕ → Option (ℤ × ℕ)
number_at s at = pick (eqb (get_or s at 0) 45) (minus_at s (at + 1)) (plus_at s at)
