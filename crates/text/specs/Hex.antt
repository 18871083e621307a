-- Bytes in hexadecimal: two digits a byte. Upper case is written, both cases are read.
use Rattle.std.specs.Prelude.{ℕ, ◌+◌, ◌-◌, ◌*◌, ◌/◌, ◌%◌, ◌<◌, List, [], ◌∷◌, ◌&&◌, ltb, leb, length, get_or, drop, Option, Some, None}
use Rattle.whole.specs.Choice.{pick}

-- the byte of a digit below sixteen: 0 to 9, A to F
abbrev pub digit : ℕ → ℕ
digit n = pick (ltb n 10) (48 + n) (55 + n)

unfoldable pub hex_text : List ℕ → List ℕ
hex_text [] = []
hex_text (b ∷ bs) = digit (b / 16) ∷ (digit (b % 16) ∷ hex_text bs)

-- the digit that a byte is, of 0 to 9, A to F and a to f; 16 for any other byte
unfoldable pub nibble : ℕ → ℕ
nibble b =
    pick (ltb b 48) 16 (pick (ltb b 58) (b - 48)
    (pick (ltb b 65) 16 (pick (ltb b 71) (b - 55)
    (pick (ltb b 97) 16 (pick (ltb b 103) (b - 87) 16)))))

-- bytes that begin with no hexadecimal digit, or are none
abbrev pub NoNibble : List ℕ → Type 0
NoNibble r = 15 < nibble (get_or r 0 0)

-- the byte whose two digits stand at the start of s
abbrev pub first_byte : List ℕ → Option ℕ
first_byte [] = None
first_byte (a ∷ []) = None
first_byte (a ∷ (b ∷ s)) = pick (ltb (nibble a) 16 && ltb (nibble b) 16) (Some (nibble a * 16 + nibble b)) None

-- the bytes whose digits stand at the start of s: as many as there are pairs of digits
unfoldable pub hex_bytes : List ℕ → List ℕ
hex_bytes [] = []
hex_bytes (a ∷ []) = []
hex_bytes (a ∷ (b ∷ s)) = pick (ltb (nibble a) 16 && ltb (nibble b) 16) ((nibble a * 16 + nibble b) ∷ hex_bytes s) []

-- what reading them from a place into a lent buffer answers: how many they are, and the place after them
unfoldable pub hex_answer : List ℕ → ℕ → List ℕ → Option (ℕ × ℕ)
hex_answer s at out =
    pick (leb (length (hex_bytes (drop at s))) (length out))
    (Some (length (hex_bytes (drop at s)), at + 2 * length (hex_bytes (drop at s)))) None
