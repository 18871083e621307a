-- Words: the bytes up to the next space or control, and a word of at most sixteen bytes as two numbers.
use Rattle.std.specs.Prelude.{ℕ, suc, ◌+◌, ◌*◌, ◌<◌, List, [], ◌∷◌, Bool, true, false, ltb, eqb, length, get_or, take, drop}
use Rattle.whole.specs.Choice.{pick}

-- whether xs begins with a word
unfoldable pub begins : List ℕ → List ℕ → Bool
begins xs [] = true
begins [] (w ∷ ws) = false
begins (x ∷ xs) (w ∷ ws) = pick (eqb x w) (begins xs ws) false

-- how many bytes there are before the first space or control
unfoldable pub letters : List ℕ → ℕ
letters [] = 0
letters (x ∷ xs) = pick (ltb x 33) 0 (suc (letters xs))

-- bytes above the space
abbrev pub Letters : List ℕ → Type 0
Letters w = (i : ℕ) → i < length w → (32 < get_or w i 0) × (get_or w i 0 < 256)

-- bytes that begin with a space or a control, or are none
abbrev pub NoLetter : List ℕ → Type 0
NoLetter r = get_or r 0 0 < 33

-- the word at a place
unfoldable pub word_of : List ℕ → ℕ → List ℕ
word_of s at = take (letters (drop at s)) (drop at s)

-- bytes as a number to the base 256, after bytes that make v
unfoldable pub coded : List ℕ → ℕ → ℕ
coded [] v = v
coded (x ∷ xs) v = coded xs (v * 256 + x)

-- up to eight bytes as a number, and 0 for more of them
unfoldable pub code_of : List ℕ → ℕ
code_of xs = pick (ltb 8 (length xs)) 0 (coded xs 0)

-- a word's first eight bytes, and those after them; 0 for a word of more than sixteen bytes
unfoldable pub first_code : List ℕ → ℕ
first_code w = pick (ltb 16 (length w)) 0 (code_of (take 8 w))

unfoldable pub second_code : List ℕ → ℕ
second_code w = pick (ltb 16 (length w)) 0 (code_of (drop 8 w))
