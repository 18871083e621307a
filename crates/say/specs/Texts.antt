-- The texts of values: a range, with inf and -inf for the ends of its width, two ranges, a spacing, numbers; and of refusals.
use Rattle.std.specs.Prelude.{ℕ, suc, List, [], ◌∷◌, ◌++◌, ℤ}
use Rattle.std.specs.Int.{Width, w64}
use Rattle.interval.specs.declared.Interval.{Interval}
use Rattle.text.specs.Ascii.{ascii}
use Rattle.text.specs.Decimal.{decimal, digits}
use Rattle.text.specs.End.{end_text}

abbrev pub range_text : Width → ℤ → ℤ → List (List ℕ)
range_text w low high = ascii "[" ∷ (end_text w low ∷ (ascii ", " ∷ (end_text w high ∷ (ascii "]" ∷ []))))

abbrev pub pair_text : Interval → Interval → List (List ℕ)
pair_text i j = range_text w64 i.min i.max ++ (ascii " " ∷ range_text w64 j.min j.max)

abbrev pub spacing_text : ℤ → ℤ → List (List ℕ)
spacing_text constant modulus = decimal constant ∷ (ascii " mod " ∷ (decimal modulus ∷ []))

-- numbers, each after a space
unfoldable pub spaced : List ℤ → List (List ℕ)
spaced [] = []
spaced (n ∷ ns) = ascii " " ∷ (decimal n ∷ spaced ns)

-- a text for each, with its number from k on
unfoldable pub numbered : {A : Type 0} → (ℕ → A → List (List ℕ)) → ℕ → List A → List (List ℕ)
numbered text k [] = []
numbered text k (x ∷ xs) = text k x ++ numbered text (suc k) xs

-- a refusal's number, alone or after a place
abbrev pub refusal_text : ℕ → List (List ℕ)
refusal_text number = ascii "refused by " ∷ (digits number ∷ [])

abbrev pub place_text : (place number : ℕ) → List (List ℕ)
place_text place number = digits place ∷ (ascii " by " ∷ (digits number ∷ []))

-- lines: words before a place and a refusal's number, and words before a count
abbrev pub place_line : List ℕ → (place number : ℕ) → List (List ℕ)
place_line words place number = words ∷ (place_text place number ++ (ascii "\n" ∷ []))

abbrev pub count_line : List ℕ → ℕ → List (List ℕ)
count_line words n = words ∷ (digits n ∷ (ascii "\n" ∷ []))

abbrev pub not_understood : List (List ℕ)
not_understood = ascii "not understood" ∷ []
