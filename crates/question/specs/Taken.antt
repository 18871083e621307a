-- Operands of a question: each stands after one space.
use Rattle.std.specs.Prelude.{◌≡◌, ℕ, zero, suc, ◌+◌, List, [], ◌∷◌, Bool, eqb, ℤ, length, get_or, drop, Option, Some, None}
use Rattle.std.specs.Str.{bytes_eq}
use Rattle.std.proofs.lemmas.List.Edits.{sets}
use Rattle.std.specs.Borrow.{Bor}
use Prim.Native.String.{String}
use Rattle.whole.specs.Choice.{pick}
use Rattle.text.specs.Ascii.{ascii}
use Rattle.text.specs.Number.{number_at}
use Rattle.text.specs.Word.{letters, word_of}

-- a number, and the place after it: 32 is the space
unfoldable pub number_after : List ℕ → ℕ → Option (ℤ × ℕ)
number_after s at = pick (eqb (get_or s at 0) 32) (number_at s (at + 1)) None

abbrev pub and_then : {A B : Type 0} → Option A → (A → Option B) → Option B
and_then (Some x) f = f x
and_then None f = None

-- one number that ends the line
unfoldable pub one_after : List ℕ → ℕ → Option ℤ
one_after s at = and_then (number_after s at) (λ n. pick (eqb n.1 (length s)) (Some n.0) None)

-- two numbers that end the line
unfoldable pub two_after : List ℕ → ℕ → Option (ℤ × ℤ)
two_after s at = and_then (number_after s at) (λ n. and_then (one_after s n.1) (λ b. Some (n.0, b)))

-- what g makes of what is there, or z
abbrev pub made_of : {A B : Type 0} → Option A → (A → B) → B → B
made_of (Some x) g z = g x
made_of None g z = z

-- what f takes from a place on, one after another, k at most
unfoldable pub all_by : {A : Type 0} → (ℕ → Option (A × ℕ)) → (k at : ℕ) → List A
all_by f zero at = []
all_by f (suc k) at = made_of (f at) (λ n. n.0 ∷ all_by f k n.1) []

-- the place behind the last of them
unfoldable pub behind_by : {A : Type 0} → (ℕ → Option (A × ℕ)) → (k at : ℕ) → ℕ
behind_by f zero at = at
behind_by f (suc k) at = made_of (f at) (λ n. behind_by f k n.1) at

-- how many they are, if that place is e
unfoldable pub count_by : {A : Type 0} → (ℕ → Option (A × ℕ)) → (e k at : ℕ) → Option ℕ
count_by f e k at = pick (eqb (behind_by f k at) e) (Some (length (all_by f k at))) None

-- the numbers that stand one after another from a place on, each after a space, k at most
unfoldable pub numbers_after : List ℕ → (at k : ℕ) → List ℤ
numbers_after s at k = all_by (number_after s) k at

-- how many they are, if the line ends behind them
unfoldable pub count_after : List ℕ → (at k : ℕ) → Option ℕ
count_after s at k = count_by (number_after s) (length s) k at

-- f is what calls answer at a line and a place, and takes nothing at a line's end
pub record AnsweredBy {A : Type 0} (calls : Bor (List ℕ) → ℕ → Option (A × ℕ) → Type 0) (f : List ℕ → ℕ → Option (A × ℕ)) : Type 0 where
  pub answered : (s : Bor (List ℕ)) (p : ℕ) (r : Option (A × ℕ)) → calls s p r → r ≡ f s.now p
  pub ends : (s : List ℕ) → f s (length s) ≡ None

-- what taking by f up to the place e answers, and what it leaves in the room
abbrev pub TakenBy : {A : Type 0} → (ℕ → Option (A × ℕ)) → (e at : ℕ) → (room : List A) → Option ℕ → (after : List A) → Type 0
TakenBy f e at room n after = (n ≡ count_by f e (length room) at) × (after ≡ sets room 0 (all_by f (length room) at))

-- a name, which is empty if there is none, and the place after it
unfoldable pub name_after : List ℕ → ℕ → List ℕ
name_after s at = pick (eqb (get_or s at 0) 32) (word_of s (at + 1)) []

unfoldable pub next_after : List ℕ → ℕ → ℕ
next_after s at = pick (eqb (get_or s at 0) 32) (at + 1 + letters (drop (at + 1) s)) at

-- whether a word is a name
abbrev pub is : String → List ℕ → Bool
is n w = bytes_eq (ascii n) w
