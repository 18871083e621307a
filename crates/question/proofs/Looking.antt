-- The look-up: what the table finds is the name by its rows' texts.
use Rattle.std.proofs.Common.{◌≡◌, refl, ap, ◌∙◌, ℕ, List, [], ◌∷◌, Bor, Option, Some, None, Bool, true, false}
use mathlib.Core.List.{map}
use mathlib.Core.Bool.{cond}
use Rattle.std.specs.Str.{bytes_eq}
use Rattle.std.specs.List.{find}
use Rattle.std.specs.Option.{option_map, MatchOption, IsSomeAnd}
use Rattle.whole.specs.Choice.{pick}
use Rattle.text.specs.Ascii.{ascii}
use Rattle.question.specs.declared.names.Name.{Name}
use Rattle.question.specs.Names.{Row, rows, name_in, name_of}

-- a row as the code has it
abbrev pub Held : Type 0
Held = Bor (List ℕ) × Name

-- its text and its value, and those of a row
abbrev pub read : Held → List ℕ × Name
read p = (p.0.now, p.1)

abbrev pub shown : Row → List ℕ × Name
shown r = (ascii r.text, r.value)

among : List (List ℕ × Name) → List ℕ → Option Name
among [] w = None
among (r ∷ rs) w = cond (bytes_eq r.0 w) (Some r.1) (among rs w)

value_of : Option Held → Option Name
value_of = option_map (λ x. x.1)

by-test : (t : Bool) (p : Held) (o : Option Held) (n : Option Name) → value_of o ≡ n → value_of (cond t (Some p) o) ≡ cond t (Some p.1) n
unfolding value_of
by-test true p o n e = refl
by-test false p o n e = e

found : (w : List ℕ) (xs : List Held) → value_of (find (λ (r : Held). bytes_eq r.0.now w) xs) ≡ among (map read xs) w
unfolding among value_of
found w [] = refl
found w (x ∷ xs) = by-test (bytes_eq x.0.now w) x (find (λ (r : Held). bytes_eq r.0.now w) xs) (among (map read xs) w) (found w xs)

picked : (t : Bool) (a b : Option Name) → cond t a b ≡ pick t a b
picked true a b = refl
picked false a b = refl

by-rows : (w : List ℕ) (rs : List Row) → among (map shown rs) w ≡ name_in rs w
unfolding among name_in
by-rows w [] = refl
by-rows w (r ∷ rs) =
    ap (λ (o : Option Name). cond (bytes_eq (ascii r.text) w) (Some r.value) o) (by-rows w rs) ∙ picked (bytes_eq (ascii r.text) w) (Some r.value) (name_in rs w)

-- the value of the row that is found
valued : (f : Option (Bor Held)) (q : Option Name) (P : Bor Held → Name → Type 0) → MatchOption f (q ≡ None) (λ x. IsSomeAnd q (P x)) → ((x : Bor Held) (y : Name) → P x y → y ≡ x.now.1)
    → q ≡ value_of (option_map (λ (x : Bor Held). x.now) f)
unfolding value_of
valued None q P m k = m
valued (Some x) None P m k = absurd m
valued (Some x) (Some y) P m k = ap Some (k x y m)

pub looked : (w : List ℕ) (xs : List Held) (f : Option (Bor Held)) (q : Option Name) (P : Bor Held → Name → Type 0)
    → MatchOption f (q ≡ None) (λ x. IsSomeAnd q (P x)) → ((x : Bor Held) (y : Name) → P x y → y ≡ x.now.1)
    → option_map (λ (x : Bor Held). x.now) f ≡ find (λ (r : Held). bytes_eq r.0.now w) xs → map read xs ≡ map shown rows → q ≡ name_of w
unfolding name_of
looked w xs f q P m k e t =
    valued f q P m k ∙ ap value_of e ∙ found w xs ∙ ap (λ (l : List (List ℕ × Name)). among l w) t ∙ by-rows w rows
