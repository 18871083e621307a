-- What a turn of reading digits does to what is left of them.
use Prim.Native.Nat.{ℕ, zero, suc, ◌+◌, ◌-◌, ◌*◌, ◌^◌, ◌≤◌, ◌<◌}
use mathlib.Core.Path.{◌≡◌, refl, sym, ap, ◌∙◌}
use mathlib.Core.List.{List, [], ◌∷◌}
use mathlib.Core.Bool.{Bool, true, false, true≢false}
use mathlib.Core.Logic.{⊎_elim}
use native.Mathlib.Omega.{arith}
use native.Mathlib.Nat.{le_refl}
use native.Mathlib.Numerals.{add-one}
use lib.Dec.{eqb}
use lib.IntN.{ℤ, pos, negsuc, ◌-ℤ◌, +ℤ_idl}
use lib.ListN.{length, get_or, drop, drop_of_length-le}
use lib.Seq.{drop-cons, get_or-drop}
use mir.Syntax.{w64}
use mir.Val.{SFits}
use borrow.Author.Tests.{lt-ltb, le-ltb, eq-eqb, ne_eqb}
use Rattle.std.specs.Prelude.{Some, None, Result, Ok, Err}
use Rattle.std.specs.Char.{IsDigitOf, NotDecimalDigitIn}
use Rattle.std.specs.Result.{OkIff, result_ok}
use Rattle.std.proofs.lemmas.Option.{same_Some, none-some}
use Rattle.whole.specs.Choice.{pick}
use Rattle.text.specs.Number.{digit_of, digits_found, total, many, digits_at, minus_at, plus_at, number_at}
use Rattle.text.specs.Word.{begins}
use Rattle.text.proofs.Digits.{lt-or-le}

-- a turn of reading, and the end of it, by the digit of the byte that is next
module _ (s : List ℕ) (i : ℕ) where
  module _ (h : i < length s) (d : ℕ) (is : digit_of (get_or s i 0) ≡ d) where
    pub total-more : (v : ℕ) → d < 10 → total (drop i s) v ≡ total (drop (i + 1) s) (v * 10 + d)
    unfolding total
    total-more v l =
        let f : d ≤ 9 = omega arith in
        rw (drop-cons s i 0 h, add-one i, is) (simp (le-ltb 9 d f))

    pub many_more : d < 10 → many (drop i s) ≡ suc (many (drop (i + 1) s))
    unfolding many
    many_more l =
        let f : d ≤ 9 = omega arith in
        rw (drop-cons s i 0 h, add-one i, is) (simp (le-ltb 9 d f))

  pub total-stop : (v : ℕ) → i < length s → 9 < digit_of (get_or s i 0) → total (drop i s) v ≡ v
  unfolding total
  total-stop v l h = rw (drop-cons s i 0 l) (simp (lt-ltb 9 (digit_of (get_or s i 0)) h))

  pub many-stop : i < length s → 9 < digit_of (get_or s i 0) → many (drop i s) ≡ 0
  unfolding many
  many-stop l h = rw (drop-cons s i 0 l) (simp (lt-ltb 9 (digit_of (get_or s i 0)) h))

  pub total-end : (v : ℕ) → length s ≤ i → total (drop i s) v ≡ v
  unfolding total
  total-end v h = rw (drop_of_length-le s h)

  pub many-end : length s ≤ i → many (drop i s) ≡ 0
  unfolding many
  many-end h = rw (drop_of_length-le s h)

pub total-above : (bs : List ℕ) (v : ℕ) → v ≤ total bs v
unfolding total
total-above [] v = le_refl v
total-above (b ∷ bs) v = ⊎_elim
    (λ l. rw (lt-ltb 9 (digit_of b) l) (le_refl v))
    (λ g. rw (le-ltb 9 (digit_of b) g) (omega (arith, total-above bs (v * 10 + digit_of b))))
    (lt-or-le 9 (digit_of b))

-- n digits that make v
module _ (at n v : ℕ) where
  pub found-none : n ≡ 0 → digits_found at n v ≡ None
  unfolding digits_found
  found-none h = rw (eq-eqb n 0 h)

  pub found-large : (n ≡ 0 → ⊥) → 2 ^ 63 < v → digits_found at n v ≡ None
  unfolding digits_found
  found-large e h = rw (ne_eqb n 0 e, lt-ltb (2 ^ 63) v h)

  pub found-value : (n ≡ 0 → ⊥) → v ≤ 2 ^ 63 → digits_found at n v ≡ Some (v, at + n)
  unfolding digits_found
  found-value e h = rw (ne_eqb n 0 e, le-ltb (2 ^ 63) v h)

-- the digits at a place of s, which r begins with
module _ (s r : List ℕ) (at : ℕ) (here : r ≡ drop at s) where
  pub found-there : (n v : ℕ) → many r ≡ n → total r 0 ≡ v → digits_found at n v ≡ digits_at s at
  unfolding digits_at
  found-there n v m t = rw (← here, m, t) refl

  -- they are too many in front of the next of them
  pub too-large : (n v d : ℕ) → n < length r → total r 0 ≡ total (drop n r) v → many r ≡ n + many (drop n r) → digit_of (get_or r n 0) ≡ d → d < 10 → 2 ^ 63 < v * 10 + d → None ≡ digits_at s at
  too-large n v d l t m is b h =
      let some : (many r ≡ 0 → ⊥) = λ z. omega (arith, m, many_more r n l d is b) in
      let big : 2 ^ 63 < total r 0 = omega (arith, t, total-more r n l d is v b, total-above (drop (n + 1) r) (v * 10 + d)) in
      sym (found-large at (many r) (total r 0) some big) ∙ found-there (many r) (total r 0) refl refl

module _ (s : List ℕ) (at : ℕ) where
  pub value : (v e : ℕ) → (many (drop at s) ≡ 0 → ⊥) → total (drop at s) 0 ≡ v → at + many (drop at s) ≡ e → v ≤ 2 ^ 63 → digits_at s at ≡ Some (v, e)
  unfolding digits_at
  value v e n t m h =
      let h' : total (drop at s) 0 ≤ 2 ^ 63 = rw t h in
      found-value at (many (drop at s)) (total (drop at s) 0) n h' ∙ rw (t, m) refl

-- a digit's byte is that digit
pub glyph : (d : ℕ) → d < 10 → digit_of (48 + d) ≡ d
glyph d h =
    let a : 48 ≤ 48 + d = omega arith in
    let b : 48 + d ≤ 57 = omega arith in
    let e : 48 + d - 48 ≡ d = omega arith in
    rw (le-ltb (48 + d) 48 a, le-ltb 57 (48 + d) b, e)

-- what the library says of a digit, and of no digit
pub a-digit-is : (c d : ℕ) → d < 10 → IsDigitOf c d → digit_of c ≡ d
a-digit-is c d h is = ⊎_elim
    (λ p. ap digit_of (sym p.1) ∙ glyph d h)
    (λ q. ⊎_elim (λ p. absurd (omega arith)) (λ p. absurd (omega arith)) q)
    is

pub no-digit-is : (c : ℕ) → NotDecimalDigitIn 10 c → 9 < digit_of c
no-digit-is c h = ⊎_elim
    (λ l. rw (lt-ltb c 48 l) (omega arith))
    (λ g. let n : 57 < c = ⊎_elim (λ k. k) (λ k. absurd (omega (arith, h g k))) (lt-or-le 57 c) in rw (le-ltb c 48 g, lt-ltb 57 c n) (omega arith))
    (lt-or-le c 48)

-- a number below 0 by its digits
pub minus-fits : (m : ℕ) → SFits w64 (pos 0 -ℤ pos m) → m ≤ 2 ^ 63
minus-fits zero f = omega arith
minus-fits (suc k) f = let g : SFits w64 (negsuc k) = rw (+ℤ_idl (negsuc k)) at f in omega (arith, g.sfits)

pub minus-large : (m : ℕ) → (SFits w64 (pos 0 -ℤ pos m) → ⊥) → 2 ^ 63 < m
minus-large zero h = absurd (h (record { sfits = omega arith }))
minus-large (suc k) h = ⊎_elim
    (λ l. l)
    (λ g. let f : SFits w64 (negsuc k) = record { sfits = omega arith } in absurd (h (rw (+ℤ_idl (negsuc k)) f)))
    (lt-or-le (2 ^ 63) (suc k))

-- a number from 0 up, by what the library's conversion answers
pub plus-fits : {E : Type 0} (r : Result ℤ E) (m : ℕ) (z : ℤ) → OkIff r (SFits w64 (pos m)) (pos m) → Some z ≡ result_ok r → (m ≤ 2 ^ 63 - 1) × (z ≡ pos m)
plus-fits (Ok y) m z p e = let f = p.0 in (omega (arith, f.sfits), same_Some z y e ∙ p.1)
plus-fits (Err x) m z p e = absurd (none-some z (sym e))

pub plus-large : {E : Type 0} (r : Result ℤ E) (m : ℕ) → OkIff r (SFits w64 (pos m)) (pos m) → None ≡ result_ok r → 2 ^ 63 - 1 < m
plus-large (Ok y) m p e = absurd (none-some y e)
plus-large (Err x) m p e = ⊎_elim (λ l. l) (λ g. absurd (p (record { sfits = omega arith }))) (lt-or-le (2 ^ 63 - 1) m)

-- whether `-` stands at a place
pick-same : (t : Bool) → pick t true false ≡ t
pick-same true = refl
pick-same false = refl

begins-minus : (xs : List ℕ) → begins xs (45 ∷ []) ≡ eqb (get_or xs 0 0) 45
unfolding begins
begins-minus [] = refl
begins-minus (x ∷ xs) = pick-same (eqb x 45)

module _ (s : List ℕ) (at : ℕ) where
  pub first : get_or s at 0 ≡ get_or (drop at s) 0 0
  first = let e : at + 0 ≡ at = omega arith in sym (get_or-drop at s 0 0 ∙ ap (λ (k : ℕ). get_or s k 0) e)

  pub minus-there : begins (drop at s) (45 ∷ []) ≡ true → minus_at s (at + 1) ≡ number_at s at
  unfolding number_at
  minus-there h = rw (first, ← begins-minus (drop at s), h)

  pub plus-there : begins (drop at s) (45 ∷ []) ≡ false → plus_at s at ≡ number_at s at
  unfolding number_at
  plus-there h = rw (first, ← begins-minus (drop at s), h)

  pub minus-inside : begins (drop at s) (45 ∷ []) ≡ true → at < length s
  unfolding begins
  minus-inside h = ⊎_elim
      (λ l. l)
      (λ g. let f : false ≡ true = rw (drop_of_length-le s g) at h in absurd (true≢false (sym f)))
      (lt-or-le at (length s))
