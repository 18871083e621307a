-- Digits and a number in decimal, read where they stand.
use Prim.Native.Nat.{ℕ, zero, suc, ◌+◌, ◌-◌, ◌*◌, ◌^◌, ◌%◌, ◌/◌, ◌≤◌, ◌<◌}
use mathlib.Core.Path.{◌≡◌, refl, sym, ap, ◌∙◌}
use mathlib.Core.List.{List, [], ◌∷◌, ◌++◌, append_assoc, append-nil}
use mathlib.Core.Bool.{false}
use mathlib.Core.Logic.{⊎_elim}
use native.Mathlib.Omega.{arith}
use native.Mathlib.Nat.{le_refl}
use lib.Dec.{eqb}
use lib.IntN.{ℤ, pos, negsuc}
use lib.ListN.{length, get_or, drop}
use lib.Seq.{drop-drop}
use mir.Syntax.{w64}
use mir.Val.{SFits}
use borrow.Author.Tests.{lt-ltb, le-ltb, ne_eqb}
use Rattle.std.specs.Prelude.{Some}
use Rattle.text.specs.Decimal.{digits, decimal}
use Rattle.text.specs.Number.{NoDigit, digit_of, total, many, digits_at, minus_at, plus_at, number_at}
use Rattle.text.proofs.Digits.{lt-or-le}
use Rattle.text.proofs.Digits.{digits_last, digits_more, longer, a-digit}
use Rattle.text.proofs.Reading.{glyph, value, first}

total-digit : (d v : ℕ) (r : List ℕ) → d < 10 → total ((48 + d) ∷ r) v ≡ total r (v * 10 + d)
unfolding total
total-digit d v r h =
    let g : d ≤ 9 = omega arith in
    rw (glyph d h, le-ltb 9 d g)

many-digit : (d : ℕ) (r : List ℕ) → d < 10 → many ((48 + d) ∷ r) ≡ suc (many r)
unfolding many
many-digit d r h =
    let g : d ≤ 9 = omega arith in
    rw (glyph d h, le-ltb 9 d g)

-- the digits of n, and then the bytes r
total-small : (n : ℕ) (r : List ℕ) → n < 10 → total (digits n ++ r) 0 ≡ total r n
total-small n r l =
    let e : 0 * 10 + n ≡ n = omega arith in
    rw (digits_last n l) (total-digit n 0 r l ∙ ap (total r) e)

total-large : (n : ℕ) (r : List ℕ) → 10 ≤ n → ((s : List ℕ) → total (digits (n / 10) ++ s) 0 ≡ total s (n / 10)) → total (digits n ++ r) 0 ≡ total r n
total-large n r l ih =
    let d : n % 10 < 10 = omega arith in
    let e : n / 10 * 10 + n % 10 ≡ n = omega arith in
    ap (λ (x : List ℕ). total (x ++ r) 0) (digits_more n l)
    ∙ ap (λ (x : List ℕ). total x 0) (append_assoc (digits (n / 10)) ((48 + n % 10) ∷ []) r)
    ∙ ih ((48 + n % 10) ∷ r)
    ∙ total-digit (n % 10) (n / 10) r d
    ∙ ap (total r) e

total-digits : (k n : ℕ) (r : List ℕ) → n ≤ k → total (digits n ++ r) 0 ≡ total r n
total-digits zero n r h = total-small n r (omega arith)
total-digits (suc k) n r h = ⊎_elim (total-small n r) (λ l. total-large n r l (λ s. total-digits k (n / 10) s (omega arith))) (lt-or-le n 10)

many-small : (n : ℕ) (r : List ℕ) → n < 10 → many (digits n ++ r) ≡ length (digits n) + many r
many-small n r l =
    let e : suc (many r) ≡ 1 + many r = omega arith in
    rw (digits_last n l) (many-digit n r l ∙ e)

many-large : (n : ℕ) (r : List ℕ) → 10 ≤ n → ((s : List ℕ) → many (digits (n / 10) ++ s) ≡ length (digits (n / 10)) + many s) → many (digits n ++ r) ≡ length (digits n) + many r
many-large n r l ih =
    let d : n % 10 < 10 = omega arith in
    let e : many (digits n ++ r) ≡ length (digits (n / 10)) + suc (many r) =
    ap (λ (x : List ℕ). many (x ++ r)) (digits_more n l)
    ∙ ap many (append_assoc (digits (n / 10)) ((48 + n % 10) ∷ []) r)
    ∙ ih ((48 + n % 10) ∷ r)
    ∙ ap (λ (x : ℕ). length (digits (n / 10)) + x) (many-digit (n % 10) r d) in
    omega (arith, e, longer n l)

many-digits : (k n : ℕ) (r : List ℕ) → n ≤ k → many (digits n ++ r) ≡ length (digits n) + many r
many-digits zero n r h = many-small n r (omega arith)
many-digits (suc k) n r h = ⊎_elim (many-small n r) (λ l. many-large n r l (λ s. many-digits k (n / 10) s (omega arith))) (lt-or-le n 10)

total-none : (r : List ℕ) (v : ℕ) → NoDigit r → total r v ≡ v
unfolding total
total-none [] v h = refl
total-none (b ∷ r) v h = rw (lt-ltb 9 (digit_of b) h)

many-none : (r : List ℕ) → NoDigit r → many r ≡ 0
unfolding many
many-none [] h = refl
many-none (b ∷ r) h = rw (lt-ltb 9 (digit_of b) h)

-- digits do not begin with `-`
no_minus : (x : List ℕ) → 0 < many x → eqb (get_or x 0 0) 45 ≡ false
unfolding many
no_minus [] h = refl
no_minus (b ∷ x) h = ne_eqb b 45 (λ e. let g : 0 < many (45 ∷ x) = rw e at h in omega arith)

module _ (s r : List ℕ) (at n : ℕ) (end : NoDigit r) (here : drop at s ≡ digits n ++ r) where
  many-here : many (drop at s) ≡ length (digits n)
  many-here = ap many here ∙ many-digits n n r (le_refl n) ∙ rw (many-none r end) (omega arith)

  digits-here : n ≤ 2 ^ 63 → digits_at s at ≡ Some (n, at + length (digits n))
  digits-here h =
      value s at n (at + length (digits n)) (λ z. omega (arith, many-here, a-digit n))
      (ap (λ (x : List ℕ). total x 0) here ∙ total-digits n n r (le_refl n) ∙ total-none r n end)
      (ap (λ (k : ℕ). at + k) many-here) h

  plus-here : n < 2 ^ 63 → plus_at s at ≡ Some (pos n, at + length (digits n))
  unfolding plus_at
  plus-here h =
      let l : n ≤ 2 ^ 63 = omega arith in
      let b : n ≤ 2 ^ 63 - 1 = omega arith in
      rw (digits-here l, le-ltb (2 ^ 63 - 1) n b)

minus-here : (s r : List ℕ) (at n : ℕ) → NoDigit r → drop at s ≡ digits (suc n) ++ r → n < 2 ^ 63 → minus_at s at ≡ Some (negsuc n, at + length (digits (suc n)))
unfolding minus_at
minus-here s r at n end here h =
    let b : suc n ≤ 2 ^ 63 = omega arith in
    rw (digits-here s r at (suc n) end here b, le-ltb (2 ^ 63) (suc n) b)

-- a number that is written, and after which no digit stands, is read back
pub there : (s r : List ℕ) (at : ℕ) (z : ℤ) → SFits w64 z → NoDigit r → drop at s ≡ decimal z ++ r → number_at s at ≡ Some (z, at + length (decimal z))
unfolding number_at decimal
there s r at (pos n) f end here =
    let m : 0 < many (drop at s) = omega (arith, many-here s r at n end here, a-digit n) in
    rw (first s at, no_minus (drop at s) m) (plus-here s r at n end here f.sfits)
there s r at (negsuc n) f end here =
    let q : get_or s at 0 ≡ 45 = first s at ∙ ap (λ (x : List ℕ). get_or x 0 0) here in
    let t : drop (at + 1) s ≡ digits (suc n) ++ r = sym (drop-drop 1 at s) ∙ ap (drop 1) here in
    let e : at + 1 + length (digits (suc n)) ≡ at + suc (length (digits (suc n))) = omega arith in
    rw q (minus-here s r (at + 1) n end t f.sfits ∙ ap (λ (k : ℕ). Some (negsuc n, k)) e)

-- a number that is the whole text
pub alone : (z : ℤ) → SFits w64 z → number_at (decimal z) 0 ≡ Some (z, 0 + length (decimal z))
alone z f = there (decimal z) [] 0 z f (omega arith) (sym (append-nil (decimal z)))
