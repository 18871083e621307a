-- The digits of a number: the last one and those before it, as the loops take them.
use Prim.Native.Nat.{ℕ, zero, suc, ◌+◌, ◌-◌, ◌*◌, ◌^◌, ◌%◌, ◌/◌, ◌≤◌, ◌<◌}
use mathlib.Core.Path.{◌≡◌, refl, sym, ap, ◌∙◌}
use mathlib.Core.List.{List, [], ◌∷◌, ◌++◌}
use mathlib.Core.Logic.{◌⊎◌, inl, inr, ⊎_elim}
use native.Mathlib.Omega.{arith}
use lib.ListN.{length, set, length-append}
use lib.Seq.{sets, set_comm}
use mathlib.Core.Bool.{Bool, true, false}
use lib.Dec.{ltb}
use borrow.Author.Tests.{lt-ltb, le-ltb, ltb-true, ltb-false}
use Rattle.text.specs.Decimal.{digits_in, digits}

by-test : (a b : ℕ) (t : Bool) → ltb a b ≡ t → (a < b) ⊎ (b ≤ a)
by-test a b true e = inl (ltb-true a b e)
by-test a b false e = inr (ltb-false a b e)

pub lt-or-le : (a b : ℕ) → (a < b) ⊎ (b ≤ a)
lt-or-le a b = by-test a b (ltb a b) refl

in-last : (k n : ℕ) → n < 10 → digits_in k n ≡ (48 + n) ∷ []
unfolding digits_in
in-last zero n h = refl
in-last (suc k) n h = simp (lt-ltb n 10 h)

in-more : (k n : ℕ) → 10 ≤ n → digits_in (suc k) n ≡ digits_in k (n / 10) ++ ((48 + n % 10) ∷ [])
unfolding digits_in
in-more k n h = simp (le-ltb n 10 h)

-- n + 1 digits are enough
enough : (k j n : ℕ) → n ≤ k → n ≤ j → digits_in k n ≡ digits_in j n
enough zero j n a b =
    let s : n < 10 = omega arith in
    in-last zero n s ∙ sym (in-last j n s)
enough (suc k) zero n a b =
    let s : n < 10 = omega arith in
    in-last (suc k) n s ∙ sym (in-last zero n s)
enough (suc k) (suc j) n a b = ⊎_elim
    (λ s. in-last (suc k) n s ∙ sym (in-last (suc j) n s))
    (λ l. in-more k n l ∙ ap (λ (x : List ℕ). x ++ ((48 + n % 10) ∷ [])) (enough k j (n / 10) (omega arith) (omega arith)) ∙ sym (in-more j n l))
    (lt-or-le n 10)

pub digits_last : (n : ℕ) → n < 10 → digits n ≡ (48 + n) ∷ []
unfolding digits
digits_last n h = in-last n n h

digits-more' : (k n : ℕ) → n ≡ suc k → 10 ≤ n → digits n ≡ digits (n / 10) ++ ((48 + n % 10) ∷ [])
unfolding digits
digits-more' k n e h =
    ap (λ (j : ℕ). digits_in j n) e ∙ in-more k n h
    ∙ ap (λ (x : List ℕ). x ++ ((48 + n % 10) ∷ [])) (enough k (n / 10) (n / 10) (omega arith) (omega arith))

pub digits_more : (n : ℕ) → 10 ≤ n → digits n ≡ digits (n / 10) ++ ((48 + n % 10) ∷ [])
digits_more n h = digits-more' (n - 1) n (omega arith) h

pub longer : (n : ℕ) → 10 ≤ n → length (digits n) ≡ length (digits (n / 10)) + 1
longer n h = ap length (digits_more n h) ∙ length-append (digits (n / 10)) ((48 + n % 10) ∷ [])

pub one-digit : (n : ℕ) → n < 10 → length (digits n) ≡ 1
one-digit n h = ap length (digits_last n h)

-- the last of several bytes may be stored first
pub sets-snoc : (xs l : List ℕ) (at d : ℕ) → sets l at (xs ++ (d ∷ [])) ≡ sets (set l (at + length xs) d) at xs
sets-snoc [] l at d = let e : at + 0 ≡ at = omega arith in rw e
sets-snoc (x ∷ xs) l at d =
    let e : suc at + length xs ≡ at + suc (length xs) = omega arith in
    sets-snoc xs (set l at x) (suc at) d
    ∙ ap (λ (i : ℕ). sets (set (set l at x) i d) (suc at) xs) e
    ∙ ap (λ (m : List ℕ). sets m (suc at) xs) (set_comm l at (at + suc (length xs)) x d (λ z. omega arith))

pub a-digit : (n : ℕ) → 0 < length (digits n)
a-digit n = ⊎_elim (λ s. omega (arith, one-digit n s)) (λ l. omega (arith, longer n l)) (lt-or-le n 10)

-- a number of one digit is that digit
pub of-one : (n : ℕ) → length (digits n) ≡ 1 → n < 10
of-one n e = ⊎_elim (λ s. s) (λ l. absurd (omega (arith, longer n l, a-digit (n / 10)))) (lt-or-le n 10)

-- digits that are stored the last first: those of m are left, before the place i, and t is what is to come of it
abbrev pub Storing : (t out : List ℕ) (at i m : ℕ) → Type 0
Storing t out at i m = (at < i → (i ≡ at + length (digits m)) × (t ≡ sets out at (digits m))) × (i ≡ at → t ≡ out)

module _ (t out : List ℕ) (at i m : ℕ) (le : at ≤ i) (s : Storing t out at (i + 1) m) where
  store-last : m < 10 → Storing t (set out i (48 + m % 10)) at i (m / 10)
  store-last h =
      let p = s.0 (omega arith) in
      let e : at ≡ i = omega (arith, p.0, one-digit m h) in
      let d : m % 10 ≡ m = omega arith in
      (λ g. absurd (omega arith), λ f. p.1 ∙ rw (digits_last m h, d, e) refl)

  store-before : 10 ≤ m → Storing t (set out i (48 + m % 10)) at i (m / 10)
  store-before h =
      let p = s.0 (omega arith) in
      let l = longer m h in
      let e : at + length (digits (m / 10)) ≡ i = omega (arith, p.0, l) in
      (λ g. (sym e, p.1 ∙ ap (sets out at) (digits_more m h) ∙ sets-snoc (digits (m / 10)) out at (48 + m % 10) ∙ rw e refl), λ f. absurd (omega (arith, e, a-digit (m / 10))))

  pub store-more : Storing t (set out i (48 + m % 10)) at i (m / 10)
  store-more = ⊎_elim store-last store-before (lt-or-le m 10)

-- one place is left: its digit is the number that is left
module _ (t out : List ℕ) (at i m : ℕ) (here : i ≡ at + 1) (s : Storing t out at i m) where
  pub one-left : m < 10
  one-left = let p = s.0 (omega arith) in of-one m (omega (arith, p.0))

  pub store-first : set out at (48 + m) ≡ t
  store-first = let p = s.0 (omega arith) in sym (p.1 ∙ ap (sets out at) (digits_last m one-left))

a-power : (k : ℕ) → 0 < 10 ^ k
a-power zero = omega arith
a-power (suc k) = omega (arith, a-power k)

-- a number from 10 to the power k up, and below the next power
pub width-between : (k n : ℕ) → 10 ^ k ≤ n → n < 10 * 10 ^ k → length (digits n) ≡ k + 1
width-between zero n l h = one-digit n h
width-between (suc k) n l h =
    let g : 10 ≤ n = omega (arith, a-power k) in
    omega (arith, longer n g, width-between k (n / 10) (omega arith) (omega arith))
