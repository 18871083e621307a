-- Hexadecimal: what a turn of writing and of reading does to what is left.
use Prim.Native.Nat.{ℕ, suc, ◌+◌, ◌-◌, ◌*◌, ◌/◌, ◌%◌, ◌≤◌, ◌<◌}
use mathlib.Core.Path.{◌≡◌, refl, sym, ap, ◌∙◌}
use mathlib.Core.List.{List, [], ◌∷◌, ◌++◌}
use mathlib.Core.Bool.{Bool, true, false, ◌&&◌}
use mathlib.Core.Logic.{⊎_elim}
use native.Mathlib.Omega.{arith}
use native.Mathlib.Numerals.{add-one}
use lib.Dec.{ltb}
use lib.ListN.{length, get_or, drop, length-drop, drop_of_length-le}
use lib.Seq.{drop-cons, drop-drop, sets}
use borrow.Author.Tests.{lt-ltb, le-ltb, le-leb, lt-leb}
use Rattle.std.specs.Prelude.{Some, None}
use Rattle.std.specs.Char.{IsDigitOf, digit_value}
use Rattle.std.proofs.lemmas.Option.{same_Some, none-some}
use Rattle.whole.specs.Choice.{pick}
use Rattle.text.specs.Room.{put_bytes}
use Rattle.text.specs.Hex.{NoNibble, digit, hex_text, nibble, first_byte, hex_bytes, hex_answer}
use Rattle.text.proofs.Digits.{lt-or-le}

-- ---- writing

pub text-length : (bs : List ℕ) → length (hex_text bs) ≡ 2 * length bs
unfolding hex_text
text-length [] = refl
text-length (b ∷ bs) = omega (arith, text-length bs)

pub text-more : (bs : List ℕ) (j : ℕ) → j < length bs
    → hex_text (drop j bs) ≡ digit (get_or bs j 0 / 16) ∷ (digit (get_or bs j 0 % 16) ∷ hex_text (drop (j + 1) bs))
unfolding hex_text
text-more bs j h = rw (add-one j, drop-cons bs j 0 h)

pub text-end : (bs : List ℕ) (j : ℕ) → length bs ≤ j → hex_text (drop j bs) ≡ []
unfolding hex_text
text-end bs j h = rw (drop_of_length-le bs h)

-- ---- reading

and_no : (t : Bool) → (t && false) ≡ false
and_no true = refl
and_no false = refl

module _ (a : ℕ) where
  first-not : (r : List ℕ) → 15 < nibble a → hex_bytes (a ∷ r) ≡ []
  unfolding hex_bytes
  first-not [] h = refl
  first-not (b ∷ r) h = rw (le-ltb (nibble a) 16 h)

  module _ (b : ℕ) (r : List ℕ) where
    second-not : 15 < nibble b → hex_bytes (a ∷ (b ∷ r)) ≡ []
    unfolding hex_bytes
    second-not h = rw (le-ltb (nibble b) 16 h, and_no)

    pub two : nibble a < 16 → nibble b < 16 → hex_bytes (a ∷ (b ∷ r)) ≡ (nibble a * 16 + nibble b) ∷ hex_bytes r
    unfolding hex_bytes
    two h k = rw (lt-ltb (nibble a) 16 h, lt-ltb (nibble b) 16 k)

-- the library's digit, and no digit
pub a-nibble : (c v : ℕ) → v < 16 → IsDigitOf c v → nibble c ≡ v
unfolding nibble
a-nibble c v h is = ⊎_elim (λ p. decimal p.0.0 p.0.1 p.1) (λ q. ⊎_elim (λ p. upper p.0.0 p.1) (λ p. lower p.0.0 p.1) q) is
  where
    decimal : 48 ≤ c → c ≤ 57 → 48 + v ≡ c → nibble c ≡ v
    decimal a b e =
        let l : c < 58 = omega arith in
        rw (le-ltb c 48 a, lt-ltb c 58 l) (omega arith)

    upper : 65 ≤ c → 55 + v ≡ c → nibble c ≡ v
    upper a e =
        let k : 48 ≤ c = omega arith in
        let l : 58 ≤ c = omega arith in
        let m : c < 71 = omega arith in
        rw (le-ltb c 48 k, le-ltb c 58 l, le-ltb c 65 a, lt-ltb c 71 m) (omega arith)

    lower : 97 ≤ c → 87 + v ≡ c → nibble c ≡ v
    lower a e =
        let k : 48 ≤ c = omega arith in
        let l : 58 ≤ c = omega arith in
        let m : 65 ≤ c = omega arith in
        let n : 71 ≤ c = omega arith in
        let o : c < 103 = omega arith in
        rw (le-ltb c 48 k, le-ltb c 58 l, le-ltb c 65 m, le-ltb c 71 n, le-ltb c 97 a, lt-ltb c 103 o) (omega arith)

pub no_nibble : (c : ℕ) → (digit_value c < 16 → ⊥) → 15 < nibble c
unfolding nibble
no_nibble c h =
    ⊎_elim (λ a. rw (lt-ltb c 48 a) (omega arith)) (λ a.
    ⊎_elim (λ b. absurd (h (rw (le-ltb c 48 a, lt-ltb c 58 b) (omega arith)))) (λ b.
    ⊎_elim (λ d. rw (le-ltb c 48 a, le-ltb c 58 b, lt-ltb c 65 d) (omega arith)) (λ d.
    ⊎_elim (λ e. absurd (h (upper a b d e))) (λ e.
    ⊎_elim (λ f. rw (le-ltb c 48 a, le-ltb c 58 b, le-ltb c 65 d, le-ltb c 71 e, lt-ltb c 97 f) (omega arith)) (λ f.
    ⊎_elim (λ g. absurd (h (lower a b d f g))) (λ g. rw (le-ltb c 48 a, le-ltb c 58 b, le-ltb c 65 d, le-ltb c 71 e, le-ltb c 97 f, le-ltb c 103 g) (omega arith))
    (lt-or-le c 103)) (lt-or-le c 97)) (lt-or-le c 71)) (lt-or-le c 65)) (lt-or-le c 58)) (lt-or-le c 48)
  where
    upper : 48 ≤ c → 58 ≤ c → 65 ≤ c → c < 71 → digit_value c < 16
    upper a b d e =
        let k : c < 91 = omega arith in
        rw (le-ltb c 48 a, le-ltb c 58 b, le-ltb c 65 d, lt-ltb c 91 k) (omega arith)

    lower : 48 ≤ c → 58 ≤ c → 65 ≤ c → 97 ≤ c → c < 103 → digit_value c < 16
    lower a b d f g =
        let k : 91 ≤ c = omega arith in
        let l : c < 123 = omega arith in
        rw (le-ltb c 48 a, le-ltb c 58 b, le-ltb c 65 d, le-ltb c 91 k, le-ltb c 97 f, lt-ltb c 123 l) (omega arith)

none-short : (r : List ℕ) → length r < 2 → first_byte r ≡ None
none-short [] h = refl
none-short (a ∷ []) h = refl
none-short (a ∷ (b ∷ r)) h = absurd (omega arith)

-- by the two digits at the start of r
pub not-first : (r : List ℕ) → 15 < nibble (get_or r 0 0) → None ≡ first_byte r
not-first [] h = refl
not-first (a ∷ []) h = refl
not-first (a ∷ (b ∷ r)) h = rw (le-ltb (nibble a) 16 h)

pub not-second : (r : List ℕ) → 15 < nibble (get_or r 1 0) → None ≡ first_byte r
not-second [] h = refl
not-second (a ∷ []) h = refl
not-second (a ∷ (b ∷ r)) h = rw (le-ltb (nibble b) 16 h, and_no)

pub both : (r : List ℕ) (x y : ℕ) → 2 ≤ length r → x < 16 → y < 16 → nibble (get_or r 0 0) ≡ x → nibble (get_or r 1 0) ≡ y → Some (x * 16 + y) ≡ first_byte r
both [] x y l h k e f = absurd (omega arith)
both (a ∷ []) x y l h k e f = absurd (omega arith)
both (a ∷ (b ∷ r)) x y l h k e f = rw (e, f, lt-ltb x 16 h, lt-ltb y 16 k)

-- what is read from the start of r
by-test : (t : Bool) (x y : ℕ) (r : List ℕ) → pick t (Some x) None ≡ Some y → pick t (x ∷ r) [] ≡ y ∷ r
by-test true x y r e = ap (λ (z : ℕ). z ∷ r) (same_Some x y e)
by-test false x y r e = absurd (none-some y e)

by-none : (t : Bool) (x : ℕ) (r : List ℕ) → pick t (Some x) None ≡ None → pick t (x ∷ r) [] ≡ []
by-none true x r e = absurd (none-some x (sym e))
by-none false x r e = refl

pub read_none : (r : List ℕ) → first_byte r ≡ None → hex_bytes r ≡ []
unfolding hex_bytes
read_none [] e = refl
read_none (a ∷ []) e = refl
read_none (a ∷ (b ∷ r)) e = by-none (ltb (nibble a) 16 && ltb (nibble b) 16) (nibble a * 16 + nibble b) (hex_bytes r) e

read_some : (r : List ℕ) (x : ℕ) → first_byte r ≡ Some x → hex_bytes r ≡ x ∷ hex_bytes (drop 2 r)
unfolding hex_bytes
read_some [] x e = absurd (none-some x e)
read_some (a ∷ []) x e = absurd (none-some x e)
read_some (a ∷ (b ∷ r)) x e = by-test (ltb (nibble a) 16 && ltb (nibble b) 16) (nibble a * 16 + nibble b) x (hex_bytes r) e

-- the end of the reading of s, and a turn of it
module _ (s : List ℕ) (j : ℕ) where
  pub read_end : length s / 2 ≤ j → hex_bytes (drop (2 * j) s) ≡ []
  read_end h = read_none (drop (2 * j) s) (none-short (drop (2 * j) s) (omega (arith, length-drop (2 * j) s)))

  pub read_more : (x : ℕ) → first_byte (drop (2 * j) s) ≡ Some x → hex_bytes (drop (2 * j) s) ≡ x ∷ hex_bytes (drop (2 * (j + 1)) s)
  read_more x e =
      let k : 2 * j + 2 ≡ 2 * (j + 1) = omega arith in
      read_some (drop (2 * j) s) x e ∙ rw (drop-drop 2 (2 * j) s, k) refl

-- two digits a byte
pub halves : (xs : List ℕ) → 2 * length (hex_bytes xs) ≤ length xs
unfolding hex_bytes
halves [] = omega arith
halves (a ∷ []) = omega arith
halves (a ∷ (b ∷ r)) = ⊎_elim
    (λ h. ⊎_elim
    (λ k. omega (arith, ap length (two a b r h k), halves r))
    (λ k. omega (arith, ap length (second-not a b r k)))
    (lt-or-le (nibble b) 16))
    (λ h. omega (arith, ap length (first-not a (b ∷ r) h)))
    (lt-or-le (nibble a) 16)

-- ---- what reading into a lent buffer answers

-- t is the text from the place on
module _ (s t out : List ℕ) (at n : ℕ) (here : t ≡ drop at s) (e : n ≡ length (hex_bytes t)) where
  pub answer-all : n ≤ length out → (Some (n, at + 2 * n) ≡ hex_answer s at out) × (sets out 0 (hex_bytes t) ≡ put_bytes out 0 (hex_bytes (drop at s)))
  unfolding hex_answer put_bytes
  answer-all h =
      let l : 0 + length (hex_bytes t) ≤ length out = omega arith in
      (rw (← here, ← e, le-leb n (length out) h), rw (← here, le-leb (0 + length (hex_bytes t)) (length out) l))

  pub answer-none : length out < n → (None ≡ hex_answer s at out) × (out ≡ put_bytes out 0 (hex_bytes (drop at s)))
  unfolding hex_answer put_bytes
  answer-none h =
      let l : length out < 0 + length (hex_bytes t) = omega arith in
      (rw (← here, ← e, lt-leb n (length out) h), rw (← here, lt-leb (0 + length (hex_bytes t)) (length out) l))

-- ---- reading what was written

digit-back : (n : ℕ) → n < 16 → nibble (digit n) ≡ n
unfolding nibble
digit-back n h = ⊎_elim (λ l. decimal n l) (λ l. letter n l h) (lt-or-le n 10)
  where
    decimal : (n : ℕ) → n < 10 → nibble (digit n) ≡ n
    decimal n l =
        let a : 48 ≤ 48 + n = omega arith in
        let b : 48 + n < 58 = omega arith in
        let e : 48 + n - 48 ≡ n = omega arith in
        rw (lt-ltb n 10 l, le-ltb (48 + n) 48 a, lt-ltb (48 + n) 58 b, e)

    letter : (n : ℕ) → 10 ≤ n → n < 16 → nibble (digit n) ≡ n
    letter n l h =
        let a : 48 ≤ 55 + n = omega arith in
        let b : 58 ≤ 55 + n = omega arith in
        let d : 65 ≤ 55 + n = omega arith in
        let f : 55 + n < 71 = omega arith in
        let e : 55 + n - 55 ≡ n = omega arith in
        rw (le-ltb n 10 l, le-ltb (55 + n) 48 a, le-ltb (55 + n) 58 b, le-ltb (55 + n) 65 d, lt-ltb (55 + n) 71 f, e)

pub none_here : (r : List ℕ) → NoNibble r → hex_bytes r ≡ []
unfolding hex_bytes
none_here [] h = refl
none_here (a ∷ r) h = first-not a r h

pub bytes-of-text : (bs r : List ℕ) → ((i : ℕ) → get_or bs i 0 < 256) → hex_bytes (hex_text bs ++ r) ≡ bs ++ hex_bytes r
unfolding hex_text
bytes-of-text [] r f = refl
bytes-of-text (b ∷ bs) r f =
    let h : b / 16 < 16 = omega (arith, f 0) in
    let l : b % 16 < 16 = omega arith in
    let x = digit-back (b / 16) h in
    let y = digit-back (b % 16) l in
    let e : b / 16 * 16 + b % 16 ≡ b = omega arith in
    two (digit (b / 16)) (digit (b % 16)) (hex_text bs ++ r) (rw x h) (rw y l) ∙ rw (x, y, e, bytes-of-text bs r (λ i. f (suc i)))
