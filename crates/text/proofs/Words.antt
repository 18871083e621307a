-- What a turn does to what is left of a word, and the codes of a word by its length.
use Prim.Native.Nat.{ℕ, zero, suc, ◌+◌, ◌*◌, ◌^◌, ◌≤◌, ◌<◌}
use mathlib.Core.Path.{◌≡◌, refl, sym, ap, subst, ◌∙◌}
use mathlib.Core.List.{List, [], ◌∷◌, ◌++◌}
use mathlib.Core.Bool.{Bool, true, false, ◌&&◌}
use native.Mathlib.Omega.{arith}
use native.Mathlib.Numerals.{add-one}
use lib.Arith.{digits_lt}
use lib.Pow.{pow-add, pow_mono}
use lib.Dec.{ltb, eqb}
use lib.ListN.{length, get_or, drop, take, length-drop, drop_of_length-le}
use lib.Seq.{drop-cons, take_all}
use borrow.Author.Tests.{lt-ltb, le-ltb, ltb-false, eq-eqb, ne_eqb, eqb-true, eqb-false}
use Rattle.std.specs.List.{starts_with}
use Rattle.whole.specs.Choice.{pick}
use Rattle.text.specs.Word.{Letters, NoLetter, begins, letters, coded, code_of, word_of, first_code, second_code}

starts-by : (x y : ℕ) (t : Bool) (a b : Bool) → eqb x y ≡ t → a ≡ b → (eqb y x && a) ≡ pick t b false
starts-by x y true a b h e = rw (eq-eqb y x (sym (eqb-true x y h))) e
starts-by x y false a b h e = rw (ne_eqb y x (λ k. eqb-false x y h (sym k))) refl

-- the test of the library
pub starts : (xs w : List ℕ) → starts_with eqb xs w ≡ begins xs w
unfolding begins
starts xs [] = refl
starts [] (y ∷ w) = refl
starts (x ∷ xs) (y ∷ w) = starts-by x y (eqb x y) (starts_with eqb xs w) (begins xs w) refl (starts xs w)

pub begins-word : (w r : List ℕ) → begins (w ++ r) w ≡ true
unfolding begins
begins-word [] r = refl
begins-word (x ∷ w) r = rw (eq-eqb x x refl) (begins-word w r)

pub word-begins : (w xs : List ℕ) → begins xs w ≡ true → xs ≡ w ++ drop (length w) xs
unfolding begins
word-begins [] xs e = refl
word-begins (y ∷ w) [] e = let z : ◌≡◌ {A = ℕ} 0 1 = cc in absurd (omega arith)
word-begins (y ∷ w) (x ∷ xs) e = by-test (eqb x y) refl e (word-begins w xs)
  where
    by-test : (t : Bool) → eqb x y ≡ t → pick t (begins xs w) false ≡ true → (begins xs w ≡ true → xs ≡ w ++ drop (length w) xs) → x ∷ xs ≡ y ∷ (w ++ drop (length w) xs)
    by-test true h k f = let a = eqb-true x y h in let b = f k in cc
    by-test false h k f = let z : ◌≡◌ {A = ℕ} 0 1 = cc in absurd (omega arith)

-- what `letters` is where there is a space, and where there is none
pub letters_space : (x : ℕ) (xs : List ℕ) → x < 33 → letters (x ∷ xs) ≡ 0
unfolding letters
letters_space x xs h = rw (lt-ltb x 33 h)

pub letters_more : (x : ℕ) (xs : List ℕ) → 33 ≤ x → letters (x ∷ xs) ≡ letters xs + 1
unfolding letters
letters_more x xs h = rw (le-ltb x 33 h, add-one (letters xs))

pub letters_none : letters [] ≡ 0
unfolding letters
letters_none = refl

-- the bytes before the first space or control are letters
pub letters-alone : (xs : List ℕ) → ((i : ℕ) → i < length xs → get_or xs i 0 < 256) → Letters (take (letters xs) xs)
unfolding letters
letters-alone [] b = λ i h. absurd (omega arith)
letters-alone (x ∷ xs) b = by-test (ltb x 33) refl (letters-alone xs (λ i h. b (suc i) (omega arith)))
  where
    by-test : (t : Bool) → ltb x 33 ≡ t → Letters (take (letters xs) xs) → Letters (take (pick t 0 (suc (letters xs))) (x ∷ xs))
    by-test true e l i h = absurd (omega arith)
    by-test false e l zero h = (omega (arith, ltb-false x 33 e), b 0 (omega arith))
    by-test false e l (suc i) h = l i (omega arith)

pub coded-more : (w : List ℕ) (i v : ℕ) → i < length w → coded (drop i w) v ≡ coded (drop (i + 1) w) (v * 256 + get_or w i 0)
unfolding coded
coded-more w i v h = rw (add-one i, drop-cons w i 0 h)

pub coded-end : (w : List ℕ) (i v : ℕ) → length w ≤ i → coded (drop i w) v ≡ v
unfolding coded
coded-end w i v h = rw (drop_of_length-le w h)

-- eight bits more
pub byte_more : (i v b : ℕ) → v < 2 ^ (8 * i) → b < 256 → v * 256 + b < 2 ^ (8 * (i + 1))
byte_more i v b h l =
    let d : v * 256 + b < 2 ^ (8 * i) * 256 = digits_lt h l in
    let e : 8 * (i + 1) ≡ 8 * i + 8 = omega arith in
    subst (λ (n : ℕ). v * 256 + b < n) (sym (ap (λ (k : ℕ). 2 ^ k) e ∙ pow-add 2 (8 * i) 8)) d

pub byte_fits : (i v b : ℕ) → i < 8 → v < 2 ^ (8 * i) → b < 256 → v * 256 + b < 2 ^ 64
byte_fits i v b lt h l =
    let k : 8 * (i + 1) ≤ 64 = omega arith in
    let m : 2 ^ (8 * (i + 1)) ≤ 2 ^ 64 = pow_mono k in
    omega (arith, byte_more i v b h l, m)

by-space : (n m : ℕ) (t : Bool) → n ≤ m → pick t 0 (suc n) ≤ suc m
by-space n m true h = omega arith
by-space n m false h = omega arith

pub letters-le : (xs : List ℕ) → letters xs ≤ length xs
unfolding letters
letters-le [] = omega arith
letters-le (x ∷ xs) = by-space (letters xs) (length xs) (ltb x 33) (letters-le xs)

-- a place past the end has no word
pub none-past : (s : List ℕ) (at : ℕ) → length s < at + letters (drop at s) → word_of s at ≡ []
unfolding word_of letters
none-past s at h =
    let g : length s ≤ at = omega (arith, letters-le (drop at s), length-drop at s) in
    rw (drop_of_length-le s g)

module _ (w : List ℕ) where
  pub first-long : 16 < length w → first_code w ≡ 0
  unfolding first_code
  first-long h = rw (lt-ltb 16 (length w) h)

  pub first_two : length w ≤ 16 → first_code w ≡ code_of (take 8 w)
  unfolding first_code
  first_two h = rw (le-ltb 16 (length w) h)

  pub first_one : length w ≤ 8 → first_code w ≡ code_of w
  first_one h =
      let l : length w ≤ 16 = omega arith in
      first_two l ∙ ap code_of (take_all 8 w h)

  pub second-long : 16 < length w → second_code w ≡ 0
  unfolding second_code
  second-long h = rw (lt-ltb 16 (length w) h)

  pub second-two : length w ≤ 16 → second_code w ≡ code_of (drop 8 w)
  unfolding second_code
  second-two h = rw (le-ltb 16 (length w) h)

  pub second-one : length w ≤ 8 → second_code w ≡ 0
  unfolding code_of coded
  second-one h =
      let l : length w ≤ 16 = omega arith in
      second-two l ∙ rw (drop_of_length-le w h)

pub none_first : first_code [] ≡ 0
unfolding first_code code_of coded
none_first = refl

pub none-second : second_code [] ≡ 0
unfolding second_code code_of coded
none-second = refl

-- a word, and bytes that begin with no letter
pub letters-of-word : (w r : List ℕ) → Letters w → NoLetter r → letters (w ++ r) ≡ length w
unfolding letters
letters-of-word [] [] l end = refl
letters-of-word [] (x ∷ r) l end = rw (lt-ltb x 33 end)
letters-of-word (x ∷ w) r l end =
    let h : 33 ≤ x = (l 0 (omega arith)).0 in
    rw (le-ltb x 33 h, letters-of-word w r (λ i k. l (suc i) (omega arith)) end)
