-- A word's two numbers are its own: words of at most sixteen bytes, none of them 0, that have the same numbers are the same.
use Prim.Native.Nat.{ℕ, zero, suc, ◌+◌, ◌-◌, ◌*◌, ◌%◌, ◌/◌, ◌≤◌, ◌<◌}
use mathlib.Core.Path.{◌≡◌, refl, sym, ap, ◌∙◌}
use mathlib.Core.List.{List, [], ◌∷◌, ◌++◌, append-nil}
use native.Mathlib.Omega.{arith}
use lib.Dec.{eqb}
use lib.ListN.{length, take, drop, length-take, length-drop, take-append-drop}
use borrow.Author.Tests.{le-ltb, ne_eqb}
use Rattle.whole.specs.Choice.{pick}
use Rattle.text.specs.Word.{Letters, coded, code_of, first_code, second_code}
use Rattle.text.proofs.Words.{first_two, second-two}

-- bytes, none of which is 0
pub data Bytes : List ℕ → Type 0 where
  none : Bytes []
  more : {x : ℕ} {xs : List ℕ} → 0 < x → x < 256 → Bytes xs → Bytes (x ∷ xs)

-- the bytes of a number, in front of acc
spelled : (k n : ℕ) → List ℕ → List ℕ
spelled zero n acc = acc
spelled (suc k) n acc = pick (eqb n 0) acc (spelled k (n / 256) (n % 256 ∷ acc))

spelled-zero : (k : ℕ) (acc : List ℕ) → spelled k 0 acc ≡ acc
unfolding spelled
spelled-zero zero acc = refl
spelled-zero (suc k) acc = refl

spelled-byte : (k v x : ℕ) (acc : List ℕ) → 0 < x → x < 256 → spelled (suc k) (v * 256 + x) acc ≡ spelled k v (x ∷ acc)
unfolding spelled
spelled-byte k v x acc p l =
    let z : (v * 256 + x ≡ 0 → ⊥) = λ e. omega arith in
    let d : (v * 256 + x) / 256 ≡ v = omega arith in
    let m : (v * 256 + x) % 256 ≡ x = omega arith in
    rw (ne_eqb (v * 256 + x) 0 z, d, m)

spelled-coded : (xs : List ℕ) (j v : ℕ) (acc : List ℕ) → Bytes xs → spelled (length xs + j) (coded xs v) acc ≡ spelled j v (xs ++ acc)
unfolding coded
spelled-coded [] j v acc none = let e : 0 + j ≡ j = omega arith in ap (λ (k : ℕ). spelled k v acc) e
spelled-coded (x ∷ xs) j v acc (more p l b) =
    let e : suc (length xs) + j ≡ length xs + suc j = omega arith in
    ap (λ (k : ℕ). spelled k (coded xs (v * 256 + x)) acc) e
    ∙ spelled-coded xs (suc j) (v * 256 + x) acc b
    ∙ spelled-byte j v x (xs ++ acc) p l

back : (xs : List ℕ) → Bytes xs → length xs ≤ 8 → spelled 8 (coded xs 0) [] ≡ xs
back xs b h =
    let e : 8 ≡ length xs + (8 - length xs) = omega arith in
    ap (λ (k : ℕ). spelled k (coded xs 0) []) e
    ∙ spelled-coded xs (8 - length xs) 0 [] b
    ∙ spelled-zero (8 - length xs) (xs ++ [])
    ∙ append-nil xs

same_code : (xs ys : List ℕ) → Bytes xs → Bytes ys → length xs ≤ 8 → length ys ≤ 8 → code_of xs ≡ code_of ys → xs ≡ ys
unfolding code_of
same_code xs ys a b h g e =
    let f : coded xs 0 ≡ coded ys 0 = rw (le-ltb 8 (length xs) h, le-ltb 8 (length ys) g) at e in
    sym (back xs a h) ∙ ap (λ (n : ℕ). spelled 8 n []) f ∙ back ys b g

bytes_take : (n : ℕ) (xs : List ℕ) → Bytes xs → Bytes (take n xs)
bytes_take zero xs b = none
bytes_take (suc n) [] none = none
bytes_take (suc n) (x ∷ xs) (more p l b) = more p l (bytes_take n xs b)

bytes_drop : (n : ℕ) (xs : List ℕ) → Bytes xs → Bytes (drop n xs)
bytes_drop zero xs b = b
bytes_drop (suc n) [] none = none
bytes_drop (suc n) (x ∷ xs) (more p l b) = bytes_drop n xs b

pub same_word : (w u : List ℕ) → Bytes w → Bytes u → length w ≤ 16 → length u ≤ 16 → first_code w ≡ first_code u → second_code w ≡ second_code u → w ≡ u
same_word w u a b h g e f =
    let t : take 8 w ≡ take 8 u =
    same_code (take 8 w) (take 8 u) (bytes_take 8 w a) (bytes_take 8 u b) (omega (arith, length-take 8 w)) (omega (arith, length-take 8 u)) (sym (first_two w h) ∙ e ∙ first_two u g) in
    let d : drop 8 w ≡ drop 8 u =
    same_code (drop 8 w) (drop 8 u) (bytes_drop 8 w a) (bytes_drop 8 u b) (omega (arith, length-drop 8 w)) (omega (arith, length-drop 8 u)) (sym (second-two w h) ∙ f ∙ second-two u g) in
    sym (take-append-drop 8 w) ∙ ap (λ (x : List ℕ). x ++ drop 8 w) t ∙ ap (λ (x : List ℕ). take 8 u ++ x) d ∙ take-append-drop 8 u

pub bytes_of : (w : List ℕ) → Letters w → Bytes w
bytes_of [] l = none
bytes_of (x ∷ xs) l =
    let h = l 0 (omega arith) in
    more {x = x} {xs = xs} (omega (arith, h.0)) h.1 (bytes_of xs (λ i k. l (suc i) (omega arith)))
