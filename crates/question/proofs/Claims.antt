-- The name that a word is, is the name that its two numbers stand for.
use Rattle.std.proofs.Common.{◌≡◌, ◌<◌, ◌+◌, refl, sym, ap, arith, ℕ, zero, suc, List, [], ◌∷◌, Bool, true, false}
use Prim.Native.String.{String}
use mathlib.Core.Bool.{◌&&◌}
use lib.Dec.{eqb, leb, ltb}
use lib.ListN.{length, get_or}
use borrow.Author.Tests.{eq-eqb, eqb-true, leb-true, leb-false, ltb-true}
use Rattle.std.specs.Bool.{Decides}
use Rattle.std.proofs.lemmas.Slice.Eq.{bytes_eq-Decides}
use Rattle.whole.specs.Choice.{pick}
use Rattle.text.specs.Ascii.{ascii}
use Rattle.text.specs.Word.{Letters, coded, code_of, word_of, first_code, second_code}
use Rattle.text.proofs.Words.{first-long}
use Rattle.text.proofs.Claims.{word-one, word-letters}
use Rattle.question.specs.Taken.{is, name_after}
use Rattle.question.specs.Names.{Row, rows, name_in, name_of}
use Rattle.question.specs.Codes.{codes, coded_in, name_by_codes}

and_parts : (a b : Bool) → (a && b) ≡ true → (a ≡ true) × (b ≡ true)
and_parts true b e = (refl, e)
and_parts false b e = cc

-- a test of `Letters`
all_letters : List ℕ → Bool
all_letters [] = true
all_letters (x ∷ xs) = (ltb 32 x && ltb x 256) && all_letters xs

to-letters : (w : List ℕ) → all_letters w ≡ true → Letters w
unfolding all_letters
to-letters [] e i h = absurd (omega arith)
to-letters (x ∷ xs) e zero h =
    let a = (and_parts (ltb 32 x && ltb x 256) (all_letters xs) e).0 in
    let b = and_parts (ltb 32 x) (ltb x 256) a in
    (ltb-true 32 x b.0, ltb-true x 256 b.1)
to-letters (x ∷ xs) e (suc i) h = to-letters xs (and_parts (ltb 32 x && ltb x 256) (all_letters xs) e).1 i (omega arith)

-- a name has one to sixteen letters
named_well : String → Bool
named_well t = all_letters (ascii t) && (leb (length (ascii t)) 16 && ltb 0 (first_code (ascii t)))

module _ (w : List ℕ) (l : Letters w) where
  module _ (t : String) (h : named_well t ≡ true) where
    same : second_code w ≡ second_code (ascii t) → first_code w ≡ first_code (ascii t) → ascii t ≡ w
    unfolding named_well
    same s f = by-length (leb (length w) 16) refl
      where
        a : (all_letters (ascii t) ≡ true) × ((leb (length (ascii t)) 16 && ltb 0 (first_code (ascii t))) ≡ true)
        a = and_parts (all_letters (ascii t)) (leb (length (ascii t)) 16 && ltb 0 (first_code (ascii t))) h

        b : (leb (length (ascii t)) 16 ≡ true) × (ltb 0 (first_code (ascii t)) ≡ true)
        b = and_parts (leb (length (ascii t)) 16) (ltb 0 (first_code (ascii t))) a.1

        by-length : (r : Bool) → leb (length w) 16 ≡ r → ascii t ≡ w
        by-length true n = sym (word-one w (ascii t) l (to-letters (ascii t) a.0) (leb-true (length w) 16 n) (leb-true (length (ascii t)) 16 b.0) f s)
        by-length false n =
            let z : first_code w ≡ 0 = first-long w (omega (arith, leb-false (length w) 16 n)) in
            absurd (omega (arith, ltb-true 0 (first_code (ascii t)) b.1))

    is-by-codes : is t w ≡ codes t (first_code w) (second_code w)
    is-by-codes = by-test (is t w) (bytes_eq-Decides (ascii t) w)
      where
        unlike : (x y : Bool) → eqb (second_code w) (second_code (ascii t)) ≡ x → eqb (first_code w) (first_code (ascii t)) ≡ y → (ascii t ≡ w → ⊥) → false ≡ (x && y)
        unlike true true p q n = absurd (n (same (eqb-true (second_code w) (second_code (ascii t)) p) (eqb-true (first_code w) (first_code (ascii t)) q)))
        unlike true false p q n = refl
        unlike false y p q n = refl

        by-test : (r : Bool) → Decides r (ascii t ≡ w) → r ≡ codes t (first_code w) (second_code w)
        by-test true d =
            let e = d.0 refl in
            rw (eq-eqb (second_code w) (second_code (ascii t)) (ap second_code (sym e)), eq-eqb (first_code w) (first_code (ascii t)) (ap first_code (sym e)))
        by-test false d =
            unlike (eqb (second_code w) (second_code (ascii t))) (eqb (first_code w) (first_code (ascii t))) refl refl (λ e. let z : false ≡ true = d.1 e in cc)

  well_in : List Row → Bool
  well_in [] = true
  well_in (r ∷ rs) = named_well r.text && well_in rs

  in-rows : (rs : List Row) → well_in rs ≡ true → name_in rs w ≡ coded_in rs (first_code w) (second_code w)
  unfolding well_in name_in coded_in
  in-rows [] e = refl
  in-rows (r ∷ rs) e =
      let p = and_parts (named_well r.text) (well_in rs) e in
      rw (is-by-codes r.text p.0, in-rows rs p.1)

  pub name-by-codes : name_of w ≡ name_by_codes (first_code w) (second_code w)
  unfolding well_in named_well all_letters name_of name_by_codes first_code code_of coded
  name-by-codes = in-rows rows refl

  -- the operations of `number`, which are no rows
  pub gcd-by-codes : is "gcd" w ≡ codes "gcd" (first_code w) (second_code w)
  unfolding named_well all_letters first_code code_of coded
  gcd-by-codes = is-by-codes "gcd" refl

  pub lcm-by-codes : is "lcm" w ≡ codes "lcm" (first_code w) (second_code w)
  unfolding named_well all_letters first_code code_of coded
  lcm-by-codes = is-by-codes "lcm" refl

-- ---- of the words that are taken from a line of bytes

module _ (s : List ℕ) (b : (i : ℕ) → i < length s → get_or s i 0 < 256) where
  pub named-by-codes : (at : ℕ) → name_of (word_of s at) ≡ name_by_codes (first_code (word_of s at)) (second_code (word_of s at))
  named-by-codes at = name-by-codes (word_of s at) (word-letters s at b)

  -- a name after a space has letters alone, and so has the empty one
  pub name-letters : (at : ℕ) → Letters (name_after s at)
  unfolding name_after
  name-letters at = by-test (eqb (get_or s at 0) 32)
    where
      by-test : (t : Bool) → Letters (pick t (word_of s (at + 1)) [])
      by-test true = word-letters s (at + 1) b
      by-test false = λ i h. absurd (omega arith)
