-- Signs by their bits: the union of the bits is the join, the intersection the meet, inclusion the order. Each is one test of 64 pairs.
-- Assumes nothing.
use mathlib.Core.Path.{◌≡◌, refl, sym, ap, ◌∙◌}
use mathlib.Core.Logic.{◌≢◌}
use mathlib.Core.Bool.{Bool, true, false, not}
use Prim.Native.Nat.{ℕ}
use lib.Bits.{bit_and, bit_or}
use lib.Dec.{eqb}
use borrow.Author.Tests.{eq-eqb, ne_eqb}
use Rattle.std.specs.Prelude.{None, Some}
use Rattle.std.specs.declared.cmp.Ordering.TheVariants.{Equal, Greater, Less}
use Rattle.sign.specs.declared.Sign.{Sign}
use Rattle.sign.specs.Sides.{sign_of, ◌inside◌}
use Rattle.sign.specs.Bits.{bits_of, set?, of_bits}
use Rattle.sign.specs.Ported.{join, meet, partial_cmp}
use Rattle.sign.proofs.Cells.{signs, rules, tests}

-- ---- the sign with some bits

module _ (n bit : ℕ) where
  pub is_set : bit_and n bit ≢ 0 → set? n bit ≡ true
  is_set f = ap not (ne_eqb (bit_and n bit) 0 f)

  pub is-clear : bit_and n bit ≡ 0 → set? n bit ≡ false
  is-clear e = ap not (eq-eqb (bit_and n bit) 0 e)

pub sign-by : (n : ℕ) {p q r : Bool} → set? n 4 ≡ p → set? n 2 ≡ q → set? n 1 ≡ r → sign_of p q r ≡ of_bits n
sign-by n h k l = rw (sym h, sym k, sym l) refl

-- ---- the bits of two signs

module _ (a b : Sign) (i j : ℕ) (p : i ≡ bits_of a) (q : j ≡ bits_of b) where
  pub of_either : of_bits (bit_or i j) ≡ join a b
  unfolding join
  of_either = rw (p, q) (rules signs (λ a b. of_bits (bit_or (bits_of a) (bits_of b))) join tt a b)

  pub of-both : of_bits (bit_and i j) ≡ meet a b
  unfolding meet
  of-both = rw (p, q) (rules signs (λ a b. of_bits (bit_and (bits_of a) (bits_of b))) meet tt a b)

  -- all bits of the left are common, and all of the right
  left-common : eqb (bit_and i j) i ≡ (a inside b)
  left-common = rw (p, q) (tests (λ a b. eqb (bit_and (bits_of a) (bits_of b)) (bits_of a)) ◌inside◌ tt a b)

  right-common : eqb (bit_and i j) j ≡ (b inside a)
  right-common = rw (p, q) (tests (λ a b. eqb (bit_and (bits_of a) (bits_of b)) (bits_of b)) (λ a b. b inside a) tt a b)

  left_in : bit_and i j ≡ i → (a inside b) ≡ true
  left_in e = sym left-common ∙ eq-eqb (bit_and i j) i e

  left_out : bit_and i j ≢ i → (a inside b) ≡ false
  left_out n = sym left-common ∙ ne_eqb (bit_and i j) i n

  right-in : bit_and i j ≡ j → (b inside a) ≡ true
  right-in e = sym right-common ∙ eq-eqb (bit_and i j) j e

  right-out : bit_and i j ≢ j → (b inside a) ≡ false
  right-out n = sym right-common ∙ ne_eqb (bit_and i j) j n

  pub equal_by : bit_and i j ≡ i → bit_and i j ≡ j → (Some Equal) ≡ partial_cmp a b
  unfolding partial_cmp
  equal_by e f = rw (left_in e, right-in f) refl

  pub less_by : bit_and i j ≡ i → bit_and i j ≢ j → (Some Less) ≡ partial_cmp a b
  unfolding partial_cmp
  less_by e n = rw (left_in e, right-out n) refl

  pub greater-by : bit_and i j ≢ i → bit_and i j ≡ j → (Some Greater) ≡ partial_cmp a b
  unfolding partial_cmp
  greater-by n e = rw (left_out n, right-in e) refl

  pub none-by : bit_and i j ≢ i → bit_and i j ≢ j → None ≡ partial_cmp a b
  unfolding partial_cmp
  none-by n m = rw (left_out n, right-out m) refl
