-- The text of an end of a range, by the code's two tests.
use Prim.Native.Nat.{ℕ}
use mathlib.Core.Path.{◌≡◌, refl, sym, ap}
use mathlib.Core.List.{List}
use native.Mathlib.Omega.{arith}
use lib.IntN.{ℤ}
use lib.ListN.{length}
use mir.Syntax.{Width, w64}
use mir.Val.{SFits, of_z}
use Rattle.whole.specs.Range.{least, greatest}
use Rattle.whole.proofs.Decides.{eq_test, branch}
use Rattle.whole.proofs.Flags.{eq_yes, eq_no}
use Rattle.text.specs.Ascii.{ascii}
use Rattle.text.specs.Decimal.{decimal}
use Rattle.std.specs.Prelude.{None}
use Rattle.text.specs.Number.{many, digits_found, digits_at, minus_at, plus_at, number_at}
use Rattle.text.specs.End.{end_text}
use Rattle.text.proofs.Back.{alone}

-- h and l are what the code has for MAX and MIN of the width
module _ (w : Width) (z h l : ℤ) (is-h : h ≡ greatest w) (is-l : l ≡ least w) where
  pub at-greatest : SFits w64 z → SFits w64 h → of_z w64 z ≡ of_z w64 h → end_text w z ≡ ascii "inf"
  unfolding end_text
  at-greatest f g e = rw (sym is-h, eq_yes z h e f g)

  module _ (below : of_z w64 z ≡ of_z w64 h → ⊥) where
    pub at_least : SFits w64 z → SFits w64 l → of_z w64 z ≡ of_z w64 l → end_text w z ≡ ascii "-inf"
    unfolding end_text
    at_least f g e = rw (sym is-h, eq_no w64 z h below, sym is-l, eq_yes z l e f g)

    pub between : (of_z w64 z ≡ of_z w64 l → ⊥) → end_text w z ≡ decimal z
    unfolding end_text
    between above = rw (sym is-h, eq_no w64 z h below, sym is-l, eq_no w64 z l above)

-- which text an end has
pub data EndOf (w : Width) (z : ℤ) : List ℕ → Type 0 where
  top : z ≡ greatest w → EndOf w z (ascii "inf")
  bottom : z ≡ least w → EndOf w z (ascii "-inf")
  number : EndOf w z (decimal z)

pub end_of : (w : Width) (z : ℤ) → EndOf w z (end_text w z)
unfolding end_text
end_of w z = branch (eq_test z (greatest w)) (EndOf w z) top (λ n. branch (eq_test z (least w)) (EndOf w z) bottom (λ m. number))

-- no number is written as `inf` or `-inf`
not-inf : (z : ℤ) → SFits w64 z → ascii "inf" ≡ decimal z → ⊥
unfolding number_at plus_at digits_at digits_found many
not-inf z f e =
    let a = alone z f in
    let b : number_at (ascii "inf") 0 ≡ None = refl in
    let z : ◌≡◌ {A = ℕ} 0 1 = cc (ap (λ (t : List ℕ). number_at t 0) e) in omega arith

not-minus-inf : (z : ℤ) → SFits w64 z → ascii "-inf" ≡ decimal z → ⊥
unfolding number_at minus_at digits_at digits_found many
not-minus-inf z f e =
    let a = alone z f in
    let b : number_at (ascii "-inf") 0 ≡ None = refl in
    let z : ◌≡◌ {A = ℕ} 0 1 = cc (ap (λ (t : List ℕ). number_at t 0) e) in omega arith

pub same_end : {w : Width} {x y : ℤ} {s t : List ℕ} → SFits w64 x → SFits w64 y → EndOf w x s → EndOf w y t → s ≡ t → (decimal x ≡ decimal y → x ≡ y) → x ≡ y
same_end f g (top p) (top q) e h = cc
same_end f g (top p) (bottom q) e h = absurd (omega (arith, ap length e))
same_end {w} {x} {y} f g (top p) number e h = absurd (not-inf y g e)
same_end f g (bottom p) (top q) e h = absurd (omega (arith, ap length e))
same_end f g (bottom p) (bottom q) e h = cc
same_end {w} {x} {y} f g (bottom p) number e h = absurd (not-minus-inf y g e)
same_end {w} {x} f g number (top q) e h = absurd (not-inf x f (sym e))
same_end {w} {x} f g number (bottom q) e h = absurd (not-minus-inf x f (sym e))
same_end f g number number e h = h e
