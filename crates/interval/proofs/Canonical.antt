-- The canonical intervals: those with a number, and bottom, which has none.
use mathlib.Core.Path.{◌≡◌, refl}
use mathlib.Core.Logic.{◌≢◌, ◌⊎◌, inl, inr}
use mathlib.Core.Bool.{true, false}
use lib.IntN.{ℤ}
use lib.Signed.{◌≤ℤ◌, ◌<ℤ◌}
use mir.Syntax.{Width}
use mir.Val.{SFits}
use Rattle.whole.specs.Range.{least, greatest}
use Rattle.whole.proofs.Linear.{ints}
use Rattle.whole.proofs.Fits.{fits, low, high}
use Rattle.whole.proofs.Decides.{Decides, both, branch, lt_test, eq_test, fits-test, is-fit, is_true, is_false, yes}
use Rattle.interval.specs.Set.{Interval, ◌∈◌, bottom, is_bottom, empty?, canonical?, Proper, Canonical, some, none}
use Rattle.interval.proofs.Calls.{made}
use Rattle.interval.proofs.Rem.{signs}

-- an interval with a number is not empty
pub full : {w : Width} {a : Interval} → Proper w a → empty? a ≡ false
full {a} p = is_false (lt_test a.max a.min) (λ h. omega ints)

module _ (w : Width) where
  abbrev pub IsBottom : Interval → Type 0
  IsBottom i = (i.min ≡ greatest w) × (i.max ≡ least w)

  abbrev pub NotBottom : Interval → Type 0
  NotBottom i = (i.min ≢ greatest w) ⊎ (i.max ≢ least w)

  pub bottom-test : (i : Interval) → Decides (IsBottom i) (NotBottom i) (is_bottom w i)
  bottom-test i = both (eq_test i.min (greatest w)) (eq_test i.max (least w))

  pub unlike : {A : Type 0} → NotBottom (bottom w) → A
  unlike (inl f) = absurd (f refl)
  unlike (inr f) = absurd (f refl)

  -- bottom stands for nothing
  pub bottom-empty : least w <ℤ greatest w
  bottom-empty = omega (ints, signs w)

  pub nothing : {x : ℤ} → x ∈ bottom w → ⊥
  nothing h = omega (ints, signs w)

-- ---- the test decides it
module _ (w : Width) where
  pub bottom-is : empty? (bottom w) ≡ true
  bottom-is = is_true (lt_test (least w) (greatest w)) (λ h. omega (ints, signs w))

  pub bottom-found : is_bottom w (bottom w) ≡ true
  bottom-found = is_true (bottom-test w (bottom w)) (unlike w)

  at-bottom : {i : Interval} → IsBottom w i → Canonical w i
  at-bottom {i} e = rw (made i.min i.max (greatest w) (least w) e.0 e.1) none

  some_number : {i : Interval} → i.min ≤ℤ i.max → SFits w i.min × SFits w i.max → Canonical w i
  some_number {i} o f = some (record { ordered = o; above = low w i.min f.0; below = high w i.max f.1 })

pub canonical-is : {w : Width} {i : Interval} → Canonical w i → canonical? w i ≡ true
unfolding canonical?
canonical-is {w} {i} (some p) = rw (full p, is-fit (fits w i.min p.above (omega ints)), is-fit (fits w i.max (omega ints) p.below))
canonical-is {w} none = rw (bottom-is w, bottom-found w)

pub is-canonical : (w : Width) (i : Interval) → canonical? w i ≡ true → Canonical w i
unfolding canonical?
is-canonical w i =
    branch (lt_test i.max i.min) (λ b. b ≡ true → Canonical w i) (λ _ h. at-bottom w (yes (bottom-test w i) h)) λ o h.
    some_number w o (yes (both (fits-test w i.min) (fits-test w i.max)) h)

-- what is canonical and not bottom has a number
pub has-number : {w : Width} {i : Interval} → Canonical w i → NotBottom w i → Proper w i
has-number (some p) f = p
has-number {w} none f = unlike w f

-- what has a number is not bottom
pub not-bottom : {w : Width} {i : Interval} → Proper w i → is_bottom w i ≡ false
not-bottom {w} {i} p = is_false (bottom-test w i) (λ e. absurd (omega (ints, signs w)))

-- both its ends are numbers of the width
pub in-width : {w : Width} {i : Interval} → Canonical w i → (least w ≤ℤ i.min) × (i.min ≤ℤ greatest w) × (least w ≤ℤ i.max) × (i.max ≤ℤ greatest w)
in-width (some p) = (p.above, omega ints, omega ints, p.below)
in-width {w} none = let s = signs w in (omega ints, omega ints, omega ints, omega ints)
