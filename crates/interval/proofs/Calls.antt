-- What the code's calls and results leave, carried to the definitions: `answers` is handed to `search` beside `flags`.
use mathlib.Core.Path.{◌≡◌, refl, sym, ◌∙◌}
use mathlib.Core.Bool.{Bool, true, false, ◌&&◌, ◌||◌}
use lib.IntN.{ℤ}
use Rattle.std.specs.Prelude.{Err, IsErrAnd, None, Ok, Option, Result, Some, ok_or}
use Rattle.refusal.specs.declared.Refusal.{Refusal}
use Rattle.whole.specs.Test.{◌≟◌}
use borrow.Author.Tests.{ne_eqb}
use Rattle.whole.specs.Choice.{pick}
use Rattle.whole.specs.Sized.{width_of}
use Rattle.whole.specs.declared.Size.{Size}
use Rattle.whole.proofs.Flags.{bools, told, was-false, was-true, and_yes, and_no, and-no-2, or_yes, or-yes-2, or_no}
use Rattle.whole.proofs.Calls.{called-1}
use Rattle.whole.proofs.Sizes.{both_is}
use Rattle.refusal.specs.Number.{number_of}
use Rattle.refusal.specs.Answer.{Answer, is, refused}
use Rattle.refusal.specs.Answer as A
use Rattle.interval.specs.Mended.{lenient, verdict, filled}
use Rattle.interval.specs.Set.{Interval, ◌⋯◌, ◌∈?◌}

pub made : (a b m n : ℤ) → a ≡ m → b ≡ n → ◌≡◌ {A = Interval} (a ⋯ b) (m ⋯ n)
made a b m n p q = rw (p, q) refl

-- ---- the value of an `&&`
pub and-is-no : (s t x : Bool) → s ≡ false → x ≡ false → x ≡ (s && t)
and-is-no s t x h k = rw h k

pub or_is : (s t x : Bool) → s ≡ true → x ≡ true → x ≡ (s || t)
or_is s t x h k = rw h k

pub or-is-no : (s t x : Bool) → s ≡ false → x ≡ t → x ≡ (s || t)
or-is-no s t x h k = rw h k

pub ruleset ors = (or_is, or-is-no, bools)

pub ruleset ands = (both_is, and-is-no, ne_eqb, bools)

-- whether an interval has a number
pub holds-told : (i : Interval) (m n : ℤ) (r t : Bool) → r ≡ (m ∈? i) → m ≡ n → r ≡ t → (n ∈? i) ≡ t
holds-told i m n r t h p e = rw p at (sym h ∙ e)

-- ---- a `?`: what `ok_or` found, and the refusal that is handed on
pub or_found : (o : Option ℤ) (r : Result ℤ Refusal) (e : Refusal) (x : ℤ) → r ≡ ok_or o e → r ≡ Ok x → o ≡ Some x
or_found None r e x h k = cc
or_found (Some y) r e x h k = cc

pub or_missed : (o : Option ℤ) (r : Result ℤ Refusal) (e f : Refusal) → r ≡ ok_or o e → r ≡ Err f → (o ≡ None) × (f ≡ e)
or_missed None r e f h k = (refl, cc)
or_missed (Some y) r e f h k = (cc, cc)

pub handed_on : {T : Type 0} (r : Result T Refusal) (e : Refusal) → IsErrAnd r (λ f. f ≡ e) → A.told r ≡ refused (number_of e)
handed_on (Ok v) e h = absurd h
handed_on (Err f) e h = rw h

pub ruleset asked = (told, was-false, was-true, and_yes, and_no, and-no-2, or_yes, or-yes-2, or_no)

-- ---- an answer of the mended operations, put together
pub is_made : (a b : Interval) → a ≡ b → ◌≡◌ {A = Answer Interval} (is a) (is b)
is_made a b e = rw e refl

pub lenient-made : (z : Size) (a b v : Interval) (p q s t : Bool) (r : Result Interval Refusal) → A.told r ≡ lenient (width_of z) a b v → v ≡ verdict p q → p ≡ s → q ≡ t → A.told r ≡ lenient (width_of z) a b (verdict s t)
lenient-made z a b v p q s t r h e f g = rw (e, f, g) at h

pub filled-called : (s : Size) (a m r : Interval) → r ≡ filled (width_of s) m → m ≡ a → r ≡ filled (width_of s) a
filled-called s = called-1 (filled (width_of s))

-- ---- narrowing's ends
pub end-called : (i e m n p q r : ℤ) → r ≡ pick (q ≟ e) m q → e ≡ i → m ≡ n → q ≡ p → r ≡ pick (p ≟ i) n p
end-called i e m n p q r h u v k = rw (u, v, k) at h
