-- A number of a panel's width is one of 64 bits: so an exact result of 64 bits, held to the width, is the exact result of the width.
use mathlib.Core.Path.{◌≡◌, refl, sym, ap, ◌∙◌}
use mathlib.Core.Bool.{Bool, true, false, ◌&&◌}
use lib.IntN.{ℤ, neg_ℤ, ◌+ℤ◌, ◌-ℤ◌, ◌*ℤ◌}
use lib.Signed.{quot_z}
use mir.Syntax.{w64}
use mir.Val.{SFits}
use Rattle.std.specs.Prelude.{Option}
use Rattle.whole.specs.Range.{fits?}
use Rattle.whole.specs.Exact.{exactly}
use Rattle.whole.specs.Sized.{width_of, held_to}
use Rattle.whole.specs.declared.Size.{Size}
use Rattle.whole.specs.declared.Size.TheVariants.{B16, B32, B64}
use Rattle.whole.proofs.Fits.{machine, range}
use Rattle.whole.proofs.Decides.{branch, is_false, fits-test, not_beyond}

pub wider : (s : Size) {z : ℤ} → SFits (width_of s) z → SFits w64 z
wider B16 h = omega (machine, range h)
wider B32 h = omega (machine, range h)
wider B64 h = h

pub held-exact : (s : Size) (z : ℤ) → held_to (width_of s) (exactly w64 z) ≡ exactly (width_of s) z
unfolding held_to exactly
held-exact s z = branch (fits-test w64 z) (λ e. held_to (width_of s) e ≡ exactly (width_of s) z) (λ _. refl) λ h. rw (is_false (fits-test (width_of s) z) (λ k. not_beyond (wider s k) h))

-- what a call of `held` on an exact result ensures
pub held-is : (s : Size) (z : ℤ) (e r : Option ℤ) → r ≡ held_to (width_of s) e → e ≡ exactly w64 z → r ≡ exactly (width_of s) z
held-is s z e r h k = h ∙ (ap (held_to (width_of s)) k ∙ held-exact s z)

-- ---- as the code's calls leave them
held_of : {A : Type 0} (f : A → ℤ) (s : Size) (a m : A) (e r : Option ℤ) → r ≡ held_to (width_of s) e → e ≡ exactly w64 (f m) → m ≡ a → r ≡ exactly (width_of s) (f a)
held_of f s a m e r h k p = held-is s (f a) e r h (rw p at k)

held_by : {A : Type 0} (f : A → A → ℤ) (s : Size) (a m b n : A) (e r : Option ℤ) → r ≡ held_to (width_of s) e → e ≡ exactly w64 (f m n) → m ≡ a → n ≡ b → r ≡ exactly (width_of s) (f a b)
held_by f s a m b n e r h k p q = held-is s (f a b) e r h (rw (p, q) at k)

pub neg-held : (s : Size) (a m : ℤ) (e r : Option ℤ) → r ≡ held_to (width_of s) e → e ≡ exactly w64 (neg_ℤ m) → m ≡ a → r ≡ exactly (width_of s) (neg_ℤ a)
neg-held = held_of neg_ℤ

pub add-held : (s : Size) (a m b n : ℤ) (e r : Option ℤ) → r ≡ held_to (width_of s) e → e ≡ exactly w64 (m +ℤ n) → m ≡ a → n ≡ b → r ≡ exactly (width_of s) (a +ℤ b)
add-held = held_by ◌+ℤ◌

pub sub_held : (s : Size) (a m b n : ℤ) (e r : Option ℤ) → r ≡ held_to (width_of s) e → e ≡ exactly w64 (m -ℤ n) → m ≡ a → n ≡ b → r ≡ exactly (width_of s) (a -ℤ b)
sub_held = held_by ◌-ℤ◌

pub mul-held : (s : Size) (a m b n : ℤ) (e r : Option ℤ) → r ≡ held_to (width_of s) e → e ≡ exactly w64 (m *ℤ n) → m ≡ a → n ≡ b → r ≡ exactly (width_of s) (a *ℤ b)
mul-held = held_by ◌*ℤ◌

pub quot-held : (s : Size) (a m b n : ℤ) (e r : Option ℤ) → r ≡ held_to (width_of s) e → e ≡ exactly w64 (quot_z m n) → m ≡ a → n ≡ b → r ≡ exactly (width_of s) (quot_z a b)
quot-held = held_by quot_z

pub both_is : (s t r : Bool) → s ≡ true → r ≡ t → r ≡ (s && t)
both_is s t r h k = rw h k

pub both-no : (s t r : Bool) → s ≡ false → r ≡ false → r ≡ (s && t)
both-no s t r h k = rw h k

pub exact-called : (s : Size) (a m : ℤ) (r : Option ℤ) → r ≡ exactly (width_of s) m → m ≡ a → r ≡ exactly (width_of s) a
exact-called s a m r h p = rw p at h

pub fits_told : (s : Size) (x m : ℤ) (r t : Bool) → r ≡ fits? (width_of s) m → m ≡ x → r ≡ t → fits? (width_of s) x ≡ t
fits_told s x m r t h p q = sym (rw p at h) ∙ q
