-- The tests that the code makes first come to those of the definition.
use mathlib.Core.Path.{◌≡◌, refl}
use mathlib.Core.Bool.{Bool, true, false, ◌&&◌, ◌||◌}
use Prim.Native.Nat.{ℕ}
use native.Mathlib.Omega.{arith}
use mir.Syntax.{Width, w64}
use mir.Val.{SFits}
use lib.IntN.{ℤ}
use Rattle.whole.specs.Choice.{pick}
use Rattle.whole.proofs.Fits.{low, high}
use Rattle.refusal.specs.Answer.{Answer, is, refused}
use Rattle.interval.specs.Set.{Interval, ◌⋯◌, top, bottom, empty?, is_bottom, in_width?, canonical?}
use Rattle.interval.specs.Mended.{strict}
use Rattle.interval.specs.Full.{full?, unmade}
use Rattle.interval.specs.Ends.{held_range}
use Rattle.interval.proofs.Test.{is-in}

never : {A : Type 0} → false ≡ true → A
never e = let z : ◌≡◌ {A = ℕ} 0 1 = cc in absurd (omega arith)

-- e, b and i: a value is empty, is bottom, has its ends in the width
made_by : {A : Type 0} (nothing r outside : A) (b i b' i' e e' : Bool) → pick e false i ≡ true → pick e' false i' ≡ true → r ≡ pick (pick e b i && pick e' b' i') (pick (e || e') nothing r) outside
made_by nothing r outside b i b' i' true e' h k = never h
made_by nothing r outside b i b' i' false true h k = never k
made_by nothing r outside b i b' i' false false h k = rw (h, k) refl

left_not : {A : Type 0} (nothing r outside : A) (b i b' i' e e' : Bool) → pick e false i ≡ false → pick (pick e b i && pick e' b' i') nothing outside ≡ pick (pick e b i && pick e' b' i') (pick (e || e') nothing r) outside
left_not nothing r outside b i b' i' true e' h = refl
left_not nothing r outside b i b' i' false e' h = rw h refl

right-not : {A : Type 0} (nothing r outside : A) (b i b' i' e e' : Bool) → pick e' false i' ≡ false → pick (pick e b i && pick e' b' i') nothing outside ≡ pick (pick e b i && pick e' b' i') (pick (e || e') nothing r) outside
right-not nothing r outside b i b' i' true true h = refl
right-not nothing r outside b i b' i' false true h = refl
right-not nothing r outside true i b' i' true false h = rw h refl
right-not nothing r outside false i b' i' true false h = refl
right-not nothing r outside b true b' i' false false h = rw h refl
right-not nothing r outside b false b' i' false false h = refl

module _ (w : Width) (a b : Interval) (r : Answer Interval) where
  pub is-made-of : full? w a ≡ true → full? w b ≡ true → r ≡ strict w a b r
  unfolding full? canonical?
  is-made-of h k = made_by (is (bottom w)) r (refused 1) (is_bottom w a) (in_width? w a) (is_bottom w b) (in_width? w b) (empty? a) (empty? b) h k

  pub not_left : full? w a ≡ false → unmade w a b ≡ strict w a b r
  unfolding full? canonical? unmade
  not_left h = left_not (is (bottom w)) r (refused 1) (is_bottom w a) (in_width? w a) (is_bottom w b) (in_width? w b) (empty? a) (empty? b) h

  pub not_right : full? w b ≡ false → unmade w a b ≡ strict w a b r
  unfolding full? canonical? unmade
  not_right h = right-not (is (bottom w)) r (refused 1) (is_bottom w a) (in_width? w a) (is_bottom w b) (in_width? w b) (empty? a) (empty? b) h

-- every range of two numbers of 64 bits is one
pub held-64 : (lo hi : ℤ) → SFits w64 lo → SFits w64 hi → is (lo ⋯ hi) ≡ held_range w64 (is (lo ⋯ hi))
unfolding held_range
held-64 lo hi f g = rw (is-in {x = lo} {i = top w64} (record { low = low w64 lo f; high = high w64 lo f }), is-in {x = hi} {i = top w64} (record { low = low w64 hi g; high = high w64 hi g })) refl
