-- What a call ensures, carried from the values that the callee was handed to those that a definition names: a line for each callee.
use mathlib.Core.Path.{◌≡◌}
use lib.IntN.{ℤ}
use Rattle.whole.specs.Whole.{min_ℤ, max_ℤ}

pub called-1 : {A B : Type 0} (f : A → B) (a m : A) (r : B) → r ≡ f m → m ≡ a → r ≡ f a
called-1 f a m r h p = rw p at h

pub called : {A B C : Type 0} (f : A → B → C) (a m : A) (b n : B) (r : C) → r ≡ f m n → m ≡ a → n ≡ b → r ≡ f a b
called f a m b n r h p q = rw (p, q) at h

pub min-called : (a m b n r : ℤ) → r ≡ min_ℤ m n → m ≡ a → n ≡ b → r ≡ min_ℤ a b
min-called = called min_ℤ

pub max-called : (a m b n r : ℤ) → r ≡ max_ℤ m n → m ≡ a → n ≡ b → r ≡ max_ℤ a b
max-called = called max_ℤ
