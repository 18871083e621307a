-- Texts that are numbered from 0 on, one after the other.
use Prim.Native.Nat.{ℕ, suc, ◌+◌}
use mathlib.Core.Path.{◌≡◌, refl, sym, ap, ◌∙◌}
use mathlib.Core.List.{List, [], ◌∷◌, ◌++◌, append-nil, append_assoc}
use native.Mathlib.Omega.{arith}
use lib.ListN.{length}
use Rattle.say.specs.Texts.{numbered}

module _ {A : Type 0} (text : ℕ → A → List (List ℕ)) where
  more-from : (k : ℕ) (xs : List A) (x : A) → numbered text k (xs ++ (x ∷ [])) ≡ numbered text k xs ++ text (k + length xs) x
  unfolding numbered
  more-from k [] x =
      let e : k + 0 ≡ k = omega arith in
      rw e (append-nil (text k x))
  more-from k (y ∷ ys) x =
      let e : suc k + length ys ≡ k + suc (length ys) = omega arith in
      ap (λ (ts : List (List ℕ)). text k y ++ ts) (more-from (suc k) ys x ∙ ap (λ (i : ℕ). numbered text (suc k) ys ++ text i x) e)
      ∙ sym (append_assoc (text k y) (numbered text (suc k) ys) (text (k + suc (length ys)) x))

  -- one more
  pub numbered_more : (xs : List A) (x : A) (k : ℕ) → length xs ≡ k → numbered text 0 (xs ++ (x ∷ [])) ≡ numbered text 0 xs ++ text k x
  numbered_more xs x k e = let z : 0 + length xs ≡ k = omega (arith, e) in more-from 0 xs x ∙ ap (λ (i : ℕ). numbered text 0 xs ++ text i x) z

  pub numbered-none : numbered text 0 [] ≡ []
  unfolding numbered
  numbered-none = refl
