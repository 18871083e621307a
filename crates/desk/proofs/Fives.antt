-- Five numbers a step: what was put is found again, and what is put next stands behind it.
use mathlib.Core.Path.{◌≡◌, refl, sym, ap, ap₂, ◌∙◌}
use mathlib.Core.Bool.{Bool, true, false}
use mathlib.Core.List.{List, [], ◌∷◌, ◌++◌, append_assoc}
use Prim.Native.Nat.{ℕ, zero, suc, ◌+◌, ◌*◌, ◌-◌, ◌≤◌, ◌<◌}
use native.Mathlib.Omega.{arith}
use borrow.Author.Tests.{lt-ltb, ltb-true, ltb-false}
use lib.Dec.{ltb}
use lib.IntN.{ℤ}
use lib.ListN.{length, take, drop, get_or, set, length-append, length-drop, get_or-eq_default}
use borrow.Rule.Slice.PartMut.{put_mid}
use lib.Seq.{sets, sets-eq, take_at, take-suc, take-length, drop-drop, drop-append-add}
use Rattle.whole.specs.Choice.{pick}
use Rattle.sign.specs.declared.Sign.{Sign}
use Rattle.sign.specs.declared.Sign.TheVariants.{Top, Bottom, Negative, Zero, Positive, NonNeg, NonZero, NonPos}
use Rattle.sign.specs.Index.{index_of}
use Rattle.step.specs.declared.show.Shown.{Shown}
use Rattle.step.specs.Show.{zero_shown}
use Rattle.desk.specs.Five.{five_of, flat, sign_at, shown_in, looked_up, shown_first}

pub copied : (l v : List ℤ) (i : ℕ) → 5 ≡ length v → i + 5 ≤ length l → put_mid i (i + 5 - i) l v ≡ sets l i v
copied l v i is h =
    let k : i + 5 - i ≡ length v = omega (arith, is) in
    let b : i + length v ≤ length l = omega (arith, is, h) in
    rw k (sym (sets-eq v l i b ∙ append_assoc (take i l) v (drop (i + length v) l) ∙ rw (drop-drop (length v) i l) refl))

pub sign-back : (s : Sign) → sign_at (index_of s) ≡ s
unfolding sign_at
sign-back Top = refl
sign-back Bottom = refl
sign-back Negative = refl
sign-back Zero = refl
sign-back Positive = refl
sign-back NonNeg = refl
sign-back NonZero = refl
sign-back NonPos = refl

pub length-flat : (vs : List Shown) → length (flat vs) ≡ length vs * 5
unfolding flat
length-flat [] = refl
length-flat (v ∷ vs) = omega (arith, length-flat vs)

pub flat-more : (vs : List Shown) (v : Shown) → flat (vs ++ (v ∷ [])) ≡ flat vs ++ five_of v
unfolding flat
flat-more [] v = refl
flat-more (u ∷ vs) v = ap (λ l. five_of u ++ l) (flat-more vs v)

-- what stands at place p of steps that were put is what step p shows
pub found : (vs : List Shown) (rest : List ℤ) (p : ℕ) → p < length vs → shown_in (flat vs ++ rest) p ≡ get_or vs p zero_shown
unfolding shown_in flat
found [] rest p h = absurd (omega arith)
found (v ∷ vs) rest zero h = rw (sign-back v.sign) refl
found (v ∷ vs) rest (suc p) h =
    let e₀ : suc p * 5 ≡ suc (suc (suc (suc (suc (p * 5))))) = omega arith in
    let e₁ : suc p * 5 + 1 ≡ suc (suc (suc (suc (suc (p * 5 + 1))))) = omega arith in
    let e₂ : suc p * 5 + 2 ≡ suc (suc (suc (suc (suc (p * 5 + 2))))) = omega arith in
    let e₃ : suc p * 5 + 3 ≡ suc (suc (suc (suc (suc (p * 5 + 3))))) = omega arith in
    let e₄ : suc p * 5 + 4 ≡ suc (suc (suc (suc (suc (p * 5 + 4))))) = omega arith in
    rw (e₁, e₂, e₃, e₄, e₀) (found vs rest p (omega arith))

-- the first places of steps that were put are what they show
first_found : (vs : List Shown) (rest : List ℤ) (k : ℕ) → k ≤ length vs → shown_first (flat vs ++ rest) k ≡ take k vs
unfolding shown_first
first_found vs rest zero h = refl
first_found vs rest (suc k) h = rw (first_found vs rest k (omega arith), found vs rest k (omega arith)) (sym (take-suc vs k zero_shown (omega arith)))

pub all_found : (vs : List Shown) (rest : List ℤ) → shown_first (flat vs ++ rest) (length vs) ≡ vs
all_found vs rest = first_found vs rest (length vs) (omega arith) ∙ take-length vs

pub length-first : (l : List ℤ) (k : ℕ) → length (shown_first l k) ≡ k
unfolding shown_first
length-first l zero = refl
length-first l (suc k) = omega (arith, length-append (shown_first l k) (shown_in l k ∷ []), length-first l k)

pub looked-in : (l : List ℤ) (k p : ℕ) → p < k → looked_up l k p ≡ shown_in l p
unfolding looked_up
looked-in l k p h = rw (lt-ltb p k h) refl

-- looking up among as many places as were put is looking up what was shown
pub looked : (vs : List Shown) (rest : List ℤ) (k p : ℕ) → length vs ≡ k → looked_up (flat vs ++ rest) k p ≡ get_or vs p zero_shown
unfolding looked_up
looked vs rest k p e = go (ltb p k) refl
  where
    go : (b : Bool) → ltb p k ≡ b → pick b (shown_in (flat vs ++ rest) p) zero_shown ≡ get_or vs p zero_shown
    go true t = found vs rest p (omega (arith, ltb-true p k t))
    go false t = sym (get_or-eq_default vs zero_shown (omega (arith, ltb-false p k t)))

-- ---- the room: k fives are put, and the rest is kept

pub fives-start : (room₀ : List ℤ) → room₀ ≡ flat [] ++ drop (0 * 5) room₀
unfolding flat
fives-start room₀ = refl

module _ (vs : List Shown) (room₀ : List ℤ) (k : ℕ) (count : length vs ≡ k) where
  size : length (flat vs) ≡ k * 5
  size = omega (arith, length-flat vs)

  pub fives-next : (room : List ℤ) (v : Shown) → room ≡ flat vs ++ drop (k * 5) room₀ → k * 5 + 5 ≤ length room₀ → sets room (k * 5) (five_of v) ≡ flat (vs ++ (v ∷ [])) ++ drop ((k + 1) * 5) room₀
  fives-next room v e h =
      let l : length room ≡ length room₀ = ap length e ∙ omega (arith, length-append (flat vs) (drop (k * 5) room₀), length-drop (k * 5) room₀, size) in
      let d : drop (k * 5 + 5) room ≡ drop ((k + 1) * 5) room₀ =
      ap (λ t. drop (k * 5 + 5) t) e
      ∙ ap (λ t. drop (t + 5) (flat vs ++ drop (k * 5) room₀)) (sym size)
      ∙ drop-append-add (flat vs) (drop (k * 5) room₀) 5
      ∙ drop-drop 5 (k * 5) room₀
      ∙ ap (λ t. drop t room₀) (five-more k)
      in
      sets-eq (five_of v) room (k * 5) (omega arith)
      ∙ ap₂ (λ a b. a ++ five_of v ++ b) (ap (λ t. take (k * 5) t) e ∙ take_at (flat vs) (drop (k * 5) room₀) (k * 5) size) d
      ∙ ap (λ t. t ++ drop ((k + 1) * 5) room₀) (sym (flat-more vs v))
    where
      five-more : (k : ℕ) → k * 5 + 5 ≡ (k + 1) * 5
      five-more k = omega arith

  pub fives-done : (room : List ℤ) → room ≡ flat vs ++ drop (k * 5) room₀ → k * 5 ≤ length room₀ → room ≡ sets room₀ 0 (flat vs)
  fives-done room e h =
      let z : 0 + length (flat vs) ≡ k * 5 = omega (arith, size) in
      e ∙ sym (sets-eq (flat vs) room₀ 0 (omega (arith, size)) ∙ ap (λ t. take 0 room₀ ++ flat vs ++ drop t room₀) z)

  pub fives-length : (room : List ℤ) → room ≡ flat vs ++ drop (k * 5) room₀ → k * 5 ≤ length room₀ → length room ≡ length room₀
  fives-length room e h = ap length e ∙ omega (arith, length-append (flat vs) (drop (k * 5) room₀), length-drop (k * 5) room₀, size)

pub index_below : (s : Sign) → index_of s < 8
index_below Top = omega arith
index_below Bottom = omega arith
index_below Negative = omega arith
index_below Zero = omega arith
index_below Positive = omega arith
index_below NonNeg = omega arith
index_below NonZero = omega arith
index_below NonPos = omega arith
