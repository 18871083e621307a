-- Where a comparison may hold, exactly; and error 4 of document 01.
use mathlib.Core.Path.{◌≡◌}
use mathlib.Core.Logic.{◌⊎◌, inl, inr, ◌↔◌}
use Prim.Native.Nat.{ℕ}
use lib.IntN.{ℤ, pos, ◌+ℤ◌, ◌-ℤ◌}
use lib.Signed.{◌≤ℤ◌, ◌<ℤ◌}
use mir.Syntax.{w64}
use Rattle.std.specs.declared.cmp.Ordering.{Ordering}
use Rattle.std.specs.Prelude.{None, Option, Some}
use Rattle.std.specs.declared.cmp.Ordering.TheVariants.{Equal, Greater, Less}
use Rattle.whole.specs.Range.{least, greatest}
use Rattle.whole.proofs.Linear.{ints}
use Rattle.whole.proofs.Linear as L
use Rattle.whole.proofs.Decides.{Decides, branch, either, le_test, lt_test, eq_test, is_true, is_false}
use Rattle.interval.specs.declared.Pair.{Pair}
use Rattle.interval.specs.Set.{Interval, ◌∈◌, bottom, single, Proper, Canonical}
use Rattle.refusal.specs.Answer.{Answer}
use Rattle.interval.specs.Mended.{filled}
use Rattle.interval.specs.PortedPromise.{Sides, Answered, answers, refuses}
use Rattle.interval.specs.Ported.{may_equal_when, meet, apart, pair, less_left, less_right, maybe_less_when, le_left, le_right, maybe_le_when, singleton, same_one, weak_cmp, le_by, ge_by}
use Rattle.interval.proofs.Ends.{low-in, high-in}
use Rattle.interval.proofs.Canonical.{IsBottom, NotBottom, bottom-test, nothing, has-number, not-bottom}
use Rattle.interval.proofs.Fill.{into, out_of}
use Rattle.interval.proofs.ClaimsLattice.{meet-exact}

-- bottom has no number, however it is known
empty : {i : Interval} {x : ℤ} → IsBottom w64 i → x ∈ i → ⊥
empty {x} e h = nothing w64 {x = x} (record { low = omega ints; high = omega ints })

-- ---- may_equal_when: the numbers of both
pub may-equal-exact : (a b : Interval) (x : ℤ) → (x ∈ may_equal_when a b) ↔ ((x ∈ a) × (x ∈ b))
unfolding may_equal_when meet
may-equal-exact a b x = branch (either (bottom-test w64 a) (bottom-test w64 b)) (λ v. (x ∈ v) ↔ ((x ∈ a) × (x ∈ b))) (λ e. (λ h. absurd (nothing w64 h), λ h. absurd (no e h))) (λ _. meet-exact a b x)
  where
    no : IsBottom w64 a ⊎ IsBottom w64 b → (x ∈ a) × (x ∈ b) → ⊥
    no (inl e) h = empty e h.0
    no (inr e) h = empty e h.1

-- ---- maybe_le_when and maybe_less_when: the numbers of each side that have a partner on the other

-- nothing on either side, if no number of a is at most one of b
none-there : (R : ℤ → ℤ → Type 0) (a b : Interval) → ((x y : ℤ) → x ∈ a → y ∈ b → R x y → ⊥) → Sides R a b (pair (bottom w64) (bottom w64))
none-there R a b f = record {
  left_is = λ x. (λ h. absurd (nothing w64 h), λ h. absurd (f x h.1.number h.0 h.1.number_in h.1.at));
  right_is = λ y. (λ h. absurd (nothing w64 h), λ h. absurd (f h.1.number y h.1.number_in h.0 h.1.at));
}

apart-test : (a b : Interval) → Decides ((IsBottom w64 a ⊎ IsBottom w64 b) ⊎ (b.max <ℤ a.min)) ((NotBottom w64 a × NotBottom w64 b) × (a.min ≤ℤ b.max)) (apart a b)
apart-test a b = either (either (bottom-test w64 a) (bottom-test w64 b)) (lt_test b.max a.min)

parted : {a b : Interval} {x y : ℤ} → (IsBottom w64 a ⊎ IsBottom w64 b) ⊎ (b.max <ℤ a.min) → x ∈ a → y ∈ b → x ≤ℤ y → ⊥
parted (inl (inl e)) h k l = empty e h
parted (inl (inr e)) h k l = empty e k
parted (inr e) h k l = omega ints

-- x is in the range from lo to hi, made bottom if empty, exactly if it is in i and has a partner
side : {i : Interval} {P : Type 0} (v : Interval) (x : ℤ) → (x ∈ v → (x ∈ i) × P) → ((x ∈ i) × P → x ∈ v) → (x ∈ filled w64 v) ↔ ((x ∈ i) × P)
side v x f g = (λ h. f (out_of w64 v x h), λ h. into w64 v x (g h))

pub le-when-exact : {a b : Interval} → Canonical w64 a → Canonical w64 b → Sides ◌≤ℤ◌ a b (maybe_le_when a b)
unfolding maybe_le_when le_left le_right
le-when-exact {a} {b} c d =
    branch (apart-test a b) (Sides ◌≤ℤ◌ a b) (λ e. none-there ◌≤ℤ◌ a b (λ x y h k l. parted e h k l)) λ n.
    let p = has-number c n.0.0 in
    let q = has-number d n.0.1 in
    let l = L.least a.max b.max in
    let g = L.greatest a.min b.min in
    record {
      left_is = λ x. side _ x (λ h. (record { low = omega ints; high = omega ints }, record { number = b.max; number_in = high-in q.ordered; at = omega ints })) (λ h. let y = h.1.number_in in let r = h.1.at in let m = h.0 in record { low = omega ints; high = omega ints });
      right_is = λ y. side _ y (λ h. (record { low = omega ints; high = omega ints }, record { number = a.min; number_in = low-in p.ordered; at = omega ints })) (λ h. let x = h.1.number_in in let r = h.1.at in let m = h.0 in record { low = omega ints; high = omega ints });
    }

pub less-when-exact : {a b : Interval} → Canonical w64 a → Canonical w64 b → Answered ◌<ℤ◌ a b (maybe_less_when a b)
unfolding maybe_less_when less_left less_right
less-when-exact {a} {b} c d =
    branch (apart-test a b) A (λ e. answers (none-there ◌<ℤ◌ a b (λ x y h k l. parted e h k (omega ints)))) λ n.
    branch (eq_test b.max (least w64)) A (λ e. refuses (inl e)) λ _.
    branch (eq_test a.min (greatest w64)) A (λ e. refuses (inr e)) λ _.
    let p = has-number c n.0.0 in
    let q = has-number d n.0.1 in
    let l = L.least a.max (b.max -ℤ pos 1) in
    let d' = L.sub b.max (pos 1) in
    let g = L.greatest (a.min +ℤ pos 1) b.min in
    let s = L.sum a.min (pos 1) in
    answers
    (record {
      left_is = λ x. side _ x (λ h. (record { low = omega ints; high = omega ints }, record { number = b.max; number_in = high-in q.ordered; at = omega ints })) (λ h. let y = h.1.number_in in let r = h.1.at in let m = h.0 in record { low = omega ints; high = omega ints });
      right_is = λ y. side _ y (λ h. (record { low = omega ints; high = omega ints }, record { number = a.min; number_in = low-in p.ordered; at = omega ints })) (λ h. let x = h.1.number_in in let r = h.1.at in let m = h.0 in record { low = omega ints; high = omega ints });
    })
  where
    A : Answer Pair → Type 0
    A = Answered ◌<ℤ◌ a b

-- ---- error 4: the weak order never answers Equal, so that <= and >= of ranges that touch are false
module _ (a b : Interval) where
  -- two single numbers that are equal come before as Less
  pub weak-never-equal : weak_cmp a b ≡ (Some Equal) → ⊥
  unfolding weak_cmp same_one singleton
  weak-never-equal =
      branch (either (bottom-test w64 a) (bottom-test w64 b)) N (λ _ e. no_none e) λ _.
      branch (le_test a.max b.min) N (λ _ e. no_less e) λ l.
      branch (le_test b.max a.min) N (λ _ e. no-greater e) λ g.
      not_same l
    where
      N : Option Ordering → Type 0
      N o = o ≡ (Some Equal) → ⊥

      no_none : None ≡ (Some Equal) → ⊥
      no_none e = let z : ◌≡◌ {A = ℕ} 0 1 = cc in omega ints

      no_less : (Some Less) ≡ (Some Equal) → ⊥
      no_less e = let z : ◌≡◌ {A = ℕ} 0 1 = cc in omega ints

      no-greater : (Some Greater) ≡ (Some Equal) → ⊥
      no-greater e = let z : ◌≡◌ {A = ℕ} 0 1 = cc in omega ints

      not_same : b.min <ℤ a.max → N (same_one (singleton a) (singleton b))
      not_same l =
          branch (eq_test a.min a.max) (λ s. N (same_one s (singleton b))) (λ e.
          branch (eq_test b.min b.max) (λ s. N (same_one (Some a.min) s)) (λ f.
          branch (eq_test a.min b.min) N (λ h. absurd (omega ints)) (λ _. no_none)) (λ _. no_none)) (λ _. no_none)

-- the pair of touching ends holds, and the answer is false
module _ {a b : Interval} (p : Proper w64 a) (q : Proper w64 b) where
  pub touching-ge-wrong : a.max ≡ b.min → (b.min ≤ℤ a.max) × (ge_by (weak_cmp a b) ≡ single (pos 0))
  unfolding weak_cmp ge_by
  touching-ge-wrong e = (omega ints, rw (not-bottom p, not-bottom q, is_true (le_test a.max b.min) (λ h. omega ints)))

  pub touching-le-wrong : a.min ≡ b.max → b.min <ℤ a.max → (a.min ≤ℤ b.max) × (le_by (weak_cmp a b) ≡ single (pos 0))
  unfolding weak_cmp le_by
  touching-le-wrong e l = (omega ints, rw (not-bottom p, not-bottom q, is_false (le_test a.max b.min) (λ h. omega ints), is_true (le_test b.max a.min) (λ h. omega ints)))
