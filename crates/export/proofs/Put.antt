-- What a call leaves, by the length of its room; and answers that are carried from what was made to the numbers that were handed.
use mathlib.Core.Path.{◌≡◌, refl, sym, ap, ap₂, subst, ◌∙◌}
use mathlib.Core.Logic.{◌⊎◌, inl, inr}
use mathlib.Core.List.{List, []}
use Prim.Native.Nat.{ℕ, ◌≤◌, ◌<◌}
use borrow.Author.Tests.{le-leb, lt-leb}
use lib.IntN.{ℤ}
use lib.ListN.{length}
use lib.Seq.{sets}
use Rattle.whole.proofs.Decides.{leb-test, branch}
use Rattle.interval.specs.declared.Interval.{Interval}
use Rattle.interval.specs.Set.{◌⋯◌}
use Rattle.refusal.specs.Answer.{Answer}
use Rattle.refusal.specs.Answer as answers
use Rattle.congruence.specs.declared.Congruence.{Congruence}
use Rattle.congruence.specs.Set.{cong}
use Rattle.export.specs.Call.{Left, refused_by, put, range, spacing, Leaves}

-- ---- numbers that are put
module _ (ns room : List ℤ) where
  put_all : length ns ≤ length room → put ns room ≡ record { status = 0; numbers = ns }
  unfolding put
  put_all h = rw (le-leb (length ns) (length room) h) refl

  put-short : length room < length ns → put ns room ≡ refused_by 16 room
  unfolding put
  put-short h = rw (lt-leb (length ns) (length room) h) refl

  pub leaves_all : (left : List ℤ) → length ns ≤ length room → left ≡ sets room 0 ns → Leaves (put ns) room 0 left
  leaves_all left h e = record { status-is = sym (ap (λ (r : Left). r.status) (put_all h)); room-is = e ∙ sym (ap (λ (r : Left). sets room 0 r.numbers) (put_all h)) }

  pub leaves-short : (s : ℕ) → length room < length ns → s ≡ 16 → Leaves (put ns) room s room
  leaves-short s h e = record { status-is = e ∙ sym (ap (λ (r : Left). r.status) (put-short h)); room-is = sym (ap (λ (r : Left). sets room 0 r.numbers) (put-short h)) }

  -- status 0, or nothing is put
  pub put-either : ((put ns room).status ≡ 0) ⊎ ((put ns room).numbers ≡ [])
  unfolding put
  put-either = branch (leb-test (length ns) (length room)) (λ (r : Left). (r.status ≡ 0) ⊎ (r.numbers ≡ [])) (λ h. inl refl) (λ h. inr refl)

-- ---- an operation on two values, each made of two numbers
module _ {room left : List ℤ} {s : ℕ} where
  pub ranged : (f : Interval → Interval → Answer Interval) {x y : Interval} {a b c d : ℤ} {answer : Answer Interval} →
      answer ≡ f x y → x ≡ (a ⋯ b) → y ≡ (c ⋯ d) → Leaves (range answer) room s left → Leaves (range (f (a ⋯ b) (c ⋯ d))) room s left
  ranged f e p q l = subst (λ v. Leaves (range v) room s left) (e ∙ ap₂ f p q) l

  pub spaced : (f : Congruence → Congruence → answers.Answer Congruence) {x y : Congruence} {c m e n : ℤ} {answer : answers.Answer Congruence} →
      answer ≡ f x y → x ≡ cong c m → y ≡ cong e n → Leaves (spacing answer) room s left → Leaves (spacing (f (cong c m) (cong e n))) room s left
  spaced f h p q l = subst (λ v. Leaves (spacing v) room s left) (h ∙ ap₂ f p q) l
