-- Taking operands one after another into a room: a turn of it, and its end.
use Rattle.std.proofs.Common.{◌≡◌, refl, sym, ap, ◌∙◌, ℕ, zero, suc, ◌+◌, List, [], ◌∷◌, length, set, Option, Some, None, arith, add-one}
use borrow.Author.Tests.{eq-eqb, ne_eqb}
use lib.ListN.{get_or, get_or-eq_default}
use Rattle.std.proofs.lemmas.List.Edits.{sets}
use Rattle.question.specs.Taken.{number_after, all_by, behind_by, count_by, TakenBy}

-- of all that f takes from `at` on, n stand in the room, and those from p on are left, at most m
pub record Going {A : Type 0} (f : ℕ → Option (A × ℕ)) (at : ℕ) (room : List A) (n m p : ℕ) (after : List A) : Type 0 where
  pub many : length (all_by f (length room) at) ≡ n + length (all_by f m p)
  pub behind : behind_by f (length room) at ≡ behind_by f m p
  pub stored : sets room 0 (all_by f (length room) at) ≡ sets after n (all_by f m p)

-- none is left at p
pub record Ended {A : Type 0} (f : ℕ → Option (A × ℕ)) (m p : ℕ) : Type 0 where
  pub none : all_by f m p ≡ []
  pub here : behind_by f m p ≡ p

module _ {A : Type 0} (f : ℕ → Option (A × ℕ)) where
  pub full : (p : ℕ) → Ended f 0 p
  unfolding all_by behind_by
  full p = record { none = refl; here = refl }

  pub nothing : (m p : ℕ) → None ≡ f p → Ended f m p
  unfolding all_by behind_by
  nothing zero p e = record { none = refl; here = refl }
  nothing (suc m) p e = record { none = rw (← e) refl; here = rw (← e) refl }

  module _ (m p : ℕ) (x : A) (q : ℕ) (e : Some (x, q) ≡ f p) where
    one-more : all_by f (suc m) p ≡ x ∷ all_by f m q
    unfolding all_by
    one-more = rw (← e) refl

    behind-more : behind_by f (suc m) p ≡ behind_by f m q
    unfolding behind_by
    behind-more = rw (← e) refl

  module _ (at : ℕ) (room : List A) where
    pub start : Going f at room 0 (length room) at room
    start = record { many = omega arith; behind = refl; stored = refl }

    module _ (n m p : ℕ) (after : List A) where
      pub turn : (x : A) (q : ℕ) → Some (x, q) ≡ f p → Going f at room n (suc m) p after → Going f at room (n + 1) m q (set after n x)
      turn x q e g = record {
        many = omega (arith, g.many, ap length (one-more m p x q e));
        behind = g.behind ∙ behind-more m p x q e;
        stored = g.stored ∙ rw (one-more m p x q e, add-one n) refl;
      }

      module _ (g : Going f at room n m p after) (d : Ended f m p) (e : ℕ) where
        in-room : after ≡ sets room 0 (all_by f (length room) at)
        in-room = sym (g.stored ∙ rw d.none refl)

        how-many : length (all_by f (length room) at) ≡ n
        how-many = omega (arith, g.many, ap length d.none)

        pub to-the-end : p ≡ e → TakenBy f e at room (Some n) after
        unfolding count_by
        to-the-end h = (rw (g.behind, d.here, eq-eqb p e h, how-many) refl, in-room)

        pub given-up : (p ≡ e → ⊥) → TakenBy f e at room None after
        unfolding count_by
        given-up h = (rw (g.behind, d.here, ne_eqb p e h) refl, in-room)

-- no number stands at the end of a line
pub number-ends : (s : List ℕ) → number_after s (length s) ≡ None
unfolding number_after
number-ends s =
    let e : get_or s (length s) 0 ≡ 0 = get_or-eq_default s 0 {n = length s} (omega arith) in
    rw e refl
