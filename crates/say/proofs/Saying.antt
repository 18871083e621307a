-- A text that is put, and texts that are said one after the other.
use Prim.Native.Nat.{ℕ, ◌+◌}
use mathlib.Core.Path.{◌≡◌, refl, sym, ap, ◌∙◌}
use mathlib.Core.List.{List, [], ◌∷◌, ◌++◌}
use mathlib.Core.Bool.{Bool, true, false}
use lib.ListN.{length}
use Rattle.whole.specs.Choice.{pick}
use Rattle.std.specs.Prelude.{Option, Some, None}
use Rattle.std.specs.Option.{unwrap_or}
use Rattle.text.specs.Room.{fits_at, put_bytes, put_answer}
use Rattle.say.specs.declared.Page.{Page}
use Rattle.say.specs.Said.{next, output, place, Says, Puts}

by-test : (t : Bool) (e at : ℕ) → unwrap_or (pick t (Some e) None) at ≡ pick t e at
by-test true e at = refl
by-test false e at = refl

-- the place after a text that was put, or the place where it had no room
pub put_next : (out : List ℕ) (at : ℕ) (t : List ℕ) → unwrap_or (put_answer out at t) at ≡ next out at t
unfolding put_answer next
put_next out at t = by-test (fits_at out at t) (at + length t) at

says-one : (out : List ℕ) (at : ℕ) (t left : List ℕ) (p : Option ℕ) (end : ℕ) → p ≡ put_answer out at t → left ≡ put_bytes out at t → end ≡ unwrap_or p at → Says (t ∷ []) out at left end
unfolding output place
says-one out at t left p end e f g = record { leaves = f; ends = g ∙ ap (λ (q : Option ℕ). unwrap_or q at) e ∙ put_next out at t }

-- one text on a page, by what putting it answered
pub puts-one : {before after : Page} (t : List ℕ) (p : Option ℕ) → p ≡ put_answer before.bytes.now before.made t → after.bytes.now ≡ put_bytes before.bytes.now before.made t → after.made ≡ unwrap_or p before.made → after.bytes.ghost_name ≡ before.bytes.ghost_name → Puts (t ∷ []) before after
puts-one {before} {after} t p e f g h = record { says = says-one before.bytes.now before.made t after.bytes.now p after.made e f g; same = h }

pub nothing : (p : Page) → Puts [] p p
unfolding output place
nothing p = record { says = record { leaves = refl; ends = refl }; same = refl }

-- the bytes that were lent, when the page is done with
pub done : {ts : List (List ℕ)} {out l k : List ℕ} {at e : ℕ} → Says ts out at l e → k ≡ l → Says ts out at k e
done p h = record { leaves = h ∙ p.leaves; ends = p.ends }

output-append : (ts us : List (List ℕ)) (out : List ℕ) (at : ℕ) → output (ts ++ us) out at ≡ output us (output ts out at) (place ts out at)
unfolding output place
output-append [] us out at = refl
output-append (t ∷ ts) us out at = output-append ts us (put_bytes out at t) (next out at t)

place-append : (ts us : List (List ℕ)) (out : List ℕ) (at : ℕ) → place (ts ++ us) out at ≡ place us (output ts out at) (place ts out at)
unfolding output place
place-append [] us out at = refl
place-append (t ∷ ts) us out at = place-append ts us (put_bytes out at t) (next out at t)

says-then : {ts us : List (List ℕ)} {out mid left : List ℕ} {at e end : ℕ} → Says ts out at mid e → Says us mid e left end → Says (ts ++ us) out at left end
says-then {ts} {us} {out} {at} p q = record {
  leaves = q.leaves ∙ rw (p.leaves, p.ends) (sym (output-append ts us out at));
  ends = q.ends ∙ rw (p.leaves, p.ends) (sym (place-append ts us out at));
}

-- texts, and then more of them
infixr 5 ◌and_then◌
pub ◌and_then◌ : {ts us : List (List ℕ)} {a b c : Page} → Puts ts a b → Puts us b c → Puts (ts ++ us) a c
◌and_then◌ p q = record { says = says-then p.says q.says; same = q.same ∙ p.same }
