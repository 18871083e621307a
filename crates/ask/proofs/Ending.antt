-- Where the last line end of a text stands, and what is left after it.
use Rattle.std.proofs.Common.{◌≡◌, ◌≢◌, ℕ, ◌+◌, ◌-◌, ◌<◌, ◌≤◌, ◌==◌, Bool, false, cond, eqb, not, List, ◌++◌, reverse, length, get_or, take, drop, sym, ap, ◌∙◌, arith, length-drop, take-append-drop}
use Rattle.std.proofs.Math.Seq.{take-append-add}
use Rattle.std.specs.List.{copy_within, prefix_len, suffix_len}
use Rattle.std.proofs.lemmas.Bool.{eq-eqb, ne_eqb, not_from_true, not_from_false}
use Rattle.std.proofs.lemmas.Bool.Decides.{nat_tests}
use Rattle.std.proofs.lemmas.List.{drop-drop, drop-take, length-take-le, reverse-append, take-append-le, take_all}
use Rattle.std.proofs.lemmas.List.Edits.{take-paste}
use Rattle.std.proofs.lemmas.List.Folds.{prefix_len-append}
use Rattle.std.proofs.lemmas.List.Sums.{suffix_len_is, suffix_len-take_no, suffix_len-le-length}
use Rattle.ask.specs.Unfinished.{unfinished}

-- no line end stands from a place on
abbrev pub NoneFrom : List ℕ → ℕ → Type 0
NoneFrom s i = (k : ℕ) → i ≤ k → k < length s → get_or s k 0 ≢ 10

-- the bytes that are no line end
abbrev inner : ℕ → Bool
inner b = not (b == 10)

pub unfinished-none : (s : List ℕ) → NoneFrom s 0 → unfinished s ≡ s
unfolding unfinished
unfinished-none s none =
    let tail = suffix_len_is inner s 0 0 (omega arith) (λ k from within. not_from_false _ (ne_eqb _ 10 (none k from within))) (λ h. absurd (omega arith)) in
    let at : length s - suffix_len inner s ≡ 0 = omega arith in
    ap (λ k. drop k s) at

-- what stands after a place, moved to the start
pub moved-first : (s t : List ℕ) (i end n : ℕ) → i < end → end ≤ length s → t ≡ copy_within s (i + 1) end 0 → n ≡ end - i - 1 → take n t ≡ drop (i + 1) (take end s)
moved-first s t i end n inside within moved count =
    let rest = drop (i + 1) s in
    let size = length-drop (i + 1) s in
    let same : n ≡ 0 + (end - (i + 1)) = omega arith in
    let all : i + 1 + (end - (i + 1)) ≡ end = omega arith in
    rw (moved, same) (take-paste s 0 rest (end - (i + 1)) (omega arith) (omega arith) ∙ sym (drop-take (i + 1) (end - (i + 1)) s) ∙ ap (λ k. drop (i + 1) (take k s)) all)

-- a line end, perhaps not the last
module _ (s : List ℕ) (i : ℕ) (inside : i < length s) (here : get_or s i 0 ≡ 10) where
  ends : inner (get_or s (i + 1 - 1) 0) ≡ false
  ends =
      let at : i + 1 - 1 ≡ i = omega arith in
      not_from_true _ (eq-eqb _ 10 (ap (λ k. get_or s k 0) at ∙ here))

  -- it cuts off what stands before it
  pub unfinished-drop : unfinished (drop (i + 1) s) ≡ unfinished s
  unfolding unfinished
  unfinished-drop =
      let d = drop (i + 1) s in
      let t = take (i + 1) s in
      let none = suffix_len-take_no inner s (i + 1) 0 (omega arith) (omega arith) ends in
      let parts = ap (suffix_len inner) (sym (take-append-drop (i + 1) s)) ∙ ap (prefix_len inner) (reverse-append t d) ∙ prefix_len-append inner (reverse d) (reverse t) in
      let same : suffix_len inner s ≡ suffix_len inner d = whole (suffix_len inner s) (suffix_len inner d) (length (reverse d)) (suffix_len inner t) none parts in
      let at : i + 1 + (length d - suffix_len inner d) ≡ length s - suffix_len inner s = omega (arith, length-drop (i + 1) s, suffix_len-le-length inner d) in
      drop-drop (length d - suffix_len inner d) (i + 1) s ∙ ap (λ k. drop k s) at
    where
      whole : (n m l k : ℕ) → k ≡ 0 → n ≡ cond (eqb m l) (l + k) m → n ≡ m
      whole n m l k none parts = grind (arith, nat_tests)

  pub unfinished-fewer : length (unfinished s) < length s
  unfolding unfinished
  unfinished-fewer =
      let d = drop (i + 1) s in
      omega (arith, ap length unfinished-drop, length-drop (length d - suffix_len inner d) d, length-drop (i + 1) s)

  -- it is the last
  module _ (after : NoneFrom s (i + 1)) where
    unfinished-at : unfinished s ≡ drop (i + 1) s
    unfolding unfinished
    unfinished-at =
        let tail = suffix_len_is inner s (i + 1) 0 (omega arith) (λ k from within. not_from_false _ (ne_eqb _ 10 (after k from within))) (λ h. ends) in
        let at : length s - suffix_len inner s ≡ i + 1 = omega arith in
        ap (λ k. drop k s) at

    pub left-count : (n : ℕ) → n ≡ length s - i - 1 → n ≡ length (unfinished s)
    left-count n count = rw unfinished-at (omega (arith, length-drop (i + 1) s))

    pub left-first : (t : List ℕ) (n : ℕ) → t ≡ copy_within s (i + 1) (length s) 0 → n ≡ length s - i - 1 → take n t ≡ unfinished s
    left-first t n moved count = moved-first s t i (length s) n inside (omega arith) moved count ∙ ap (drop (i + 1)) (take_all (length s) s (omega arith)) ∙ sym unfinished-at

-- bytes that wait, and those read after them
pub read-after : (s room rest : List ℕ) (h n : ℕ) → h ≤ length s → n ≤ length room → take (h + n) (take h s ++ (room ++ rest)) ≡ take h s ++ take n room
read-after s room rest h n within few =
    ap (λ k. take (k + n) (take h s ++ (room ++ rest))) (sym (length-take-le h s within)) ∙ take-append-add (take h s) (room ++ rest) n ∙ ap (λ l. take h s ++ l) (take-append-le n room rest few)
