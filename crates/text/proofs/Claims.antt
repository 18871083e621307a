-- Reading what was written gives it back, wherever it stands in a longer text.
use Prim.Native.Nat.{ℕ, ◌+◌, ◌≤◌, ◌<◌}
use mathlib.Core.Path.{◌≡◌, refl, sym, ap, ◌∙◌}
use mathlib.Core.List.{List, ◌++◌, append_assoc, append-nil}
use mathlib.Core.Bool.{true}
use native.Mathlib.Omega.{arith}
use lib.IntN.{ℤ}
use lib.ListN.{length, get_or, take, drop, length-drop}
use lib.Seq.{drop-append_seam, drop_at, take_at, length-take-le, sets, sets-eq}
use mir.Syntax.{Width, w64}
use mir.Val.{SFits}
use borrow.Author.Tests.{le-leb}
use Rattle.std.specs.Prelude.{Some}
use Rattle.std.proofs.lemmas.List.{get_or-drop}
use Rattle.std.proofs.lemmas.Option.{some_pair_parts}
use Rattle.text.specs.Room.{put_bytes}
use Rattle.text.specs.Decimal.{decimal}
use Rattle.text.specs.Number.{NoDigit, number_at}
use Rattle.text.specs.End.{end_text}
use Rattle.text.specs.Hex.{NoNibble, hex_text, hex_bytes}
use Rattle.text.specs.Word.{Letters, NoLetter, begins, word_of, first_code, second_code}
use Rattle.text.proofs.Back.{there, alone}
use Rattle.text.proofs.Ends.{end_of, same_end}
use Rattle.text.proofs.Pairs.{bytes-of-text, none_here}
use Rattle.text.proofs.Words.{letters-alone, letters-of-word, begins-word, word-begins}
use Rattle.text.proofs.Codes.{bytes_of, same_word}

-- ---- decimal

pub decimal-back : (before after : List ℕ) (z : ℤ) → SFits w64 z → NoDigit after
    → number_at (before ++ (decimal z ++ after)) (length before) ≡ Some (z, length before + length (decimal z))
decimal-back before after z f end = there (before ++ (decimal z ++ after)) after (length before) z f end (drop-append_seam before (decimal z ++ after))

-- the same of a lent buffer
pub decimal-put-back : (out : List ℕ) (at : ℕ) (z : ℤ) → SFits w64 z → at + length (decimal z) ≤ length out → NoDigit (drop (at + length (decimal z)) out)
    → number_at (put_bytes out at (decimal z)) at ≡ Some (z, at + length (decimal z))
unfolding put_bytes
decimal-put-back out at z f h end =
    let l : at ≤ length out = omega arith in
    let a : length (take at out) ≡ at = length-take-le at out l in
    rw (le-leb (at + length (decimal z)) (length out) h)
    (there (sets out at (decimal z)) (drop (at + length (decimal z)) out) at z f end
    (ap (drop at) (sets-eq (decimal z) out at h ∙ append_assoc (take at out) (decimal z) (drop (at + length (decimal z)) out)) ∙ drop_at (take at out) (decimal z ++ drop (at + length (decimal z)) out) at a))

pub decimal-one : (x y : ℤ) → SFits w64 x → SFits w64 y → decimal x ≡ decimal y → x ≡ y
decimal-one x y f g e =
    let a = alone x f in
    let b = alone y g in
    (some_pair_parts x y _ _ (sym a ∙ ap (λ (t : List ℕ). number_at t 0) e ∙ b)).0

-- ---- the ends of a range: two ends with the same text are the same number

pub end-one : (w : Width) (x y : ℤ) → SFits w64 x → SFits w64 y → end_text w x ≡ end_text w y → x ≡ y
end-one w x y f g e = same_end f g (end_of w x) (end_of w y) e (decimal-one x y f g)

-- ---- hexadecimal

pub hex-back : (before after bs : List ℕ) → ((i : ℕ) → get_or bs i 0 < 256) → NoNibble after
    → hex_bytes (drop (length before) (before ++ (hex_text bs ++ after))) ≡ bs
hex-back before after bs f end =
    rw (drop-append_seam before (hex_text bs ++ after)) (bytes-of-text bs after f ∙ rw (none_here after end) (append-nil bs))

-- ---- words

pub word_back : (before after w : List ℕ) → Letters w → NoLetter after → word_of (before ++ (w ++ after)) (length before) ≡ w
unfolding word_of
word_back before after w l end =
    rw (drop-append_seam before (w ++ after), letters-of-word w after l end) (take_at w after (length w) refl)

-- the word at a place of bytes has letters alone
pub word-letters : (s : List ℕ) (at : ℕ) → ((i : ℕ) → i < length s → get_or s i 0 < 256) → Letters (word_of s at)
unfolding word_of
word-letters s at b = letters-alone (drop at s) (λ i h. let e : get_or (drop at s) i 0 ≡ get_or s (at + i) 0 = get_or-drop at s i 0 in rw e (b (at + i) (omega (arith, length-drop at s))))

-- a word of at most sixteen bytes is known by its two numbers
pub word-one : (w u : List ℕ) → Letters w → Letters u → length w ≤ 16 → length u ≤ 16 → first_code w ≡ first_code u → second_code w ≡ second_code u → w ≡ u
word-one w u a b = same_word w u (bytes_of w a) (bytes_of u b)

-- `begins` says that a word stands at the start
pub begins-exactly : (w xs : List ℕ) → ((r : List ℕ) → begins (w ++ r) w ≡ true) × (begins xs w ≡ true → xs ≡ w ++ drop (length w) xs)
begins-exactly w xs = (begins-word w, word-begins w xs)
