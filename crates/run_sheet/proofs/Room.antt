-- How many bytes the text of a run takes, by its answer: at most 8,192.
use Prim.Native.Nat.{ℕ, ◌^◌, ◌≤◌, ◌<◌}
use mathlib.Core.Path.{◌≡◌, refl}
use mathlib.Core.List.{List, [], ◌∷◌, ◌++◌}
use native.Mathlib.Omega.{arith}
use lib.IntN.{ℤ}
use lib.ListN.{length}
use mir.Syntax.{w64}
use mir.Val.{SFits}
use Rattle.refusal.specs.declared.Refusal.{Refusal}
use Rattle.refusal.specs.Number.{number_of}
use Rattle.refusal.proofs.Claims.{number-range}
use Rattle.text.specs.Ascii.{ascii}
use Rattle.text.specs.Decimal.{digits}
use Rattle.text.proofs.Width.{tens, digits-below, decimal-below}
use Rattle.say.specs.Said.{size}
use Rattle.say.specs.Texts.{numbered, refusal_text, place_line, count_line}
use Rattle.say.proofs.Sizes.{size-append}
use Rattle.run_sheet.specs.Text.{step_line}

pub line-size : (k : ℕ) (n : ℤ) → k < 256 → SFits w64 n → size (step_line k n) ≤ 25
line-size k n h f = omega (arith, digits-below 2 k (omega arith), decimal-below n f)

number_size : (why : Refusal) → length (digits (number_of why)) ≤ 2
number_size why = digits-below 1 (number_of why) (omega (arith, number-range why))

-- the lines of n numbers, and the last one
module _ (n : ℕ) (few : n ≤ 256) (ns : List ℤ) (count : length ns ≡ n) (lines : length ns ≤ 256 → size (numbered step_line 0 ns) ≤ 6400) where
  pub ended-size : size (numbered step_line 0 ns ++ count_line (ascii "ended ") n) ≤ 8192
  ended-size = omega (arith, size-append (numbered step_line 0 ns) (count_line (ascii "ended ") n), lines (omega arith), digits-below 2 n (omega arith))

  pub stopped-size : (why : Refusal) → size (numbered step_line 0 ns ++ place_line (ascii "stopped at step ") n (number_of why)) ≤ 8192
  stopped-size why =
      omega (arith, size-append (numbered step_line 0 ns) (place_line (ascii "stopped at step ") n (number_of why)), lines (omega arith), digits-below 2 n (omega arith), number_size why)

-- one line alone
pub unread-size : (p : ℕ) (why : Refusal) → p < 2 ^ 64 → size (place_line (ascii "refused at byte ") p (number_of why)) ≤ 8192
unread-size p why h =
    let t : tens 19 ≡ 100000000000000000000 = refl in
    omega (arith, digits-below 19 p (omega (arith, t, h)), number_size why)

pub unsuited-size : (why : Refusal) → size (refusal_text (number_of why) ++ (ascii "\n" ∷ [])) ≤ 8192
unsuited-size why = omega (arith, number_size why)
