use Rattle.std.proofs.Common.{◌≡◌, ◌+◌, ◌*◌, length, drop}
use Rattle.std.proofs.lemmas.List.Edits.{sets}
use Rattle.text.specs.Hex.{hex_bytes}
use Rattle.text.proofs.hex.fill_bytes.Given as goal

abbrev pub invariant-loop-j : goal.invariant-loop-j
invariant-loop-j l =
    (length (hex_bytes l.s) ≡ l.j + length (hex_bytes (drop (2 * l.j) l.s)))
    × (sets l.initial.out 0 (hex_bytes l.s) ≡ sets l.out l.j (hex_bytes (drop (2 * l.j) l.s)))
