use Rattle.std.proofs.Common.{◌≡◌, ◌+◌, ◌*◌, drop}
use Rattle.std.proofs.lemmas.List.Edits.{sets}
use Rattle.text.specs.Hex.{hex_text}
use Rattle.text.proofs.hex.fill_hex.Given as goal

abbrev pub invariant-loop-j : goal.invariant-loop-j
invariant-loop-j l =
    sets l.initial.out l.at (hex_text l.bytes) ≡ sets l.out (l.at + 2 * l.j) (hex_text (drop l.j l.bytes))
