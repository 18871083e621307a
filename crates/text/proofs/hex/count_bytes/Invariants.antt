use Rattle.std.proofs.Common.{◌≡◌, ◌+◌, ◌*◌, length, drop}
use Rattle.text.specs.Hex.{hex_bytes}
use Rattle.text.proofs.hex.count_bytes.Given as goal

abbrev pub invariant-loop-n : goal.invariant-loop-n
invariant-loop-n l = length (hex_bytes l.s) ≡ l.n + length (hex_bytes (drop (2 * l.n) l.s))
