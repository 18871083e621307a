-- What is left of a text when its lines are answered.
use Rattle.std.specs.Prelude.{ℕ, List, ◌==◌}
use Rattle.std.specs.List.{after_last}

-- the bytes after the last line end, or all of them where there is none
unfoldable pub unfinished : List ℕ → List ℕ
unfinished text = after_last (λ byte. byte == 10) text
