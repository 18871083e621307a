-- The names by numbers: a word of at most sixteen bytes is known by two (`word-one` of `text`).
use Rattle.std.specs.Prelude.{ℕ, Bool, ◌&&◌, List, [], ◌∷◌, Option, Some, None, eqb}
use Prim.Native.String.{String}
use Rattle.whole.specs.Choice.{pick}
use Rattle.text.specs.Ascii.{ascii}
use Rattle.text.specs.Word.{first_code, second_code}
use Rattle.question.specs.declared.names.Name.{Name}
use Rattle.question.specs.Names.{Row, rows}

-- whether two numbers of a word are those of a name
abbrev pub codes : String → ℕ → ℕ → Bool
codes n first second = eqb second (second_code (ascii n)) && eqb first (first_code (ascii n))

unfoldable pub coded_in : List Row → ℕ → ℕ → Option Name
coded_in [] first second = None
coded_in (r ∷ rs) first second = pick (codes r.text first second) (Some r.value) (coded_in rs first second)

-- the name of the first row that has these numbers
unfoldable pub name_by_codes : ℕ → ℕ → Option Name
name_by_codes = coded_in rows
