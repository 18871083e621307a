-- The names that questions are made of, and the name that a word is.
use Rattle.std.specs.Prelude.{ℕ, List, [], ◌∷◌, Option, Some, None}
use Prim.Native.String.{String}
use Rattle.whole.specs.Choice.{pick}
use Rattle.sign.specs.declared.Sign.TheVariants as sign
use Rattle.question.specs.Taken.{is}
use Rattle.question.specs.declared.names.Name.{Name}
use Rattle.question.specs.declared.names.Name.TheVariants.{At, Congruence, Interval, Mended, Number, Sheet, Sign, Transfer, Binary, Unary, Check, Read, Run, Write, Add, Bottom, Disjoint, Div, Equals, From, Greater, GreaterOrEqual, Join, Less, LessOrEqual, LogicalAnd, LogicalEq, LogicalNot, LogicalOr, MayEqualWhen, MaybeLeWhen, MaybeLessWhen, Meet, Mul, Narrow, Neg, OfInterval, OfNumber, OfSign, PartialCmp, Rem, Singleton, Smaller, StrictCmp, Sub, Top, WeakCmp, Widen, True, False, Signed}

pub record Row : Type 0 where
  pub text : String
  pub value : Name

abbrev row : String → Name → Row
row t v = record { text = t; value = v }

abbrev pub rows : List Row
rows =
    row "at" At ∷
    row "congruence" Congruence ∷
    row "interval" Interval ∷
    row "mended" Mended ∷
    row "number" Number ∷
    row "sheet" Sheet ∷
    row "sign" Sign ∷
    row "transfer" Transfer ∷
    row "binary" Binary ∷
    row "unary" Unary ∷
    row "check" Check ∷
    row "read" Read ∷
    row "run" Run ∷
    row "write" Write ∷
    row "add" Add ∷
    row "bottom" Bottom ∷
    row "disjoint" Disjoint ∷
    row "div" Div ∷
    row "equals" Equals ∷
    row "from" From ∷
    row "greater" Greater ∷
    row "greater_or_equal" GreaterOrEqual ∷
    row "join" Join ∷
    row "less" Less ∷
    row "less_or_equal" LessOrEqual ∷
    row "logical_and" LogicalAnd ∷
    row "logical_eq" LogicalEq ∷
    row "logical_not" LogicalNot ∷
    row "logical_or" LogicalOr ∷
    row "may_equal_when" MayEqualWhen ∷
    row "maybe_le_when" MaybeLeWhen ∷
    row "maybe_less_when" MaybeLessWhen ∷
    row "meet" Meet ∷
    row "mul" Mul ∷
    row "narrow" Narrow ∷
    row "neg" Neg ∷
    row "of_interval" OfInterval ∷
    row "of_number" OfNumber ∷
    row "of_sign" OfSign ∷
    row "partial_cmp" PartialCmp ∷
    row "rem" Rem ∷
    row "singleton" Singleton ∷
    row "smaller" Smaller ∷
    row "strict_cmp" StrictCmp ∷
    row "sub" Sub ∷
    row "top" Top ∷
    row "weak_cmp" WeakCmp ∷
    row "widen" Widen ∷
    row "true" True ∷
    row "false" False ∷
    row "Top" (Signed sign.Top) ∷
    row "Bottom" (Signed sign.Bottom) ∷
    row "Negative" (Signed sign.Negative) ∷
    row "Zero" (Signed sign.Zero) ∷
    row "Positive" (Signed sign.Positive) ∷
    row "NonNeg" (Signed sign.NonNeg) ∷
    row "NonZero" (Signed sign.NonZero) ∷
    row "NonPos" (Signed sign.NonPos) ∷
    []

-- the name of the first row that has the word for its text
unfoldable pub name_in : List Row → List ℕ → Option Name
name_in [] w = None
name_in (r ∷ rs) w = pick (is r.text w) (Some r.value) (name_in rs w)

unfoldable pub name_of : List ℕ → Option Name
name_of = name_in rows
