-- The rows of the table as those of unary and of binary operators, and the connectives by which binary ones join formulas.
use Rattle.std.specs.Prelude.{ℕ, List, Bool, false, not, ◌&&◌, ◌||◌, nat_lt, if◌then◌else◌}
use Rattle.ccsl_formula.specs.Formula.{Formula, FFalse, FNot, FAnd, FOr}
use Rattle.ccsl_words.specs.Word.{BinaryWord}
use Rattle.ccsl_plain.specs.declared.operator.Unary.{Unary}
use Rattle.ccsl_plain.specs.declared.operator.Unary.TheVariants as unary
use Rattle.ccsl_plain.specs.declared.operator.Binary.{Binary}
use Rattle.ccsl_plain.specs.declared.operator.Binary.TheVariants as binary
use Rattle.ccsl_plain.specs.declared.operator.Connective.{Connective}
use Rattle.ccsl_plain.specs.declared.operator.Connective.TheVariants.{Left, Right, False, Or, And, RightAndLeft, AndNot}
use Rattle.ccsl_kernel.specs.Actuals.{word_of}
use Rattle.ccsl_kernel.specs.Table.{Now, Operand, union_row, inter_row, minus_row, inf_row, sup_row, upto_row, upto_weakly_row, sampled_row, sampled_weakly_row}
use Rattle.ccsl_kernel.specs.Table.{delay_row, await_row, filter_row, delayed_row}

abbrev pub unary_row : List BinaryWord → Unary → Operand → Now
unary_row words (unary.Delay m) = delay_row m
unary_row words (unary.Await m) = await_row m
unary_row words (unary.Filter w o) = filter_row (word_of words w) o

abbrev pub binary_row : Binary → Operand → Operand → Now
binary_row binary.Union = union_row
binary_row binary.Inter = inter_row
binary_row binary.Minus = minus_row
binary_row binary.Inf = inf_row
binary_row binary.Sup = sup_row
binary_row binary.Upto = upto_row
binary_row binary.UptoWeakly = upto_weakly_row
binary_row binary.Sampled = sampled_row
binary_row binary.SampledWeakly = sampled_weakly_row
binary_row (binary.Delayed m) = delayed_row m

abbrev pub connected : Connective → Formula → Formula → Formula
connected Left f g = f
connected Right f g = g
connected False f g = FFalse
connected Or f g = FOr f g
connected And f g = FAnd f g
connected RightAndLeft f g = FAnd g f
connected AndNot f g = FAnd f (FNot g)

-- whether that formula holds, where f and g do or not
abbrev pub joined_ticks : Connective → Bool → Bool → Bool
joined_ticks Left x y = x
joined_ticks Right x y = y
joined_ticks False x y = false
joined_ticks Or x y = x || y
joined_ticks And x y = x && y
joined_ticks RightAndLeft x y = y && x
joined_ticks AndNot x y = x && not y

-- the left operand where m is more than n, the right one where it is less
abbrev pub ahead : ℕ → ℕ → Connective → Connective
ahead m n level = if nat_lt n m then Left else if nat_lt m n then Right else level
