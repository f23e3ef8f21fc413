-- Which terminal stands there: the tests by which readers choose.
use Rattle.std.specs.Prelude.{ℕ, Bool, true, false, nat_eq}
use Rattle.ccsl_lex.specs.declared.token.TokenKind.TheVariants.{Word}
use Rattle.ccsl_base.specs.declared.reserved.Reserved.{Reserved}
use Rattle.ccsl_base.specs.declared.reserved.Reserved.TheVariants as w
use Rattle.ccsl_grammar.specs.Terminals.{Terminal, word, symbol, name, quoted}

-- which of the reserved words it is
abbrev pub number_of : Reserved → ℕ
number_of w.Ccsl = 0
number_of w.Relation = 1
number_of w.Expression = 2
number_of w.And = 3
number_of w.System = 4
number_of w.Clock = 5
number_of w.Number = 6
number_of w.Word = 7
number_of w.Define = 8
number_of w.If = 9
number_of w.Use = 10
number_of w.Else = 11
number_of w.Never = 12
number_of w.Union = 13
number_of w.Inter = 14
number_of w.Minus = 15
number_of w.Inf = 16
number_of w.Sup = 17
number_of w.Delay = 18
number_of w.Await = 19
number_of w.Filter = 20
number_of w.Upto = 21
number_of w.Sampled = 22
number_of w.Weakly = 23
number_of w.On = 24
number_of w.Delayed = 25
number_of w.Then = 26
number_of w.Tail = 27
number_of w.Head = 28
number_of w.Ended = 29
number_of w.Subclock = 30
number_of w.Coincides = 31
number_of w.Excludes = 32
number_of w.Precedes = 33
number_of w.Within = 34
number_of w.From = 35

abbrev pub same_word : Reserved → Reserved → Bool
same_word v w = nat_eq (number_of v) (number_of w)

abbrev pub is_word : Reserved → Terminal → Bool
is_word w (word v) = same_word v w
is_word w _ = false

abbrev pub is_symbol : ℕ → Terminal → Bool
is_symbol b (symbol c) = nat_eq c b
is_symbol b _ = false

abbrev pub is_name : Terminal → Bool
is_name (name x) = true
is_name _ = false

abbrev pub is_quoted : Terminal → Bool
is_quoted (quoted at bytes) = true
is_quoted _ = false
