-- The reserved words of the text language, which is this project's own, and their spellings.
use Rattle.std.specs.Prelude.{ℕ, List, [], ◌∷◌, Option, codes}
use Rattle.std.specs.List.{find}
use Rattle.std.specs.Str.{bytes_eq}
use Rattle.ccsl_base.specs.declared.reserved.Reserved.{Reserved}
use Rattle.ccsl_base.specs.declared.reserved.Reserved.TheVariants as w

abbrev pub spelling : Reserved → List ℕ
spelling w.Ccsl = codes "ccsl"
spelling w.Relation = codes "relation"
spelling w.Expression = codes "expression"
spelling w.And = codes "and"
spelling w.System = codes "system"
spelling w.Clock = codes "clock"
spelling w.Number = codes "number"
spelling w.Word = codes "word"
spelling w.Define = codes "define"
spelling w.If = codes "if"
spelling w.Use = codes "use"
spelling w.Else = codes "else"
spelling w.Never = codes "never"
spelling w.Union = codes "union"
spelling w.Inter = codes "inter"
spelling w.Minus = codes "minus"
spelling w.Inf = codes "inf"
spelling w.Sup = codes "sup"
spelling w.Delay = codes "delay"
spelling w.Await = codes "await"
spelling w.Filter = codes "filter"
spelling w.Upto = codes "upto"
spelling w.Sampled = codes "sampled"
spelling w.Weakly = codes "weakly"
spelling w.On = codes "on"
spelling w.Delayed = codes "delayed"
spelling w.Then = codes "then"
spelling w.Tail = codes "tail"
spelling w.Head = codes "head"
spelling w.Ended = codes "ended"
spelling w.Subclock = codes "subclock"
spelling w.Coincides = codes "coincides"
spelling w.Excludes = codes "excludes"
spelling w.Precedes = codes "precedes"
spelling w.Within = codes "within"
spelling w.From = codes "from"

abbrev pub all_words : List Reserved
all_words =
    w.Ccsl ∷ w.Relation ∷ w.Expression ∷ w.And ∷ w.System ∷ w.Clock ∷ w.Number
    ∷ w.Word ∷ w.Define ∷ w.If ∷ w.Use ∷ w.Else ∷ w.Never ∷ w.Union
    ∷ w.Inter ∷ w.Minus ∷ w.Inf ∷ w.Sup ∷ w.Delay ∷ w.Await ∷ w.Filter
    ∷ w.Upto ∷ w.Sampled ∷ w.Weakly ∷ w.On ∷ w.Delayed ∷ w.Then ∷ w.Tail
    ∷ w.Head ∷ w.Ended ∷ w.Subclock ∷ w.Coincides ∷ w.Excludes ∷ w.Precedes ∷ w.Within
    ∷ w.From ∷ []

-- the reserved word that is spelled so
unfoldable pub reserved : List ℕ → Option Reserved
reserved bytes = find (λ word. bytes_eq bytes (spelling word)) all_words
