-- What a reader of the code answers, beside the reader of the grammar.
use Rattle.std.specs.Prelude.{◌≡◌, Bool, true, false, List, Option, Some, None, Result, Ok, Err}
use Rattle.std.specs.Borrow.{Bor}
use Rattle.ccsl_lex.specs.declared.token.Token.{Token}
use Rattle.ccsl_grammar.specs.Terminals.{Terminal, terminals}
use Rattle.ccsl_grammar.specs.Reader.{Reader, Reply, took, stopped, no_syntax, too_deep, begins}
use Rattle.ccsl_parse.specs.declared.stop.Stop.{Stop}
use Rattle.ccsl_parse.specs.declared.stop.Stop.TheVariants.{Memory, Syntax, TooDeep}

-- the reply is where the code stopped, unless memory ran out
abbrev pub Fails : {Y : Type 0} → Stop → Reply Y → Type 0
Fails Memory reply = Unit {0}
Fails (Syntax rest) reply = reply ≡ stopped no_syntax (terminals rest.now)
Fails (TooDeep rest) reply = reply ≡ stopped too_deep (terminals rest.now)

-- the code took what the reader of the grammar takes of the tokens, where plain gives its plain value, and left what that
-- leaves; or it stopped where that stops, unless memory ran out
abbrev pub ReadsAs : {X Y : Type 0} → (X → Y) → Result (X × Bor (List Token)) Stop → Reader Y → List Token → Type 0
ReadsAs plain (Ok x) reader tokens = reader (terminals tokens) ≡ took (plain x.0) (terminals x.1.now)
ReadsAs plain (Err e) reader tokens = Fails e (reader (terminals tokens))

-- where what is read is its own plain value
abbrev pub Reads : {X : Type 0} → Result (X × Bor (List Token)) Stop → Reader X → List Token → Type 0
Reads result reader tokens = ReadsAs (λ x. x) result reader tokens

-- the code went on behind what the reader of the grammar takes, or stopped where that stops, unless memory ran out
abbrev pub Skips : {Y : Type 0} → Result (Bor (List Token)) Stop → Reader Y → Y → List Token → Type 0
Skips (Ok rest) reader value tokens = reader (terminals tokens) ≡ took value (terminals rest.now)
Skips (Err e) reader value tokens = Fails e (reader (terminals tokens))

-- the next token passes the test, and the code went on behind what the reader of the grammar takes; or it does not pass
abbrev pub Passes : {Y : Type 0} → Option (Bor (List Token)) → (Terminal → Bool) → Reader Y → Y → List Token → Type 0
Passes (Some rest) test reader value tokens =
    (begins test (terminals tokens) ≡ true) × (reader (terminals tokens) ≡ took value (terminals rest.now))
Passes None test reader value tokens = begins test (terminals tokens) ≡ false

-- the next token passes the test, and the code took what the reader of the grammar takes; or it does not pass
abbrev pub Finds : {X Y : Type 0} → (X → Y) → Option (X × Bor (List Token)) → (Terminal → Bool) → Reader Y → List Token → Type 0
Finds plain (Some x) test reader tokens =
    (begins test (terminals tokens) ≡ true) × (reader (terminals tokens) ≡ took (plain x.0) (terminals x.1.now))
Finds plain None test reader tokens = begins test (terminals tokens) ≡ false

-- where the next token passes the test, the code reads as the reader of the grammar; else it reads nothing
abbrev pub ReadsWhere : {X Y : Type 0} → (X → Y) → Result (Option (X × Bor (List Token))) Stop → (Terminal → Bool) → Reader Y → List Token → Type 0
ReadsWhere plain (Ok found) test reader tokens = Finds plain found test reader tokens
ReadsWhere plain (Err e) test reader tokens = (begins test (terminals tokens) ≡ true) × Fails e (reader (terminals tokens))
