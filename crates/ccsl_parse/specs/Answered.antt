-- What the parser's answer says of the tokens.
use Rattle.std.specs.Prelude.{List}
use Rattle.ccsl_base.specs.declared.limits.TheConstants.{MAX_LEVELS}
use Rattle.ccsl_lex.specs.declared.token.Token.{Token}
use Rattle.ccsl_grammar.specs.Faults.{SyntaxAt, TooDeepAt}
use Rattle.ccsl_parse.specs.declared.fault.ParseFault.{ParseFault}
use Rattle.ccsl_parse.specs.declared.fault.ParseFault.TheVariants.{Syntax, TooDeep, Memory}

-- the fault stands in the tokens
abbrev pub StandsIn : ParseFault → List Token → Type 0
StandsIn (Syntax at) ts = SyntaxAt MAX_LEVELS ts at
StandsIn (TooDeep at) ts = TooDeepAt MAX_LEVELS ts at
StandsIn Memory ts = Unit {0}
