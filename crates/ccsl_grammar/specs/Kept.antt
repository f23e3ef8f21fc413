-- What the terminals of tokens keep: names are names of the grammar, numbers are below 2 ^ 32, quoted texts can be quoted.
use Rattle.std.specs.Prelude.{Bool, true, List}
use Rattle.std.specs.List.{list_all}
use Rattle.ccsl_ast.specs.Kept.{spot_kept, number_kept, text_kept}
use Rattle.ccsl_grammar.specs.Terminals.{Terminal, name, number, quoted}

abbrev pub terminal_kept : Terminal → Bool
terminal_kept (name x) = spot_kept x
terminal_kept (number at n) = number_kept n
terminal_kept (quoted at bytes) = text_kept bytes
terminal_kept _ = true

abbrev pub kept : List Terminal → Bool
kept ts = list_all terminal_kept ts
