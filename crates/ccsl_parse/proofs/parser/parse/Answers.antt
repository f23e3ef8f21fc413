use Rattle.std.proofs.Common.{inl, rules}
use Rattle.ccsl_base.specs.declared.limits.TheConstants.{MAX_LEVELS}
use Rattle.ccsl_ast.specs.Plain.{plain_parts}
use Rattle.ccsl_grammar.specs.Terminals.{terminals}
use Rattle.ccsl_grammar.specs.Reader.{took}
use Rattle.ccsl_grammar.proofs.Parsed.{parsed_keeps, parsed_depth}
use Rattle.ccsl_parse.proofs.Places.{said, one_file, tree_or_syntax, tree_or_too_deep, fault_tree, fault_syntax, fault_too_deep}
use Rattle.ccsl_parse.proofs.parser.parse.Goals as goal

pub invariant_of-result : goal.invariant_of-result
invariant_of-result c =
    let file = plain_parts c.in-Ok.parts.version c.in-Ok.parts.definitions c.in-Ok.parts.lines in
    let parsed = (said c.args.tokens.now (took file (terminals c.in-Ok.field-0-1.now)) c.in-Ok.ensures).0 in
    record { kept = parsed_keeps MAX_LEVELS c.args.tokens.now file parsed; depth = parsed_depth MAX_LEVELS (terminals c.args.tokens.now) file parsed }

pub returns-in-Ok-clause-tree : goal.returns-in-Ok-clause-tree
returns-in-Ok-clause-tree c =
    (said c.args.tokens.now (took (plain_parts c.in-Ok.parts.version c.in-Ok.parts.definitions c.in-Ok.parts.lines) (terminals c.in-Ok.field-0-1.now))
    c.in-Ok.ensures).0

pub returns-in-Ok-clause-each_tree : goal.returns-in-Ok-clause-each_tree
returns-in-Ok-clause-each_tree c =
    let file = plain_parts c.in-Ok.parts.version c.in-Ok.parts.definitions c.in-Ok.parts.lines in
    λ f p. inl (one_file c.args.tokens.now file f (said c.args.tokens.now (took file (terminals c.in-Ok.field-0-1.now)) c.in-Ok.ensures).0 p)

pub returns-in-Ok-clause-each_syntax : goal.returns-in-Ok-clause-each_syntax
returns-in-Ok-clause-each_syntax c =
    let file = plain_parts c.in-Ok.parts.version c.in-Ok.parts.definitions c.in-Ok.parts.lines in
    λ at s. absurd (tree_or_syntax c.args.tokens.now file at (said c.args.tokens.now (took file (terminals c.in-Ok.field-0-1.now)) c.in-Ok.ensures).0 s)

pub returns-in-Ok-clause-each_too_deep : goal.returns-in-Ok-clause-each_too_deep
returns-in-Ok-clause-each_too_deep c =
    let file = plain_parts c.in-Ok.parts.version c.in-Ok.parts.definitions c.in-Ok.parts.lines in
    λ at s. absurd (tree_or_too_deep c.args.tokens.now file at (said c.args.tokens.now (took file (terminals c.in-Ok.field-0-1.now)) c.in-Ok.ensures).0 s)

pub returns-in-Err-clause-each_tree : goal.returns-in-Err-clause-each_tree
returns-in-Err-clause-each_tree c = fault_tree c.args.tokens.now c.fault.result c.fault.ensures

pub returns-in-Err-clause-each_syntax : goal.returns-in-Err-clause-each_syntax
returns-in-Err-clause-each_syntax c = fault_syntax c.args.tokens.now c.fault.result c.fault.ensures

pub returns-in-Err-clause-each_too_deep : goal.returns-in-Err-clause-each_too_deep
returns-in-Err-clause-each_too_deep c = fault_too_deep c.args.tokens.now c.fault.result c.fault.ensures

pub fault-requires : goal.fault-requires
fault-requires c = search rules
