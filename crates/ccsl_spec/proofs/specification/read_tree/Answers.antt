use Rattle.std.proofs.Common.{rules}
use Rattle.ccsl_spec.specs.Found.{of_tokens, of_syntax}
use Rattle.ccsl_spec.proofs.Faults.{first-fault, no-tree}
use Rattle.ccsl_spec.proofs.specification.read_tree.Goals as goal

pub returns-in-Err : goal.returns-in-Err
returns-in-Err c =
    of_tokens c.in-Err.fault (first-fault c.in-Err.fault c.args.text.now c.in_ok-lexical_line-in-Err.ensures.cause c.in-Err.ensures.fault)
    c.in_ok-lexical_line-in-Err.ensures.line

pub returns : goal.returns
returns c =
    of_syntax c.in-Err-parse.fault
    (no-tree c.args.text.now c.in-Ok.tokens.items c.in-Err-parse.fault c.in_ok-syntax_line-in-Err-parse.ensures.cause c.in-Ok.ensures.tokens
    (rw c.as_slice.ensures.value at c.in-Err-parse.ensures.fault))
    c.in_ok-syntax_line-in-Err-parse.ensures.line

pub returns-in-Ok-parse : goal.returns-in-Ok-parse
returns-in-Ok-parse c = search rules
