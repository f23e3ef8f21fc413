use Rattle.std.proofs.lemmas.Result.{err_from_is_err_and}
use Rattle.std.proofs.Common.{length, map, sym, ap, ◌∙◌, arith, rules}
use Rattle.ccsl_event_file.specs.File.{keyword, statement, names_of, reading, story}
use Rattle.ccsl_event_file.specs.Parsing.{ahead, event_in}
use Rattle.ccsl_event_file.proofs.Story.{moved}
use Rattle.ccsl_event_file.proofs.Statements.{begins, over}
use Rattle.ccsl_event_file.proofs.statement.read_events.Goals as goal

pub returns-in_err-head-clause-refuses : goal.returns-in_err-head-clause-refuses
returns-in_err-head-clause-refuses c =
    let p = err_from_is_err_and c.from_residual.result c.from_residual.ensures.1 in
    let text = c.args.text.now in
    let len = c.new-parser.result.len in
    let old = ahead len c.new-parser.result.rest.now in
    rw (p.1, p.2) (moved c.in_err-head.field-0.0 (reading text) (story len keyword old)
    (begins text len old c.new-parser.ensures.len c.new-parser.ensures.ahead) c.in_err-head.ensures.reads)

pub statements-init : goal.statements-init
statements-init c =
    let text = c.args.text.now in
    let len = c.new-parser.result.len in
    let old = ahead len c.new-parser.result.rest.now in
    let rest = c.head.new.parser.rest.now in
    let none = c.new-events.ensures.items in
    let same_len = c.in_ok-head.ensures.len ∙ c.new-parser.ensures.len in
    record {
      len = same_len;
      names = c.with_hasher-names.ensures ∙ sym (ap (λ es. names_of (map event_in es)) none);
      few = let none_yet = ap length none in omega (arith, none_yet);
      same = begins text len old c.new-parser.ensures.len c.new-parser.ensures.ahead ∙ c.in_ok-head.ensures.reads
          ∙ ap (λ es. story len (statement (map event_in es)) (ahead c.head.new.parser.len rest)) (sym none)
          ∙ ap (λ n. story n (statement (map event_in c.new-events.result.items)) (ahead c.head.new.parser.len rest)) c.new-parser.ensures.len
          ∙ ap (λ n. story (length text) (statement (map event_in c.new-events.result.items)) (ahead n rest)) same_len;
    }

pub returns-clause-says : goal.returns-clause-says
returns-clause-says c =
    let text = c.args.text.now in
    c.statements.invariant.same ∙ over (length text) (map event_in c.statements.events.items) c.statements.parser.rest.now
    (sym c.is_empty.ensures ∙ c.statements-test.false)

pub returns-clause-refuses : goal.returns-clause-refuses
returns-clause-refuses c = search rules
