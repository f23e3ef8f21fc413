use Rattle.std.proofs.lemmas.Result.{err_from_is_err_and}
use Rattle.ccsl_event_file.specs.Parsing.{ahead}
use Rattle.ccsl_event_file.proofs.Paths.{closes, not_closed}
use Rattle.ccsl_event_file.proofs.parser.Parser.bracket.Goals as goal

pub returns-in_err-expect_mark-clause-reads : goal.returns-in_err-expect_mark-clause-reads
returns-in_err-expect_mark-clause-reads c =
    let p = err_from_is_err_and c.from_residual.result c.from_residual.ensures.1 in
    rw (p.1, p.2) (λ d at parts. not_closed d at parts c.args.select c.in_err-expect_mark.field-0.0 c.args.self.now.len
    (ahead c.args.self.now.len c.args.self.now.rest.now) c.in_err-expect_mark.ensures.expects)

pub returns-clause-reads : goal.returns-clause-reads
returns-clause-reads c = λ d at parts.
    closes d at parts c.args.select c.args.self.now.len (ahead c.args.self.now.len c.args.self.now.rest.now)
    (ahead c.expect_mark.new.self.len c.expect_mark.new.self.rest.now)
    c.in_ok-expect_mark.ensures.expects
