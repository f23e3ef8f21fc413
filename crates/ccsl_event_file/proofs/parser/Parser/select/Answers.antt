use Rattle.std.proofs.lemmas.Result.{err_from_is_err_and}
use Rattle.std.proofs.Common.{sym, ap, ◌∙◌}
use Rattle.ccsl_scopes.specs.declared.select.Select.TheVariants.{Whole}
use Rattle.ccsl_event_file.specs.File.{path, behind_part, left, behind_left, behind_path, story}
use Rattle.ccsl_event_file.specs.Parsing.{ahead}
use Rattle.ccsl_event_file.proofs.Story.{moved, reads_behind}
use Rattle.ccsl_event_file.proofs.Paths.{is_whole, opens, first, no_first}
use Rattle.ccsl_event_file.proofs.parser.Parser.select.Goals as goal

pub returns-then-not-takes_mark-clause-reads : goal.returns-then-not-takes_mark-clause-reads
returns-then-not-takes_mark-clause-reads c = λ d at parts absent.
    let len = c.args.self.now.len in
    let old = ahead len c.args.self.now.rest.now in
    let takes = c.if-not-takes_mark.ensures.takes in
    is_whole d at parts len old absent takes.fails ∙ ap (story len (behind_path d (path at parts Whole))) (sym takes.same)

pub returns-in_err-left-clause-reads : goal.returns-in_err-left-clause-reads
returns-in_err-left-clause-reads c =
    let p = err_from_is_err_and c.from_residual.result c.from_residual.ensures.1 in
    let len = c.args.self.now.len in
    let old = ahead len c.args.self.now.rest.now in
    let other = c.takes_mark.new.self.len in
    let now = ahead other c.takes_mark.new.self.rest.now in
    rw (p.1, p.2) (λ d at parts absent.
    moved c.in_err-left.field-0.0 (story len (behind_part d at parts) old) (story other (left d at parts) now)
    (opens d at parts len old now absent c.if-not-takes_mark.ensures.takes ∙ ap (λ n. story n (left d at parts) now) (sym c.if-not-takes_mark.ensures.len))
    (no_first d at parts c.in_err-left.field-0.0 other now c.in_err-left.ensures.reads))

pub returns-clause-reads : goal.returns-clause-reads
returns-clause-reads c = λ d at parts absent.
    let len = c.args.self.now.len in
    let old = ahead len c.args.self.now.rest.now in
    let now = ahead c.takes_mark.new.self.len c.takes_mark.new.self.rest.now in
    let later = ahead c.index.new.self.len c.index.new.self.rest.now in
    reads_behind c.range.result len c.index.new.self.len (behind_part d at parts) (behind_left d at parts c.in_ok-left.left) old later
    (λ s. behind_path d (path at parts s)) (ahead c.range.new.self.len c.range.new.self.rest.now) (c.in_ok-left.ensures.len ∙ c.if-not-takes_mark.ensures.len)
    (opens d at parts len old now absent c.if-not-takes_mark.ensures.takes ∙ first d at parts len c.in_ok-left.left now later c.in_ok-left.ensures.reads)
    (c.range.ensures.reads d at parts)
