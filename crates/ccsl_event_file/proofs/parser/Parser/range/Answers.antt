use Rattle.std.proofs.lemmas.Result.{err_from_is_err_and}
use Rattle.std.proofs.Common.{sym, ap, ◌∙◌}
use Rattle.ccsl_scopes.specs.declared.select.Select.TheVariants.{Bit, Range}
use Rattle.ccsl_event_file.specs.File.{path, behind_left, right, bracket, behind_path, story}
use Rattle.ccsl_event_file.specs.Parsing.{ahead}
use Rattle.ccsl_event_file.proofs.Story.{moved, reads_behind}
use Rattle.ccsl_event_file.proofs.Paths.{no_colon, colon, second, no_second}
use Rattle.ccsl_event_file.proofs.parser.Parser.range.Goals as goal

pub returns-then-not-takes_mark-clause-reads : goal.returns-then-not-takes_mark-clause-reads
returns-then-not-takes_mark-clause-reads c = λ d at parts.
    let len = c.args.self.now.len in
    let old = ahead len c.args.self.now.rest.now in
    let now = ahead c.takes_mark.new.self.len c.takes_mark.new.self.rest.now in
    let takes = c.if-not-takes_mark.ensures.takes in
    reads_behind c.bracket.result len c.takes_mark.new.self.len (behind_left d at parts c.args.left) (bracket d (path at parts (Bit c.args.left))) old now
    (λ s. behind_path d (path at parts s)) (ahead c.bracket.new.self.len c.bracket.new.self.rest.now) c.if-not-takes_mark.ensures.len
    (no_colon d at parts len c.args.left old takes.fails ∙ ap (story len (bracket d (path at parts (Bit c.args.left)))) (sym takes.same))
    (c.bracket.ensures.reads d at parts)

pub returns-in_err-right-clause-reads : goal.returns-in_err-right-clause-reads
returns-in_err-right-clause-reads c =
    let p = err_from_is_err_and c.from_residual.result c.from_residual.ensures.1 in
    let len = c.args.self.now.len in
    let old = ahead len c.args.self.now.rest.now in
    let other = c.takes_mark.new.self.len in
    let now = ahead other c.takes_mark.new.self.rest.now in
    rw (p.1, p.2) (λ d at parts.
    moved c.in_err-right.field-0.0 (story len (behind_left d at parts c.args.left) old) (story other (right d at parts c.args.left) now)
    (colon d at parts len c.args.left old now c.if-not-takes_mark.ensures.takes
    ∙ ap (λ n. story n (right d at parts c.args.left) now) (sym c.if-not-takes_mark.ensures.len))
    (no_second d at parts c.in_err-right.field-0.0 other c.args.left now c.in_err-right.ensures.reads))

pub returns-clause-reads : goal.returns-clause-reads
returns-clause-reads c = λ d at parts.
    let len = c.args.self.now.len in
    let old = ahead len c.args.self.now.rest.now in
    let now = ahead c.takes_mark.new.self.len c.takes_mark.new.self.rest.now in
    let later = ahead c.index.new.self.len c.index.new.self.rest.now in
    reads_behind c.bracket-2.result len c.index.new.self.len (behind_left d at parts c.args.left)
    (bracket d (path at parts (Range c.args.left c.in_ok-right.right))) old later
    (λ s. behind_path d (path at parts s)) (ahead c.bracket-2.new.self.len c.bracket-2.new.self.rest.now)
    (c.in_ok-right.ensures.len ∙ c.if-not-takes_mark.ensures.len)
    (colon d at parts len c.args.left old now c.if-not-takes_mark.ensures.takes
    ∙ second d at parts len c.args.left c.in_ok-right.right now later c.in_ok-right.ensures.reads)
    (c.bracket-2.ensures.reads d at parts)
