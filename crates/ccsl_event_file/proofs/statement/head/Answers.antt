use Rattle.std.proofs.lemmas.Result.{err_from_is_err_and}
use Rattle.std.proofs.Common.{refl, sym, ap, ◌∙◌, codes}
use Rattle.ccsl_event_file.specs.File.{keyword, version, head_end, is_word, story}
use Rattle.ccsl_event_file.specs.Parsing.{ahead}
use Rattle.ccsl_event_file.proofs.Story.{moved, expected, unexpected}
use Rattle.ccsl_event_file.proofs.Statements.{at_keyword, at_version, head_closes}
use Rattle.ccsl_event_file.proofs.statement.head.Goals as goal

pub returns-in_err-expect_word-clause-reads : goal.returns-in_err-expect_word-clause-reads
returns-in_err-expect_word-clause-reads c =
    let p = err_from_is_err_and c.from_residual.result c.from_residual.ensures.1 in
    let len = c.args.parser.now.len in
    rw (p.1, p.2) (unexpected c.in_err-expect_word.field-0.0 len keyword version (is_word (codes "events")) (ahead len c.args.parser.now.rest.now)
    (λ _. refl) at_keyword c.in_err-expect_word.ensures.expects)

pub returns-in_err-expect_word-2-clause-reads : goal.returns-in_err-expect_word-2-clause-reads
returns-in_err-expect_word-2-clause-reads c =
    let p = err_from_is_err_and c.from_residual-in_err-expect_word-2.result c.from_residual-in_err-expect_word-2.ensures.1 in
    let len = c.args.parser.now.len in
    let old = ahead len c.args.parser.now.rest.now in
    let other = c.expect_word.new.self.len in
    let mid = ahead other c.expect_word.new.self.rest.now in
    let f = c.in_err-expect_word-2.field-0.0 in
    rw (p.1, p.2) (moved f (story len keyword old) (story other version mid)
    (expected len keyword version (is_word (codes "events")) old mid at_keyword c.in_ok-expect_word.ensures.expects
    ∙ ap (λ n. story n version mid) (sym c.in_ok-expect_word.ensures.len))
    (unexpected f other version head_end (is_word (codes "1")) mid (λ _. refl) at_version c.in_err-expect_word-2.ensures.expects))

pub returns-clause-reads : goal.returns-clause-reads
returns-clause-reads c =
    let len = c.args.parser.now.len in
    let old = ahead len c.args.parser.now.rest.now in
    let mid = ahead c.expect_word.new.self.len c.expect_word.new.self.rest.now in
    let third = c.expect_word-2.new.self.len in
    let last = ahead third c.expect_word-2.new.self.rest.now in
    let new = ahead c.expect_mark.new.self.len c.expect_mark.new.self.rest.now in
    head_closes c.expect_mark.result len third old last new (c.in_ok-expect_word-2.ensures.len ∙ c.in_ok-expect_word.ensures.len)
    (expected len keyword version (is_word (codes "events")) old mid at_keyword c.in_ok-expect_word.ensures.expects
    ∙ expected len version head_end (is_word (codes "1")) mid last at_version c.in_ok-expect_word-2.ensures.expects)
    c.expect_mark.ensures.expects
