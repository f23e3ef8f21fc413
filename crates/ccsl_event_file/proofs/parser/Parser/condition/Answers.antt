use Rattle.std.proofs.lemmas.Result.{err_from_is_err_and}
use Rattle.std.proofs.Common.{sym, ap, ◌∙◌}
use Rattle.ccsl_event_file.specs.File.{first_part, behind_path, value, behind, with_condition, story}
use Rattle.ccsl_event_file.specs.Parsing.{ahead, place_of, path_in}
use Rattle.ccsl_event_file.proofs.Story.{moved}
use Rattle.ccsl_event_file.proofs.Paths.{condition_at, compared, not_compared, has_value, no_value}
use Rattle.ccsl_event_file.proofs.parser.Parser.condition.Goals as goal

pub returns-in_err-is_equal-clause-reads : goal.returns-in_err-is_equal-clause-reads
returns-in_err-is_equal-clause-reads c =
    let p = err_from_is_err_and c.from_residual-in_err-is_equal.result c.from_residual-in_err-is_equal.ensures.1 in
    let len = c.args.self.now.len in
    let old = ahead len c.args.self.now.rest.now in
    let path = path_in c.in_ok-path.path in
    let other = c.path.new.self.len in
    let mid = ahead other c.path.new.self.rest.now in
    let f = c.in_err-is_equal.field-0.0 in
    rw (p.1, p.2) (λ d is.
    moved f (story len (first_part d) old) (story other (behind_path d path) mid)
    (c.in_ok-path.ensures.reads d ∙ ap (λ n. story n (behind_path d path) mid) (sym c.in_ok-path.ensures.len))
    (not_compared d path is f other mid c.in_err-is_equal.ensures.reads))

pub returns-in_err-letters-clause-reads : goal.returns-in_err-letters-clause-reads
returns-in_err-letters-clause-reads c =
    let p = err_from_is_err_and c.from_residual-in_err-letters.result c.from_residual-in_err-letters.ensures.1 in
    let len = c.args.self.now.len in
    let old = ahead len c.args.self.now.rest.now in
    let path = path_in c.in_ok-path.path in
    let other = c.path.new.self.len in
    let mid = ahead other c.path.new.self.rest.now in
    let is_equal = c.in_ok-is_equal.is_equal in
    let third = c.comparison.new.self.len in
    let last = ahead third c.comparison.new.self.rest.now in
    let f = c.in_err-letters.field-0.0 in
    rw (p.1, p.2) (λ d is.
    moved f (story len (first_part d) old) (story third (value d path is_equal) last)
    (c.in_ok-path.ensures.reads d
    ∙ compared d path is len is_equal mid last c.in_ok-is_equal.ensures.reads
    ∙ ap (λ n. story n (value d path is_equal) last) (sym (c.in_ok-is_equal.ensures.len ∙ c.in_ok-path.ensures.len)))
    (no_value d path f third is_equal last c.in_err-letters.ensures.reads))

pub returns-clause-reads : goal.returns-clause-reads
returns-clause-reads c =
    let len = c.args.self.now.len in
    let path = path_in c.in_ok-path.path in
    let mid = ahead c.path.new.self.len c.path.new.self.rest.now in
    let is_equal = c.in_ok-is_equal.is_equal in
    let third = c.comparison.new.self.len in
    let last = ahead third c.comparison.new.self.rest.now in
    let letters = c.in_ok-letters.letters.items in
    let new = ahead c.value.new.self.len c.value.new.self.rest.now in
    let same_len = c.in_ok-is_equal.ensures.len ∙ c.in_ok-path.ensures.len in
    λ d is.
    c.in_ok-path.ensures.reads d
    ∙ compared d path is len is_equal mid last c.in_ok-is_equal.ensures.reads
    ∙ ap (λ n. story n (value d path is_equal) last) (sym same_len)
    ∙ has_value d path third is_equal letters last new c.in_ok-letters.ensures.reads
    ∙ ap (λ n. story n (behind d.events (with_condition d (condition_at path is_equal (place_of third last) letters) d.use_of)) new) same_len
    ∙ ap (λ at. story len (behind d.events (with_condition d (condition_at path is_equal at letters) d.use_of)) new) (sym c.at-at.ensures)
