use Rattle.std.proofs.lemmas.Result.{err_from_is_err_and}
use Rattle.std.proofs.Common.{sym, ap, ◌∙◌}
use Rattle.ccsl_event_file.specs.File.{path, behind_path, story}
use Rattle.ccsl_event_file.specs.Parsing.{place_of}
use Rattle.ccsl_event_file.proofs.Story.{moved}
use Rattle.ccsl_event_file.proofs.Paths.{no_first_part}
use Rattle.ccsl_event_file.proofs.Steps.{left, to_parts, to_select}
use Rattle.ccsl_event_file.proofs.parser.Parser.path.Goals as goal

pub returns-in_err-part-clause-reads : goal.returns-in_err-part-clause-reads
returns-in_err-part-clause-reads c =
    let p = err_from_is_err_and c.from_residual.result c.from_residual.ensures.1 in
    rw (p.1, p.2) (λ d. no_first_part d c.in_err-part.field-0.0 c.args.self.now.len (left c.args.self.now) c.in_err-part.ensures.reads)

pub returns-in_err-more_parts-clause-reads : goal.returns-in_err-more_parts-clause-reads
returns-in_err-more_parts-clause-reads c =
    let p = err_from_is_err_and c.from_residual-in_err-more_parts.result c.from_residual-in_err-more_parts.ensures.1 in
    rw (p.1, p.2) (λ d.
    moved c.in_err-more_parts.field-0.0 _ _
    (to_parts d c.args.self.now c.part.new.self _ c.part.new.parts.items c.new-parts.ensures.items c.in_ok-part.ensures.reads c.in_ok-part.ensures.len)
    (c.in_err-more_parts.ensures.reads d (place_of c.args.self.now.len (left c.args.self.now))))

pub returns-in_err-select-clause-reads : goal.returns-in_err-select-clause-reads
returns-in_err-select-clause-reads c =
    let p = err_from_is_err_and c.from_residual-in_err-select.result c.from_residual-in_err-select.ensures.1 in
    let at = place_of c.args.self.now.len (left c.args.self.now) in
    let more = c.more_parts.new.parts.items in
    rw (p.1, p.2) (λ d.
    moved c.in_err-select.field-0.0 _ _
    (to_select d c.args.self.now c.part.new.self _ c.part.new.parts.items c.new-parts.ensures.items c.in_ok-part.ensures.reads c.in_ok-part.ensures.len
    more c.more_parts.new.self (c.in_ok-more_parts.ensures.reads d at) c.in_ok-more_parts.ensures.len)
    (c.in_err-select.ensures.reads d at more c.in_ok-more_parts.ensures.ended))

pub returns-clause-reads : goal.returns-clause-reads
returns-clause-reads c =
    let len = c.args.self.now.len in
    let at = place_of len (left c.args.self.now) in
    let more = c.more_parts.new.parts.items in
    let select = c.in_ok-select.select in
    let new = left c.select.new.self in
    λ d.
    to_select d c.args.self.now c.part.new.self _ c.part.new.parts.items c.new-parts.ensures.items c.in_ok-part.ensures.reads c.in_ok-part.ensures.len
    more c.more_parts.new.self (c.in_ok-more_parts.ensures.reads d at) c.in_ok-more_parts.ensures.len
    ∙ c.in_ok-select.ensures.reads d at more c.in_ok-more_parts.ensures.ended
    ∙ ap (λ n. story n (behind_path d (path at more select)) new) (c.in_ok-more_parts.ensures.len ∙ c.in_ok-part.ensures.len)
    ∙ ap (λ a. story len (behind_path d (path a more select)) new) (sym c.at-at.ensures)
