use Rattle.std.proofs.lemmas.Result.{err_from_is_err_and}
use Rattle.std.proofs.Common.{sym, ap, ◌∙◌, arith}
use Rattle.ccsl_event_file.specs.File.{part, behind_part, story}
use Rattle.ccsl_event_file.specs.Parsing.{ahead}
use Rattle.ccsl_event_file.proofs.Story.{moved}
use Rattle.ccsl_event_file.proofs.Paths.{dot, puts, no_part}
use Rattle.ccsl_event_file.proofs.parser.Parser.more_parts.Goals as goal

pub parts-preserved : goal.parts-preserved
parts-preserved c =
    let len = c.args.self.now.len in
    let parts = c.parts.parts.items in
    let before = c.parts.self.rest.now in
    let mid = ahead c.takes_mark.new.self.len c.takes_mark.new.self.rest.now in
    let now = c.part.new.parts.items in
    let same_len = c.in_ok-part.ensures.len ∙ c.parts-test.ensures.len ∙ c.parts.invariant.len in
    record {
      len = same_len;
      same = λ d at. c.parts.invariant.same d at
          ∙ ap (λ n. story len (behind_part d at parts) (ahead n before)) (sym c.parts.invariant.len)
          ∙ dot d at parts len (ahead c.parts.self.len before) mid c.parts-test.ensures.takes
          ∙ ap (λ ps. story len (part d at ps) mid) (sym c.in_ok-push.ensures.items)
          ∙ puts d at c.push.new.self.items len now mid (ahead c.part.new.self.len c.part.new.self.rest.now) c.in_ok-part.ensures.reads
          ∙ ap (λ n. story len (behind_part d at now) (ahead n c.part.new.self.rest.now)) same_len;
      within = omega (arith, c.in_ok-part.ensures.within, c.parts-test.ensures.within, c.parts.invariant.within);
    }

pub returns-in_err-part-clause-reads : goal.returns-in_err-part-clause-reads
returns-in_err-part-clause-reads c =
    let p = err_from_is_err_and c.from_residual-in_err-part.result c.from_residual-in_err-part.ensures.1 in
    let len = c.args.self.now.len in
    let parts = c.parts.parts.items in
    let pushed = c.push.new.self.items in
    let before = c.parts.self.rest.now in
    let other = c.takes_mark.new.self.len in
    let mid = ahead other c.takes_mark.new.self.rest.now in
    let f = c.in_err-part.field-0.0 in
    rw (p.1, p.2) (λ d at.
    moved f (story len (behind_part d at c.args.parts.now.items) (ahead len c.args.self.now.rest.now)) (story other (part d at pushed) mid)
    (c.parts.invariant.same d at
    ∙ ap (λ n. story len (behind_part d at parts) (ahead n before)) (sym c.parts.invariant.len)
    ∙ dot d at parts len (ahead c.parts.self.len before) mid c.parts-test.ensures.takes
    ∙ ap (λ ps. story len (part d at ps) mid) (sym c.in_ok-push.ensures.items)
    ∙ ap (λ n. story n (part d at pushed) mid) (sym (c.parts-test.ensures.len ∙ c.parts.invariant.len)))
    (no_part d at pushed f other mid c.in_err-part.ensures.reads))
