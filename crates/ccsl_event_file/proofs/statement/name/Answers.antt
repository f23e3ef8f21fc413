use Rattle.std.proofs.lemmas.Result.{err_from_is_err_and}
use Rattle.std.proofs.Common.{◌≡◌, false, ◌<◌, ◌≤◌, sym, ap, ◌∙◌, subst}
use Rattle.ccsl_base.specs.declared.limits.TheConstants.{MAX_CLOCKS}
use Rattle.ccsl_event_file.specs.declared.fault.EventFault.TheVariants as faults
use Rattle.ccsl_event_file.specs.File.{may_be_named, fault}
use Rattle.ccsl_event_file.specs.Parsing.{ahead}
use Rattle.ccsl_event_file.proofs.Ahead.{not_over}
use Rattle.ccsl_event_file.proofs.Statements.{no_name, is_new, is_bad, is_there, may_not, too_many, may, was_new, was_there}
use Rattle.ccsl_event_file.proofs.statement.name.Goals.{then-not-is_name-via-then-not-is_name, then-not-is_name-via-else-not-is_name+then-len-ge-MAX_CLOCKS}
use Rattle.ccsl_event_file.proofs.statement.name.Goals as goal

pub returns-in_err-name-clause-reads : goal.returns-in_err-name-clause-reads
returns-in_err-name-clause-reads c =
    let p = err_from_is_err_and c.from_residual.result c.from_residual.ensures.1 in
    let len = c.args.parser.now.len in
    let rest = c.args.parser.now.rest.now in
    rw (p.1, p.2) (λ es is. no_name c.in_err-name.field-0.0 es len (ahead len rest) (not_over len rest c.args.parser.now.bare c.requires.some)
    c.in_err-name.ensures.reads)

pub returns-then-not-is_name-clause-reads : goal.returns-then-not-is_name-clause-reads
returns-then-not-is_name-clause-reads c = λ es is.
    let len = c.args.parser.now.len in
    let old = ahead len c.args.parser.now.rest.now in
    let mid = ahead c.word.new.self.len c.word.new.self.rest.now in
    let name = c.in_ok-name.name.now in
    let bad : may_be_named es name ≡ false = elim c.then-not-is_name.branch [
      | then-not-is_name-via-then-not-is_name w ↦ may_not es name (sym c.is_name.ensures ∙ w.if-not-is_name.true)
      | then-not-is_name-via-else-not-is_name+then-len-ge-MAX_CLOCKS w ↦ too_many es c.args.names.now name is
          (subst (λ n. MAX_CLOCKS ≤ n) w.len.ensures w.if-len-ge-MAX_CLOCKS.true)
    ] in
    is_bad es name len old mid c.in_ok-name.ensures.reads bad ∙ ap (λ at. fault (faults.Syntax at)) (sym c.at-at.ensures)

pub returns-in-Some-clause-reads : goal.returns-in-Some-clause-reads
returns-in-Some-clause-reads c = λ es is.
    let len = c.args.parser.now.len in
    let old = ahead len c.args.parser.now.rest.now in
    let mid = ahead c.word.new.self.len c.word.new.self.rest.now in
    let name = c.in_ok-name.name.now in
    is_new es name len old mid c.in_ok-name.ensures.reads
    (may es c.args.names.now name is (subst (λ n. n < MAX_CLOCKS) c.len.ensures c.if-len-ge-MAX_CLOCKS.false) (sym c.is_name.ensures ∙ c.if-not-is_name.false))
    (was_new es c.args.names.now c.add.new.self name c.in_ok-add.field-0 c.in-Some.field-0 is c.in_ok-add.ensures.added c.in-Some.is)

pub returns-in-None-clause-reads : goal.returns-in-None-clause-reads
returns-in-None-clause-reads c = λ es is.
    let len = c.args.parser.now.len in
    let old = ahead len c.args.parser.now.rest.now in
    let mid = ahead c.word.new.self.len c.word.new.self.rest.now in
    let name = c.in_ok-name.name.now in
    is_there es name len old mid c.in_ok-name.ensures.reads
    (may es c.args.names.now name is (subst (λ n. n < MAX_CLOCKS) c.len.ensures c.if-len-ge-MAX_CLOCKS.false) (sym c.is_name.ensures ∙ c.if-not-is_name.false))
    (was_there es c.args.names.now c.add.new.self name c.in_ok-add.field-0 is c.in_ok-add.ensures.added c.in-None.is)
    ∙ ap (λ at. fault (faults.Duplicate at)) (sym c.at-at.ensures)
