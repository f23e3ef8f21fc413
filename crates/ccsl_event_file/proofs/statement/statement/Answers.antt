use Rattle.std.proofs.lemmas.Result.{err_from_is_err_and}
use Rattle.std.proofs.Common.{[], ◌∷◌, ◌++◌, sym, ap, ◌∙◌}
use Rattle.ccsl_event_file.specs.File.{sign, statement, event, story}
use Rattle.ccsl_event_file.specs.Parsing.{trigger_in, conditions_in}
use Rattle.ccsl_event_file.proofs.Story.{moved}
use Rattle.ccsl_event_file.proofs.Statements.{no_sign, closes, not_closed}
use Rattle.ccsl_event_file.proofs.Steps.{left, to_kind, to_conditions, to_end}
use Rattle.ccsl_event_file.proofs.statement.statement.Goals as goal

pub returns-in_err-expect_mark-clause-reads : goal.returns-in_err-expect_mark-clause-reads
returns-in_err-expect_mark-clause-reads c =
    let p = err_from_is_err_and c.from_residual-in_err-expect_mark.result c.from_residual-in_err-expect_mark.ensures.1 in
    let name = c.in_ok-name.field-0.now in
    let behind_name = c.name.new.parser in
    rw (p.1, p.2) (λ es is.
    moved c.in_err-expect_mark.field-0.0 _ _
    (c.in_ok-name.ensures.reads es is ∙ ap (λ n. story n (sign es name) (left behind_name)) (sym (c.in_ok-name.ensures.len)))
    (no_sign es name c.in_err-expect_mark.field-0.0 behind_name.len (left behind_name) c.in_err-expect_mark.ensures.expects))

pub returns-in_err-trigger-clause-reads : goal.returns-in_err-trigger-clause-reads
returns-in_err-trigger-clause-reads c =
    let p = err_from_is_err_and c.from_residual-in_err-trigger.result c.from_residual-in_err-trigger.ensures.1 in
    rw (p.1, p.2) (λ es is.
    moved c.in_err-trigger.field-0.0 _ _
    (to_kind es c.in_ok-name.field-0.now c.args.parser.now c.name.new.parser c.expect_mark.new.self (c.in_ok-name.ensures.reads es is)
    c.in_ok-expect_mark.ensures.expects (c.in_ok-expect_mark.ensures.len ∙ c.in_ok-name.ensures.len))
    (c.in_err-trigger.ensures.reads es c.in_ok-name.field-0.now))

pub returns-in_err-conditions-clause-reads : goal.returns-in_err-conditions-clause-reads
returns-in_err-conditions-clause-reads c =
    let p = err_from_is_err_and c.from_residual-in_err-conditions.result c.from_residual-in_err-conditions.ensures.1 in
    let name = c.in_ok-name.field-0.now in
    let made = trigger_in c.in_ok-trigger.trigger in
    rw (p.1, p.2) (λ es is.
    moved c.in_err-conditions.field-0.0 _ _
    (to_conditions es name c.args.parser.now c.name.new.parser c.expect_mark.new.self (c.in_ok-name.ensures.reads es is)
    c.in_ok-expect_mark.ensures.expects (c.in_ok-expect_mark.ensures.len ∙ c.in_ok-name.ensures.len)
    made c.trigger.new.parser (c.in_ok-trigger.ensures.reads es name) c.in_ok-trigger.ensures.len)
    (c.in_err-conditions.ensures.reads es name made))

pub returns-in_err-expect_mark-2-clause-reads : goal.returns-in_err-expect_mark-2-clause-reads
returns-in_err-expect_mark-2-clause-reads c =
    let p = err_from_is_err_and c.from_residual-in_err-expect_mark-2.result c.from_residual-in_err-expect_mark-2.ensures.1 in
    let name = c.in_ok-name.field-0.now in
    let made = trigger_in c.in_ok-trigger.trigger in
    let cs = conditions_in c.in_ok-conditions.conditions.items in
    let met = c.conditions.new.parser in
    rw (p.1, p.2) (λ es is.
    moved c.in_err-expect_mark-2.field-0.0 _ _
    (to_end es name c.args.parser.now c.name.new.parser c.expect_mark.new.self (c.in_ok-name.ensures.reads es is)
    c.in_ok-expect_mark.ensures.expects (c.in_ok-expect_mark.ensures.len ∙ c.in_ok-name.ensures.len)
    made c.trigger.new.parser (c.in_ok-trigger.ensures.reads es name) c.in_ok-trigger.ensures.len
    cs met (c.in_ok-conditions.ensures.reads es name made) c.in_ok-conditions.ensures.len)
    (not_closed es (event name made cs) c.in_err-expect_mark-2.field-0.0 met.len (left met) c.in_ok-conditions.ensures.ended
    c.in_err-expect_mark-2.ensures.expects))

pub returns-clause-reads : goal.returns-clause-reads
returns-clause-reads c =
    let name = c.in_ok-name.field-0.now in
    let made = trigger_in c.in_ok-trigger.trigger in
    let cs = conditions_in c.in_ok-conditions.conditions.items in
    let met = c.conditions.new.parser in
    let new = left c.expect_mark-2.new.self in
    λ es is.
    to_end es name c.args.parser.now c.name.new.parser c.expect_mark.new.self (c.in_ok-name.ensures.reads es is)
    c.in_ok-expect_mark.ensures.expects (c.in_ok-expect_mark.ensures.len ∙ c.in_ok-name.ensures.len)
    made c.trigger.new.parser (c.in_ok-trigger.ensures.reads es name) c.in_ok-trigger.ensures.len
    cs met (c.in_ok-conditions.ensures.reads es name made) c.in_ok-conditions.ensures.len
    ∙ closes es (event name made cs) met.len (left met) new c.in_ok-conditions.ensures.ended c.in_ok-expect_mark-2.ensures.expects
    ∙ ap (λ n. story n (statement (es ++ event name made cs ∷ [])) new)
    (c.in_ok-conditions.ensures.len ∙ c.in_ok-trigger.ensures.len ∙ c.in_ok-expect_mark.ensures.len ∙ c.in_ok-name.ensures.len)
    ∙ ap (λ x. story c.args.parser.now.len (statement (es ++ event x made cs ∷ [])) new) (sym c.in_ok-name-2.ensures.items)
