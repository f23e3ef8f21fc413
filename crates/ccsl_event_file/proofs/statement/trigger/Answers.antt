use Rattle.std.proofs.lemmas.Result.{err_from_is_err_and}
use Rattle.std.proofs.Common.{[], refl, sym, ap, ◌∙◌, subst}
use Rattle.ccsl_event_file.specs.File.{kind, first_part, behind, draft, event, trigger_of, becoming, becomes, use_of_token, story}
use Rattle.ccsl_event_file.specs.Parsing.{ahead, path_in, condition_in, made_of, use_of_kind, ReadsOne}
use Rattle.ccsl_event_file.proofs.Story.{moved}
use Rattle.ccsl_event_file.proofs.Statements.{kinds, no_kind, is_made}
use Rattle.ccsl_event_file.proofs.statement.trigger.Goals as goal

pub returns-in_err-moment-clause-reads : goal.returns-in_err-moment-clause-reads
returns-in_err-moment-clause-reads c =
    let p = err_from_is_err_and c.from_residual.result c.from_residual.ensures.1 in
    let len = c.args.parser.now.len in
    rw (p.1, p.2) (λ es name. no_kind es name c.in_err-moment.field-0.0 len (ahead len c.args.parser.now.rest.now) c.in_err-moment.ensures.reads)

pub returns-in_err-path-in-Of-clause-reads : goal.returns-in_err-path-in-Of-clause-reads
returns-in_err-path-in-Of-clause-reads c =
    let p = err_from_is_err_and c.from_residual-in_err-path-in-Of.result c.from_residual-in_err-path-in-Of.ensures.1 in
    let len = c.args.parser.now.len in
    let old = ahead len c.args.parser.now.rest.now in
    let other = c.next_kind.new.parser.len in
    let mid = ahead other c.next_kind.new.parser.rest.now in
    let how = trigger_of (made_of c.in-Of.moment) in
    let one = subst (λ k. ReadsOne use_of_token (use_of_kind k) old mid) c.in-Of.is c.in_ok-moment.ensures.reads in
    rw (p.1, p.2) (λ es name.
    moved c.in_err-path-in-Of.field-0.0 (story len (kind es name) old) (story other (first_part (draft es name how)) mid)
    (kinds es name len how old mid one ∙ ap (λ n. story n (first_part (draft es name how)) mid) (sym c.in_ok-moment.ensures.len))
    (c.in_err-path-in-Of.ensures.reads (draft es name how)))

pub returns-in_err-condition-in-Becomes-clause-reads : goal.returns-in_err-condition-in-Becomes-clause-reads
returns-in_err-condition-in-Becomes-clause-reads c =
    let p = err_from_is_err_and c.from_residual-in_err-condition-in-Becomes.result c.from_residual-in_err-condition-in-Becomes.ensures.1 in
    let len = c.args.parser.now.len in
    let old = ahead len c.args.parser.now.rest.now in
    let other = c.next_kind.new.parser.len in
    let mid = ahead other c.next_kind.new.parser.rest.now in
    let one = subst (λ k. ReadsOne use_of_token (use_of_kind k) old mid) c.in-Becomes.is c.in_ok-moment.ensures.reads in
    rw (p.1, p.2) (λ es name.
    moved c.in_err-condition-in-Becomes.field-0.0 (story len (kind es name) old) (story other (first_part (draft es name becoming)) mid)
    (kinds es name len becoming old mid one ∙ ap (λ n. story n (first_part (draft es name becoming)) mid) (sym c.in_ok-moment.ensures.len))
    (c.in_err-condition-in-Becomes.ensures.reads (draft es name becoming) refl))

pub returns-in_ok-path-in-Of-clause-reads : goal.returns-in_ok-path-in-Of-clause-reads
returns-in_ok-path-in-Of-clause-reads c =
    let len = c.args.parser.now.len in
    let old = ahead len c.args.parser.now.rest.now in
    let other = c.next_kind.new.parser.len in
    let mid = ahead other c.next_kind.new.parser.rest.now in
    let made = made_of c.in-Of.moment in
    let one = subst (λ k. ReadsOne use_of_token (use_of_kind k) old mid) c.in-Of.is c.in_ok-moment.ensures.reads in
    let path = path_in c.in_ok-path-in-Of.path in
    let new = ahead c.path.new.self.len c.path.new.self.rest.now in
    λ es name.
    kinds es name len (trigger_of made) old mid one ∙ ap (λ n. story n (first_part (draft es name (trigger_of made))) mid) (sym c.in_ok-moment.ensures.len)
    ∙ c.in_ok-path-in-Of.ensures.reads (draft es name (trigger_of made))
    ∙ is_made es name made path other new
    ∙ ap (λ n. story n (behind es (event name (made path) [])) new) c.in_ok-moment.ensures.len
    ∙ ap (λ t. story len (behind es (event name t [])) new) (sym c.trigger.ensures)

pub returns-in_ok-condition-in-Becomes-clause-reads : goal.returns-in_ok-condition-in-Becomes-clause-reads
returns-in_ok-condition-in-Becomes-clause-reads c =
    let len = c.args.parser.now.len in
    let old = ahead len c.args.parser.now.rest.now in
    let other = c.next_kind.new.parser.len in
    let mid = ahead other c.next_kind.new.parser.rest.now in
    let one = subst (λ k. ReadsOne use_of_token (use_of_kind k) old mid) c.in-Becomes.is c.in_ok-moment.ensures.reads in
    let condition = condition_in c.in_ok-condition-in-Becomes.condition in
    let new = ahead c.condition.new.self.len c.condition.new.self.rest.now in
    λ es name.
    kinds es name len becoming old mid one ∙ ap (λ n. story n (first_part (draft es name becoming)) mid) (sym c.in_ok-moment.ensures.len)
    ∙ c.in_ok-condition-in-Becomes.ensures.reads (draft es name becoming) refl
    ∙ ap (λ n. story n (behind es (event name (becomes condition) [])) new) c.in_ok-moment.ensures.len
