use Rattle.std.proofs.lemmas.Result.{err_from_is_err_and}
use Rattle.std.proofs.Common.{[], ◌∷◌, refl, sym, ap, ◌∙◌, arith}
use Rattle.std.proofs.lemmas.List.{map-append}
use Rattle.ccsl_event_file.specs.File.{behind, draft, event, condition_of, joint, story}
use Rattle.ccsl_event_file.specs.Parsing.{ahead, condition_in, conditions_in}
use Rattle.ccsl_event_file.proofs.Story.{moved}
use Rattle.ccsl_event_file.proofs.Steps.{to_condition}
use Rattle.ccsl_event_file.proofs.statement.conditions.Goals as goal

pub returns-in_err-condition-clause-reads : goal.returns-in_err-condition-clause-reads
returns-in_err-condition-clause-reads c =
    let p = err_from_is_err_and c.from_residual.result c.from_residual.ensures.1 in
    let cs = conditions_in c.conditions.conditions.items in
    rw (p.1, p.2) (λ es name t.
    moved c.in_err-condition.field-0.0 _ _
    (to_condition es name t cs _ c.args.parser.now c.conditions.parser c.takes_word.new.self (c.conditions.invariant.same es name t)
    c.conditions.invariant.len (c.joint.ensures ∙ ap (λ xs. joint (conditions_in xs)) c.as_slice.ensures.value) c.conditions-test.ensures.takes
    c.conditions-test.ensures.len)
    (c.in_err-condition.ensures.reads (draft es name (condition_of t cs)) refl))

pub conditions-preserved : goal.conditions-preserved
conditions-preserved c =
    let len = c.args.parser.now.len in
    let other = c.takes_word.new.self.len in
    let cs = conditions_in c.conditions.conditions.items in
    let condition = c.in_ok-condition.condition in
    let behind_len = c.in_ok-condition.ensures.len in
    let same_len = c.conditions-test.ensures.len ∙ c.conditions.invariant.len in
    let after = c.condition.new.self.rest.now in
    let now = ap conditions_in c.in_ok-push.ensures.items ∙ map-append condition_in c.conditions.conditions.items (condition ∷ []) in
    record {
      len = behind_len ∙ same_len;
      same = λ es name t.
          to_condition es name t cs _ c.args.parser.now c.conditions.parser c.takes_word.new.self (c.conditions.invariant.same es name t)
          c.conditions.invariant.len (c.joint.ensures ∙ ap (λ xs. joint (conditions_in xs)) c.as_slice.ensures.value) c.conditions-test.ensures.takes
          c.conditions-test.ensures.len
          ∙ c.in_ok-condition.ensures.reads (draft es name (condition_of t cs)) refl
          ∙ ap (λ xs. story other (behind es (event name t xs)) (ahead c.condition.new.self.len after)) (sym now)
          ∙ ap (λ n. story n (behind es (event name t (conditions_in c.push.new.self.items))) (ahead c.condition.new.self.len after)) same_len
          ∙ ap (λ n. story len (behind es (event name t (conditions_in c.push.new.self.items))) (ahead n after)) (behind_len ∙ same_len);
      within = omega (arith, c.in_ok-condition.ensures.within, c.conditions-test.ensures.within, c.conditions.invariant.within);
    }
