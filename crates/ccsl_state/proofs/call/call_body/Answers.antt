-- The member is there, with few parameters.
use Rattle.std.proofs.Common.{◌≡◌, ◌%◌, ◌^◌, ◌++◌, length, take, map, slice_index, refl, sym, ap, ap₂, subst, ◌∙◌, arith}
use Rattle.std.proofs.Math.Seq.{take-append_seam}
use Rattle.ccsl_kernel.specs.Plain.{plain_body}
use Rattle.ccsl_kernel.specs.Fit.{ActualsFit}
use Rattle.ccsl_state.specs.Layout.{actual_of}
use Rattle.ccsl_state.proofs.Calls.{first_cell, call_body_is}
use Rattle.ccsl_state.proofs.Places.{few_params}
use Rattle.ccsl_state.proofs.call.call_body.Goals as goal

pub split_at-requires-2 : goal.split_at-requires-2
split_at-requires-2 c =
    let room = c.requires.room _ _ (sym c.in_ok-body.ensures.body) in
    let count = ap length c.members-count.ensures in
    omega arith

pub split_at_mut-params-requires : goal.split_at_mut-params-requires
split_at_mut-params-requires c =
    let few = few_params _ _ _ _ c.body.ensures.accepted (sym c.in_ok-body.ensures.body) in
    let count = ap length c.members-count.ensures in
    omega arith

pub returns-clause-body : goal.returns-clause-body
returns-clause-body c =
    let K = c.args.lay.now.system.now in
    let params = c.actuals_at.new.actuals in
    let behind = c.split_at_mut-params.result.1.now in
    let words = c.words.ensures in
    let len : length params ≡ length c.members-count.result.now = c.actuals_at.auto.actuals ∙ c.split_at_mut-params.ensures.front_len in
    let front : take (length c.members-count.result.now) (params ++ behind) ≡ params =
    ap (λ n. take n (params ++ behind)) (sym len) ∙ take-append_seam params behind in
    call_body_is c.args.lay.now c.args.group _ _ (plain_body c.in_ok-body.body.now) c.in_ok-body.body.now.root _ c.args.row.now c.requires
    c.body.ensures.accepted (sym c.in_ok-body.ensures.body) refl (ap length c.members-count.ensures)
    (ap (λ n. n % 2 ^ 32) (sym (first_cell c.split_at.result.0.now c.split_at.result.1.now c.split_at.ensures.front_len)
    ∙ ap (λ row. slice_index row 0) (sym c.split_at.ensures.by_index.0)))
    (front ∙ c.actuals_at.ensures.actuals
    ∙ ap₂ (λ w cells. map (actual_of w) cells) words (c.split_at-2.ensures.front ∙ ap (take (length c.members-count.result.now)) c.split_at.ensures.back))
    (subst (ActualsFit K.words) (sym front) (subst (λ w. ActualsFit w params) words c.actuals_at.ensures.fit))
