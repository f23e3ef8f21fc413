use Rattle.std.proofs.Common.{◌≡◌, ◌+◌, ◌≤◌, ◌++◌, true, false, is_some, take, sym, ap, ◌∙◌, arith, subst}
use Rattle.std.proofs.lemmas.List.{append-nil, take_all}
use Rattle.ccsl_base.proofs.Sets.{by_case}
use Rattle.ccsl_relate.proofs.Blocks.{few-rows}
use Rattle.ccsl_follow.specs.Leaving.{is_left_at}
use Rattle.ccsl_follow.specs.Counting.{HasCounted}
use Rattle.ccsl_follow.proofs.Counted.{counted-next}
use Rattle.ccsl_follow.proofs.follow.Follow.take_all.Goals as goal

pub loop-i-preserved : goal.loop-i-preserved
loop-i-preserved c = λ rows has few goes.
    let at = c.loop-i in
    let block = c.args.block.now.rows in
    let now = c.take.new.self in
    let before : is_some at.self.broken ≡ false = sym c.is_over.ensures ∙ c.if-is_over.false in
    by_case (is_left_at at.self.until at.self.made) (HasCounted now.steps.part now.counts (rows ++ take (at.i + 1) block))
    (λ left. absurd (let clash : true ≡ false = sym (ap is_some (c.in_ok-take.ensures.left left).1) ∙ goes in cc))
    (λ stays.
    counted-next now.steps.part now.counts rows block at.i c.row.result.now c.row.ensures
    (c.in_ok-take.ensures.counted stays (rows ++ take at.i block) (at.invariant rows has few before) (few-rows block at.i rows (omega arith) few)))

pub loop-i-init : goal.loop-i-init
loop-i-init c rows has few goes = subst (HasCounted c.args.self.now.steps.part c.args.self.now.counts) (sym (append-nil rows)) has

pub returns-then-is_over : goal.returns-then-is_over
returns-then-is_over c goes rows has few =
    absurd (let clash : true ≡ false = sym c.if-is_over.true ∙ c.is_over.ensures ∙ goes in cc)

pub returns : goal.returns
returns c goes rows has few =
    let i = c.loop-i.i in
    subst (λ block. HasCounted c.loop-i.self.steps.part c.loop-i.self.counts (rows ++ block))
    (take_all i c.args.block.now.rows (subst (λ n. n ≤ i) c.len-i-end.ensures c.loop-i-test.false)) (c.loop-i.invariant rows has few goes)
