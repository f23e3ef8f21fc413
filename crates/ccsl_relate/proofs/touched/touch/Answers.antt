-- What ticks in a row is in its step, or is gathered too.
use Rattle.std.proofs.Common.{◌||◌, ap, ◌∙◌, rules}
use Rattle.ccsl_base.specs.Clocks.{ticks_in}
use Rattle.ccsl_relate.proofs.Told.{told_at, touches-alike, touches-both}
use Rattle.ccsl_relate.proofs.touched.touch.Goals as goal

pub returns-then-not-is_subset : goal.returns-then-not-is_subset
returns-then-not-is_subset c = λ start kept tells.
    touches-both c.args.ticks.now c.args.step.now start c.args.group.now c.gather.new.touched c.gather-then-not-is_subset.new.touched kept tells
    (λ p. c.gather.ensures p ∙ ap (λ ys. ticks_in p ys || told_at c.args.group.now c.args.step.now p) c.requires) c.gather-then-not-is_subset.ensures

pub returns-else-not-is_subset : goal.returns-else-not-is_subset
returns-else-not-is_subset c = λ start kept tells.
    touches-alike c.args.ticks.now c.args.step.now start c.args.group.now c.gather.new.touched kept (search rules) tells
    (λ p. c.gather.ensures p ∙ ap (λ ys. ticks_in p ys || told_at c.args.group.now c.args.step.now p) c.requires)
