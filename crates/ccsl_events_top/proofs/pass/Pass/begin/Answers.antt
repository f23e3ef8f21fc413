use Rattle.std.proofs.Common.{refl, ap, ◌∙◌, ◌++◌}
use Rattle.ccsl_events_top.proofs.Bodies.{begins-body}
use Rattle.ccsl_events_top.proofs.pass.Pass.begin.Goals as goal

pub returns : goal.returns
returns c told sink start now h plan x stands =
    begins-body told sink start now plan h c.args.self.now
    (record c.args.self.now { reader = c.begin.new.self; block = c.reserve.new.self }) c.args.header.items x refl refl refl
    (c.reserve.ensures.items ∙ c.in_ok-extend_from_slice.ensures.items ∙ ap (λ xs. c.args.self.now.block.items ++ xs) c.as_slice.ensures.value)
    (c.begin.ensures plan _ x.ready stands)
