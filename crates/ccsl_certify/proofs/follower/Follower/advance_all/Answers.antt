use Rattle.std.proofs.Common.{ap, ◌∙◌, arith}
use Rattle.std.proofs.lemmas.Grind.{common_steps}
use Rattle.ccsl_certify.proofs.Following.{block-more}
use Rattle.ccsl_certify.proofs.follower.Follower.advance_all.Goals as goal

pub loop-i-preserved : goal.loop-i-preserved
loop-i-preserved c = record {
  system = c.advance.ensures.system ∙ c.loop-i.invariant.system;
  monitor = c.advance.ensures.monitor ∙ c.loop-i.invariant.monitor;
  after = λ rows a few.
      block-more c.args.self.now.system.now c.loop-i.self.system.now rows c.args.block.now.rows c.loop-i.i c.row.result.now c.loop-i.self.states
      c.advance.new.self.states
      (ap (λ s. s.now) c.loop-i.invariant.system) c.row.ensures (omega arith) (c.loop-i.invariant.after rows a few) c.advance.ensures.after few;
}

pub returns-clause-after : goal.returns-clause-after
returns-clause-after c = grind (arith, common_steps)
