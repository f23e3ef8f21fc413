use Rattle.std.proofs.Common.{◌∙◌, sym}
use Rattle.rand_pcg.proofs.LcgLemmas.{advance_zero}
use Rattle.rand_pcg.specs.Pcg.{multiplier_64}
use Rattle.ccsl_policy.specs.Words.{seeded}
use Rattle.ccsl_policy.proofs.draw.Draw.new.Goals as goal

pub returns : goal.returns
returns c = c.new.ensures ∙ sym (advance_zero 64 multiplier_64 (seeded c.args.seed))
