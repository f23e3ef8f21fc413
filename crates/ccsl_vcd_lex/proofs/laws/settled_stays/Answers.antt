use Rattle.ccsl_vcd_lex.proofs.Further.{settled-further, heard-further}
use Rattle.ccsl_vcd_lex.proofs.laws.settled_stays.Goals as goal

pub returns-clause-further : goal.returns-clause-further
returns-clause-further c = settled-further

pub returns-clause-whole : goal.returns-clause-whole
returns-clause-whole c = heard-further
