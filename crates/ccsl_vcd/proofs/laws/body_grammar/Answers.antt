use Rattle.ccsl_vcd.proofs.Spelled.{body-read}
use Rattle.ccsl_vcd.proofs.Parsed.{body-spelled}
use Rattle.ccsl_vcd.proofs.laws.body_grammar.Goals as goal

pub returns-clause-read : goal.returns-clause-read
returns-clause-read c = λ w l ds bs cs now items h. body-read w l ds bs cs now items h

pub returns-clause-spelled : goal.returns-clause-spelled
returns-clause-spelled c = λ w l ds bs cs now tokens h. body-spelled w l ds bs tokens cs now h
