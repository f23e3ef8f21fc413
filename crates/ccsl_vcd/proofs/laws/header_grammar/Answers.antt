use Rattle.ccsl_vcd.proofs.WholeFile.{header-binds, header-refused, begins-with-header}
use Rattle.ccsl_vcd.proofs.laws.header_grammar.Goals as goal

pub returns-clause-read : goal.returns-clause-read
returns-clause-read c = λ w l commands last bound h b. header-binds w l commands last h bound b

pub returns-clause-refused : goal.returns-clause-refused
returns-clause-refused c = λ w l commands last f h b. header-refused w l commands last h f b

pub returns-clause-spelled : goal.returns-clause-spelled
returns-clause-spelled c = begins-with-header
