use Rattle.ccsl_vcd_lex.proofs.Longest.{tokens-are-runs, runs-are-tokens, ascends}
use Rattle.ccsl_vcd_lex.proofs.laws.longest_runs.Goals as goal

pub returns-clause-found : goal.returns-clause-found
returns-clause-found c = tokens-are-runs

pub returns-clause-all : goal.returns-clause-all
returns-clause-all c = runs-are-tokens

pub returns-clause-ascending : goal.returns-clause-ascending
returns-clause-ascending c = ascends
