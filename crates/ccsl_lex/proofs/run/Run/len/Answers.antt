use Rattle.std.proofs.Common.{rules, tests, not, ◌∙◌}
use Rattle.std.proofs.lemmas.Iterator.{YieldsList-from_slice}
use Rattle.std.proofs.lemmas.Iterator.Search.{position_from_yields_List}
use Rattle.ccsl_lex.specs.Runs.{belongs}
use Rattle.ccsl_lex.proofs.RunLists.{run_is}
use Rattle.ccsl_lex.proofs.run.Run.len.Goals as goal

pub returns-clause-run : goal.returns-clause-run
returns-clause-run c =
    c.unwrap_or.ensures
    ∙ run_is (belongs c.args.self) c.args.text.now c.position.result
    (position_from_yields_List (λ b. not (belongs c.args.self b)) _ _ c.position.result c.position.ensures.ran
    (YieldsList-from_slice c.args.text.now c.iter.ensures.rest) (λ x b q k. search (rules, tests)))
