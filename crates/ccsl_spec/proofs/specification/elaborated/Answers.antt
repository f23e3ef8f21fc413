use Rattle.std.proofs.Common.{sym, ap, ◌∙◌}
use Rattle.ccsl_ast.specs.Files.{plain_file}
use Rattle.ccsl_rules.specs.Elaborated.{refusal}
use Rattle.ccsl_rules.specs.Expansion.{expand}
use Rattle.ccsl_spec.proofs.specification.elaborated.Goals as goal

pub returns-in-Ok : goal.returns-in-Ok
returns-in-Ok c =
    let file = plain_file c.args.file.now in
    let tree = c.in_ok-library.ensures.tree in
    record {
      accepted = ap (λ l. refusal l file) (sym tree) ∙ c.in-Ok.ensures.accepted;
      system = c.in-Ok.ensures.expansion ∙ ap (λ l. expand l file) tree;
    }

pub returns : goal.returns
returns c = record {
  r = c.in-Err.refusal;
  refused = ap (λ l. refusal l (plain_file c.args.file.now)) (sym c.in_ok-library.ensures.tree)
      ∙ c.in-Err.ensures.refused c.in_ok-refusal_line-in-Err.ensures.cause;
  is = c.in_ok-refusal_line-in-Err.ensures.line;
}
