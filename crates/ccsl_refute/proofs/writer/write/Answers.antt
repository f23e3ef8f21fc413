use Rattle.std.proofs.Common.{◌≡◌, ◌++◌, ◌∷◌, [], List, take, sym, ap, ◌∙◌, subst}
use Rattle.std.specs.List.{All}
use Rattle.std.proofs.lemmas.List.{take_all}
use Rattle.ccsl_refute.specs.declared.line.Line.{Line}
use Rattle.ccsl_refute.specs.NumbersFit.{NumbersFit}
use Rattle.ccsl_refute.specs.Reading.{reading}
use Rattle.ccsl_refute.specs.Writing.{line_text, lines_text}
use Rattle.ccsl_refute.proofs.ReadBack.{lines-back}
use Rattle.ccsl_refute.proofs.Written.{All-more, lines_text-more}
use Rattle.ccsl_refute.proofs.writer.write.Goals as goal

pub lines-preserved : goal.lines-preserved
lines-preserved c =
    let names = c.args.names.now in
    let lines = c.args.lines.now in
    let i = c.lines.line-index in
    let line = c.line-item.result in
    record {
      fit = All-more NumbersFit lines i line c.lines.invariant.fit c.lines-test.true c.line-item.is c.in_ok-write_line.ensures.fit;
      text =
          c.in_ok-push.ensures.items
          ∙ ap (λ t. t ++ 10 ∷ []) (c.in_ok-write_line.ensures.text ∙ ap (λ t. t ++ line_text names line) c.lines.invariant.text)
          ∙ sym (lines_text-more names lines i line c.lines-test.true c.line-item.is);
    }

pub returns-clause-reads_back : goal.returns-clause-reads_back
returns-clause-reads_back c proper =
    let names = c.args.names.now in
    let lines = c.args.lines.now in
    let all : take c.lines.line-index lines ≡ lines = take_all c.lines.line-index lines c.lines-test.false in
    ap (reading names) (c.lines.invariant.text ∙ ap (lines_text names) all)
    ∙ lines-back names c.are_distinct.ensures proper lines 0 c.requires (subst (λ (ls : List Line). All NumbersFit ls) all c.lines.invariant.fit)
