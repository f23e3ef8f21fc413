use Rattle.std.proofs.Common.{ℕ, List, sym, ap, subst, ◌∙◌}
use Rattle.std.specs.Str.{IsUtf8}
use Rattle.ccsl_ast.specs.Files.{plain_file}
use Rattle.ccsl_grammar.specs.Canonical.{file_lines}
use Rattle.ccsl_print.specs.Pages.{lines_after}
use Rattle.ccsl_print.specs.ReadsBack.{ReadsBack}
use Rattle.ccsl_print.proofs.PageText.{printed}
use Rattle.ccsl_print.proofs.ReadBack.{text_is_utf8, canonical_text_reads_back}
use Rattle.ccsl_print.proofs.printer.print.Goals as goal

pub into_text-requires : goal.into_text-requires
into_text-requires c =
    let f = plain_file c.args.file.now in
    let e = printed f c.put_file.new.page (c.in_ok-put_file.ensures ∙ ap (λ z. lines_after z (file_lines f)) c.new-page.ensures) in
    subst (λ (z : List ℕ). IsUtf8 z) (sym e) (text_is_utf8 f c.args.file.now.kept)

pub returns-clause-text : goal.returns-clause-text
returns-clause-text c =
    let f = plain_file c.args.file.now in
    c.into_text.ensures ∙ printed f c.put_file.new.page (c.in_ok-put_file.ensures ∙ ap (λ z. lines_after z (file_lines f)) c.new-page.ensures)

pub returns-clause-reads_back : goal.returns-clause-reads_back
returns-clause-reads_back c =
    let f = plain_file c.args.file.now in
    let e = c.into_text.ensures ∙ printed f c.put_file.new.page (c.in_ok-put_file.ensures ∙ ap (λ z. lines_after z (file_lines f)) c.new-page.ensures) in
    subst (λ (z : List ℕ). ReadsBack z f) (sym e) (canonical_text_reads_back f c.args.file.now.kept c.args.file.now.depth)
