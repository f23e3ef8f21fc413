use Rattle.std.proofs.Common.{◌+◌, [], Vec, Global, Ok, length, ap, ◌∙◌, arith}
use Rattle.std.proofs.lemmas.Result.{err_from_is_err_and}
use Rattle.ccsl_refute.specs.declared.line.Line.{Line}
use Rattle.ccsl_refute.specs.Read.{members}
use Rattle.ccsl_refute.specs.Reading.{read_line, reading}
use Rattle.ccsl_refute.specs.Text.{tokens}
use Rattle.ccsl_refute.proofs.InOrder.{Reads-fault, put_before}
use Rattle.ccsl_refute.proofs.Tokens.{length-rest}
use Rattle.ccsl_refute.proofs.Lines.{later, step-none, step-one, step-fault}
use Rattle.ccsl_refute.proofs.reader.read.Goals as goal
use Rattle.ccsl_refute.proofs.reader.read.Goals.{in-Some+in_ok-push, in_default}
use Rattle.ccsl_base.proofs.Cases.{rest-is}

pub returns-in_err-found : goal.returns-in_err-found
returns-in_err-found c =
    let p = err_from_is_err_and c.from_residual.result c.from_residual.ensures.1 in
    let w = c.first_line.result.now in
    rw (p.1, p.2)
    (Reads-fault members (λ (v : Vec Line Global). v.items) (read_line c.args.names.now (c.lines.at + length w) (tokens c.lines.at w) (Ok []))
    (reading c.args.names.now c.args.text.now)
    c.in_err-found.field-0.0
    (step-fault c.args.names.now c.args.text.now c.lines.at c.line_len-len.result _ w c.lines.lines.items
    (rest-is c.lines.at c.args.text.now) c.line_len-len.ensures.len c.line_len-len.ensures.within c.first_line.ensures.line c.lines.invariant.same)
    c.in_err-found.ensures)

pub lines-preserved : goal.lines-preserved
lines-preserved c =
    let names = c.args.names.now in
    let text = c.args.text.now in
    let at = c.lines.at in
    let n = c.line_len-len.result in
    let w = c.first_line.result.now in
    let rest = rest-is at text in
    let len = c.line_len-len.ensures.len in
    let inside = c.line_len-len.ensures.within in
    let line = c.first_line.ensures.line in
    record {
      within = omega (arith, inside, length-rest at text);
      same =
          elim c.match-found.branch [
            | in-Some+in_ok-push v ↦
                ap (λ (ls : Vec Line Global). put_before ls.items (later names text at n)) v.lines-is
                ∙ ap (λ ls. put_before ls (later names text at n)) v.in_ok-push.ensures.items
                ∙ step-one names text at n _ w c.lines.lines.items rest len inside line c.lines.invariant.same v.in-Some.line
                (c.in_ok-found.ensures ∙ ap (λ o. Ok (members {A = Line} o)) v.in-Some.is)
            | in_default v ↦
                ap (λ (ls : Vec Line Global). put_before ls.items (later names text at n)) v.lines-is
                ∙ step-none names text at n _ w c.lines.lines.items rest len inside line c.lines.invariant.same
                (c.in_ok-found.ensures ∙ ap (λ o. Ok (members {A = Line} o)) v.in_default.is)
          ];
    }
