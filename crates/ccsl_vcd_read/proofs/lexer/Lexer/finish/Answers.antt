use Rattle.std.proofs.Common.{◌<◌, ◌+◌, [], ◌∷◌, ◌++◌, length, ap, ◌∙◌, arith}
use Rattle.ccsl_vcd_lex.specs.Tokens.{token, word, settled}
use Rattle.ccsl_vcd_lex.specs.Lexing.{named}
use Rattle.ccsl_vcd_read.proofs.Passing.{enter, blank, none-seen, all-heard, heard-place}
use Rattle.ccsl_vcd_read.proofs.lexer.Lexer.finish.Goals as goal
use Rattle.ccsl_vcd_read.proofs.lexer.Lexer.finish.Goals.{in-Some, in-None}

pub finish-requires : goal.finish-requires
finish-requires c =
    let s = enter _ _ c.requires.0 c.self.view_is c.requires.1 in
    (blank s.blanks ++ s.rest, s.stands, none-seen _ c.requires.0 s c.requires.2)

pub overflow_add-result : goal.overflow_add-result
overflow_add-result c =
    let s = enter _ _ c.requires.0 c.self.view_is c.requires.1 in
    let e = c.in-Some.ensures.all (blank s.blanks ++ s.rest) s.stands in
    let h = word (token c.in-Some.span.at c.finish.new.self.last) ∷ [] in
    let l : c.in-Some.span.at + c.self.inside.passed < length c.requires.0 =
    heard-place c.requires.0 (settled c.requires.0) _ (all-heard _ c.requires.0 s h e) in
    omega (arith, l, c.requires.3)

pub returns : goal.returns
returns c = record {
  all = λ bytes t.
      let s = enter _ _ bytes c.self.view_is t in
      let e = c.finish.ensures.all (blank s.blanks ++ s.rest) s.stands in
      elim c.match-finish.branch [
        | in-Some w ↦ rw w.result-is
            (all-heard _ bytes s (word (token w.in-Some.span.at c.finish.new.self.last) ∷ [])
            (e ∙ ap (λ o. settled (blank s.blanks ++ s.rest) ++ named o c.finish.new.self.last) w.in-Some.is))
        | in-None w ↦ rw w.result-is (all-heard _ bytes s [] (e ∙ ap (λ o. settled (blank s.blanks ++ s.rest) ++ named o c.finish.new.self.last) w.in-None.is))
      ];
}
