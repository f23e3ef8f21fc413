-- A piece goes to the tokenizer, and what it answers is said of the bytes as they stand in the file.
use Rattle.std.proofs.Common.{◌<◌, ◌+◌, ◌-◌, [], ◌∷◌, ◌++◌, length, take, refl, sym, ap, ◌∙◌, arith, length-append, length-take-le}
use Rattle.ccsl_vcd_lex.specs.Tokens.{token, word, too_long, settled}
use Rattle.ccsl_vcd_lex.specs.Lexing.{named}
use Rattle.ccsl_vcd_read.proofs.Passing.{seen-length}
use Rattle.ccsl_vcd_read.proofs.Passing.{enter, blank, none-seen, none-behind, settles-more, settles-same, settled-place, lexes-more, breaks-behind}
use Rattle.ccsl_vcd_read.proofs.lexer.Lexer.feed_run.Goals as goal
use Rattle.ccsl_vcd_read.proofs.lexer.Lexer.feed_run.Goals.{in-Ok+in-Some, in-Ok+in-None, in-Err}

pub feed_run-requires : goal.feed_run-requires
feed_run-requires c =
    let s = enter _ _ c.requires.0 c.self.view_is c.requires.1 in
    (blank s.blanks ++ s.rest, s.stands, omega (arith, seen-length _ c.requires.0 s, c.requires.3))

pub overflow_add-result : goal.overflow_add-result
overflow_add-result c =
    let s = enter _ _ c.requires.0 c.self.view_is c.requires.1 in
    let y = take c.in-Ok.fed.bytes c.args.piece.now in
    let e = c.in-Ok.ensures.settled (blank s.blanks ++ s.rest) s.stands
    ∙ ap (λ o. settled (blank s.blanks ++ s.rest) ++ named o c.feed_run.new.self.last) c.in-Some.is in
    let h = word (token c.in-Some.span.at c.feed_run.new.self.last) ∷ [] in
    let l : c.in-Some.span.at + c.self.inside.passed < length (c.requires.0 ++ y) =
    settled-place (c.requires.0 ++ y) (settled c.requires.0) _ (settles-more _ c.requires.0 s y h e) in
    omega (
      arith,
      l,
      c.requires.3,
      length-append c.requires.0 y,
      length-take-le c.in-Ok.fed.bytes c.args.piece.now c.in-Ok.ensures.within,
      c.in-Ok.ensures.within,
    )

pub overflow_add-result-in-Err : goal.overflow_add-result-in-Err
overflow_add-result-in-Err c =
    let s = enter _ _ c.requires.0 c.self.view_is c.requires.1 in
    let b = c.in-Err.ensures.broke (blank s.blanks ++ s.rest) s.stands (none-seen _ c.requires.0 s c.requires.2) in
    let y = take (b.taken + 1) c.args.piece.now in
    let within : b.taken < length c.args.piece.now = b.within in
    let l : c.in-Err.long.at + c.self.inside.passed < length (c.requires.0 ++ y) =
    settled-place (c.requires.0 ++ y) (settled c.requires.0) _ (settles-more _ c.requires.0 s y (too_long c.in-Err.long.at ∷ []) b.broke) in
    omega (arith, l, c.requires.3, length-append c.requires.0 y, length-take-le (b.taken + 1) c.args.piece.now (omega arith), within)

pub returns-clause-stands : goal.returns-clause-stands
returns-clause-stands c =
    elim c.match-feed_run.branch [
      | in-Ok+in-Some w ↦ rw w.result-is (λ bytes t.
          let s = enter _ _ bytes c.self.view_is t in
          lexes-more _ _ bytes (take w.in-Ok.fed.bytes c.args.piece.now) s refl (w.in-Ok.ensures.stands (blank s.blanks ++ s.rest) s.stands))
      | in-Ok+in-None w ↦ rw w.result-is (λ bytes t.
          let s = enter _ _ bytes c.self.view_is t in
          lexes-more _ _ bytes (take w.in-Ok.fed.bytes c.args.piece.now) s refl (w.in-Ok.ensures.stands (blank s.blanks ++ s.rest) s.stands))
      | in-Err w ↦ rw w.result-is tt
    ]

pub returns-clause-settled : goal.returns-clause-settled
returns-clause-settled c =
    elim c.match-feed_run.branch [
      | in-Ok+in-Some w ↦ rw w.result-is (λ bytes t.
          let s = enter _ _ bytes c.self.view_is t in
          settles-more _ bytes s (take w.in-Ok.fed.bytes c.args.piece.now) (word (token w.in-Some.span.at c.feed_run.new.self.last) ∷ [])
          (w.in-Ok.ensures.settled (blank s.blanks ++ s.rest) s.stands
          ∙ ap (λ o. settled (blank s.blanks ++ s.rest) ++ named o c.feed_run.new.self.last) w.in-Some.is))
      | in-Ok+in-None w ↦ rw w.result-is (λ bytes t.
          let s = enter _ _ bytes c.self.view_is t in
          settles-more _ bytes s (take w.in-Ok.fed.bytes c.args.piece.now) []
          (w.in-Ok.ensures.settled (blank s.blanks ++ s.rest) s.stands
          ∙ ap (λ o. settled (blank s.blanks ++ s.rest) ++ named o c.feed_run.new.self.last) w.in-None.is)
          ∙ ap (λ o. settled bytes ++ named o c.feed_run.new.self.last) (sym w.in-None.is))
      | in-Err w ↦ rw w.result-is tt
    ]

pub returns-clause-by_last : goal.returns-clause-by_last
returns-clause-by_last c =
    elim c.match-feed_run.branch [
      | in-Ok+in-Some w ↦ rw w.result-is (
          let h = rw w.in-Some.is at w.in-Ok.ensures.by_last in
          λ bytes t.
          let s = enter _ _ bytes c.self.view_is t in
          settles-same _ bytes s (take (w.in-Ok.fed.bytes - 1) c.args.piece.now) (h (blank s.blanks ++ s.rest) s.stands))
      | in-Ok+in-None w ↦ rw (w.result-is, w.in-None.is) tt
      | in-Err w ↦ rw w.result-is tt
    ]

pub returns-clause-short : goal.returns-clause-short
returns-clause-short c =
    elim c.match-feed_run.branch [
      | in-Ok+in-Some w ↦ rw w.result-is (λ bytes t.
          let s = enter _ _ bytes c.self.view_is t in
          none-behind _ bytes (take w.in-Ok.fed.bytes c.args.piece.now) s (w.in-Ok.ensures.short (blank s.blanks ++ s.rest) s.stands))
      | in-Ok+in-None w ↦ rw w.result-is (λ bytes t.
          let s = enter _ _ bytes c.self.view_is t in
          none-behind _ bytes (take w.in-Ok.fed.bytes c.args.piece.now) s (w.in-Ok.ensures.short (blank s.blanks ++ s.rest) s.stands))
      | in-Err w ↦ rw w.result-is tt
    ]

pub returns-clause-broke : goal.returns-clause-broke
returns-clause-broke c =
    elim c.match-feed_run.branch [
      | in-Ok+in-Some w ↦ rw w.result-is tt
      | in-Ok+in-None w ↦ rw w.result-is tt
      | in-Err w ↦ rw w.result-is (λ bytes t none.
          let s = enter _ _ bytes c.self.view_is t in
          breaks-behind _ bytes c.args.piece.now w.in-Err.long.at s (w.in-Err.ensures.broke (blank s.blanks ++ s.rest) s.stands (none-seen _ bytes s none)))
    ]
