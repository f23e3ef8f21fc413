use Rattle.std.proofs.Common.{◌≡◌, ◌-◌, [], length, take, drop, sym, ◌∙◌}
use Rattle.ccsl_session.proofs.Words.{tokens-end, tokens-next}
use Rattle.ccsl_session.proofs.token.Tokens.next.Goals as goal
use Rattle.ccsl_base.proofs.Cases.{rest-is}

pub returns-then-len-eq0 : goal.returns-then-len-eq0
returns-then-len-eq0 c =
    let xs = c.self.inside.rest.now in
    let n = c.blanks.result in
    let none : c.args.self.now ≡ [] =
    sym c.self.view_is ∙ tokens-end n c.letters-len.result xs _ c.blanks.ensures.count (rest-is n xs) c.letters-len.ensures.count c.if-len-eq0.true in
    (none, none)

pub returns : goal.returns
returns c =
    let xs = c.self.inside.rest.now in
    let n = c.blanks.result in
    let m = c.letters-len.result in
    let w = take (length xs - n) (drop n xs) in
    sym c.self.view_is ∙ tokens-next n m xs w _ c.blanks.ensures.count (rest-is n xs) c.letters-len.ensures.count c.if-len-eq0.false (rest-is m w)
