use Rattle.std.proofs.Common.{◌≡◌, ◌-◌, [], List, ℕ, length, take, drop, sym, ap, ◌∙◌}
use Rattle.ccsl_refute.proofs.Tokens.{tokens-end, tokens-next}
use Rattle.ccsl_refute.proofs.token.Tokens.next.Goals as goal
use Rattle.ccsl_base.proofs.Cases.{rest-is}

pub returns-then-len-eq0-clause-next : goal.returns-then-len-eq0-clause-next
returns-then-len-eq0-clause-next c =
    let xs = c.self.inside.rest.now in
    let n = c.blanks-start.result in
    let none : c.args.self.now.0 ≡ [] =
    ap (λ (v : List (ℕ × List ℕ) × ℕ). v.0) (sym c.self.view_is)
    ∙ tokens-end c.self.inside.at n c.letters-len.result xs _ c.blanks-start.ensures.count (rest-is n xs) c.letters-len.ensures.count c.if-len-eq0.true in
    (none, none)

pub returns-clause-next : goal.returns-clause-next
returns-clause-next c =
    let xs = c.self.inside.rest.now in
    let n = c.blanks-start.result in
    let m = c.letters-len.result in
    let w = take (length xs - n) (drop n xs) in
    ap (λ (v : List (ℕ × List ℕ) × ℕ). v.0) (sym c.self.view_is)
    ∙ tokens-next c.self.inside.at n m xs w _ c.blanks-start.ensures.count (rest-is n xs) c.letters-len.ensures.count c.if-len-eq0.false (rest-is m w)
