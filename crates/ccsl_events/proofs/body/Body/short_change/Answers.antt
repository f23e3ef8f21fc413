use Rattle.std.proofs.Common.{◌≡◌, ℕ, List, ◌<◌, map, take, true, sym, subst, ◌∙◌, arith}
use Rattle.ccsl_triggers.specs.Held.{held}
use Rattle.ccsl_events.specs.declared.values.Values.{Values}
use Rattle.ccsl_events.specs.Keeping.{is_known, Knows}
use Rattle.ccsl_vcd_lex.specs.ShortCodes.{place_of, SHORT}
use Rattle.ccsl_events.specs.Standing.{Stands}
use Rattle.ccsl_events.proofs.Kept.{declared}
use Rattle.ccsl_events.proofs.Run.{runs-none}
use Rattle.ccsl_events.proofs.Changes.{change-runs}
use Rattle.ccsl_events.proofs.body.Body.short_change.Goals as goal

pub returns-in_default-clause-runs : goal.returns-in_default-clause-runs
returns-in_default-clause-runs c at plan p out s a l = runs-none plan p at c.args.self.now out s

pub returns-then-not-branch-clause-runs : goal.returns-then-not-branch-clause-runs
returns-then-not-branch-clause-runs c at plan p out s a l =
    let still = c.in_ok-change_known.ensures.still c.if-not-branch.true in
    runs-none plan p at (record c.args.self.now { values = c.change_known.new.self }) out
    (subst (λ (v : Values). Stands plan p (record c.args.self.now { values = v })) (sym still) s)

pub returns-clause-runs : goal.returns-clause-runs
returns-clause-runs c at plan p out s a l =
    let here = c.in-Some.ensures in
    let code : List ℕ = take c.in-Some.code.len c.args.bytes.now in
    let hs = map held c.args.self.now.values.signals.items in
    let low : place_of code < SHORT = omega (arith, here.at, here.short) in
    let knows = subst (Knows plan hs code) (sym (c.at-known.ensures code low here.at)) (s.keeps.codes code) in
    let is : is_known c.at-known.result ≡ true = sym c.in_ok-change_known.ensures.declared ∙ c.if-not-branch.false in
    change-runs plan p c.args.self.now c.change_known.new.self at c.in-Some.code.len c.in-Some.code.place c.args.letter c.args.bytes.now out s a
    (omega (arith, c.ranges.letter.fits)) l here
    (declared plan hs code c.at-known.result knows ∙ is) (c.in_ok-change_known.ensures.keeps plan p.views code s.keeps knows is)
