use Rattle.std.proofs.Common.{◌≡◌, ℕ, List, [], ◌<◌, ◌+◌, map, take, true, sym, subst, ◌∙◌, zero-add, arith}
use Rattle.ccsl_triggers.specs.Held.{held}
use Rattle.ccsl_events.specs.declared.body.Body.{Body}
use Rattle.ccsl_events.specs.declared.values.Values.{Values}
use Rattle.ccsl_events.specs.Keeping.{is_known, Knows}
use Rattle.ccsl_vcd_lex.specs.ShortCodes.{place_of, SHORT}
use Rattle.ccsl_events.specs.Standing.{Stands}
use Rattle.ccsl_events.specs.Run.{Runs}
use Rattle.ccsl_events.proofs.Kept.{declared}
use Rattle.ccsl_events.proofs.Run.{runs-none}
use Rattle.ccsl_events.proofs.Changes.{vector-runs}
use Rattle.ccsl_events.proofs.body.Body.short_vector.Goals as goal
use Rattle.ccsl_events.proofs.body.Body.short_vector.Goals.{then-not-are_letters-via-then-not-are_letters}
use Rattle.ccsl_events.proofs.body.Body.short_vector.Goals.{then-not-are_letters-via-else-not-are_letters+in_ok-change_known+then-not-branch}
use Rattle.ccsl_base.proofs.Cases.{rest-is, rest_at}

pub returns-then-end-eq0-clause-runs : goal.returns-then-end-eq0-clause-runs
returns-then-end-eq0-clause-runs c at plan p out s a = runs-none plan p at c.args.self.now out s

pub returns-in_default-clause-runs : goal.returns-in_default-clause-runs
returns-in_default-clause-runs c at plan p out s a = runs-none plan p at c.args.self.now out s

pub returns-then-not-are_letters-clause-runs : goal.returns-then-not-are_letters-clause-runs
returns-then-not-are_letters-clause-runs c at plan p out s a =
    elim c.then-not-are_letters.branch [
      | then-not-are_letters-via-then-not-are_letters w ↦ subst (λ (b : Body). Runs plan p at [] b out out) (sym w.self-is)
          (runs-none plan p at c.args.self.now out s)
      | then-not-are_letters-via-else-not-are_letters+in_ok-change_known+then-not-branch w ↦
          let still = w.in_ok-change_known.ensures.still w.if-not-branch.true in
          subst (λ (b : Body). Runs plan p at [] b out out) (sym w.self-is)
          (runs-none plan p at (record c.args.self.now { values = w.change_known.new.self }) out
          (subst (λ (v : Values). Stands plan p (record c.args.self.now { values = v })) (sym still) s))
    ]

pub returns-clause-runs : goal.returns-clause-runs
returns-clause-runs c at plan p out s a =
    let end = c.run_end-end.result in
    let bytes = c.args.bytes.now in
    let rest : List ℕ = rest_at (end + 1) bytes in
    let here = c.in-Some.ensures in
    let code : List ℕ = take c.in-Some.code.len rest in
    let hs = map held c.args.self.now.values.signals.items in
    let low : place_of code < SHORT = omega (arith, here.at, here.short) in
    let knows = subst (Knows plan hs code) (sym (c.at-known.ensures code low here.at)) (s.keeps.codes code) in
    let is : is_known c.at-known.result ≡ true = sym c.in_ok-change_known.ensures.declared ∙ c.if-not-branch.false in
    vector-runs plan p c.args.self.now c.change_known.new.self at end c.in-Some.code.len c.in-Some.code.place bytes rest out s a
    (omega (arith, c.if-end-eq0.false)) (omega (arith, c.if-end-bytes.false))
    (omega (arith, c.if-end-ge-MAX_TOKEN_BYTES.false)) (c.run_end-end.ensures.value ∙ zero-add _) (sym c.are_letters.ensures ∙ c.if-not-are_letters.false)
    (rest-is (end + 1) bytes) here
    (declared plan hs code c.at-known.result knows ∙ is) (c.in_ok-change_known.ensures.keeps plan p.views code s.keeps knows is)
