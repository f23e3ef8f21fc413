use Rattle.std.proofs.Common.{ℕ, ◌≡◌, ◌⊎◌, ◌+◌, ◌-◌, length, take, ap, subst, arith}
use Rattle.std.proofs.lemmas.Result.{err_from_is_err_and}
use Rattle.ccsl_vcd.specs.declared.fault.VcdFault.TheVariants as faults
use Rattle.ccsl_events.specs.Run.{Runs, Breaks}
use Rattle.ccsl_events.proofs.Run.{runs-none, rest-none, rest-more, runs-more, rest-breaks, place-fits}
use Rattle.ccsl_events.proofs.body.Body.run.Goals as goal
use Rattle.ccsl_base.proofs.Cases.{rest-is}

pub tokens-init : goal.tokens-init
tokens-init c = record {
  rest = rest-none c.args.piece.now;
  runs = λ plan p s fits.
      let none : 0 ≡ length c.args.piece.now - length c.args.piece.now = omega arith in
      subst (λ (i : ℕ). Runs plan p c.args.at (take i c.args.piece.now) c.args.self.now c.args.out.now.items c.args.out.now.items) none
      (runs-none plan p c.args.at c.args.self.now c.args.out.now.items s);
}

pub tokens-preserved : goal.tokens-preserved
tokens-preserved c =
    let piece = c.args.piece.now in
    let rest = c.tokens.rest.now in
    let so = c.tokens.invariant.rest in
    let taken = c.in_ok-taken.taken in
    let more = rest-more taken piece rest _ so c.in_ok-taken.ensures.within (rest-is taken rest) in
    record {
      rest = more;
      runs = λ plan p s fits.
          subst (λ (i : ℕ). Runs plan p c.args.at (take i piece) c.step.new.self c.args.out.now.items c.step.new.out.items)
          (omega (arith, so.fits, c.in_ok-taken.ensures.within, ap length (rest-is taken rest), Rattle.std.proofs.Common.length-drop taken rest))
          (runs-more plan p c.args.at taken piece rest c.tokens.self c.step.new.self c.args.out.now.items c.tokens.out.items c.step.new.out.items so
          (c.tokens.invariant.runs plan p s fits)
          (λ q t. subst (λ (i : ℕ). Runs plan q i (take taken rest) c.step.new.self c.tokens.out.items c.step.new.out.items)
          (place-fits c.args.at piece rest c.tokens.invariant.rest.fits fits) (c.in_ok-taken.ensures.takes plan q t)));
    }

pub returns-then-taken-eq0-clause-takes : goal.returns-then-taken-eq0-clause-takes
returns-then-taken-eq0-clause-takes c plan p s fits =
    let piece = c.args.piece.now in
    let rest = c.tokens.rest.now in
    let none : length piece - length rest + c.in_ok-taken.taken ≡ length piece - length rest = omega (arith, c.if-taken-eq0.true) in
    subst (λ (i : ℕ). Runs plan p c.args.at (take i piece) c.step.new.self c.args.out.now.items c.step.new.out.items) none
    (runs-more plan p c.args.at c.in_ok-taken.taken piece rest c.tokens.self c.step.new.self c.args.out.now.items c.tokens.out.items c.step.new.out.items
    c.tokens.invariant.rest (c.tokens.invariant.runs plan p s fits)
    (λ q t. subst (λ (i : ℕ). Runs plan q i (take c.in_ok-taken.taken rest) c.step.new.self c.tokens.out.items c.step.new.out.items)
    (place-fits c.args.at piece rest c.tokens.invariant.rest.fits fits) (c.in_ok-taken.ensures.takes plan q t)))

pub returns-in_err-taken-clause-takes : goal.returns-in_err-taken-clause-takes
returns-in_err-taken-clause-takes c plan p s fits =
    let e = err_from_is_err_and c.from_residual.result c.from_residual.ensures.1 in
    let f = c.in_err-taken.field-0.0 in
    let piece = c.args.piece.now in
    let rest = c.tokens.rest.now in
    rw (e.1, e.2)
    (rest-breaks plan p c.args.at piece rest c.tokens.self c.args.out.now.items c.tokens.out.items c.step.new.out.items f c.tokens.invariant.rest
    (c.tokens.invariant.runs plan p s fits)
    (λ q t. subst (λ (i : ℕ). (f ≡ faults.Memory) ⊎ Breaks plan q i rest f q.written c.tokens.out.items c.step.new.out.items)
    (place-fits c.args.at piece rest c.tokens.invariant.rest.fits fits) (c.in_err-taken.ensures.takes plan q t)))
