use Rattle.std.proofs.Common.{◌≡◌, nat_lt, subst, sym, true}
use Rattle.std.proofs.lemmas.Bool.{and_parts}
use Rattle.ccsl_base.specs.declared.limits.TheConstants.{MAX_CLOCKS}
use Rattle.ccsl_base.specs.Clocks.{are_below}
use Rattle.ccsl_base.proofs.Taking.{IsTaking, taking-in, taking-out}
use Rattle.ccsl_base.proofs.clock_set.ClockSet.below.Goals as goal

pub loop-clock-preserved-then-clock-bound : goal.loop-clock-preserved-then-clock-bound
loop-clock-preserved-then-clock-bound c =
    let rest = c.next.new.self in
    let taking = subst (λ r. IsTaking c.args.bound c.args.self.now c.loop-clock.set r) c.in-Some.ensures.steps c.loop-clock.invariant.taking in
    record {
      taking =
          subst (λ s. IsTaking c.args.bound c.args.self.now s rest) (sym c.insert.ensures)
          (taking-in c.args.bound c.args.self.now c.loop-clock.set rest c.in-Some.clock c.if-clock-bound.true taking);
      ascending = c.loop-clock.invariant.ascending;
      below = (and_parts (nat_lt c.in-Some.clock MAX_CLOCKS) (are_below MAX_CLOCKS rest)
          (subst (λ r. are_below MAX_CLOCKS r ≡ true) c.in-Some.ensures.steps c.loop-clock.invariant.below)).1;
    }

pub loop-clock-preserved : goal.loop-clock-preserved
loop-clock-preserved c =
    let rest = c.next.new.self in
    record {
      taking =
          taking-out c.args.bound c.args.self.now c.loop-clock.set rest c.in-Some.clock c.if-clock-bound.false
          (subst (λ r. IsTaking c.args.bound c.args.self.now c.loop-clock.set r) c.in-Some.ensures.steps c.loop-clock.invariant.taking);
      ascending = c.loop-clock.invariant.ascending;
      below = (and_parts (nat_lt c.in-Some.clock MAX_CLOCKS) (are_below MAX_CLOCKS rest)
          (subst (λ r. are_below MAX_CLOCKS r ≡ true) c.in-Some.ensures.steps c.loop-clock.invariant.below)).1;
    }
