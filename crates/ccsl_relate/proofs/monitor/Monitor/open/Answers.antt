use Rattle.std.proofs.Common.{[], refl, sym, subst, arith}
use Rattle.std.specs.Prelude.{All}
use Rattle.ccsl_relate.specs.Following.{ReadsClocks}
use Rattle.ccsl_relate.proofs.Following.{items-clocks}
use Rattle.ccsl_relate.proofs.monitor.Monitor.open.Goals as goal

pub states_for-requires : goal.states_for-requires
states_for-requires c =
    subst (All ReadsClocks) (sym c.as_slice-2.ensures.value)
    (items-clocks c.args.system.now c.is_accepted.ensures c.args.recorded.now [] c.args.start c.in_ok-kept.kept.items c.in_ok-kept.ensures.keeps)

pub returns-clause-stands : goal.returns-clause-stands
returns-clause-stands c = record {
  accepted = c.is_accepted.ensures;
  items = omega (arith, c.in_ok-kept.ensures.count);
  sets = refl;
  steps = refl;
  first = λ n j l. absurd (omega (arith, l));
  follows = λ _. record {
    keeps = c.in_ok-kept.ensures.keeps;
    suffice = rw c.as_slice-2.ensures.value at c.in_ok-states.ensures.suffice;
    states = c.in_ok-states.ensures.after;
  };
}
