use Rattle.std.proofs.Common.{refl, sym, arith}
use Rattle.std.proofs.lemmas.Bool.{ltb-true}
use Rattle.ccsl_events.proofs.Users.{got-watch, one-name}
use Rattle.ccsl_events.proofs.links.sole_name.Goals as goal

pub returns-in-Some : goal.returns-in-Some
returns-in-Some c = record {
  watch = c.in-Some.watch.now;
  there = let found = c.in-Some.ensures.lookup in got-watch c.args.watches.now _ c.in-Some.watch.now (ltb-true _ _ (sym found.0)) found.1;
  reads = c.if-is_record_of.ensures.reads refl;
  recorded = c.if-is_record_of.ensures.happens refl;
  only = one-name c.args.names.now (omega (arith, c.in-len1.len_at_least)) (omega (arith, c.in-len1.len_below));
}
