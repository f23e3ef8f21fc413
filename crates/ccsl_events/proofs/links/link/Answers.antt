use Rattle.std.proofs.Common.{◌≡◌, ◌<◌, ℕ, zero, suc, List, [], ◌∷◌, length, get_or, map, true, nat_lt, subst, sym, take, arith}
use Rattle.std.proofs.lemmas.Bool.{and_parts, ltb-true}
use Rattle.std.proofs.lemmas.List.{take_all, take_more}
use Rattle.ccsl_triggers.specs.Held.{held}
use Rattle.ccsl_events.specs.declared.binder.Source.{Source}
use Rattle.ccsl_events.specs.Links.{IsLinked, are_coded}
use Rattle.ccsl_events.proofs.links.link.Goals as goal

-- the code of each variable is declared
coded : (codes : ℕ) (ss : List Source) (i : ℕ) → are_coded codes ss ≡ true → i < length ss → (get_or ss i (record { code = 0; size = 0 })).code < codes
coded codes [] i all l = absurd (omega (arith, l))
coded codes (s ∷ ss) zero all l = ltb-true s.code codes (and_parts (nat_lt s.code codes) (are_coded codes ss) all).0
coded codes (s ∷ ss) (suc i) all l = coded codes ss i (and_parts (nat_lt s.code codes) (are_coded codes ss) all).1 (omega (arith, l))

pub loop-source-init : goal.loop-source-init
loop-source-init c = c.in_ok-links.ensures

pub put-requires : goal.put-requires
put-requires c = record {
  coded =
      rw c.loop-source.invariant.len (coded c.args.codes c.args.sources.now c.loop-source.source-index c.requires.coded c.loop-source-test.true);
}

pub loop-source-preserved : goal.loop-source-preserved
loop-source-preserved c =
    subst (λ (ss : List Source). IsLinked c.args.codes ss (map held c.put.new.self.signals.items) c.put.new.self.entries.items)
    (sym (take_more c.args.sources.now c.loop-source.source-index (record { code = 0; size = 0 }) c.loop-source-test.true))
    (c.in_ok-put.ensures c.args.codes (take c.loop-source.source-index c.args.sources.now) c.loop-source.invariant)

pub returns : goal.returns
returns c =
    subst (λ ss. IsLinked c.args.codes ss (map held c.loop-source.links.signals.items) c.loop-source.links.entries.items)
    (take_all c.loop-source.source-index c.args.sources.now c.loop-source-test.false) c.loop-source.invariant
