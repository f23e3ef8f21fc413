use Rattle.std.proofs.Common.{◌≤◌, List, Ok, Err, map, length, sym, ap, subst, ◌∙◌}
use Rattle.std.proofs.lemmas.Result.{err_from_is_err_and}
use Rattle.ccsl_base.specs.declared.limits.TheConstants.{MAX_CLOCKS}
use Rattle.ccsl_event_file.specs.Parsing.{event_in}
use Rattle.ccsl_events.specs.declared.binder.Source.{Source}
use Rattle.ccsl_events.specs.Dump.{begin}
use Rattle.ccsl_events.specs.Standing.{are_skipped, Stands}
use Rattle.ccsl_events.specs.Binding.{each, watch}
use Rattle.ccsl_events.specs.Binding as b
use Rattle.ccsl_events.specs.Binds.{BindsWatches}
use Rattle.ccsl_events.specs.Begun.{plan_of, Begins}
use Rattle.ccsl_events.specs.Links.{are_coded, are_within}
use Rattle.ccsl_events.proofs.WholeFile.{AreMeanings, found-meanings, bound-few, bound-coded, bound-within, bound-stands, fault-bound}
use Rattle.ccsl_events.proofs.binding.bound.Goals as goal
use Rattle.ccsl_events.proofs.binding.bound.Goals.{In_ok-watches}

meanings : (c : In_ok-watches)
    → AreMeanings (each (watch c.args.variables.now) (map event_in c.args.events.now)) c.in_ok-watches.watches.items c.watches.new.self.sources.items
meanings c =
    found-meanings (each (watch c.args.variables.now) (map event_in c.args.events.now)) c.in_ok-watches.watches c.watches.new.self.sources.items
    (subst (λ (ss : List Source). BindsWatches (Ok c.in_ok-watches.watches) (each (watch c.args.variables.now) (map event_in c.args.events.now)) ss
    c.watches.new.self.sources.items)
    c.new-binder.ensures c.in_ok-watches.ensures)

pub returns-in_err-watches : goal.returns-in_err-watches
returns-in_err-watches c =
    let p = err_from_is_err_and c.from_residual.result c.from_residual.ensures.1 in
    let binds = subst (λ (ss : List Source). BindsWatches (Err c.in_err-watches.field-0.0) (each (watch c.args.variables.now) (map event_in c.args.events.now))
    ss c.watches.new.self.sources.items)
    c.new-binder.ensures c.in_err-watches.ensures in
    subst (λ r. Begins r (b.bound (map event_in c.args.events.now) c.args.variables.now c.args.codes (are_skipped c.args.gaps)))
    (sym (p.1 ∙ ap (λ f. Err f) p.2))
    (fault-bound c.args.events.now c.args.variables.now c.args.codes (are_skipped c.args.gaps) c.in_err-watches.field-0.0 c.watches.new.self.sources.items
    binds)

pub body-requires-clause-few : goal.body-requires-clause-few
body-requires-clause-few c =
    subst (λ n. n ≤ MAX_CLOCKS)
    (sym (bound-few c.args.events.now c.args.variables.now c.args.codes c.args.gaps c.in_ok-watches.watches c.watches.new.self.sources.items
    (meanings (goal.at.body-requires-clause-few c).In_ok-watches)))
    c.requires.few

pub body-requires-clause-coded : goal.body-requires-clause-coded
body-requires-clause-coded c =
    ap (are_coded (length c.args.codes)) c.as_slice.ensures.value
    ∙ bound-coded c.args.events.now c.args.variables.now c.args.codes c.args.gaps c.in_ok-watches.watches c.watches.new.self.sources.items
    (meanings (goal.at.body-requires-clause-coded c).In_ok-watches) c.requires.coded

pub body-requires-clause-within : goal.body-requires-clause-within
body-requires-clause-within c =
    ap (λ ss. are_within (length ss) c.in_ok-watches.watches.items) c.as_slice.ensures.value
    ∙ bound-within c.args.events.now c.args.variables.now c.args.codes c.args.gaps c.in_ok-watches.watches c.watches.new.self.sources.items
    (meanings (goal.at.body-requires-clause-within c).In_ok-watches)

pub returns : goal.returns
returns c =
    bound-stands c.args.events.now c.args.variables.now c.args.codes c.args.gaps c.in_ok-watches.watches c.watches.new.self.sources.items
    (meanings (goal.at.returns c).In_ok-watches) c.in_ok-body.body
    (subst (λ ss. Stands (plan_of c.args.codes ss c.in_ok-watches.watches c.args.gaps) begin c.in_ok-body.body) c.as_slice.ensures.value c.in_ok-body.ensures)
