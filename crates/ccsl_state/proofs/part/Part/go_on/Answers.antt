-- The followed definitions go on as all do.
use Rattle.std.proofs.Common.{◌≡◌, ℕ, ◌++◌, ◌∷◌, [], length, drop, true, slice_get, refl, sym, ap, ap₂, subst, ◌∙◌}
use Rattle.std.specs.Vec.{with_items}
use Rattle.ccsl_base.specs.Clocks.{are_below, is_ascending}
use Rattle.ccsl_kernel.specs.Runs.{full_step}
use Rattle.ccsl_state.specs.States.{trees_in}
use Rattle.ccsl_state.specs.Passing.{AreKept}
use Rattle.ccsl_state.specs.Part.{HeldPart, followed_tree, part_of, PartStandsFor}
use Rattle.ccsl_state.specs.PartLaid.{held_part}
use Rattle.ccsl_state.proofs.Regions.{front_head}
use Rattle.ccsl_state.proofs.PartMeans.{passed_by, part_step, part_stands}
use Rattle.ccsl_state.proofs.part.Part.go_on.Goals as goal

pub returns-clause-step : goal.returns-clause-step
returns-clause-step c = λ T stands.
    let s = c.args.step.now in
    let h = held_part c.self.inside in
    let old = c.self.inside.passage in
    let new = c.follow.new.passage in
    let trees = trees_in h.system c.as_slice.result.now h.system.definitions c.follow.new.row in
    let low : are_below h.system.declared s ≡ true = subst (λ (p : HeldPart). are_below p.system.declared s ≡ true) (sym c.self.view_is) c.requires in
    let ascends : is_ascending s ≡ true = c.hear.ensures.ascends in
    let passed = passed_by h s s c.as_slice.result.now c.as_mut_slice.result.now trees c.follow.new.step new.gone
    (c.as_slice.ensures.value ∙ c.self.invariant.calls) c.as_mut_slice.ensures.value refl c.follow.ensures.passed in
    subst (λ (p : HeldPart). PartStandsFor p T → c.follow.new.step ≡ part_of p (full_step p.system T s)) c.self.view_is
    (λ st. part_step h T s c.self.invariant.accepted c.self.invariant.closed low ascends old.gone old.unsettled c.self.invariant.kept
    trees c.follow.new.step new.gone new.unsettled passed c.follow.ensures.kept st c.follow.ensures.ascends) stands

pub returns-clause-stands : goal.returns-clause-stands
returns-clause-stands c = λ T stands short.
    let s = c.args.step.now in
    let h = held_part c.self.inside in
    let old = c.self.inside.passage in
    let new = c.follow.new.passage in
    let row' = c.follow.new.row in
    let trees = trees_in h.system c.as_slice.result.now h.system.definitions row' in
    let low : are_below h.system.declared s ≡ true = subst (λ (p : HeldPart). are_below p.system.declared s ≡ true) (sym c.self.view_is) c.requires in
    let ascends : is_ascending s ≡ true = c.hear.ensures.ascends in
    let calls_are = c.as_slice.ensures.value ∙ c.self.invariant.calls in
    let passed = passed_by h s s c.as_slice.result.now c.as_mut_slice.result.now trees c.follow.new.step new.gone calls_are
    c.as_mut_slice.ensures.value refl c.follow.ensures.passed in
    let written = with_items c.self.inside.row row' in
    let next : HeldPart = record { system = h.system; followed = h.followed; row = written.items } in
    let is : written.items ≡ row' =
    front_head c.self.inside.row.len row' (drop (length row') c.self.inside.row.items) (c.follow.auto.row ∙ c.as_mut_slice.ensures.len) in
    let same : (i : ℕ) → followed_tree next i ≡ slice_get trees i =
    λ i. ap₂ (λ C row. slice_get (trees_in h.system C h.system.definitions row) i) (sym calls_are) is in
    subst (λ (p : HeldPart). PartStandsFor p T → PartStandsFor next (T ++ full_step p.system T s ∷ [])) c.self.view_is
    (λ st. part_stands h T s c.self.invariant.accepted c.self.invariant.closed low ascends old.gone old.unsettled c.self.invariant.kept trees
    c.follow.new.step new.gone new.unsettled passed c.follow.ensures.kept st next short refl refl same) stands

pub invariant_of-self : goal.invariant_of-self
invariant_of-self c =
    let K = c.self.inside.system.now in
    let new = c.follow.new.passage in
    let row' = c.follow.new.row in
    let written = with_items c.self.inside.row row' in
    let is : written.items ≡ row' =
    front_head c.self.inside.row.len row' (drop (length row') c.self.inside.row.items) (c.follow.auto.row ∙ c.as_mut_slice.ensures.len) in
    let laid = c.self.invariant in
    record {
      accepted = laid.accepted;
      calls = laid.calls;
      places = laid.places;
      flats = laid.flats;
      readers = laid.readers;
      row = ap length is ∙ c.follow.auto.row ∙ ap length c.as_mut_slice.ensures.value ∙ laid.row;
      closed = laid.closed;
      kept = subst (λ trees. AreKept K c.self.inside.readers.followed trees new.gone new.unsettled)
          (ap₂ (λ C row. trees_in K C K.definitions row) (c.as_slice.ensures.value ∙ laid.calls) (sym is)) c.follow.ensures.kept;
    }
