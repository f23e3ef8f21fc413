use Rattle.std.proofs.Common.{◌≡◌, List, ℕ, ◌++◌, length, map, not, if◌then◌else◌, decimal, nat_lt, refl, sym, ap, ap₂, ◌∙◌}
use Rattle.std.specs.Vec.{with_items}
use Rattle.std.proofs.lemmas.Bool.{not-false}
use Rattle.std.proofs.lemmas.List.{with_items_is}
use Rattle.ccsl_triggers.specs.Held.{held}
use Rattle.ccsl_triggers.specs.Triggers.{view_at}
use Rattle.ccsl_triggers.specs.Output.{row_text}
use Rattle.ccsl_events.specs.Keeping.{with_users, settle_each, settle_read}
use Rattle.ccsl_events.proofs.Names.{names-kept, keeps-rested}
use Rattle.ccsl_events.proofs.values.Values.settle_touched.Goals as goal

pub returns : goal.returns
returns c plan views k =
    let v = c.args.self.now in
    let found : c.put_names.new.names ≡ with_users v.touched.items v.users.items v.watches.items (view_at v.signals.items) v.names =
    cc (
      c.put_names.ensures,
      c.as_slice.ensures.value,
      c.as_slice-2.ensures.value,
      c.as_slice-3.ensures.value,
      c.as_slice-4.ensures.value,
    ) in
    let names = found ∙ names-kept plan views v k c.ascends.ensures.ascending in
    let mid = with_items v.signals c.settle_known.new.signals in
    let read = with_items_is v.signals c.settle_known.new.signals
    (c.settle_known.auto.signals ∙ ap length c.as_mut_slice.ensures.value ∙ sym v.signals.ok.0) in
    let items = with_items_is mid c.settle_all.new.signals (c.settle_all.auto.signals ∙ ap length c.as_mut_slice-2.ensures.value ∙ sym mid.ok.0) in
    record {
      row =
          c.in_ok-is_row.ensures.row (decimal c.args.present.now) c.line.ensures
          ∙ ap (λ ns. c.args.out.now.items ++ row_text (decimal c.args.present.now) ns) names;
      is_one = c.in_ok-is_row.ensures.some ∙ ap (λ (ns : List ℕ). nat_lt 0 (length ns)) names;
      keeps =
          keeps-rested plan views v c.put_names.new.names k _ (not c.is_empty-has_names.result)
          (record { codes = refl; users = refl; watches = refl; none = refl; sole_names = refl }) found
          (λ e. c.is_empty-has_names.ensures.0 (not-false c.is_empty-has_names.result e))
          (ap (map held) items
          ∙ c.in_ok-settle_all.ensures
          ∙ ap₂ settle_each c.as_slice-6.ensures.value
          (ap (map held) (c.as_mut_slice-2.ensures.value ∙ read)
          ∙ c.in_ok-settle_known.ensures
          ∙ ap₂ (λ ws hs. if not c.is_empty-has_names.result then settle_read c.put_names.new.names ws hs else hs) c.as_slice-5.ensures.value
          (ap (map held) c.as_mut_slice.ensures.value)))
          c.clear.ensures.items (c.copy_from.ensures ∙ k.none);
    }
