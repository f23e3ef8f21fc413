use Rattle.std.proofs.Common.{◌≡◌, List, ℕ, [], ◌++◌, length, map, true, decimal, nat_lt, refl, sym, ap, ap₂, ◌∙◌, eqb-true}
use Rattle.std.proofs.lemmas.List.{with_items_is}
use Rattle.ccsl_base.proofs.Cases.{no-items}
use Rattle.ccsl_triggers.specs.Held.{held}
use Rattle.ccsl_triggers.specs.Triggers.{view_at}
use Rattle.ccsl_triggers.specs.Output.{row_text}
use Rattle.ccsl_events.specs.declared.values.Values.{Values}
use Rattle.ccsl_events.specs.Keeping.{with_users, settle_each, settle_read}
use Rattle.ccsl_events.proofs.Names.{names-kept, keeps-rested}
use Rattle.ccsl_events.proofs.values.Values.settle.Goals as goal

-- where no variable changed whose names are not known, those are the names that are
known-all : (v : Values) → v.touched.items ≡ [] → v.names ≡ with_users v.touched.items v.users.items v.watches.items (view_at v.signals.items) v.names
known-all v none = sym (ap (λ ns. with_users ns v.users.items v.watches.items (view_at v.signals.items) v.names) none)

pub returns : goal.returns
returns c plan views k =
    let v = c.args.self.now in
    let none = no-items v.touched.items (sym v.touched.ok.0 ∙ eqb-true _ 0 (sym c.is_empty.ensures ∙ c.if-not-is_empty.false)) in
    let names = known-all v none ∙ names-kept plan views v k c.ascends.ensures.ascending in
    let items = with_items_is v.signals c.settle_read_by.new.signals
    (c.settle_read_by.auto.signals ∙ ap length c.as_mut_slice.ensures.value ∙ sym v.signals.ok.0) in
    record {
      row =
          c.in_ok-is_row.ensures.row (decimal c.args.present.now) c.line.ensures
          ∙ ap (λ ns. c.args.out.now.items ++ row_text (decimal c.args.present.now) ns) names;
      is_one = c.in_ok-is_row.ensures.some ∙ ap (λ (ns : List ℕ). nat_lt 0 (length ns)) names;
      keeps =
          keeps-rested plan views v v.names k _ true (record { codes = refl; users = refl; watches = refl; none = refl; sole_names = refl })
          (known-all v none) (λ e. absurd (cc))
          (ap (map held) items
          ∙ c.in_ok-settle_read_by.ensures
          ∙ ap₂ (settle_read v.names) c.as_slice.ensures.value (ap (map held) c.as_mut_slice.ensures.value)
          ∙ sym (ap (λ ns. settle_each ns (settle_read v.names v.watches.items (map held v.signals.items))) none))
          none (c.copy_from.ensures ∙ k.none);
    }
