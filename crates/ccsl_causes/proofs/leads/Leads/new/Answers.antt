use Rattle.std.proofs.Common.{◌≡◌, [], ◌∷◌, ◌++◌, true, false, length, sym, ap, ap₂, ◌∙◌, arith}
use Rattle.std.proofs.lemmas.List.FromFn.{map-range_with_len_more}
use Rattle.ccsl_causes.specs.Leading.{leads_of}
use Rattle.ccsl_causes.proofs.Gathering.{none-next, none-here}
use Rattle.ccsl_causes.proofs.leads.Leads.new.Goals as goal
use Rattle.ccsl_causes.proofs.leads.Leads.new.Goals.{then-is_any, else-is_any}

pub loop-left-preserved : goal.loop-left-preserved
loop-left-preserved c =
    let f = leads_of c.args.system.now in
    let left = c.loop-left.left in
    record {
      sides = c.in_ok-push.ensures.items
          ∙ ap₂ (λ sides side. sides ++ side ∷ []) c.loop-left.invariant.sides c.in_ok-side.ensures
          ∙ sym (map-range_with_len_more f 0 left left (omega arith));
      none = λ no.
          elim c.if-is_any.branch [
            | then-is_any w ↦ let clash : true ≡ false = sym w.if-is_any.true ∙ sym w.is_any-is ∙ no in absurd (cc)
            | else-is_any w ↦
                none-next f left (c.loop-left.invariant.none w.if-is_any.false)
                (ap length (sym c.in_ok-side.ensures) ∙ none-here c.in_ok-side.side w.is_empty.result w.is_empty.ensures (sym w.is_any-is ∙ no))
          ];
    }
