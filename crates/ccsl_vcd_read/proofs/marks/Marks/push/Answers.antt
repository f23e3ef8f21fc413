use Rattle.std.proofs.Common.{◌≡◌, List, [], ◌∷◌, ◌++◌, true, map, sym, ap, ◌∙◌}
use Rattle.ccsl_base.specs.Clocks.{is_ascending}
use Rattle.ccsl_vcd_read.specs.declared.marks.Mark.{Mark}
use Rattle.ccsl_vcd_read.specs.declared.users.Slot.{Slot}
use Rattle.ccsl_vcd_read.proofs.Kept.{pushed, view-more}
use Rattle.ccsl_vcd_read.proofs.marks.Marks.push.Goals as goal

pub invariant_of-self-2 : goal.invariant_of-self-2
invariant_of-self-2 c =
    pushed c.self.inside.slots.items _ c.self.inside.users _ c.self.inside.events _ c.self.inside.ones _ c.self.inside.earlier
    (record { clock = c.args.clock; code = c.args.code; event = c.args.event }) c.self.invariant
    (c.push_reserved.ensures.items ∙ ap (λ (xs : List Slot). xs ++ record { clock = c.args.clock; code = c.args.code; event = c.args.event } ∷ [])
    c.reserve.ensures.items)
    c.put.ensures c.put-2.ensures c.in_ok-add.ensures.added c.requires.below
    (ap (λ (ms : List Mark). is_ascending (map (λ m. m.clock) ms ++ c.args.clock ∷ [])) c.self.view_is ∙ c.requires.later)

pub returns : goal.returns
returns c =
    view-more c.self.inside.slots.items _ c.self.inside.ones _ c.self.inside.earlier _
    (record { clock = c.args.clock; code = c.args.code; event = c.args.event })
    (c.push_reserved.ensures.items ∙ ap (λ (xs : List Slot). xs ++ record { clock = c.args.clock; code = c.args.code; event = c.args.event } ∷ [])
    c.reserve.ensures.items)
    c.put-2.ensures c.put-3.ensures
    (ap (λ (ms : List Mark). is_ascending (map (λ m. m.clock) ms ++ c.args.clock ∷ [])) c.self.view_is ∙ c.requires.later)
    ∙ ap (λ (ms : List Mark). ms ++ record {
      clock = c.args.clock;
      code = c.args.code;
      event = c.args.event;
      now =
          Rattle.std.proofs.Common.not c.args.event;
      before = Rattle.std.proofs.Common.not c.args.event;
    } ∷ []) c.self.view_is
