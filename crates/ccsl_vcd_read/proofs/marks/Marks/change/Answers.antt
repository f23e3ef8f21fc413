use Rattle.std.proofs.Common.{List, ℕ, map, sym, ap, ◌∙◌, subst}
use Rattle.ccsl_base.specs.declared.limits.TheConstants.{MAX_CLOCKS}
use Rattle.ccsl_vcd_read.specs.Marks.{put}
use Rattle.ccsl_vcd_read.specs.Kept.{mark_in, put_all, AreKept}
use Rattle.ccsl_vcd_read.proofs.Kept.{nobody-puts, one-puts, one-below, put-kept, marks-put}
use Rattle.ccsl_vcd_read.proofs.marks.Marks.change.Goals as goal

pub put_in-requires : goal.put_in-requires
put_in-requires c =
    one-below MAX_CLOCKS c.args.code c.self.inside.slots.items c.in-One.slot c.self.invariant.below
    (sym (c.self.invariant.known c.args.code) ∙ sym c.of.ensures ∙ c.in-One.is)

pub invariant_of-self : goal.invariant_of-self
invariant_of-self c =
    let e = one-puts c.args.code c.args.one c.args.dumped c.self.inside.slots.items c.self.inside.ones c.in-One.slot
    (sym (c.self.invariant.known c.args.code) ∙ sym c.of.ensures ∙ c.in-One.is) in
    subst (AreKept c.self.inside.slots.items c.self.inside.users c.self.inside.events) (e ∙ sym c.put_in.ensures)
    (put-kept c.args.code c.args.one c.args.dumped c.self.inside.slots.items c.self.inside.users c.self.inside.events c.self.inside.ones c.self.invariant)

pub invariant_of-self-in-Many : goal.invariant_of-self-in-Many
invariant_of-self-in-Many c =
    subst (AreKept c.self.inside.slots.items c.self.inside.users c.self.inside.events)
    (ap (λ ss. put_all c.args.code c.args.one c.args.dumped ss c.self.inside.ones) (sym c.as_slice.ensures.value) ∙ sym c.put_all.ensures)
    (put-kept c.args.code c.args.one c.args.dumped c.self.inside.slots.items c.self.inside.users c.self.inside.events c.self.inside.ones c.self.invariant)

pub returns-in-Nobody : goal.returns-in-Nobody
returns-in-Nobody c =
    let e = nobody-puts c.args.code c.args.one c.args.dumped c.self.inside.slots.items c.self.inside.ones
    (sym (c.self.invariant.known c.args.code) ∙ sym c.of.ensures ∙ c.in-Nobody.is) in
    sym c.self.view_is
    ∙ ap (λ (xs : List ℕ). map (mark_in xs c.self.inside.earlier) c.self.inside.slots.items) (sym e)
    ∙ marks-put c.args.code c.args.one c.args.dumped c.self.inside.slots.items c.self.inside.ones c.self.inside.earlier c.self.invariant.ascending
    ∙ ap (map (put c.args.code c.args.one c.args.dumped)) c.self.view_is

pub returns-in-One : goal.returns-in-One
returns-in-One c =
    let e = one-puts c.args.code c.args.one c.args.dumped c.self.inside.slots.items c.self.inside.ones c.in-One.slot
    (sym (c.self.invariant.known c.args.code) ∙ sym c.of.ensures ∙ c.in-One.is) in
    ap (λ (xs : List ℕ). map (mark_in xs c.self.inside.earlier) c.self.inside.slots.items) (c.put_in.ensures ∙ sym e)
    ∙ marks-put c.args.code c.args.one c.args.dumped c.self.inside.slots.items c.self.inside.ones c.self.inside.earlier c.self.invariant.ascending
    ∙ ap (map (put c.args.code c.args.one c.args.dumped)) c.self.view_is

pub returns-in-Many : goal.returns-in-Many
returns-in-Many c =
    ap (λ (xs : List ℕ). map (mark_in xs c.self.inside.earlier) c.self.inside.slots.items)
    (c.put_all.ensures ∙ ap (λ ss. put_all c.args.code c.args.one c.args.dumped ss c.self.inside.ones) c.as_slice.ensures.value)
    ∙ marks-put c.args.code c.args.one c.args.dumped c.self.inside.slots.items c.self.inside.ones c.self.inside.earlier c.self.invariant.ascending
    ∙ ap (map (put c.args.code c.args.one c.args.dumped)) c.self.view_is
