use Rattle.std.proofs.Common.{refl, sym, subst, ◌∙◌}
use Rattle.ccsl_events.specs.Standing.{Stands}
use Rattle.ccsl_events.proofs.Feeding.{same-body, ends-on, ends-off, no-body}
use Rattle.ccsl_events.proofs.reader.Reader.finish.Goals as goal

pub returns-in-Some : goal.returns-in-Some
returns-in-Some c plan start bytes p h =
    let s = subst (Stands plan p) (same-body h.body c.in-Some.body c.args.self.now h.has c.in-Some.is) h.stands in
    record {
      body = c.settle.new.self;
      has = refl;
      answers = ends-on plan p c.args.len _ _ _ _ (sym (c.may_end.ensures plan p s) ∙ c.if-may_end.true)
          (c.settle.ensures plan p s);
    }

pub returns-in_default : goal.returns-in_default
returns-in_default c plan start bytes p h =
    let s = subst (Stands plan p) (same-body h.body c.in-Some.body c.args.self.now h.has c.in-Some.is) h.stands in
    record { body = c.in-Some.body; has = refl; answers = ends-off plan p c.args.len _ _ (sym (c.may_end.ensures plan p s) ∙ c.if-may_end.false) }

pub returns-in_default-2 : goal.returns-in_default-2
returns-in_default-2 c plan start bytes p h = absurd (no-body h.body c.args.self.now h.has c.in_default.is)
