use Rattle.std.proofs.Common.{length, is_none, ap, ◌∙◌, arith}
use Rattle.ccsl_rules.specs.Spaces.{look}
use Rattle.ccsl_spaces.specs.Places.{place_of}
use Rattle.ccsl_spaces.proofs.Looking.{look-fresh, has-added, pushed}
use Rattle.ccsl_spaces.proofs.space.Space.add.Goals as goal

pub invariant_of-self-2 : goal.invariant_of-self-2
invariant_of-self-2 g c =
    has-added c.self.inside.declared.items c.push.new.self.items (record { name = c.args.name; since = c.args.since; what = c.args.what }) c.self.inside.first
    c.add.new.self c.in_ok-fresh.fresh c.bytes.result.now c.len.result c.bytes.ensures
    (c.len.ensures ∙ c.reserve.new.self.ok.0 ∙ ap length c.reserve.ensures.items) c.in_ok-fresh.ensures.fresh c.in_ok-fresh.ensures.added
    (pushed c.self.inside.declared.items c.reserve.new.self.items (record { name = c.args.name; since = c.args.since; what = c.args.what })
    c.push.ensures.items (c.push.ensures.succeeds (omega (arith, c.in_ok-reserve.ensures.ok))) c.reserve.ensures.items) c.self.invariant

pub returns-clause-fresh : goal.returns-clause-fresh
returns-clause-fresh g c =
    c.in_ok-fresh.ensures.fresh ∙ ap (λ n. is_none (place_of n c.self.inside.first)) c.bytes.ensures
    ∙ ap is_none (c.self.invariant c.args.name.now.name) ∙ look-fresh c.self.inside.declared.items c.args.name.now.name
    ∙ ap (λ s. is_none (look c.args.name.now.name s)) c.self.view_is
