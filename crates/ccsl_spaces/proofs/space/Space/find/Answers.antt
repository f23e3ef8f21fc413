use Rattle.std.proofs.Common.{ap, sym, ◌∙◌}
use Rattle.std.specs.Option.{option_map}
use Rattle.ccsl_rules.specs.Spaces.{look}
use Rattle.ccsl_spaces.specs.Knowns.{known}
use Rattle.ccsl_spaces.proofs.Looking.{look-none, look-some}
use Rattle.ccsl_spaces.proofs.space.Space.find.Goals as goal

pub returns-in_err-place : goal.returns-in_err-place
returns-in_err-place g c =
    ap (option_map (λ d. known d.now)) c.from_residual.ensures
    ∙ sym (look-none c.self.inside.declared.items c.args.name.now (sym (c.self.invariant c.args.name.now) ∙ sym c.in_err-place.ensures))
    ∙ ap (look c.args.name.now) c.self.view_is

pub returns : goal.returns
returns g c =
    sym (look-some c.self.inside.declared.items c.args.name.now c.in_ok-place.place c.index.result.now
    (sym (c.self.invariant c.args.name.now) ∙ sym c.in_ok-place.ensures) c.index.ensures)
    ∙ ap (look c.args.name.now) c.self.view_is
