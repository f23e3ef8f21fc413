use Rattle.std.proofs.Common.{ap, sym, ◌∙◌}
use Rattle.ccsl_base.specs.Names.{find_name}
use Rattle.std.specs.Str.{bytes_eq}
use Rattle.ccsl_base.proofs.Tables.{position-map, find_name-there}
use Rattle.ccsl_base.proofs.names.Names.find.Goals as goal

pub returns-in_err-place-clause-place : goal.returns-in_err-place-clause-place
returns-in_err-place-clause-place g c =
    c.from_residual.ensures ∙ c.in_err-place.ensures.index
    ∙ sym (position-map (λ t. t.items) (bytes_eq c.args.name.now) c.self.inside.texts.keys) ∙ ap (find_name c.args.name.now) c.self.view_is

pub returns-clause-place : goal.returns-clause-place
returns-clause-place g c =
    c.in_ok-place.ensures.index
    ∙ sym (position-map (λ t. t.items) (bytes_eq c.args.name.now) c.self.inside.texts.keys) ∙ ap (find_name c.args.name.now) c.self.view_is

pub returns-clause-there : goal.returns-clause-there
returns-clause-there g c =
    find_name-there c.args.name.now c.args.self.now c.in_ok-place.place
    (sym (c.in_ok-place.ensures.index
    ∙ sym (position-map (λ t. t.items) (bytes_eq c.args.name.now) c.self.inside.texts.keys) ∙ ap (find_name c.args.name.now) c.self.view_is))
