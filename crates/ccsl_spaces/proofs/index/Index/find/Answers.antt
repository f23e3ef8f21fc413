use Rattle.std.proofs.Common.{ap, sym, ◌∙◌}
use Rattle.ccsl_spaces.specs.Places.{place_of}
use Rattle.ccsl_spaces.proofs.Places.{lookup-map}
use Rattle.ccsl_spaces.proofs.index.Index.find.Goals as goal

pub returns : goal.returns
returns c =
    c.copied.ensures ∙ c.get.ensures.value ∙ sym (lookup-map (λ t. t.items) c.args.name.now c.self.inside.places.entries)
    ∙ ap (place_of c.args.name.now) c.self.view_is
