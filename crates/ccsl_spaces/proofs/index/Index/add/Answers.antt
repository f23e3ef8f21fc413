use Rattle.std.proofs.Common.{◌≡◌, ◌∷◌, ◌++◌, [], None, is_some, is_none, not, ap, sym, ◌∙◌, rules}
use Rattle.std.specs.Str.{bytes_eq}
use Rattle.std.specs.Map.{lookup}
use Rattle.ccsl_spaces.specs.Places.{place_of}
use Rattle.ccsl_spaces.proofs.Places.{lookup-map, inserted}
use Rattle.ccsl_spaces.proofs.index.Index.add.Goals as goal
use Rattle.ccsl_base.proofs.Cases.{none-of}

pub returns-then-contains_key-clause-fresh : goal.returns-then-contains_key-clause-fresh
returns-then-contains_key-clause-fresh c =
    ap not (sym c.if-contains_key.true ∙ c.contains_key.ensures
    ∙ ap is_some (sym (lookup-map (λ t. t.items) c.args.name.now c.self.inside.places.entries)))
    ∙ ap (λ n. is_none (place_of c.args.name.now n)) c.self.view_is

not_there : (c : goal.In_ok-insert) → lookup (λ t. bytes_eq c.args.name.now t.items) c.self.inside.places.entries ≡ None
not_there c = none-of _ (sym c.contains_key.ensures ∙ c.if-contains_key.false)

absent : (c : goal.In_ok-insert) → place_of c.args.name.now c.args.self.now ≡ None
absent c =
    ap (place_of c.args.name.now) (sym c.self.view_is) ∙ lookup-map (λ t. t.items) c.args.name.now c.self.inside.places.entries ∙ not_there c

pub returns-clause-fresh : goal.returns-clause-fresh
returns-clause-fresh c = ap is_none (sym (absent c))

pub returns-clause-added : goal.returns-clause-added
returns-clause-added c =
    inserted (λ s t. bytes_eq s.items t.items) (λ t. t.items) c.self.inside.places c.in_ok-name.name c.args.place c.in_ok-insert.ensures.entries
    (ap (λ n. lookup (λ t. bytes_eq n t.items) c.self.inside.places.entries) c.in_ok-name.ensures.items ∙ not_there c) c.in_ok-name.ensures.items
    ∙ ap (λ e. e ++ (c.args.name.now, c.args.place) ∷ []) c.self.view_is

pub returns-then-contains_key-clause-added : goal.returns-then-contains_key-clause-added
returns-then-contains_key-clause-added c = search rules
