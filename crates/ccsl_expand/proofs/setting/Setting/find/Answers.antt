use Rattle.std.proofs.Common.{◌≡◌, ◌<◌, Some, map, length, slice_get, refl, sym, ap, ◌∙◌, arith}
use Rattle.std.proofs.lemmas.List.{length-map}
use Rattle.std.proofs.lemmas.Option.{slice_get_read}
use Rattle.ccsl_rules.specs.Settings.{atom_of}
use Rattle.ccsl_expand.specs.Seen.{seen_atom}
use Rattle.ccsl_expand.proofs.Lookups.{atom_of-there, atom_of-missing, get-map, place-below}
use Rattle.ccsl_expand.proofs.setting.Setting.find.Goals as goal

pub returns-in-None : goal.returns-in-None
returns-in-None c =
    let s = c.self.inside in
    let whole : length s.names.items ≡ length (map seen_atom s.atoms.items) = c.self.invariant.as_many ∙ sym (length-map s.atoms.items seen_atom) in
    atom_of-missing s.names.items (map seen_atom s.atoms.items) c.args.name.now whole
    (sym (c.self.invariant.first_places c.args.name.now) ∙ (sym c.find.ensures ∙ c.in-None.is))
    ∙ ap (λ σ. atom_of σ c.args.name.now) c.self.view_is

pub returns-in-Some : goal.returns-in-Some
returns-in-Some c =
    let s = c.self.inside in
    let atoms = map seen_atom s.atoms.items in
    let whole : length s.names.items ≡ length atoms = c.self.invariant.as_many ∙ sym (length-map s.atoms.items seen_atom) in
    let found = sym (c.self.invariant.first_places c.args.name.now) ∙ (sym c.find.ensures ∙ c.in-Some.is) in
    let named = place-below s.names.items c.args.name.now c.in-Some.place found in
    let below : c.in-Some.place < length s.atoms.items = omega (arith, c.self.invariant.as_many) in
    let at : slice_get atoms c.in-Some.place ≡ Some (seen_atom c.index.result.now) =
    get-map seen_atom s.atoms.items c.in-Some.place c.index.result.now
    (slice_get_read s.atoms.items (length s.atoms.items) c.in-Some.place c.index.result.now refl below c.index.ensures) in
    atom_of-there s.names.items atoms c.args.name.now c.in-Some.place (seen_atom c.index.result.now) whole found at
    ∙ ap (λ σ. atom_of σ c.args.name.now) c.self.view_is
