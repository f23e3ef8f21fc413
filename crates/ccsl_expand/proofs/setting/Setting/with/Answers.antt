use Rattle.std.proofs.Common.{◌≡◌, [], ◌∷◌, ◌++◌, map, length, length-append, sym, ap, ◌∙◌, subst, arith, if◌then◌else◌}
use Rattle.std.specs.List.{zip}
use Rattle.std.proofs.lemmas.Grind.{common_steps}
use Rattle.std.proofs.lemmas.List.{length-map, map_push}
use Rattle.ccsl_spaces.specs.Places.{HasFirsts}
use Rattle.ccsl_expand.specs.Seen.{seen_atom}
use Rattle.ccsl_expand.proofs.Lookups.{zip-append, firsts-more}
use Rattle.ccsl_expand.proofs.setting.Setting.with.Goals as goal

pub returns : goal.returns
returns c =
    let s = c.self.inside in
    let atoms = map seen_atom s.atoms.items in
    let whole : length s.names.items ≡ length atoms = c.self.invariant.as_many ∙ sym (length-map s.atoms.items seen_atom) in
    let names : c.push.new.self.items ≡ s.names.items ++ c.args.name.now ∷ [] = grind (arith, common_steps) in
    let items : c.push-2.new.self.items ≡ s.atoms.items ++ c.args.atom ∷ [] = grind (arith, common_steps) in
    ap (λ n. zip n (map seen_atom c.push-2.new.self.items)) names
    ∙ ap (λ l. zip (s.names.items ++ c.args.name.now ∷ []) (map seen_atom l)) items
    ∙ ap (zip (s.names.items ++ c.args.name.now ∷ [])) (map_push seen_atom s.atoms.items c.args.atom)
    ∙ zip-append s.names.items atoms c.args.name.now (seen_atom c.args.atom) whole
    ∙ ap (λ σ. σ ++ (c.args.name.now, seen_atom c.args.atom) ∷ []) c.self.view_is

pub invariant_of-result : goal.invariant_of-result
invariant_of-result c =
    let s = c.self.inside in
    let names : c.push.new.self.items ≡ s.names.items ++ c.args.name.now ∷ [] = grind (arith, common_steps) in
    let items : c.push-2.new.self.items ≡ s.atoms.items ++ c.args.atom ∷ [] = grind (arith, common_steps) in
    let more = ap length names ∙ length-append s.names.items (c.args.name.now ∷ []) in
    let atoms = ap length items ∙ length-append s.atoms.items (c.args.atom ∷ []) in
    let place : c.len.result ≡ length s.names.items = grind (arith, common_steps) in
    let added = c.in_ok-add.ensures.added ∙ ap (λ n. if c.in_ok-add.field-0 then s.first ++ (c.args.name.now, n) ∷ [] else s.first) place in
    record {
      as_many = omega (arith, c.self.invariant.as_many);
      first_places = subst (λ n. HasFirsts c.add.new.self n) (sym names)
          (firsts-more s.first c.add.new.self s.names.items c.args.name.now c.in_ok-add.field-0 c.in_ok-add.ensures.fresh added c.self.invariant.first_places);
    }
