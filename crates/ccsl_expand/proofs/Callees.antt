-- What a call finds in the space of relations and expressions.
use Rattle.std.proofs.Common.{◌≡◌, ℕ, List, Option, Some, None, map, refl, sym, ap, ◌∙◌}
use Rattle.std.specs.Option.{option_map}
use Rattle.ccsl_rules.specs.Spaces.{Known, look}
use Rattle.ccsl_spaces.specs.declared.callee.Callee.{Callee}
use Rattle.ccsl_spaces.specs.Callees.{seen_callee, seen_call}
use Rattle.ccsl_expand.proofs.Lookups.{look-map}

what-found : (found : Option (Known Callee)) → option_map (λ k. k.what) (option_map seen_call found) ≡ option_map (λ k. seen_callee k.what) found
what-found None = refl
what-found (Some k) = refl

pub callee-found : (name : List ℕ) (space : List (Known Callee)) (found : Option (Known Callee)) → found ≡ look name space →
    option_map (λ k. seen_callee k.what) found ≡ option_map (λ k. k.what) (look name (map seen_call space))
callee-found name space found e =
    sym (ap (option_map (λ k. k.what)) (look-map seen_call (λ k. refl) name space)
    ∙ (what-found (look name space) ∙ ap (option_map (λ k. seen_callee k.what)) (sym e)))
