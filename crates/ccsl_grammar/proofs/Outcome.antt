-- What a reader does with a derivation in front of a list: it takes the derivation, or stops at the first expression that stands too deep.
use Rattle.std.proofs.Common.{◌≡◌, ◌<◌, Bool, true, false, List, [], ◌∷◌, ◌++◌, length, map, Option, Some, None, refl, ◌∙◌, append_assoc}
use Rattle.std.specs.List.{flat_map}
use Rattle.std.proofs.lemmas.List.{map-id}
use Rattle.ccsl_grammar.specs.Terminals.{Terminal}
use Rattle.ccsl_grammar.specs.Reader.{too_deep, Reply, took, stopped, Reader, followed, ◌>>=◌, given, begins, many}
use Rattle.ccsl_grammar.specs.Deep.{all_deep}
use Rattle.std.specs.Option.{option_or}
use Rattle.ccsl_grammar.specs.Places.{shallow}
use Rattle.ccsl_grammar.proofs.Parts.{Reads, Self}
use Rattle.ccsl_grammar.proofs.Many.{step, item_falls, none_deep}

abbrev pub outcome : {A : Type 0} → Option (List Terminal) → A → List Terminal → Reply A
outcome None v rest = took v rest
outcome (Some z) v rest = stopped too_deep z

pub outcome_then : {A B : Type 0} (o o' : Option (List Terminal)) (v : A) (z : List Terminal) (g : A → Reader B) (w : B) (rest : List Terminal)
    → g v z ≡ outcome o' w rest → followed (outcome o v z) g ≡ outcome (option_or o o') w rest
outcome_then None o' v z g w rest e = e
outcome_then (Some y) o' v z g w rest e = refl

pub outcome_last : {A B : Type 0} (o : Option (List Terminal)) (v : A) (z : List Terminal) (g : A → Reader B) (w : B) (rest : List Terminal)
    → g v z ≡ took w rest → followed (outcome o v z) g ≡ outcome o w rest
outcome_last None v z g w rest e = e
outcome_last (Some y) v z g w rest e = refl

-- ---- again and again

module _ {C T : Type 0} (spelled : C → List Terminal) (deep : C → List Terminal → Option (List Terminal)) (tree : C → T) (test : Terminal → Bool) (f : Reader T)
    (Follows : List Terminal → Type 0)
    (nonempty : (c : C) → 0 < length (spelled c)) (item : Reads spelled deep tree f)
    (goes_on : (c : C) (z : List Terminal) → begins test (spelled c ++ z) ≡ true)
    (follows : (c : C) (z : List Terminal) → Follows (spelled c ++ z))
    (complete : (c : C) (z : List Terminal) → Follows z → f (spelled c ++ z) ≡ outcome (deep c z) (tree c) z) where
  -- what stands behind the first of them
  pub next : (cs : List C) (rest : List Terminal) → Follows rest → Follows (flat_map spelled cs ++ rest)
  next [] rest h = h
  next (c ∷ cs) rest h = rw append_assoc (follows c (flat_map spelled cs ++ rest))

  pub many_complete : (cs : List C) (rest : List Terminal) → begins test rest ≡ false → Follows rest
      → many test f (flat_map spelled cs ++ rest) ≡ outcome (all_deep spelled deep cs rest) (map tree cs) rest
  many_complete [] rest b h = step test f (item_falls spelled deep tree test f nonempty item) rest ∙ rw b refl
  many_complete (c ∷ cs) rest b h =
      step test f (item_falls spelled deep tree test f nonempty item) ((spelled c ++ flat_map spelled cs) ++ rest)
      ∙ rw (
        append_assoc (spelled c) (flat_map spelled cs) rest,
        goes_on c (flat_map spelled cs ++ rest),
        complete c (flat_map spelled cs ++ rest) (next cs rest h),
      )
      (outcome_then (deep c (flat_map spelled cs ++ rest)) (all_deep spelled deep cs rest) (tree c) (flat_map spelled cs ++ rest)
      (λ v. many test f >>= λ vs. given (v ∷ vs)) (tree c ∷ map tree cs) rest
      (rw (many_complete cs rest b h)
      (outcome_last (all_deep spelled deep cs rest) (map tree cs) rest (λ vs. given (tree c ∷ vs)) (tree c ∷ map tree cs) rest refl)))

module _ {C : Type 0} (spelled : C → List Terminal) (test : Terminal → Bool) (f : Reader C) (Follows : List Terminal → Type 0)
    (nonempty : (c : C) → 0 < length (spelled c)) (self : Self spelled f)
    (goes_on : (c : C) (z : List Terminal) → begins test (spelled c ++ z) ≡ true)
    (follows : (c : C) (z : List Terminal) → Follows (spelled c ++ z))
    (complete : (c : C) (z : List Terminal) → Follows z → f (spelled c ++ z) ≡ took c z) where
  pub many_self_complete : (cs : List C) (rest : List Terminal) → begins test rest ≡ false → Follows rest
      → many test f (flat_map spelled cs ++ rest) ≡ took cs rest
  many_self_complete cs rest b h =
      many_complete spelled shallow (λ c. c) test f Follows nonempty self goes_on follows complete cs rest b h
      ∙ rw (none_deep spelled cs rest, map-id cs) refl
