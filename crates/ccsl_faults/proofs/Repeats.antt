-- One step over the declarations of a space.
use Rattle.std.proofs.Common.{◌≡◌, ℕ, ◌+◌, ◌<◌, List, [], ◌∷◌, ◌++◌, Option, map, take, drop, length, get_or, add-one, sym, ap, ◌∙◌, arith}
use Rattle.std.proofs.lemmas.List as seq
use Rattle.std.proofs.lemmas.List.{length-map}
use Rattle.std.proofs.Math.Seq.{take-suc}
use Rattle.std.proofs.Math.ListN.{get_or-map}
use Rattle.ccsl_rules.specs.Faults.{Fault, least, earlier, where_so, Duplicate}
use Rattle.ccsl_rules.specs.Spaces.{Known, repeated, spots}
use Rattle.ccsl_base.specs.Names.{is_among}
use Rattle.ccsl_spaces.specs.declared.declaration.Declaration.{Declaration}
use Rattle.ccsl_spaces.specs.Knowns.{known, names, name_at}
use Rattle.ccsl_faults.proofs.Least.{least-step}
use Rattle.ccsl_faults.proofs.Walks.{drop-at}

-- one name more
take-at : {X : Type 0} (xs : List X) {i : ℕ} (x : X) → i < length xs → x ≡ get_or xs i x → take (i + 1) xs ≡ take i xs ++ x ∷ []
take-at xs {i} x h e = ap (λ n. take n xs) (add-one i) ∙ take-suc xs i x h ∙ ap (λ y. take i xs ++ y ∷ []) (sym e)

next-name : {A : Type 0} (space : List (Known A)) (worst : Option Fault) {place : ℕ} (k : Known A) {found next all : Option Fault} →
    place < length space → k ≡ get_or space place k → next ≡ earlier worst found →
    found ≡ least (where_so (is_among (name_at space place) (take place (names space))) Duplicate k.name.at) →
    earlier worst (least (repeated (take place (names space)) (drop place (spots space)))) ≡ all →
    earlier next (least (repeated (take (place + 1) (names space)) (drop (place + 1) (spots space)))) ≡ all
next-name space worst {place} k {found} h at n e so_far =
    let named : name_at space place ≡ k.name.name = seq.get_or-map (λ x. x.name.name) space place k [] h ∙ ap (λ x. x.name.name) (sym at) in
    let here : drop place (spots space) ≡ k.name ∷ drop (place + 1) (spots space) =
    drop-at (spots space) (omega (arith, h, length-map space (λ x. x.name))) (ap (λ x. x.name) at ∙ sym (get_or-map (λ x. x.name) space place k)) in
    let seen : take (place + 1) (names space) ≡ take place (names space) ++ k.name.name ∷ [] =
    take-at (names space) k.name.name (omega (arith, h, length-map space (λ x. x.name.name)))
    (ap (λ x. x.name.name) at ∙ sym (get_or-map (λ x. x.name.name) space place k)) in
    ap (λ w. earlier w (least (repeated (take (place + 1) (names space)) (drop (place + 1) (spots space))))) n
    ∙ ap (λ l. earlier (earlier worst found) (least (repeated l (drop (place + 1) (spots space))))) seen
    ∙ least-step worst found (where_so (is_among k.name.name (take place (names space))) Duplicate k.name.at)
    (repeated (take place (names space) ++ k.name.name ∷ []) (drop (place + 1) (spots space)))
    (e ∙ ap (λ x. least (where_so (is_among x (take place (names space))) Duplicate k.name.at)) named)
    (sym (ap (λ l. earlier worst (least (repeated (take place (names space)) l))) here) ∙ so_far)

-- one step over the declarations of a space, from their list
pub repeated-step : {T : Type 0} (ds : List (Declaration T)) (space : List (Known T))
    (worst : Option Fault) {place : ℕ} {d : Declaration T} {found next all : Option Fault} →
    map known ds ≡ space → place < length ds → d ≡ get_or ds place d → next ≡ earlier worst found →
    found ≡ least (where_so (is_among (name_at space place) (take place (names space))) Duplicate d.name.now.at) →
    earlier worst (least (repeated (take place (names space)) (drop place (spots space)))) ≡ all →
    earlier next (least (repeated (take (place + 1) (names space)) (drop (place + 1) (spots space)))) ≡ all
repeated-step ds space worst {place} {d} view h at n e so_far =
    next-name space worst (known d) (omega (arith, h, length-map ds known, ap length view))
    (ap known at ∙ sym (get_or-map known ds place d) ∙ ap (λ s. get_or s place (known d)) view) n e so_far
