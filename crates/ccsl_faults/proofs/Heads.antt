-- The names of the space of relations and expressions are the heads of the definitions.
use Rattle.std.proofs.Common.{◌≡◌, ℕ, ◌+◌, ◌≤◌, List, [], ◌∷◌, ◌++◌, map, flat_map, take, drop, length, length-append, refl, sym, ap, ◌∙◌, arith}
use Rattle.std.proofs.lemmas.List.{length-map, map-append}
use Rattle.std.proofs.lemmas.List.Concat.{flat_map-append}
use Rattle.std.proofs.Math.Seq.{take-append_seam, drop-append_seam}
use Rattle.ccsl_ast.specs.Trees.{PlainMember, PlainDefinition, DRelation, DGroup}
use Rattle.ccsl_rules.specs.Spaces.{Known, repeated, spots, parts_space, calls_space}
use Rattle.ccsl_rules.specs.Blocks.{heads}
use Rattle.ccsl_spaces.specs.declared.callee.Callee.{Callee}
use Rattle.ccsl_spaces.specs.Callees.{seen_call}
use Rattle.ccsl_spaces.specs.Knowns.{names}

spots-parts : (block group number : ℕ) (ps : List PlainMember) → spots (parts_space block group number ps) ≡ map (λ m. m.name) ps
spots-parts block group number [] = refl
spots-parts block group number (p ∷ ps) = ap (λ l. p.name ∷ l) (spots-parts block group (number + 1) ps)

pub spots-calls : (block group : ℕ) (bs : List PlainDefinition) → spots (calls_space block group bs) ≡ flat_map heads bs
spots-calls block group [] = refl
spots-calls block group (DRelation name params lines ∷ bs) = ap (λ l. name ∷ l) (spots-calls (block + 1) group bs)
spots-calls block group (DGroup members ∷ bs) =
    map-append (λ k. k.name) (parts_space block group 0 members) (calls_space (block + 1) (group + 1) bs)
    ∙ ap (λ l. l ++ spots (calls_space (block + 1) (group + 1) bs)) (spots-parts block group 0 members)
    ∙ ap (λ l. map (λ m. m.name) members ++ l) (spots-calls (block + 1) (group + 1) bs)

-- the names and places of a space are those of what is seen of it
pub spots-seen : (space : List (Known Callee)) → spots space ≡ spots (map seen_call space)
spots-seen [] = refl
spots-seen (k ∷ ks) = ap (λ l. k.name ∷ l) (spots-seen ks)

pub names-spots : {A : Type 0} (space : List (Known A)) → names space ≡ map (λ s. s.name) (spots space)
names-spots [] = refl
names-spots (k ∷ ks) = ap (λ l. k.name.name ∷ l) (names-spots ks)

pub spots-all : (space : List (Known Callee)) (bs : List PlainDefinition) → map seen_call space ≡ calls_space 0 0 bs → spots space ≡ flat_map heads bs
spots-all space bs e = spots-seen space ∙ ap spots e ∙ spots-calls 0 0 bs

-- the number of names in a space
pub length-space : (space : List (Known Callee)) (bs : List PlainDefinition) → map seen_call space ≡ calls_space 0 0 bs
    → length space ≡ length (flat_map heads bs)
length-space space bs e = sym (length-map space (λ k. k.name)) ∙ ap length (spots-all space bs e)

-- those of the library are within those of the library and the file
pub length-within : (xs ys : List PlainDefinition) → length (flat_map heads xs) ≤ length (flat_map heads (xs ++ ys))
length-within xs ys = omega (arith, ap length (flat_map-append heads xs ys), length-append (flat_map heads xs) (flat_map heads ys))

-- the names that a file repeats, behind a library
pub own-repeated : {A : Type 0} (space : List (Known A)) (xs ys : List PlainDefinition) (n : ℕ) → spots space ≡ flat_map heads (xs ++ ys)
    → n ≡ length (flat_map heads xs) →
    repeated (take n (names space)) (drop n (spots space)) ≡ repeated (map (λ s. s.name) (flat_map heads xs)) (flat_map heads ys)
own-repeated space xs ys n e count =
    let all : spots space ≡ flat_map heads xs ++ flat_map heads ys = e ∙ flat_map-append heads xs ys in
    let own : names space ≡ map (λ s. s.name) (flat_map heads xs) ++ map (λ s. s.name) (flat_map heads ys) =
    names-spots space ∙ ap (map (λ s. s.name)) all ∙ map-append (λ s. s.name) (flat_map heads xs) (flat_map heads ys) in
    let named : take n (names space) ≡ map (λ s. s.name) (flat_map heads xs) =
    ap (λ l. take n l) own
    ∙ ap (λ k. take k (map (λ s. s.name) (flat_map heads xs) ++ map (λ s. s.name) (flat_map heads ys)))
    (count ∙ sym (length-map (flat_map heads xs) (λ s. s.name)))
    ∙ take-append_seam (map (λ s. s.name) (flat_map heads xs)) (map (λ s. s.name) (flat_map heads ys)) in
    let behind : drop n (spots space) ≡ flat_map heads ys =
    ap (λ l. drop n l) all ∙ ap (λ k. drop k (flat_map heads xs ++ flat_map heads ys)) count ∙ drop-append_seam (flat_map heads xs) (flat_map heads ys) in
    ap (λ l. repeated l (drop n (spots space))) named ∙ ap (repeated (map (λ s. s.name) (flat_map heads xs))) behind

-- the number of declarations in the space of the first definitions
pub length-declared : {T : Type 0} (ds : List T) (seen : T → Known Callee) (none space : List (Known Callee)) (bs : List PlainDefinition) → map seen ds ≡ space
    → none ≡ [] →
    map seen_call space ≡ map seen_call none ++ calls_space 0 0 bs → length ds ≡ length (flat_map heads bs)
length-declared ds seen none space bs view e added =
    sym (length-map ds seen) ∙ ap length view ∙ length-space space bs (added ∙ ap (λ l. map seen_call l ++ calls_space 0 0 bs) e)
