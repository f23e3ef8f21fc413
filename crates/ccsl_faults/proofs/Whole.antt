-- The faults of a whole file, from its three parts.
use Rattle.std.proofs.Common.{◌≡◌, ℕ, ◌+◌, List, [], ◌∷◌, ◌++◌, Option, map, flat_map, take, drop, length, length-append, refl, sym, ap, ◌∙◌}
use Rattle.ccsl_ast.specs.Trees.{PlainDefinition, SLine}
use Rattle.ccsl_rules.specs.Faults.{Fault, least, earlier}
use Rattle.ccsl_rules.specs.Spaces.{Known, Callee, repeated, spots, calls_space}
use Rattle.ccsl_rules.specs.Blocks.{Heights, heads, blocks_faults, body_faults}
use Rattle.ccsl_spaces.specs.declared.callee.Callee as code
use Rattle.ccsl_spaces.specs.Callees.{seen_call}
use Rattle.ccsl_spaces.specs.Knowns.{names}
use Rattle.ccsl_faults.specs.Levels.{heights_of}
use Rattle.ccsl_faults.specs.Parts.{parts_faults, faults_of}
use Rattle.ccsl_faults.proofs.Least.{least-append}
use Rattle.ccsl_faults.proofs.Heads.{spots-calls, spots-seen, own-repeated}

-- the least of a list in three parts
pub three-parts : (xs ys zs : List Fault) {a b c : Option Fault} → a ≡ least xs → b ≡ least ys → c ≡ least zs → earlier (earlier a b) c ≡ least (xs ++ ys ++ zs)
three-parts xs ys zs {a} {b} {c} e f g =
    ap (λ x. earlier (earlier x b) c) e ∙ ap (λ x. earlier (earlier (least xs) x) c) f ∙ ap (earlier (earlier (least xs) (least ys))) g
    ∙ sym (least-append (xs ++ ys) zs ∙ ap (λ x. earlier x (least zs)) (least-append xs ys))

-- the parts, with the space, the levels and the numbers that they should have, are all
pub parts-are-all : (library own : List PlainDefinition) (lines : List SLine) (calls : List (Known Callee)) (heights : Heights) (place first : ℕ) →
    calls ≡ calls_space 0 0 (library ++ own) → heights ≡ heights_of calls (library ++ own) → place ≡ length (flat_map heads library) → first ≡ length library →
    parts_faults calls heights place first own lines ≡ faults_of library own lines
parts-are-all library own lines calls heights place first s h p f =
    ap (λ k. parts_faults calls k place first own lines) (h ∙ ap (λ k. heights_of k (library ++ own)) s)
    ∙ ap (λ k. parts_faults k (heights_of space (library ++ own)) place first own lines) s
    ∙ ap (λ k. parts_faults space (heights_of space (library ++ own)) place k own lines) f
    ∙ ap (λ k. k ++ blocks_faults space (heights_of space (library ++ own)) (length library) own ++ body_faults space (length library + length own) [] [] lines)
    (own-repeated space library own place (spots-calls 0 0 (library ++ own)) p)
    ∙ ap (λ k. repeated (map (λ s. s.name) (flat_map heads library)) (flat_map heads own)
    ++ blocks_faults space (heights_of space (library ++ own)) (length library) own
    ++ body_faults space k [] [] lines) (sym (length-append library own))
  where
    space : List (Known Callee)
    space = calls_space 0 0 (library ++ own)

names-seen : (space : List (Known code.Callee)) → names space ≡ names (map seen_call space)
names-seen [] = refl
names-seen (k ∷ ks) = ap (λ l. k.name.name ∷ l) (names-seen ks)

-- the least of the three parts
pub parts-joined : (space : List (Known code.Callee)) (heights : Heights) (place first number : ℕ) (own : List PlainDefinition)
    (lines : List SLine) {a b c next all : Option Fault} →
    next ≡ earlier a b → all ≡ earlier next c → a ≡ least (repeated (take place (names space)) (drop place (spots space))) →
    b ≡ least (blocks_faults (map seen_call space) heights first own) → number ≡ length own →
    c ≡ least (body_faults (map seen_call space) (first + number) [] [] lines) → all ≡ least (parts_faults (map seen_call space) heights place first own lines)
parts-joined space heights place first number own lines {c = c} n t a b m y =
    t ∙ ap (λ x. earlier x c) n
    ∙ three-parts (repeated (take place (names (map seen_call space))) (drop place (spots (map seen_call space))))
    (blocks_faults (map seen_call space) heights first own)
    (body_faults (map seen_call space) (first + length own) [] [] lines)
    (a ∙ ap (λ l. least (repeated (take place l) (drop place (spots space)))) (names-seen space)
    ∙ ap (λ l. least (repeated (take place (names (map seen_call space))) (drop place l))) (spots-seen space))
    b (y ∙ ap (λ k. least (body_faults (map seen_call space) (first + k) [] [] lines)) m)
