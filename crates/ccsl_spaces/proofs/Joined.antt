-- The space of joined definitions.
use Rattle.std.proofs.Common.{◌≡◌, ℕ, suc, ◌+◌, List, [], ◌∷◌, ◌++◌, length, append_assoc, add-zero, zero-add, refl, sym, ap, ◌∙◌, arith}
use Rattle.ccsl_ast.specs.Trees.{PlainDefinition, DRelation, DGroup}
use Rattle.ccsl_rules.specs.Spaces.{Known, Callee, parts_space, calls_space}
use Rattle.ccsl_spaces.specs.Callees.{groups_after}

-- the definitions behind one that joins others
later : (block group : ℕ) (xs ys : List PlainDefinition) (here : List (Known Callee)) →
    calls_space (block + 1) group (xs ++ ys) ≡ calls_space (block + 1) group xs ++ calls_space (block + 1 + length xs) (groups_after group xs) ys →
    here ++ calls_space (block + 1) group (xs ++ ys)
    ≡ (here ++ calls_space (block + 1) group xs) ++ calls_space (block + suc (length xs)) (groups_after group xs) ys
later block group xs ys here e =
    let n : block + 1 + length xs ≡ block + suc (length xs) = omega arith in
    ap (λ k. here ++ k) (e ∙ ap (λ m. calls_space (block + 1) group xs ++ calls_space m (groups_after group xs) ys) n)
    ∙ sym (append_assoc here (calls_space (block + 1) group xs) (calls_space (block + suc (length xs)) (groups_after group xs) ys))

pub calls_space-append : (block group : ℕ) (xs ys : List PlainDefinition) →
    calls_space block group (xs ++ ys) ≡ calls_space block group xs ++ calls_space (block + length xs) (groups_after group xs) ys
calls_space-append block group [] ys = rw (add-zero block) refl
calls_space-append block group (DRelation name params lines ∷ xs) ys =
    later block group xs ys (calls_space block group (DRelation name params lines ∷ [])) (calls_space-append (block + 1) group xs ys)
calls_space-append block group (DGroup members ∷ xs) ys =
    later block (group + 1) xs ys (parts_space block group 0 members) (calls_space-append (block + 1) (group + 1) xs ys)

-- a space that begins with the first definitions and goes on with the others
pub space-joined : (xs ys : List PlainDefinition) (block group : ℕ) {none first both : List (Known Callee)} → none ≡ [] → first ≡ none ++ calls_space 0 0 xs →
    block ≡ length xs → group ≡ groups_after 0 xs → both ≡ first ++ calls_space block group ys → both ≡ calls_space 0 0 (xs ++ ys)
space-joined xs ys block group {none} {first} e f n g b =
    b ∙ ap (λ s. s ++ calls_space block group ys) (f ∙ ap (λ s. s ++ calls_space 0 0 xs) e)
    ∙ ap (λ k. calls_space 0 0 xs ++ calls_space k group ys) (n ∙ sym (zero-add (length xs)))
    ∙ ap (λ k. calls_space 0 0 xs ++ calls_space (0 + length xs) k ys) g ∙ sym (calls_space-append 0 0 xs ys)
