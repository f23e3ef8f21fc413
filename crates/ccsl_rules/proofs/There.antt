-- What the space of relations and expressions says of a relation is so.
use Rattle.std.proofs.Common.{◌≡◌, ℕ, ◌+◌, ◌<◌, ◌≤◌, List, [], ◌∷◌, Some, bytes_eq, refl, sym, ap, ◌∙◌, arith}
use Rattle.std.specs.List.{AllByRecursion}
use Rattle.ccsl_ast.specs.Trees.{PlainMember, PlainDefinition, DRelation, DGroup}
use Rattle.ccsl_kernel.specs.Syntax.{Body}
use Rattle.ccsl_rules.specs.Spaces.{Known, Callee, relation, look, parts_space, calls_space}
use Rattle.ccsl_rules.specs.Resolved.{Tables}
use Rattle.ccsl_rules.proofs.Ordered.{found-all, all-append}
use Rattle.ccsl_rules.proofs.Ready.{IsRelation, AreThere}

abbrev AtPlace : ℕ → List PlainDefinition → Known Callee → Type 0
AtPlace home [] c = Unit {0}
AtPlace home (b ∷ bs) c = (c.what.block ≡ home → IsRelation b c.what.params) × AtPlace (home + 1) bs c

abbrev Stands : ℕ → List PlainDefinition → Known Callee → Type 0
Stands home bs c = (home ≤ c.what.block) × (c.what.role ≡ relation → AtPlace home bs c)

past : (home : ℕ) (bs : List PlainDefinition) (c : Known Callee) → c.what.block < home → AtPlace home bs c
past home [] c h = tt
past home (b ∷ bs) c h = ((λ e. absurd (omega arith)), past (home + 1) bs c (omega arith))

behind : (home : ℕ) (b : PlainDefinition) (bs : List PlainDefinition) (cs : List (Known Callee)) → AllByRecursion (Stands (home + 1) bs) cs
    → AllByRecursion (Stands home (b ∷ bs)) cs
behind home b bs [] a = tt
behind home b bs (c ∷ cs) a =
    let above : home + 1 ≤ c.what.block = a.0.0 in
    ((omega arith, λ r. ((λ e. absurd (omega arith)), a.0.1 r)), behind home b bs cs a.1)

parts-stand : (home group number : ℕ) (bs : List PlainDefinition) (ps : List PlainMember) → AllByRecursion (Stands home bs) (parts_space home group number ps)
parts-stand home group number bs [] = tt
parts-stand home group number bs (p ∷ ps) = ((omega arith, λ r. absurd (cc)), parts-stand home group (number + 1) bs ps)

space-stands : (home group : ℕ) (bs : List PlainDefinition) → AllByRecursion (Stands home bs) (calls_space home group bs)
space-stands home group [] = tt
space-stands home group (DRelation name params lines ∷ bs) = (
  (omega arith, λ r. ((λ e. refl), past-here home bs)),
  behind home (DRelation name params lines) bs (calls_space (home + 1) group bs) (space-stands (home + 1) group bs),
)
  where
    past-here : (home : ℕ) (bs : List PlainDefinition)
        → AtPlace (home + 1) bs (record { name = name; since = home + 1; what = record { role = relation; block = home; params = params } })
    past-here home bs = past (home + 1) bs (record { name = name; since = home + 1; what = record { role = relation; block = home; params = params } })
        (omega arith)
space-stands home group (DGroup members ∷ bs) =
    all-append (Stands home (DGroup members ∷ bs)) (parts_space home group 0 members) (calls_space (home + 1) (group + 1) bs)
    (parts-stand home group 0 (DGroup members ∷ bs) members)
    (behind home (DGroup members) bs (calls_space (home + 1) (group + 1) bs) (space-stands (home + 1) (group + 1) bs))

there : (groups : List (List Body)) (K : Tables) (home : ℕ) (bs : List PlainDefinition) →
    ((name : List ℕ) (c : Known Callee) → look name K.calls ≡ Some c → c.what.role ≡ relation → AtPlace home bs c) → AreThere groups K home bs
there groups K home [] f = tt
there groups K home (b ∷ bs) f =
    ((λ name c l r e. (f name c l r).0 e), there groups K (home + 1) bs (λ name c l r. (f name c l r).1))

-- so each relation that a name stands for is there
pub space-there : (groups : List (List Body)) (K : Tables) (bs : List PlainDefinition) → K.calls ≡ calls_space 0 0 bs → AreThere groups K 0 bs
space-there groups K bs same =
    there groups K 0 bs (λ name c l r.
    let at : Stands 0 bs c =
    found-all (Stands 0 bs) (λ x. bytes_eq x.name.name name) (calls_space 0 0 bs) c (space-stands 0 0 bs)
    (ap (λ (cs : List (Known Callee)). look name cs) (sym same) ∙ l) in
    at.1 r)
