-- Each member that a name stands for has its body, with its parameters.
use Rattle.std.proofs.Common.{◌≡◌, ℕ, zero, suc, ◌+◌, ◌≤◌, List, [], ◌∷◌, ◌++◌, Some, map, slice_get, bytes_eq, length, refl, sym, ap, ◌∙◌, arith}
use Rattle.std.specs.List.{AllByRecursion}
use Rattle.ccsl_ast.specs.declared.definition.Param.{Param}
use Rattle.ccsl_ast.specs.Trees.{PlainMember, PlainDefinition, DRelation, DGroup}
use Rattle.ccsl_kernel.specs.declared.group.ParamKind.{ParamKind}
use Rattle.ccsl_kernel.specs.Syntax.{Body, body_of}
use Rattle.ccsl_rules.specs.Spaces.{Known, Callee, member, look, parts_space, calls_space}
use Rattle.ccsl_rules.specs.Texts.{texts, block_texts}
use Rattle.ccsl_rules.specs.Resolved.{Tables}
use Rattle.ccsl_rules.specs.Expansion.{kind_in, part_bodies, groups_of}
use Rattle.ccsl_rules.proofs.Ordered.{found-all, all-append, same-group}

abbrev kinds : List Param → List ParamKind
kinds ps = map (λ p. kind_in p.kind) ps

-- bodies that belong to these members, and groups that belong to these definitions
abbrev pub MatchParts : List PlainMember → List Body → Type 0
MatchParts [] [] = Unit {0}
MatchParts (m ∷ ms) (b ∷ bs) = (b.params ≡ map (λ p. kind_in p.kind) m.params) × MatchParts ms bs
MatchParts _ _ = ⊥

abbrev pub MatchGroups : List PlainDefinition → List (List Body) → Type 0
MatchGroups [] [] = Unit {0}
MatchGroups [] (x ∷ G) = ⊥
MatchGroups (DRelation name params lines ∷ bs) G = MatchGroups bs G
MatchGroups (DGroup members ∷ bs) [] = ⊥
MatchGroups (DGroup members ∷ bs) (x ∷ G) = MatchParts members x × MatchGroups bs G

parts-match : (K : Tables) (k : ℕ) (ms : List PlainMember) → MatchParts ms (part_bodies K k ms)
parts-match K k [] = tt
parts-match K k (m ∷ ms) = (refl, parts-match K (k + length (texts m.body)) ms)

pub groups-match : (K : Tables) (k : ℕ) (bs : List PlainDefinition) → MatchGroups bs (groups_of K k bs)
groups-match K k [] = tt
groups-match K k (DRelation name params lines ∷ bs) = groups-match K (k + length (block_texts (DRelation name params lines))) bs
groups-match K k (DGroup members ∷ bs) = (parts-match K k members, groups-match K (k + length (block_texts (DGroup members))) bs)

pub match-append : (bs cs : List PlainDefinition) (G H : List (List Body)) → MatchGroups bs G → MatchGroups cs H → MatchGroups (bs ++ cs) (G ++ H)
match-append [] cs [] H a b = b
match-append [] cs (x ∷ G) H a b = absurd a
match-append (DRelation name params lines ∷ bs) cs G H a b = match-append bs cs G H a b
match-append (DGroup members ∷ bs) cs [] H a b = absurd a
match-append (DGroup members ∷ bs) cs (x ∷ G) H a b = (a.0, match-append bs cs G H a.1 b)

-- a known member, seen from the members from number n on of group g
abbrev InParts : ℕ → ℕ → List Body → Known Callee → Type 0
InParts g n x c = (group number : ℕ) → c.what.role ≡ member group number
    → (group ≡ g) × (n ≤ number) × ((d : ℕ) → number ≡ n + d → (b : Body) × (slice_get x d ≡ Some b) × (b.params ≡ kinds c.what.params))

number-same : (a b c d : ℕ) → member a b ≡ member c d → b ≡ d
number-same a b c d e = cc

one-more : (g n : ℕ) (y : Body) (x : List Body) (cs : List (Known Callee)) → AllByRecursion (InParts g (n + 1) x) cs → AllByRecursion (InParts g n (y ∷ x)) cs
one-more g n y x [] a = tt
one-more g n y x (c ∷ cs) a = (
  (λ group number r. let old = a.0 group number r in let up : n + 1 ≤ number = old.1 in (old.0, omega arith, at-place number up old.2)),
  one-more g n y x cs a.1,
)
  where
    at-place : (number : ℕ) → n + 1 ≤ number → ((d : ℕ) → number ≡ n + 1 + d → (b : Body) × (slice_get x d ≡ Some b) × (b.params ≡ kinds c.what.params)) →
        (d : ℕ) → number ≡ n + d → (b : Body) × (slice_get (y ∷ x) d ≡ Some b) × (b.params ≡ kinds c.what.params)
    at-place number up f zero e = absurd (omega arith)
    at-place number up f (suc d) e = f d (omega arith)

parts-in : (block g n : ℕ) (ps : List PlainMember) (x : List Body) → MatchParts ps x → AllByRecursion (InParts g n x) (parts_space block g n ps)
parts-in block g n [] x m = tt
parts-in block g n (p ∷ ps) [] m = absurd m
parts-in block g n (p ∷ ps) (y ∷ x) m = (
  (λ group number r. let same = number-same g n group number r in (sym (same-group g n group number r), omega arith, at-place number same)),
  one-more g n y x (parts_space block g (n + 1) ps) (parts-in block g (n + 1) ps x m.1),
)
  where
    at-place : (number : ℕ) → n ≡ number → (d : ℕ) → number ≡ n + d → (b : Body) × (slice_get (y ∷ x) d ≡ Some b) × (b.params ≡ kinds p.params)
    at-place number same zero e = (y, refl, m.0)
    at-place number same (suc d) e = absurd (omega arith)

-- a known member, seen from the groups from number g on
abbrev InGroups : ℕ → List (List Body) → Known Callee → Type 0
InGroups g G c = (group number : ℕ) → c.what.role ≡ member group number
    → (g ≤ group) × ((d : ℕ) → group ≡ g + d → (b : Body) × (body_of G d number ≡ Some b) × (b.params ≡ kinds c.what.params))

first-group : (g : ℕ) (x : List Body) (G : List (List Body)) (cs : List (Known Callee)) → AllByRecursion (InParts g 0 x) cs
    → AllByRecursion (InGroups g (x ∷ G)) cs
first-group g x G [] a = tt
first-group g x G (c ∷ cs) a = (
  (λ group number r. let old = a.0 group number r in let same : group ≡ g = old.0 in (omega arith, at-place group number same old.2)),
  first-group g x G cs a.1,
)
  where
    at-place : (group number : ℕ) → group ≡ g → ((d : ℕ) → number ≡ 0 + d → (b : Body) × (slice_get x d ≡ Some b) × (b.params ≡ kinds c.what.params)) →
        (d : ℕ) → group ≡ g + d → (b : Body) × (body_of (x ∷ G) d number ≡ Some b) × (b.params ≡ kinds c.what.params)
    at-place group number same f zero e = f number (omega arith)
    at-place group number same f (suc d) e = absurd (omega arith)

later-groups : (g : ℕ) (x : List Body) (G : List (List Body)) (cs : List (Known Callee)) → AllByRecursion (InGroups (g + 1) G) cs
    → AllByRecursion (InGroups g (x ∷ G)) cs
later-groups g x G [] a = tt
later-groups g x G (c ∷ cs) a = (
  (λ group number r. let old = a.0 group number r in let up : g + 1 ≤ group = old.0 in (omega arith, at-place group number up old.1)),
  later-groups g x G cs a.1,
)
  where
    at-place : (group number : ℕ) → g + 1 ≤ group
        → ((d : ℕ) → group ≡ g + 1 + d → (b : Body) × (body_of G d number ≡ Some b) × (b.params ≡ kinds c.what.params)) →
        (d : ℕ) → group ≡ g + d → (b : Body) × (body_of (x ∷ G) d number ≡ Some b) × (b.params ≡ kinds c.what.params)
    at-place group number up f zero e = absurd (omega arith)
    at-place group number up f (suc d) e = f d (omega arith)

space-in : (block g : ℕ) (bs : List PlainDefinition) (G : List (List Body)) → MatchGroups bs G → AllByRecursion (InGroups g G) (calls_space block g bs)
space-in block g [] G m = tt
space-in block g (DRelation name params lines ∷ bs) G m = ((λ group number r. absurd (cc)), space-in (block + 1) g bs G m)
space-in block g (DGroup members ∷ bs) [] m = absurd m
space-in block g (DGroup members ∷ bs) (x ∷ G) m =
    all-append (InGroups g (x ∷ G)) (parts_space block g 0 members) (calls_space (block + 1) (g + 1) bs)
    (first-group g x G (parts_space block g 0 members) (parts-in block g 0 members x m.0))
    (later-groups g x G (calls_space (block + 1) (g + 1) bs) (space-in (block + 1) (g + 1) bs G m.1))

-- so what is called has its body
pub bodies-there : (K : Tables) (bs : List PlainDefinition) (G : List (List Body)) → K.calls ≡ calls_space 0 0 bs → MatchGroups bs G →
    (name : List ℕ) (c : Known Callee) (group number : ℕ) → look name K.calls ≡ Some c → c.what.role ≡ member group number →
    (b : Body) × (body_of G group number ≡ Some b) × (b.params ≡ map (λ p. kind_in p.kind) c.what.params)
bodies-there K bs G same m name c group number l r =
    let at : InGroups 0 G c =
    found-all (InGroups 0 G) (λ x. bytes_eq x.name.name name) (calls_space 0 0 bs) c (space-in 0 0 bs G m)
    (ap (λ (cs : List (Known Callee)). look name cs) (sym same) ∙ l) in
    (at group number r).1 group (omega arith)
