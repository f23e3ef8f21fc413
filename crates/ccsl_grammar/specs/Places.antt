-- Where a list of terminals can be continued to a derivation of some kind.
--     spelled      the terminals of a derivation
--     deep         the first expression in it that stands too deep, as the terminals from it on
use Rattle.std.specs.Prelude.{◌≡◌, List, ◌∷◌, ◌++◌, Option, Some, None}
use Rattle.ccsl_grammar.specs.Terminals.{Terminal}
use Rattle.ccsl_grammar.specs.Reader.{Fault, no_syntax, too_deep}

-- front begins a derivation
pub record Begins {C : Type 0} (spelled : C → List Terminal) (front : List Terminal) : Type 0 where
  pub whole : C
  pub more : List Terminal
  pub is : spelled whole ≡ front ++ more

-- front and the first terminal of rest begin a derivation, in which the first expression that stands too deep begins there
pub record BeginsDeep {C : Type 0} (spelled : C → List Terminal) (deep : C → List Terminal → Option (List Terminal)) (front rest : List Terminal) : Type 0 where
  pub whole : C
  pub first : Terminal
  pub behind : List Terminal
  pub more : List Terminal
  pub rest_is : rest ≡ first ∷ behind
  pub is : spelled whole ≡ front ++ first ∷ more
  pub deep_is : (after : List Terminal) → deep whole after ≡ Some (first ∷ (more ++ after))

abbrev pub Stops : {C : Type 0} (spelled : C → List Terminal) (deep : C → List Terminal → Option (List Terminal)) → Fault → List Terminal → List Terminal
    → Type 0
Stops spelled deep no_syntax front rest = Begins spelled front
Stops spelled deep too_deep front rest = BeginsDeep spelled deep front rest

-- front is a derivation with this tree, and nothing in it stands too deep
pub record Is {C T : Type 0} (spelled : C → List Terminal) (deep : C → List Terminal → Option (List Terminal)) (tree : C → T) (v : T)
    (front : List Terminal) : Type 0 where
  pub whole : C
  pub is : spelled whole ≡ front
  pub tree_is : tree whole ≡ v
  pub deep_is : (after : List Terminal) → deep whole after ≡ None

-- nothing in it stands too deep
abbrev pub shallow : {C : Type 0} → C → List Terminal → Option (List Terminal)
shallow c after = None
