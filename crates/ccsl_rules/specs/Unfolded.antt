-- Relation calls replaced by bodies.
use Rattle.std.specs.Prelude.{ℕ, ◌+◌, List, [], ◌∷◌, ◌++◌, length, map, flat_map, Option, Some, None, slice_get}
use Rattle.std.specs.Fmt.{decimal}
use Rattle.ccsl_ast.specs.declared.definition.Param.{Param}
use Rattle.ccsl_ast.specs.declared.line.Relation.{Relation}
use Rattle.ccsl_ast.specs.Trees.{Expression, Line, LDefine, LConstraint, LCall, SLine, SClocks, SLineOf, PlainDefinition, DRelation, DGroup}
use Rattle.ccsl_words.specs.Word.{BinaryWord}
use Rattle.ccsl_rules.specs.Spaces.{Known, Callee, look, declares}
use Rattle.ccsl_rules.specs.Settings.{Atom, AClock, Setting, argument_atoms}
use Rattle.ccsl_rules.specs.Texts.{entry_texts, block_texts}

-- the path of a call that stands at place i of a body with this path
abbrev pub inside : List ℕ → List ℕ → List ℕ
inside [] name = name
inside (b ∷ bs) name = (b ∷ bs) ++ 46 ∷ name

abbrev pub call_path : List ℕ → List ℕ → ℕ → List ℕ
call_path path name i = inside path (name ++ 64 ∷ decimal i)

-- what a line becomes: a clock with its definition, or a constraint; each with the path of the call that it comes from and with what its names stand for
pub data Item : Type 0 where
  Defines : (path name : List ℕ) → (σ : Setting) → (k : ℕ) → (e : Expression) → Item
  Binds : (path : List ℕ) → (σ : Setting) → (a : List ℕ) → (r : Relation) → (b : List ℕ) → Item

-- what a relation becomes under a path and arguments
abbrev pub Unfolding : Type 0
Unfolding = List ℕ → List Atom → List Item

-- the unfoldings of definitions, by their number; an expression has none
abbrev pub Unfoldings : Type 0
Unfoldings = List Unfolding

abbrev pub unfolding_at : Option Unfolding → Unfolding
unfolding_at None path args = []
unfolding_at (Some u) path args = u path args

abbrev pub unfolding_of : List (Known Callee) → Unfoldings → List ℕ → Unfolding
unfolding_of calls R name = elim (look name calls) [ None ↦ λ path args. [] | Some k ↦ unfolding_at (slice_get R k.what.block) ]

-- THE SETTING OF A BODY: each parameter stands for its argument, each clock that the body declares for the clock with the path before its name
abbrev pub arguments : List Param → List Atom → Setting
arguments [] as' = []
arguments (p ∷ ps) [] = []
arguments (p ∷ ps) (a ∷ as') = (p.name.name, a) ∷ arguments ps as'

abbrev pub own_clocks : List ℕ → List SLine → Setting
own_clocks path entries = map (λ s. (s.name, AClock (inside path s.name))) (flat_map declares entries)

module _ (words : List BinaryWord) (calls : List (Known Callee)) where
  -- A LINE at place i of a body with this path: a call is the called relation under the call's path and the values of its arguments
  abbrev pub unfold_line : Unfoldings → List ℕ → Setting → ℕ → ℕ → Line → List Item
  unfold_line R path σ k i (LDefine s e) = Defines path (inside path s.name) σ k e ∷ []
  unfold_line R path σ k i (LConstraint a r b) = Binds path σ a.name r b.name ∷ []
  unfold_line R path σ k i (LCall s args) = unfolding_of calls R s.name (call_path path s.name i) (argument_atoms words σ k args)

  abbrev pub unfold_entry : Unfoldings → List ℕ → Setting → ℕ → ℕ → SLine → List Item
  unfold_entry R path σ k i (SClocks names) = []
  unfold_entry R path σ k i (SLineOf l) = unfold_line R path σ k i l

  -- the lines of a body, from place i on; `k` is the number of their first text
  abbrev pub unfold_body : Unfoldings → List ℕ → Setting → ℕ → ℕ → List SLine → List Item
  unfold_body R path σ k i [] = []
  unfold_body R path σ k i (l ∷ ls) = unfold_entry R path σ k i l ++ unfold_body R path σ (k + length (entry_texts l)) (i + 1) ls

  -- the unfolding of a relation whose first text has number k
  abbrev pub unfold_relation : Unfoldings → ℕ → List Param → List SLine → Unfolding
  unfold_relation R k params entries path args = unfold_body R path (arguments params args ++ own_clocks path entries) k 0 entries

  -- that of a definition
  abbrev pub unfold_block : Unfoldings → ℕ → PlainDefinition → Unfolding
  unfold_block R k (DRelation name params lines) = unfold_relation R k params (map SLineOf lines)
  unfold_block R k (DGroup members) = λ path args. []

  -- those of all definitions, each from those before it
  abbrev pub unfoldings : Unfoldings → ℕ → List PlainDefinition → Unfoldings
  unfoldings R k [] = R
  unfoldings R k (b ∷ bs) = unfoldings (R ++ unfold_block R k b ∷ []) (k + length (block_texts b)) bs
