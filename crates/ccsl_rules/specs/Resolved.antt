-- Expressions with numbers in place of names.
use Rattle.std.specs.Prelude.{ℕ, ◌+◌, List, [], ◌∷◌, length, Option, Some, None, map, bytes_eq}
use Rattle.std.specs.List.{position_or_len}
use Rattle.ccsl_ast.specs.declared.definition.Kind.{Kind}
use Rattle.ccsl_ast.specs.declared.definition.Kind.TheVariants as kind
use Rattle.ccsl_ast.specs.declared.term.Primary.{Primary}
use Rattle.ccsl_ast.specs.declared.term.Primary.TheVariants as prim
use Rattle.ccsl_ast.specs.declared.term.Term.{Term}
use Rattle.ccsl_ast.specs.declared.term.WordTerm.{WordTerm}
use Rattle.ccsl_ast.specs.declared.term.WordTerm.TheVariants as word
use Rattle.ccsl_ast.specs.declared.term.Test.{Test}
use Rattle.ccsl_ast.specs.declared.term.Test.TheVariants as test
use Rattle.ccsl_ast.specs.declared.term.Argument.{Argument}
use Rattle.ccsl_ast.specs.declared.term.Argument.TheVariants as arg
use Rattle.ccsl_ast.specs.declared.tree.BinaryOp.{BinaryOp}
use Rattle.ccsl_ast.specs.declared.tree.BinaryOp.TheVariants as op
use Rattle.ccsl_ast.specs.Trees.{Expression, EName, ECall, ENever, EBinary, EDelay, EAwait, EFilter, EDelayed, EIf}
use Rattle.ccsl_kernel.specs.declared.expr.Place.{Place}
use Rattle.ccsl_kernel.specs.declared.expr.Place.TheVariants as place
use Rattle.ccsl_kernel.specs.declared.expr.NumPrim.{NumPrim}
use Rattle.ccsl_kernel.specs.declared.expr.NumPrim.TheVariants as num
use Rattle.ccsl_kernel.specs.declared.expr.NumTerm.{NumTerm}
use Rattle.ccsl_kernel.specs.declared.expr.WordPlace.{WordPlace}
use Rattle.ccsl_kernel.specs.declared.expr.WordPlace.TheVariants as spot
use Rattle.ccsl_kernel.specs.declared.expr.Value.{Value}
use Rattle.ccsl_kernel.specs.declared.expr.Value.TheVariants as value
use Rattle.ccsl_kernel.specs.declared.expr.ExprTest.{ExprTest}
use Rattle.ccsl_kernel.specs.declared.expr.ExprTest.TheVariants as asks
use Rattle.ccsl_kernel.specs.declared.expr.ExprOp.{ExprOp}
use Rattle.ccsl_kernel.specs.declared.expr.ExprOp.TheVariants as does
use Rattle.ccsl_kernel.specs.Syntax as kernel
use Rattle.ccsl_words.specs.Word.{BinaryWord, rest}
use Rattle.ccsl_kernel.specs.Actuals.{word_of}
use Rattle.ccsl_rules.specs.Spaces.{Known, Callee, Role, relation, member, look}
use Rattle.ccsl_rules.specs.Uses.{single}
use Rattle.ccsl_rules.specs.Texts.{texts, argument_texts}
use Rattle.ccsl_rules.specs.Settings.{Atom, AClock, ANumber, AWord, AParam, Setting, atom_of, resolve_sign}

-- the names of the system's clocks, its words, and what is called
pub record Tables : Type 0 where
  pub names : List (List ℕ)
  pub words : List BinaryWord
  pub calls : List (Known Callee)

abbrev pub clock_number : List (List ℕ) → List ℕ → ℕ
clock_number names name = position_or_len (λ x. bytes_eq x name) names

abbrev pub atom_place : Tables → Atom → Place
atom_place K (AClock name) = place.Clock (clock_number K.names name)
atom_place K (AParam i k) = place.Param i
atom_place K _ = place.Clock 0

abbrev pub atom_prim : Atom → NumPrim
atom_prim (ANumber n) = num.Num n
atom_prim (AParam i k) = num.Param i
atom_prim _ = num.Num 0

abbrev pub atom_word : Atom → WordPlace
atom_word (AWord w o) = spot.Word w o
atom_word (AParam i k) = spot.Param i
atom_word _ = spot.Word 0 0

abbrev pub atom_tail : Tables → Atom → WordPlace
atom_tail K (AWord w o) = spot.Word w (rest (word_of K.words w) o)
atom_tail K (AParam i k) = spot.Tail i
atom_tail K _ = spot.Word 0 0

abbrev pub alone : NumPrim → NumTerm
alone p = record { first = p; rest = [] }

abbrev pub param_value : ℕ → Kind → Value
param_value i kind.Clock = value.Clock (place.Param i)
param_value i kind.Number = value.Number (alone (num.Param i))
param_value i kind.Word = value.Word (spot.Param i)

abbrev pub atom_value : Tables → Atom → Value
atom_value K (AClock name) = value.Clock (place.Clock (clock_number K.names name))
atom_value K (ANumber n) = value.Number (alone (num.Num n))
atom_value K (AWord w o) = value.Word (spot.Word w o)
atom_value K (AParam i k) = param_value i k

abbrev pub resolve_prim : Setting → Primary → NumPrim
resolve_prim σ (prim.Num at n) = num.Num n
resolve_prim σ (prim.Name s) = atom_prim (atom_of σ s.name)

abbrev pub resolve_term : Setting → Term → NumTerm
resolve_term σ t = record { first = resolve_prim σ t.first; rest = map (λ p. (resolve_sign p.0, resolve_prim σ p.1)) t.rest }

abbrev pub resolve_word : Tables → Setting → ℕ → WordTerm → WordPlace
resolve_word K σ k (word.Text at text) = spot.Word k 0
resolve_word K σ k (word.Name s) = atom_word (atom_of σ s.name)
resolve_word K σ k (word.Tail s) = atom_tail K (atom_of σ s.name)

abbrev pub resolve_test : Setting → Test → ExprTest
resolve_test σ (test.Equal t u) = asks.Equal (resolve_term σ t) (resolve_term σ u)
resolve_test σ (test.Less t u) = asks.Less (resolve_term σ t) (resolve_term σ u)
resolve_test σ (test.Head s) = asks.Head (atom_word (atom_of σ s.name))
resolve_test σ (test.Ended s) = asks.Ended (atom_word (atom_of σ s.name))

abbrev pub resolve_argument : Tables → Setting → ℕ → Argument → Value
resolve_argument K σ k (arg.Term t) = elim (single t) [ None ↦ value.Number (resolve_term σ t) | Some s ↦ atom_value K (atom_of σ s.name) ]
resolve_argument K σ k (arg.Text at text) = value.Word (spot.Word k 0)
resolve_argument K σ k (arg.Tail s) = value.Word (atom_tail K (atom_of σ s.name))

abbrev pub resolve_arguments : Tables → Setting → ℕ → List Argument → List Value
resolve_arguments K σ k [] = []
resolve_arguments K σ k (a ∷ as') = resolve_argument K σ k a ∷ resolve_arguments K σ (k + length (argument_texts a)) as'

abbrev pub resolve_op : BinaryOp → ExprOp
resolve_op op.Union = does.Union
resolve_op op.Inter = does.Inter
resolve_op op.Minus = does.Minus
resolve_op op.Inf = does.Inf
resolve_op op.Sup = does.Sup
resolve_op op.Upto = does.Upto
resolve_op op.UptoWeakly = does.UptoWeakly
resolve_op op.Then = does.Then
resolve_op op.Sampled = does.Sampled
resolve_op op.SampledWeakly = does.SampledWeakly

abbrev pub role_call : Role → List Value → kernel.Expression
role_call relation args = kernel.ENever
role_call (member group number) args = kernel.ECall group number args

abbrev pub resolve_call : Option (Known Callee) → List Value → kernel.Expression
resolve_call None args = kernel.ENever
resolve_call (Some k) args = role_call k.what.role args

-- AN EXPRESSION under a setting; `k` is the number of its first text
abbrev pub resolve : Tables → Setting → ℕ → Expression → kernel.Expression
resolve K σ k (EName s) = kernel.EName (atom_place K (atom_of σ s.name))
resolve K σ k (ECall s args) = resolve_call (look s.name K.calls) (resolve_arguments K σ k args)
resolve K σ k ENever = kernel.ENever
resolve K σ k (EBinary op a d) = kernel.EBinary (resolve_op op) (resolve K σ k a) (resolve K σ (k + length (texts a)) d)
resolve K σ k (EDelay a m) = kernel.EDelay (resolve K σ k a) (resolve_term σ m)
resolve K σ k (EAwait a m) = kernel.EAwait (resolve K σ k a) (resolve_term σ m)
resolve K σ k (EFilter a w) = kernel.EFilter (resolve K σ k a) (resolve_word K σ (k + length (texts a)) w)
resolve K σ k (EDelayed a at m d) = kernel.EDelayed (resolve K σ k a) m (resolve K σ (k + length (texts a)) d)
resolve K σ k (EIf q a d) = kernel.EIf (resolve_test σ q) (resolve K σ k a) (resolve K σ (k + length (texts a)) d)
