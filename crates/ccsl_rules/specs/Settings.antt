-- What the names of a body stand for, and the values of terms and arguments under that.
use Rattle.std.specs.Prelude.{ℕ, ◌+◌, List, [], ◌∷◌, length, Option, Some, None, find, bytes_eq}
use Rattle.ccsl_ast.specs.declared.definition.Kind.{Kind}
use Rattle.ccsl_ast.specs.declared.term.Sign.{Sign}
use Rattle.ccsl_ast.specs.declared.term.Sign.TheVariants as sign
use Rattle.ccsl_ast.specs.declared.term.Primary.{Primary}
use Rattle.ccsl_ast.specs.declared.term.Primary.TheVariants as prim
use Rattle.ccsl_ast.specs.declared.term.Argument.{Argument}
use Rattle.ccsl_ast.specs.declared.term.Argument.TheVariants as arg
use Rattle.ccsl_words.specs.Word.{BinaryWord, rest}
use Rattle.ccsl_kernel.specs.declared.expr.NumSign.{NumSign}
use Rattle.ccsl_kernel.specs.declared.expr.NumSign.TheVariants as plus
use Rattle.ccsl_kernel.specs.Actuals.{word_of, signed}
use Rattle.ccsl_rules.specs.Uses.{single}
use Rattle.ccsl_rules.specs.Texts.{argument_texts}

-- a clock of the system by its whole name, a number, a word of the table with an offset, or, in the body of an expression, its own parameter
pub data Atom : Type 0 where
  AClock : (name : List ℕ) → Atom
  ANumber : (n : ℕ) → Atom
  AWord : (w o : ℕ) → Atom
  AParam : (i : ℕ) → (k : Kind) → Atom

abbrev pub Setting : Type 0
Setting = List (List ℕ × Atom)

abbrev pub snd_of : Option (List ℕ × Atom) → Atom
snd_of None = ANumber 0
snd_of (Some p) = p.1

-- what a name stands for: the first that the setting has for it
abbrev pub atom_of : Setting → List ℕ → Atom
atom_of σ name = snd_of (find (λ p. bytes_eq p.0 name) σ)

abbrev pub number_in : Atom → ℕ
number_in (ANumber n) = n
number_in _ = 0

abbrev pub prim_number : Setting → Primary → ℕ
prim_number σ (prim.Num at n) = n
prim_number σ (prim.Name s) = number_in (atom_of σ s.name)

abbrev pub resolve_sign : Sign → NumSign
resolve_sign sign.Plus = plus.Plus
resolve_sign sign.Minus = plus.Minus

abbrev pub sum_from : Setting → ℕ → List (Sign × Primary) → ℕ
sum_from σ n [] = n
sum_from σ n (p ∷ ps) = sum_from σ (signed (resolve_sign p.0) n (prim_number σ p.1)) ps

abbrev pub tail_of : List BinaryWord → Atom → Atom
tail_of words (AWord w o) = AWord w (rest (word_of words w) o)
tail_of words a = a

-- THE VALUE OF AN ARGUMENT of a relation's call: a name's own value, a word, or a number; `k` is the number of the next text
abbrev pub argument_atom : List BinaryWord → Setting → ℕ → Argument → Atom
argument_atom words σ k (arg.Term t) = elim (single t) [ None ↦ ANumber (sum_from σ (prim_number σ t.first) t.rest) | Some s ↦ atom_of σ s.name ]
argument_atom words σ k (arg.Text at text) = AWord k 0
argument_atom words σ k (arg.Tail s) = tail_of words (atom_of σ s.name)

abbrev pub argument_atoms : List BinaryWord → Setting → ℕ → List Argument → List Atom
argument_atoms words σ k [] = []
argument_atoms words σ k (a ∷ as') = argument_atom words σ k a ∷ argument_atoms words σ (k + length (argument_texts a)) as'
