-- The readers of the parts in which no expression stands, on what is spelled from them.
use Rattle.std.proofs.Common.{◌≡◌, ℕ, Bool, true, false, List, [], ◌∷◌, ◌++◌, refl, ◌∙◌, append_assoc, arith}
use Rattle.std.specs.List.{flat_map}
use Rattle.ccsl_base.specs.declared.reserved.Reserved.TheVariants as w
use Rattle.ccsl_ast.specs.declared.spot.Spot.{Spot}
use Rattle.ccsl_ast.specs.declared.term.Sign.{Sign}
use Rattle.ccsl_ast.specs.declared.term.Sign.TheVariants.{Plus, Minus}
use Rattle.ccsl_ast.specs.declared.term.Primary.{Primary}
use Rattle.ccsl_ast.specs.declared.term.Primary.TheVariants as prim
use Rattle.ccsl_ast.specs.declared.term.Term.{Term}
use Rattle.ccsl_ast.specs.declared.term.WordTerm.{WordTerm}
use Rattle.ccsl_ast.specs.declared.term.WordTerm.TheVariants as wterm
use Rattle.ccsl_ast.specs.declared.term.Test.{Test}
use Rattle.ccsl_ast.specs.declared.term.Test.TheVariants.{Equal, Less, Head, Ended}
use Rattle.ccsl_ast.specs.declared.term.Argument.{Argument}
use Rattle.ccsl_ast.specs.declared.term.Argument.TheVariants as arg
use Rattle.ccsl_ast.specs.declared.definition.Kind.TheVariants as kind
use Rattle.ccsl_ast.specs.declared.definition.Kind.{Kind}
use Rattle.ccsl_ast.specs.declared.definition.Param.{Param}
use Rattle.ccsl_grammar.specs.Terminals.{Terminal, word, name, number}
use Rattle.ccsl_grammar.specs.Kinds.{is_word, is_symbol, is_quoted}
use Rattle.ccsl_grammar.specs.Reader.{took, Reader, followed, ◌>>=◌, ◌>>◌, given, begins, many}
use Rattle.ccsl_grammar.specs.Grammar.{comma, closing, equals, below, further_spelled, prim_spelled, signed_spelled, term_spelled, wterm_spelled, test_spelled}
use Rattle.ccsl_grammar.specs.Grammar.{arg_spelled, kind_spelled, param_spelled, clock_spelled}
use Rattle.ccsl_grammar.specs.Parser.{word_at, symbol_at, name_at, quoted_at, further_at, list_at, prim_at, sign_at, is_sign, signed_at, term_at, wterm_at}
use Rattle.ccsl_grammar.specs.Parser.{comparison_at, test_at, arg_at, kind_at, param_at}
use Rattle.ccsl_grammar.proofs.Parts.{Self}
use Rattle.ccsl_grammar.proofs.Leaves.{some_spot, signed_reads, further_reads, closed_spelled, arg_reads, param_reads, clock_reads}
use Rattle.ccsl_grammar.proofs.Outcome.{many_self_complete}

-- ---- sums

prim_complete : (p : Primary) (z : List Terminal) → prim_at (prim_spelled p ++ z) ≡ took p z
unfolding prim_at
prim_complete (prim.Num at n) z = refl
prim_complete (prim.Name x) z = refl

signed_complete : (p : Sign × Primary) (z : List Terminal) → signed_at (signed_spelled p ++ z) ≡ took p z
unfolding signed_at sign_at
signed_complete (Plus, p) z = rw (prim_complete p z) refl
signed_complete (Minus, p) z = rw (prim_complete p z) refl

signed_goes_on : (p : Sign × Primary) (z : List Terminal) → begins is_sign (signed_spelled p ++ z) ≡ true
signed_goes_on (Plus, p) z = refl
signed_goes_on (Minus, p) z = refl

pub term_complete : (t : Term) (rest : List Terminal) → begins is_sign rest ≡ false → term_at (term_spelled t ++ rest) ≡ took t rest
unfolding term_at
term_complete t rest b = rw (
  append_assoc (prim_spelled t.first) (flat_map signed_spelled t.rest) rest,
  prim_complete t.first (flat_map signed_spelled t.rest ++ rest),
  many_self_complete signed_spelled is_sign signed_at (λ z. Unit {0}) (λ c. omega arith) signed_reads signed_goes_on (λ c z. tt) (λ c z u. signed_complete c z)
      t.rest rest b tt,
) refl

-- a sum begins with a number or a name
prim_first : (test : Terminal → Bool) → ((at n : ℕ) → test (number at n) ≡ false) → ((x : Spot) → test (name x) ≡ false) → (p : Primary) (ps z : List Terminal)
    → begins test ((prim_spelled p ++ ps) ++ z) ≡ false
prim_first test h i (prim.Num at n) ps z = h at n
prim_first test h i (prim.Name x) ps z = i x

term_first : (test : Terminal → Bool) → ((at n : ℕ) → test (number at n) ≡ false) → ((x : Spot) → test (name x) ≡ false) → (t : Term) (z : List Terminal)
    → begins test (term_spelled t ++ z) ≡ false
term_first test h i t z = prim_first test h i t.first (flat_map signed_spelled t.rest) z

-- ---- lists

module _ {C : Type 0} (spelled : C → List Terminal) (item : Reader C) (some : C) (reads : Self spelled item) (Follows : List Terminal → Type 0)
    (follows_comma : (z : List Terminal) → Follows (comma ∷ z)) (complete : (c : C) (z : List Terminal) → Follows z → item (spelled c ++ z) ≡ took c z) where
  further_complete : (c : C) (z : List Terminal) → Follows z → further_at item (further_spelled spelled c ++ z) ≡ took c z
  unfolding further_at symbol_at
  further_complete c z h = complete c z h

  pub furthers_complete : (cs : List C) (rest : List Terminal) → begins (is_symbol 44) rest ≡ false → Follows rest
      → many (is_symbol 44) (further_at item) (flat_map (further_spelled spelled) cs ++ rest) ≡ took cs rest
  furthers_complete cs rest b h =
      many_self_complete (further_spelled spelled) (is_symbol 44) (further_at item) Follows (λ c. omega arith) (further_reads spelled item some reads)
      (λ c z. refl) (λ c z. follows_comma (spelled c ++ z)) further_complete cs rest b h

  module _ (follows_closing : (z : List Terminal) → Follows (closing ∷ z))
      (first : (c : C) (z : List Terminal) → begins (is_symbol 41) (spelled c ++ z) ≡ false) where
    -- what stands behind the first
    next : (cs : List C) (rest : List Terminal) → Follows (flat_map (further_spelled spelled) cs ++ closing ∷ rest)
    next [] rest = follows_closing rest
    next (c ∷ cs) rest = follows_comma ((spelled c ++ flat_map (further_spelled spelled) cs) ++ closing ∷ rest)

    list_open : (c : C) (z : List Terminal)
        → list_at item (spelled c ++ z) ≡ followed (item (spelled c ++ z)) (λ v. many (is_symbol 44) (further_at item) >>= λ vs. symbol_at 41 >> given (v ∷ vs))
    unfolding list_at
    list_open c z = rw (first c z) refl

    list_nothing : (rest : List Terminal) → list_at item (closing ∷ rest) ≡ took [] rest
    unfolding list_at symbol_at
    list_nothing rest = refl

    list_close : (c : C) (cs : List C) (rest : List Terminal)
        → (many (is_symbol 44) (further_at item) >>= λ vs. symbol_at 41 >> given (c ∷ vs)) (flat_map (further_spelled spelled) cs ++ closing ∷ rest) ≡ took
        (c ∷ cs) rest
    unfolding symbol_at
    list_close c cs rest = rw (furthers_complete cs (closing ∷ rest) refl (follows_closing rest)) refl

    regrouped : (a b rest : List Terminal) → ((a ++ b) ++ closing ∷ []) ++ rest ≡ a ++ (b ++ closing ∷ rest)
    regrouped a b rest = rw (append_assoc (a ++ b) (closing ∷ []) rest, append_assoc a b (closing ∷ rest)) refl

    pub list_complete : (cs : List C) (rest : List Terminal) → list_at item (closed_spelled spelled cs ++ rest) ≡ took cs rest
    list_complete [] rest = list_nothing rest
    list_complete (c ∷ cs) rest =
        rw (regrouped (spelled c) (flat_map (further_spelled spelled) cs) rest) (list_open c (flat_map (further_spelled spelled) cs ++ closing ∷ rest)
        ∙ rw (complete c (flat_map (further_spelled spelled) cs ++ closing ∷ rest) (next cs rest)) (list_close c cs rest))

-- ---- words, tests, arguments, parameters

pub wterm_complete : (m : WordTerm) (rest : List Terminal) → wterm_at (wterm_spelled m ++ rest) ≡ took m rest
unfolding wterm_at word_at name_at quoted_at
wterm_complete (wterm.Text at bytes) rest = refl
wterm_complete (wterm.Name x) rest = refl
wterm_complete (wterm.Tail x) rest = refl

compare : (a b : Term) (rest : List Terminal) → begins is_sign rest ≡ false → comparison_at a (equals ∷ (term_spelled b ++ rest)) ≡ took (Equal a b) rest
unfolding comparison_at symbol_at
compare a b rest h = rw (term_complete b rest h) refl

compare_below : (a b : Term) (rest : List Terminal) → begins is_sign rest ≡ false → comparison_at a (below ∷ (term_spelled b ++ rest)) ≡ took (Less a b) rest
unfolding comparison_at symbol_at
compare_below a b rest h = rw (term_complete b rest h) refl

test_open : (a : Term) (z : List Terminal) → begins is_sign z ≡ false → test_at (term_spelled a ++ z) ≡ comparison_at a z
unfolding test_at
test_open a z h = rw (
  term_first (is_word w.Head) (λ at n. refl) (λ x. refl) a z,
  term_first (is_word w.Ended) (λ at n. refl) (λ x. refl) a z,
  term_complete a z h,
) refl

test_word : (x : Spot) (z : List Terminal) → (test_at (word w.Head ∷ name x ∷ z) ≡ took (Head x) z) × (test_at (word w.Ended ∷ name x ∷ z) ≡ took (Ended x) z)
unfolding test_at word_at name_at
test_word x z = (refl, refl)

pub test_complete : (q : Test) (rest : List Terminal) → begins is_sign rest ≡ false → test_at (test_spelled q ++ rest) ≡ took q rest
test_complete (Equal a b) rest h =
    rw (append_assoc (term_spelled a) (equals ∷ term_spelled b) rest) (test_open a (equals ∷ (term_spelled b ++ rest)) refl ∙ compare a b rest h)
test_complete (Less a b) rest h =
    rw (append_assoc (term_spelled a) (below ∷ term_spelled b) rest) (test_open a (below ∷ (term_spelled b ++ rest)) refl ∙ compare_below a b rest h)
test_complete (Head x) rest h = (test_word x rest).0
test_complete (Ended x) rest h = (test_word x rest).1

arg_complete : (a : Argument) (rest : List Terminal) → begins is_sign rest ≡ false → arg_at (arg_spelled a ++ rest) ≡ took a rest
unfolding arg_at word_at name_at quoted_at
arg_complete (arg.Term t) rest h =
    rw (term_first is_quoted (λ at n. refl) (λ x. refl) t rest, term_first (is_word w.Tail) (λ at n. refl) (λ x. refl) t rest, term_complete t rest h) refl
arg_complete (arg.Text at bytes) rest h = refl
arg_complete (arg.Tail x) rest h = refl

arg_first : (a : Argument) (z : List Terminal) → begins (is_symbol 41) (arg_spelled a ++ z) ≡ false
arg_first (arg.Term t) z = term_first (is_symbol 41) (λ at n. refl) (λ x. refl) t z
arg_first (arg.Text at bytes) z = refl
arg_first (arg.Tail x) z = refl

pub args_complete : (args : List Argument) (rest : List Terminal) → list_at arg_at (closed_spelled arg_spelled args ++ rest) ≡ took args rest
args_complete = list_complete arg_spelled arg_at (arg.Tail some_spot) arg_reads (λ z. begins is_sign z ≡ false) (λ z. refl) arg_complete (λ z. refl) arg_first

kind_complete : (k : Kind) (z : List Terminal) → kind_at (kind_spelled k ∷ z) ≡ took k z
unfolding kind_at
kind_complete kind.Clock z = refl
kind_complete kind.Number z = refl
kind_complete kind.Word z = refl

param_complete : (p : Param) (z : List Terminal) → param_at (param_spelled p ++ z) ≡ took p z
unfolding param_at name_at
param_complete p z = rw (kind_complete p.kind (name p.name ∷ z)) refl

kind_first : (k : Kind) → is_symbol 41 (kind_spelled k) ≡ false
kind_first kind.Clock = refl
kind_first kind.Number = refl
kind_first kind.Word = refl

pub params_complete : (ps : List Param) (rest : List Terminal) → list_at param_at (closed_spelled param_spelled ps ++ rest) ≡ took ps rest
params_complete = list_complete param_spelled param_at (record { kind = kind.Clock; name = some_spot }) param_reads (λ z. Unit {0}) (λ z. tt)
    (λ p z h. param_complete p z) (λ z. tt) (λ p z. kind_first p.kind)

clock_complete : (x : Spot) (z : List Terminal) → name_at (clock_spelled x ++ z) ≡ took x z
unfolding name_at
clock_complete x z = refl

pub clocks_complete : (xs : List Spot) (rest : List Terminal) → begins (is_symbol 44) rest ≡ false
    → many (is_symbol 44) (further_at name_at) (flat_map (further_spelled clock_spelled) xs ++ rest) ≡ took xs rest
clocks_complete xs rest b = furthers_complete clock_spelled name_at some_spot clock_reads (λ z. Unit {0}) (λ z. tt) (λ x z h. clock_complete x z) xs rest b tt
