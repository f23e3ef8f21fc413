-- The parts in which no expression stands: lists, sums, words, tests, arguments, parameters, relations, operators.
use Rattle.std.proofs.Common.{◌≡◌, ℕ, Bool, true, false, List, [], ◌∷◌, ◌++◌, Some, None, refl, sym, append_assoc, arith, eqb, cond}
use Rattle.std.specs.Prelude.{IsTrue}
use Rattle.std.specs.List.{flat_map}
use Rattle.std.proofs.lemmas.List.{append-nil}
use Rattle.std.proofs.lemmas.Bool.{eqb-true, and_parts}
use Rattle.ccsl_base.specs.declared.reserved.Reserved.{Reserved}
use Rattle.ccsl_base.specs.declared.reserved.Reserved.TheVariants as w
use Rattle.ccsl_ast.specs.declared.spot.Spot.{Spot}
use Rattle.ccsl_ast.specs.declared.term.Sign.{Sign}
use Rattle.ccsl_ast.specs.declared.term.Sign.TheVariants.{Plus, Minus}
use Rattle.ccsl_ast.specs.declared.term.Primary.{Primary}
use Rattle.ccsl_ast.specs.declared.term.Primary.TheVariants as prim
use Rattle.ccsl_ast.specs.declared.term.Term.{Term}
use Rattle.ccsl_ast.specs.declared.term.WordTerm.TheVariants as wterm
use Rattle.ccsl_ast.specs.declared.term.Test.{Test}
use Rattle.ccsl_ast.specs.declared.term.Test.TheVariants.{Equal, Less, Head, Ended}
use Rattle.ccsl_ast.specs.declared.term.Argument.TheVariants as arg
use Rattle.ccsl_ast.specs.declared.tree.BinaryOp.{BinaryOp}
use Rattle.ccsl_ast.specs.declared.tree.BinaryOp.TheVariants as op
use Rattle.ccsl_ast.specs.declared.line.Relation.{Relation}
use Rattle.ccsl_ast.specs.declared.line.Relation.TheVariants as rel
use Rattle.ccsl_ast.specs.declared.definition.Kind.{Kind}
use Rattle.ccsl_ast.specs.declared.definition.Kind.TheVariants as kind
use Rattle.ccsl_ast.specs.Trees.{binop_in, relop_in}
use Rattle.ccsl_grammar.specs.Terminals.{Terminal, word, symbol, name, number, quoted}
use Rattle.ccsl_grammar.specs.Kinds.{is_word, is_symbol, is_name, is_quoted}
use Rattle.ccsl_grammar.specs.Reader.{Fault, no_syntax, Reader, ◌>>=◌, ◌>>◌, given, begins, many}
use Rattle.ccsl_grammar.specs.Places.{Stops, Is, shallow}
use Rattle.ccsl_grammar.specs.Grammar.{comma, closing, equals, further_spelled, list_spelled, prim_spelled, sign_spelled, signed_spelled, term_spelled}
use Rattle.ccsl_grammar.specs.Grammar.{wterm_spelled, test_spelled, arg_spelled, kind_spelled, param_spelled, relop_spelled, binop_spelled, clock_spelled}
use Rattle.ccsl_grammar.specs.Parser.{word_at, symbol_at, name_of, name_at, quoted_of, quoted_at, further_at, list_at, prim_of, prim_at, sign_of, sign_at}
use Rattle.ccsl_grammar.specs.Parser.{is_sign, signed_at, term_at, wterm_at, comparison_at, test_at, arg_at, kind_of, kind_at, param_at, relop_of, precedes_at}
use Rattle.ccsl_grammar.specs.Parser.{relop_at, binop_of, sampled_at, upto_at, binop_at, goes_on_by, within_at, num_of, num_at}
use Rattle.ccsl_grammar.proofs.Good.{Good, give, either, take_one}
use Rattle.ccsl_grammar.proofs.Parts.{Reads, Self, itself, begun, built, inside, part_then, part_last}
use Rattle.ccsl_grammar.proofs.Many.{many_self}
use Rattle.ccsl_grammar.proofs.Steps.{one, word_then, symbol_then, name_then, name_of_is}

-- any name, any sum
abbrev pub some_spot : Spot
some_spot = record { at = 0; name = 97 ∷ [] }

abbrev pub some_term : Term
some_term = record { first = prim.Num 0 0; rest = [] }

-- ---- what stands in a table

prim_is : (u : Terminal) (v : Primary) → prim_of u ≡ Some v → prim_spelled v ≡ u ∷ []
prim_is (name x) v e = let i : prim.Name x ≡ v = cc in rw (← i) refl
prim_is (number at n) v e = let i : prim.Num at n ≡ v = cc in rw (← i) refl
prim_is _ v e = absurd cc

sign_split : (b : ℕ) (s : Sign) (p m : Bool) → eqb b 43 ≡ p → eqb b 45 ≡ m → cond p (Some Plus) (cond m (Some Minus) None) ≡ Some s → sign_spelled s ≡ symbol b
sign_split b s true m i j e = let k : Plus ≡ s = cc in rw (← k, ← eqb-true b 43 i) refl
sign_split b s false true i j e = let k : Minus ≡ s = cc in rw (← k, ← eqb-true b 45 j) refl
sign_split b s false false i j e = absurd cc

sign_is : (u : Terminal) (s : Sign) → sign_of u ≡ Some s → sign_spelled s ≡ u
sign_is (symbol b) s e = sign_split b s (eqb b 43) (eqb b 45) refl refl e
sign_is _ s e = absurd cc

quoted_is : (u : Terminal) (q : ℕ × List ℕ) → quoted_of u ≡ Some q → u ≡ quoted q.0 q.1
quoted_is (quoted at bytes) q e = let i : ◌≡◌ {A = ℕ × List ℕ} (at, bytes) q = cc in rw (← i) refl
quoted_is _ q e = absurd cc

kind_is : (u : Terminal) (k : Kind) → kind_of u ≡ Some k → kind_spelled k ≡ u
kind_is (word w.Clock) k e = let i : kind.Clock ≡ k = cc in rw (← i) refl
kind_is (word w.Number) k e = let i : kind.Number ≡ k = cc in rw (← i) refl
kind_is (word w.Word) k e = let i : kind.Word ≡ k = cc in rw (← i) refl
kind_is _ k e = absurd cc

relop_is : (u : Terminal) (r : Relation) → relop_of u ≡ Some r → relop_spelled r ≡ u ∷ []
relop_is (word w.Subclock) r e = let i : rel.Subclock ≡ r = cc in rw (← i) refl
relop_is (word w.Coincides) r e = let i : rel.Coincides ≡ r = cc in rw (← i) refl
relop_is (word w.Excludes) r e = let i : rel.Excludes ≡ r = cc in rw (← i) refl
relop_is _ r e = absurd cc

binop_is : (u : Terminal) (o : BinaryOp) → binop_of u ≡ Some o → binop_spelled o ≡ u ∷ []
binop_is (word w.Union) o e = let i : op.Union ≡ o = cc in rw (← i) refl
binop_is (word w.Inter) o e = let i : op.Inter ≡ o = cc in rw (← i) refl
binop_is (word w.Minus) o e = let i : op.Minus ≡ o = cc in rw (← i) refl
binop_is (word w.Inf) o e = let i : op.Inf ≡ o = cc in rw (← i) refl
binop_is (word w.Sup) o e = let i : op.Sup ≡ o = cc in rw (← i) refl
binop_is (word w.Then) o e = let i : op.Then ≡ o = cc in rw (← i) refl
binop_is _ o e = absurd cc

-- ---- one terminal

pub prim_reads : Self prim_spelled prim_at
unfolding prim_at
prim_reads = record { at = λ ts. take_one _ _ prim_of ts (λ z. begun (prim.Num 0 0) (number 0 0 ∷ []) refl) (λ u v e. itself (prim_is u v e)) }

pub clock_reads : Self clock_spelled name_at
unfolding name_at
clock_reads = record { at = λ ts. take_one _ _ name_of ts (λ z. begun some_spot (name some_spot ∷ []) refl) (λ u x e. itself (rw (name_of_is u x e) refl)) }

module _ {B : Type 0} (S : Fault → List Terminal → List Terminal → Type 0) (Q : B → List Terminal → Type 0) where
  pub quoted_then : (g : ℕ × List ℕ → Reader B) (ts : List Terminal) → ((z : List Terminal) → S no_syntax [] z)
      → ((q : ℕ × List ℕ) (z : List Terminal) → Good (λ k p y. S k (quoted q.0 q.1 ∷ p) y) (λ v p. Q v (quoted q.0 q.1 ∷ p)) (g q) z)
      → Good S Q (quoted_at >>= g) ts
  unfolding quoted_at
  quoted_then g ts out on = one S Q quoted_of g ts out
      (λ u q z e. rw (quoted_is u q e) (on q z))

-- ---- sums

pub signed_reads : Self signed_spelled signed_at
unfolding signed_at sign_at
signed_reads = record {
  at = λ ts. one _ _ sign_of _ ts (λ z. begun (Plus, prim.Num 0 0) (symbol 43 ∷ number 0 0 ∷ []) refl)
      (λ u s z e. part_then prim_reads _ _ _ z
      (inside prim_spelled signed_spelled shallow (λ p. (s, p)) (λ q. u ∷ q) [] (λ x y. refl) (λ c. rw (sign_is u s e, append-nil (prim_spelled c)) refl))
      (λ p d y. give _ _ (s, p) y (itself (rw (sign_is u s e, append-nil (prim_spelled p)) refl))));
}

pub term_reads : Self term_spelled term_at
unfolding term_at
term_reads = record {
  at = λ ts. part_then prim_reads _ _ _ ts
      (inside prim_spelled term_spelled shallow (λ p. record { first = p; rest = [] }) (λ q. q) [] (λ x y. refl) (λ c. refl))
      (λ p d y. part_then (many_self signed_spelled is_sign signed_at (λ c. omega arith) signed_reads) _ _ _ y
      (inside (flat_map signed_spelled) term_spelled shallow (λ ps. record { first = p; rest = ps }) (λ q. prim_spelled p ++ q) []
      (λ x y. sym (append_assoc (prim_spelled p) x y)) (λ ps. rw (append-nil (flat_map signed_spelled ps)) refl))
      (λ ps d z. give _ _ (record { first = p; rest = ps }) z (itself (rw (append-nil (flat_map signed_spelled ps)) refl))));
}

-- ---- lists

pub further_reads : {C : Type 0} (spelled : C → List Terminal) (item : Reader C) (some : C) → Self spelled item
    → Self (further_spelled spelled) (further_at item)
unfolding further_at
further_reads spelled item some reads = record {
  at = λ ts. symbol_then _ _ 44 item ts (λ z. begun some (comma ∷ spelled some) refl)
      (λ z. part_last reads _ _ z
      (inside spelled (further_spelled spelled) shallow (λ c. c) (λ q. comma ∷ q) [] (λ x y. refl) (λ c. rw (append-nil (spelled c)) refl))
      (λ c d. itself refl));
}

pub further_some : {C : Type 0} (spelled : C → List Terminal) (item : Reader C) (some : C) → Self spelled item
    → Self (flat_map (further_spelled spelled)) (many (is_symbol 44) (further_at item))
further_some spelled item some reads =
    many_self (further_spelled spelled) (is_symbol 44) (further_at item) (λ c. omega arith) (further_reads spelled item some reads)

-- a list, and the parenthesis behind it
abbrev pub closed_spelled : {C : Type 0} → (C → List Terminal) → List C → List Terminal
closed_spelled spelled cs = list_spelled spelled cs ++ closing ∷ []

pub list_reads : {C : Type 0} (spelled : C → List Terminal) (item : Reader C) (some : C) → Self spelled item → Self (closed_spelled spelled) (list_at item)
unfolding list_at
list_reads spelled item some reads = record {
  at = λ ts. either _ _ (is_symbol 41) _ _ ts
      (λ b. symbol_then _ _ 41 (given []) ts (λ z. begun [] (closing ∷ []) refl) (λ z. give _ _ [] z (itself refl)))
      (λ b. part_then reads _ _ _ ts
      (inside spelled (closed_spelled spelled) shallow (λ c. c ∷ []) (λ q. q) (closing ∷ []) (λ x y. refl) (λ c. rw (append-nil (spelled c)) refl))
      (λ c d y. part_then (further_some spelled item some reads) _ _ _ y
      (inside (flat_map (further_spelled spelled)) (closed_spelled spelled) shallow (λ cs. c ∷ cs) (λ q. spelled c ++ q) (closing ∷ [])
      (λ x y. sym (append_assoc (spelled c) x y))
      (λ cs. append_assoc (spelled c) (flat_map (further_spelled spelled) cs) (closing ∷ [])))
      (λ cs d x. symbol_then _ _ 41 (given (c ∷ cs)) x
      (λ z. begun (c ∷ cs) (closing ∷ []) (rw (append-nil (flat_map (further_spelled spelled) cs)) refl))
      (λ z. give _ _ (c ∷ cs) z (itself (append_assoc (spelled c) (flat_map (further_spelled spelled) cs) (closing ∷ [])))))));
}

-- ---- words, tests, arguments

-- a word and a name
word_name : {C : Type 0} (spelled : C → List Terminal) (v : Reserved) (whole : Spot → C) → ((x : Spot) → spelled (whole x) ≡ word v ∷ name x ∷ [])
    → (ts : List Terminal) → Good (Stops spelled shallow) (Is spelled shallow (λ c. c)) (word_at v >> name_at >>= λ x. given (whole x)) ts
word_name spelled v whole is ts = word_then _ _ v _ ts (λ z. begun (whole some_spot) (word v ∷ name some_spot ∷ []) (is some_spot))
    (λ z. name_then _ _ _ z (λ z. begun (whole some_spot) (name some_spot ∷ []) (is some_spot)) (λ x z. give _ _ (whole x) z (itself (is x))))

pub wterm_reads : Self wterm_spelled wterm_at
unfolding wterm_at
wterm_reads = record {
  at = λ ts. either _ _ is_name _ _ ts
      (λ b. name_then _ _ _ ts (λ z. begun (wterm.Name some_spot) (name some_spot ∷ []) refl) (λ x z. give _ _ (wterm.Name x) z (itself refl)))
      (λ b. either _ _ (is_word w.Tail) _ _ ts
      (λ b. word_name wterm_spelled w.Tail (λ x. wterm.Tail x) (λ x. refl) ts)
      (λ b. quoted_then _ _ _ ts (λ z. begun (wterm.Name some_spot) (name some_spot ∷ []) refl) (λ q z. give _ _ (wterm.Text q.0 q.1) z (itself refl))));
}

pub arg_reads : Self arg_spelled arg_at
unfolding arg_at
arg_reads = record {
  at = λ ts. either _ _ is_quoted _ _ ts
      (λ b. quoted_then _ _ _ ts (λ z. begun (arg.Text 0 []) (quoted 0 [] ∷ []) refl) (λ q z. give _ _ (arg.Text q.0 q.1) z (itself refl)))
      (λ b. either _ _ (is_word w.Tail) _ _ ts
      (λ b. word_name arg_spelled w.Tail (λ x. arg.Tail x) (λ x. refl) ts)
      (λ b. part_then term_reads _ _ _ ts
      (inside term_spelled arg_spelled shallow (λ t. arg.Term t) (λ q. q) [] (λ x y. refl) (λ t. sym (append-nil (term_spelled t))))
      (λ t d z. give _ _ (arg.Term t) z (itself (sym (append-nil (term_spelled t)))))));
}

-- what stands behind a test's first term
compared : (a : Term) (b : ℕ) (whole : Term → Test) → ((t : Term) → test_spelled (whole t) ≡ term_spelled a ++ symbol b ∷ term_spelled t)
    → (ts : List Terminal) → Good (λ k q z. Stops test_spelled shallow k (term_spelled a ++ q) z)
    (λ v q. Is test_spelled shallow (λ c. c) v (term_spelled a ++ q)) (symbol_at b >> term_at >>= λ t. given (whole t)) ts
compared a b whole is ts = symbol_then _ _ b _ ts (λ z. begun (whole some_term) (symbol b ∷ number 0 0 ∷ []) (rw (append-nil (term_spelled a)) (is some_term)))
    (λ z. part_then term_reads _ _ _ z
    (inside term_spelled test_spelled shallow whole (λ q. term_spelled a ++ symbol b ∷ q) [] (λ x y. sym (append_assoc (term_spelled a) (symbol b ∷ x) y))
    (λ t. rw (append-nil (term_spelled t)) (is t)))
    (λ t d z. give _ _ (whole t) z (itself (rw (append-nil (term_spelled t)) (is t)))))

pub test_reads : Self test_spelled test_at
unfolding test_at comparison_at
test_reads = record {
  at = λ ts. either _ _ (is_word w.Head) _ _ ts
      (λ b. word_name test_spelled w.Head (λ x. Head x) (λ x. refl) ts)
      (λ b. either _ _ (is_word w.Ended) _ _ ts
      (λ b. word_name test_spelled w.Ended (λ x. Ended x) (λ x. refl) ts)
      (λ b. part_then term_reads _ _ _ ts
      (inside term_spelled test_spelled shallow (λ t. Equal t some_term) (λ q. q) (equals ∷ number 0 0 ∷ []) (λ x y. refl) (λ t. refl))
      (λ a d z. either _ _ (is_symbol 61) _ _ z
      (λ b. compared a 61 (λ t. Equal a t) (λ t. refl) z)
      (λ b. compared a 60 (λ t. Less a t) (λ t. refl) z))));
}

pub param_reads : Self param_spelled param_at
unfolding param_at kind_at
param_reads = record {
  at = λ ts. one _ _ kind_of _ ts (λ z. begun (record { kind = kind.Clock; name = some_spot }) (word w.Clock ∷ name some_spot ∷ []) refl)
      (λ u k z e. name_then _ _ _ z (λ z. begun (record { kind = k; name = some_spot }) (name some_spot ∷ []) (rw (kind_is u k e) refl))
      (λ x z. give _ _ (record { kind = k; name = x }) z (itself (rw (kind_is u k e) refl))));
}

-- ---- a number

num_is : (u : Terminal) (n : ℕ × ℕ) → num_of u ≡ Some n → u ≡ number n.0 n.1
num_is (number at n) m e = let i : ◌≡◌ {A = ℕ × ℕ} (at, n) m = cc in rw (← i) refl
num_is _ n e = absurd cc

module _ {B : Type 0} (S : Fault → List Terminal → List Terminal → Type 0) (Q : B → List Terminal → Type 0) where
  pub num_then : (g : ℕ × ℕ → Reader B) (ts : List Terminal) → ((z : List Terminal) → S no_syntax [] z)
      → ((n : ℕ × ℕ) (z : List Terminal) → Good (λ k p y. S k (number n.0 n.1 ∷ p) y) (λ v p. Q v (number n.0 n.1 ∷ p)) (g n) z) → Good S Q (num_at >>= g) ts
  unfolding num_at
  num_then g ts out on = one S Q num_of g ts out (λ u n z e. rw (num_is u n e) (on n z))

-- ---- relations and operators of a version

abbrev pub Relop : Bool → Type 0
Relop two = (r : Relation) × IsTrue (relop_in two r)

abbrev pub Binop : Bool → Type 0
Binop two = (o : BinaryOp) × IsTrue (binop_in two o)

-- what goes on a form of version 2 is read in version 2 alone
goes_on_two : (two : Bool) (v : Reserved) (ts : List Terminal) → begins (goes_on_by two v) ts ≡ true → two ≡ true
goes_on_two two v [] h = absurd cc
goes_on_two two v (t ∷ ts) h = (and_parts (is_word v t) two h).1

-- those of one word are forms of each version
relop_old : (two : Bool) (u : Terminal) (r : Relation) → relop_of u ≡ Some r → relop_in two r ≡ true
relop_old two (word w.Subclock) r e = let i : rel.Subclock ≡ r = cc in rw (← i) refl
relop_old two (word w.Coincides) r e = let i : rel.Coincides ≡ r = cc in rw (← i) refl
relop_old two (word w.Excludes) r e = let i : rel.Excludes ≡ r = cc in rw (← i) refl
relop_old two _ r e = absurd cc

binop_old : (two : Bool) (u : Terminal) (o : BinaryOp) → binop_of u ≡ Some o → binop_in two o ≡ true
binop_old two (word w.Union) o e = let i : op.Union ≡ o = cc in rw (← i) refl
binop_old two (word w.Inter) o e = let i : op.Inter ≡ o = cc in rw (← i) refl
binop_old two (word w.Minus) o e = let i : op.Minus ≡ o = cc in rw (← i) refl
binop_old two (word w.Inf) o e = let i : op.Inf ≡ o = cc in rw (← i) refl
binop_old two (word w.Sup) o e = let i : op.Sup ≡ o = cc in rw (← i) refl
binop_old two (word w.Then) o e = let i : op.Then ≡ o = cc in rw (← i) refl
binop_old two _ o e = absurd cc

module _ (two : Bool) where
  abbrev relop_terminals : Relop two → List Terminal
  relop_terminals c = relop_spelled c.0

  abbrev relop_tree : Relop two → Relation
  relop_tree c = c.0

  within_reads : two ≡ true → (ts : List Terminal)
      → Good (λ k q z. Stops relop_terminals shallow k (word w.Precedes ∷ q) z) (λ v q. Is relop_terminals shallow relop_tree v (word w.Precedes ∷ q))
      (word_at w.Within >> within_at) ts
  unfolding within_at
  within_reads h ts = word_then _ _ w.Within _ ts (λ z. begun (rel.PrecedesWithin 0 0, h) (word w.Within ∷ number 0 0 ∷ []) refl)
      (λ z. num_then _ _ _ z (λ z. begun (rel.PrecedesWithin 0 0, h) (number 0 0 ∷ []) refl)
      (λ n z. give _ _ (rel.PrecedesWithin n.0 n.1) z (built (rel.PrecedesWithin n.0 n.1, h) refl (λ after. refl))))

  pub relop_reads : Reads (λ (c : Relop two). relop_spelled c.0) shallow (λ c. c.0) (relop_at two)
  unfolding relop_at precedes_at
  relop_reads = record {
    at = λ ts. either _ _ (is_word w.Precedes) _ _ ts
        (λ b. word_then _ _ w.Precedes _ ts (λ z. begun (rel.Precedes, refl) (word w.Precedes ∷ []) refl)
        (λ z. either _ _ (is_word w.Weakly) _ _ z
        (λ b. word_then _ _ w.Weakly _ z (λ z. begun (rel.PrecedesWeakly, refl) (word w.Weakly ∷ []) refl)
        (λ z. give _ _ rel.PrecedesWeakly z (built (rel.PrecedesWeakly, refl) refl (λ after. refl))))
        (λ b. either _ _ (goes_on_by two w.Within) _ _ z
        (λ b. within_reads (goes_on_two two w.Within z b) z)
        (λ b. give _ _ rel.Precedes z (built (rel.Precedes, refl) refl (λ after. refl))))))
        (λ b. take_one _ _ relop_of ts (λ z. begun (rel.Subclock, refl) (word w.Subclock ∷ []) refl)
        (λ u r e. built (r, relop_old two u r e) (relop_is u r e) (λ after. refl)));
  }

  pub binop_reads : Reads (λ (c : Binop two). binop_spelled c.0) shallow (λ c. c.0) (binop_at two)
  unfolding binop_at sampled_at upto_at
  binop_reads = record {
    at = λ ts. either _ _ (is_word w.Sampled) _ _ ts
        (λ b. word_then _ _ w.Sampled _ ts (λ z. begun (op.Sampled, refl) (word w.Sampled ∷ word w.On ∷ []) refl)
        (λ z. either _ _ (is_word w.Weakly) _ _ z
        (λ b. word_then _ _ w.Weakly _ z (λ z. begun (op.SampledWeakly, refl) (word w.Weakly ∷ word w.On ∷ []) refl)
        (λ z. word_then _ _ w.On _ z (λ z. begun (op.SampledWeakly, refl) (word w.On ∷ []) refl)
        (λ z. give _ _ op.SampledWeakly z (built (op.SampledWeakly, refl) refl (λ after. refl)))))
        (λ b. word_then _ _ w.On _ z (λ z. begun (op.Sampled, refl) (word w.On ∷ []) refl)
        (λ z. give _ _ op.Sampled z (built (op.Sampled, refl) refl (λ after. refl))))))
        (λ b. either _ _ (is_word w.Upto) _ _ ts
        (λ b. word_then _ _ w.Upto _ ts (λ z. begun (op.Upto, refl) (word w.Upto ∷ []) refl)
        (λ z. either _ _ (goes_on_by two w.Weakly) _ _ z
        (λ b. let h = goes_on_two two w.Weakly z b in
        word_then _ _ w.Weakly _ z (λ z. begun (op.UptoWeakly, h) (word w.Weakly ∷ []) refl)
        (λ z. give _ _ op.UptoWeakly z (built (op.UptoWeakly, h) refl (λ after. refl))))
        (λ b. give _ _ op.Upto z (built (op.Upto, refl) refl (λ after. refl)))))
        (λ b. take_one _ _ binop_of ts (λ z. begun (op.Union, refl) (word w.Union ∷ []) refl)
        (λ u o e. built (o, binop_old two u o e) (binop_is u o e) (λ after. refl))));
  }
