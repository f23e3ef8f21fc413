-- Expressions: what the reader takes is a derivation, and where it stops a derivation can be continued.
use Rattle.std.proofs.Common.{◌≡◌, ℕ, zero, suc, Bool, true, List, [], ◌∷◌, ◌++◌, None, refl, sym, ap, append_assoc, inl, inr, ◌||◌}
use Rattle.std.proofs.lemmas.List.{append-nil}
use Rattle.std.proofs.lemmas.Bool.{or_cases}
use Rattle.ccsl_base.specs.declared.reserved.Reserved.{Reserved}
use Rattle.ccsl_base.specs.declared.reserved.Reserved.TheVariants as w
use Rattle.ccsl_ast.specs.declared.term.Test.TheVariants.{Head}
use Rattle.ccsl_ast.specs.declared.term.WordTerm.TheVariants as wterm
use Rattle.ccsl_ast.specs.declared.term.Argument.TheVariants as arg
use Rattle.ccsl_ast.specs.Trees.{Expression, EName, ECall, ENever, EBinary, EDelayed, EIf}
use Rattle.ccsl_grammar.specs.Terminals.{Terminal, word, name, number}
use Rattle.ccsl_grammar.specs.Kinds.{is_word, is_symbol, is_name}
use Rattle.ccsl_grammar.specs.Reader.{Fault, no_syntax, too_deep, stopped, Reader, ◌>>=◌, ◌>>◌, given, begins}
use Rattle.ccsl_grammar.specs.Deep.{expr_deep, operand_deep}
use Rattle.ccsl_grammar.specs.Places.{BeginsDeep, Stops, Is}
use Rattle.ccsl_grammar.specs.Grammar.{opening, closing, arg_spelled, binop_spelled, term_spelled, wterm_spelled, test_spelled, Expr, alone, binary, delay}
use Rattle.ccsl_grammar.specs.Grammar.{await, filter, delayed, choice, Operand, named, called, never, parens, expr_spelled, operand_spelled, expr_tree}
use Rattle.ccsl_grammar.specs.Grammar.{operand_tree}
use Rattle.ccsl_grammar.specs.Parser.{word_at, arg_at, term_at, wterm_at, named_at, parens_at, operand_at, is_binop, binary_at, second_at, delayed_at, delay_at}
use Rattle.ccsl_grammar.specs.Parser.{await_at, filter_at, rest_at, branches_at, choice_at, expr_with, is_expr, no_room, expr_at}
use Rattle.ccsl_grammar.proofs.Good.{Good, give, either}
use Rattle.ccsl_grammar.proofs.Parts.{Reads, Self, within, inside, begun, built, part_then}
use Rattle.ccsl_grammar.proofs.Steps.{word_then, symbol_then, name_then, word_is, symbol_is}
use Rattle.ccsl_grammar.proofs.Leaves.{some_spot, some_term, closed_spelled, list_reads, arg_reads, num_then, Binop, binop_reads, term_reads, wterm_reads}
use Rattle.ccsl_grammar.proofs.Leaves.{test_reads}

-- ---- no level left

stop : {A : Type 0} (S : Fault → List Terminal → List Terminal → Type 0) (Q : A → List Terminal → Type 0) (k : Fault) (ts : List Terminal) → S k [] ts
    → Good S Q (stopped k) ts
stop S Q k ts h = record { is = record { front = []; whole = refl; holds = h; again = λ t us more e. refl } }

-- a derivation of an expression that begins with t
record First (two : Bool) (t : Terminal) : Type 0 where
  whole : Expr two
  more : List Terminal
  is : expr_spelled whole ≡ t ∷ more

first_name : {two : Bool} (t : Terminal) → is_name t ≡ true → First two t
first_name (name x) h = record { whole = alone (named x); more = []; is = refl }
first_name _ h = absurd cc

first_never : {two : Bool} (t : Terminal) → is_word w.Never t ≡ true → First two t
first_never t h = record { whole = alone never; more = []; is = rw (word_is w.Never t h) refl }

first_opening : {two : Bool} (t : Terminal) → is_symbol 40 t ≡ true → First two t
first_opening t h = record { whole = alone (parens (alone never)); more = word w.Never ∷ closing ∷ []; is = rw (symbol_is 40 t h) refl }

-- any if, behind its word
abbrev some_choice : List Terminal
some_choice = word w.Head ∷ name some_spot ∷ word w.Use ∷ word w.Never ∷ word w.Else ∷ word w.Never ∷ []

first_if : {two : Bool} (t : Terminal) → is_word w.If t ≡ true → First two t
first_if t h = record { whole = choice (Head some_spot) (alone never) (alone never); more = some_choice; is = rw (word_is w.If t h) refl }

first : {two : Bool} (t : Terminal) → is_expr t ≡ true → First two t
first t h = elim (or_cases (is_name t || is_word w.Never t || is_symbol 40 t) (is_word w.If t) h) [
  | inl i ↦ elim (or_cases (is_name t || is_word w.Never t) (is_symbol 40 t) i) [
    | inl j ↦ elim (or_cases (is_name t) (is_word w.Never t) j) [ inl k ↦ first_name t k | inr k ↦ first_never t k ]
    | inr j ↦ first_opening t j
  ]
  | inr i ↦ first_if t i
]

deep_first : {two : Bool} (ts : List Terminal) → begins is_expr ts ≡ true → BeginsDeep (expr_spelled {two = two}) (expr_deep zero) [] ts
deep_first [] h = absurd cc
deep_first (t ∷ us) h =
    let f = first t h in
    record { whole = f.whole; first = t; behind = us; more = f.more; rest_is = refl; is = f.is; deep_is = λ after. rw f.is refl }

no_room_reads : {two : Bool} → Reads (expr_spelled {two = two}) (expr_deep zero) expr_tree no_room
unfolding no_room
no_room_reads = record {
  at = λ ts. either _ _ is_expr _ _ ts
      (λ b. stop _ _ too_deep ts (deep_first ts b))
      (λ b. stop _ _ no_syntax ts (begun (alone never) (word w.Never ∷ []) refl));
}

module _ (two : Bool) (room : ℕ) (inner : Reader Expression) (reads : Reads (expr_spelled {two = two}) (expr_deep room) expr_tree inner) where
  operand_reads : Reads (operand_spelled {two = two}) (operand_deep room) operand_tree (operand_at inner)
  unfolding operand_at named_at parens_at
  operand_reads = record {
    at = λ ts. either _ _ is_name _ _ ts
        (λ b. name_then _ _ _ ts (λ z. begun never (word w.Never ∷ []) refl)
        (λ x z. either _ _ (is_symbol 40) _ _ z
        (λ b. symbol_then _ _ 40 _ z (λ z. begun (named x) [] refl)
        (λ z. part_then (list_reads arg_spelled arg_at (arg.Tail some_spot) arg_reads) _ _ _ z
        (inside (closed_spelled arg_spelled) (operand_spelled {two = two}) (operand_deep room) (λ args. called x args) (λ q. name x ∷ opening ∷ q) []
        (λ x y. refl) (λ args. rw (append-nil (closed_spelled arg_spelled args)) refl))
        (λ args d y. give _ _ (ECall x args) y (built (called x args) (rw (append-nil (closed_spelled arg_spelled args)) refl) (λ after. refl)))))
        (λ b. give _ _ (EName x) z (built (named x) refl (λ after. refl)))))
        (λ b. either _ _ (is_word w.Never) _ _ ts
        (λ b. word_then _ _ w.Never _ ts (λ z. begun never (word w.Never ∷ []) refl) (λ z. give _ _ ENever z (built never refl (λ after. refl))))
        (λ b. symbol_then _ _ 40 _ ts (λ z. begun never (word w.Never ∷ []) refl)
        (λ z. part_then reads _ _ _ z
        (within (expr_spelled {two = two}) (expr_deep room) (operand_spelled {two = two}) (operand_deep room) (λ e. parens e) (λ q. opening ∷ q) (closing ∷ [])
        (λ x y. refl) (λ e. refl) (λ e z after h. h))
        (λ e d y. symbol_then _ _ 41 _ y (λ z. begun (parens e) (closing ∷ []) (rw (append-nil (expr_spelled e)) refl))
        (λ z. give _ _ (expr_tree e) z (built (parens e) refl (λ after. d (closing ∷ after))))))));
  }

  -- ---- behind the first operand, o

  module _ (o : Operand two) (shallow_is : (after : List Terminal) → operand_deep room o after ≡ None) where
    abbrev Here : Fault → List Terminal → List Terminal → Type 0
    Here k q z = Stops (expr_spelled {two = two}) (expr_deep (suc room)) k (operand_spelled o ++ q) z

    abbrev Found : Expression → List Terminal → Type 0
    Found v q = Is (expr_spelled {two = two}) (expr_deep (suc room)) expr_tree v (operand_spelled o ++ q)

    -- o alone may stand here
    here : (z : List Terminal) → Here no_syntax [] z
    here z = begun (alone o) [] (rw (append-nil (operand_spelled o), append-nil (operand_spelled o)) refl)

    binary_reads : (ts : List Terminal) → Good Here Found (binary_at inner two (operand_tree o)) ts
    unfolding binary_at second_at
    binary_reads ts = part_then (binop_reads two) _ _ _ ts
        (inside (λ (p : Binop two). binop_spelled p.0) (expr_spelled {two = two}) (expr_deep (suc room)) (λ p. binary p.0 p.1 o never)
        (λ q. operand_spelled o ++ q) (word w.Never ∷ []) (λ x y. sym (append_assoc (operand_spelled o) x y)) (λ p. refl))
        (λ p d y. part_then operand_reads _ _ _ y
        (within (operand_spelled {two = two}) (operand_deep room) (expr_spelled {two = two}) (expr_deep (suc room)) (λ c. binary p.0 p.1 o c)
        (λ r. operand_spelled o ++ (binop_spelled p.0 ++ r)) []
        (λ x y. rw (← append_assoc (binop_spelled p.0) x y) (sym (append_assoc (operand_spelled o) (binop_spelled p.0 ++ x) y)))
        (λ c. rw (append-nil (operand_spelled c)) refl)
        (λ c z after h. rw (shallow_is (binop_spelled p.0 ++ (operand_spelled c ++ after))) h))
        (λ c d z. give _ _ (EBinary p.0 (operand_tree o) (operand_tree c)) z (built (binary p.0 p.1 o c) (rw (append-nil (operand_spelled c)) refl)
        (λ after. rw (shallow_is (binop_spelled p.0 ++ (operand_spelled c ++ after))) (d after)))))

    delayed_reads : (ts : List Terminal) → Good Here Found (word_at w.Delayed >> delayed_at inner (operand_tree o)) ts
    unfolding delayed_at
    delayed_reads ts = word_then _ _ w.Delayed _ ts here
        (λ z. num_then _ _ _ z (λ z. begun (delayed o 0 0 never) (number 0 0 ∷ word w.On ∷ word w.Never ∷ [])
        (sym (append_assoc (operand_spelled o) (word w.Delayed ∷ []) (number 0 0 ∷ word w.On ∷ word w.Never ∷ []))))
        (λ n z. word_then _ _ w.On _ z
        (λ z. begun (delayed o n.0 n.1 never) (word w.On ∷ word w.Never ∷ [])
        (sym (append_assoc (operand_spelled o) (word w.Delayed ∷ number n.0 n.1 ∷ []) (word w.On ∷ word w.Never ∷ []))))
        (λ z. part_then operand_reads _ _ _ z
        (within (operand_spelled {two = two}) (operand_deep room) (expr_spelled {two = two}) (expr_deep (suc room)) (λ c. delayed o n.0 n.1 c)
        (λ r. operand_spelled o ++ word w.Delayed ∷ number n.0 n.1 ∷ word w.On ∷ r) []
        (λ x y. sym (append_assoc (operand_spelled o) (word w.Delayed ∷ number n.0 n.1 ∷ word w.On ∷ x) y))
        (λ c. rw (append-nil (operand_spelled c)) refl)
        (λ c z after h. rw (shallow_is (word w.Delayed ∷ number n.0 n.1 ∷ word w.On ∷ (operand_spelled c ++ after))) h))
        (λ c d z. give _ _ (EDelayed (operand_tree o) n.0 n.1 (operand_tree c)) z (built (delayed o n.0 n.1 c) (rw (append-nil (operand_spelled c)) refl)
        (λ after. rw (shallow_is (word w.Delayed ∷ number n.0 n.1 ∷ word w.On ∷ (operand_spelled c ++ after))) (d after)))))))

    -- a word, and a part in which no expression stands
    worded : {C : Type 0} (v : Reserved) (spelled : C → List Terminal) (f : Reader C) → Self spelled f → (some : C) (whole : C → Expr two)
        → ((c : C) → expr_spelled (whole c) ≡ operand_spelled o ++ word v ∷ spelled c)
        → ((c : C) (after : List Terminal) → expr_deep (suc room) (whole c) after ≡ None)
        → (ts : List Terminal) → Good Here Found (word_at v >> f >>= λ c. given (expr_tree (whole c))) ts
    worded v spelled f self some whole is deep_is ts = word_then _ _ v _ ts here
        (λ z. part_then self _ _ _ z
        (inside spelled (expr_spelled {two = two}) (expr_deep (suc room)) whole (λ q. operand_spelled o ++ word v ∷ q) []
        (λ x y. sym (append_assoc (operand_spelled o) (word v ∷ x) y)) (λ c. rw (append-nil (spelled c)) (is c)))
        (λ c d y. give _ _ (expr_tree (whole c)) y (built (whole c) (rw (append-nil (spelled c)) (is c)) (deep_is c))))

    rest_reads : (ts : List Terminal) → Good Here Found (rest_at inner two (operand_tree o)) ts
    unfolding rest_at delay_at await_at filter_at
    rest_reads ts = either _ _ is_binop _ _ ts (λ b. binary_reads ts)
        (λ b. either _ _ (is_word w.Delay) _ _ ts
        (λ b. worded w.Delay term_spelled term_at term_reads some_term (λ m. delay o m) (λ m. refl)
        (λ m after. shallow_is (word w.Delay ∷ (term_spelled m ++ after))) ts)
        (λ b. either _ _ (is_word w.Await) _ _ ts
        (λ b. worded w.Await term_spelled term_at term_reads some_term (λ m. await o m) (λ m. refl)
        (λ m after. shallow_is (word w.Await ∷ (term_spelled m ++ after))) ts)
        (λ b. either _ _ (is_word w.Filter) _ _ ts
        (λ b. worded w.Filter wterm_spelled wterm_at wterm_reads (wterm.Name some_spot) (λ m. filter o m) (λ m. refl)
        (λ m after. shallow_is (word w.Filter ∷ (wterm_spelled m ++ after))) ts)
        (λ b. either _ _ (is_word w.Delayed) _ _ ts (λ b. delayed_reads ts)
        (λ b. give _ _ (operand_tree o) ts (built (alone o) (sym (append-nil (operand_spelled o))) shallow_is))))))

  -- ---- an if

  choice_reads : (ts : List Terminal)
      → Good (Stops (expr_spelled {two = two}) (expr_deep (suc room))) (Is (expr_spelled {two = two}) (expr_deep (suc room)) expr_tree)
      (word_at w.If >> choice_at inner) ts
  unfolding choice_at branches_at
  choice_reads ts = word_then _ _ w.If _ ts (λ z. begun (alone never) (word w.Never ∷ []) refl)
      (λ z. part_then test_reads _ _ _ z
      (inside test_spelled (expr_spelled {two = two}) (expr_deep (suc room)) (λ q. choice q (alone never) (alone never)) (λ q. word w.If ∷ q)
      (word w.Use ∷ word w.Never ∷ word w.Else ∷ word w.Never ∷ []) (λ x y. refl) (λ q. refl))
      (λ q d z. word_then _ _ w.Use _ z
      (λ z. begun (choice q (alone never) (alone never)) (word w.Use ∷ word w.Never ∷ word w.Else ∷ word w.Never ∷ [])
      (rw (append-nil (test_spelled q)) refl))
      (λ z. part_then reads _ _ _ z
      (within (expr_spelled {two = two}) (expr_deep room) (expr_spelled {two = two}) (expr_deep (suc room)) (λ e. choice q e (alone never))
      (λ r. word w.If ∷ (test_spelled q ++ word w.Use ∷ r)) (word w.Else ∷ word w.Never ∷ [])
      (λ x y. ap (λ r. word w.If ∷ r) (sym (append_assoc (test_spelled q) (word w.Use ∷ x) y))) (λ e. refl) (λ e z after h. rw h refl))
      (λ a i y. word_then _ _ w.Else _ y (λ z. begun (choice q a (alone never)) (word w.Else ∷ word w.Never ∷ [])
      (rw (append-nil (expr_spelled a), append_assoc (test_spelled q) (word w.Use ∷ expr_spelled a) (word w.Else ∷ word w.Never ∷ [])) refl))
      (λ z. part_then reads _ _ _ z
      (within (expr_spelled {two = two}) (expr_deep room) (expr_spelled {two = two}) (expr_deep (suc room)) (λ e. choice q a e)
      (λ r. word w.If ∷ (test_spelled q ++ word w.Use ∷ (expr_spelled a ++ word w.Else ∷ r))) []
      (λ x y. ap (λ r. word w.If ∷ r)
      (rw (← append_assoc (expr_spelled a) (word w.Else ∷ x) y) (sym (append_assoc (test_spelled q) (word w.Use ∷ (expr_spelled a ++ word w.Else ∷ x)) y))))
      (λ e. rw (append-nil (expr_spelled e)) refl)
      (λ e z after h. rw (i (word w.Else ∷ (expr_spelled e ++ after))) h))
      (λ e j x. give _ _ (EIf q (expr_tree a) (expr_tree e)) x (built (choice q a e) (rw (append-nil (expr_spelled e)) refl)
      (λ after. rw (i (word w.Else ∷ (expr_spelled e ++ after))) (j after)))))))))

  with_reads : Reads (expr_spelled {two = two}) (expr_deep (suc room)) expr_tree (expr_with inner two)
  unfolding expr_with
  with_reads = record {
    at = λ ts. either _ _ (is_word w.If) _ _ ts
        (λ b. choice_reads ts)
        (λ b. part_then operand_reads _ _ _ ts
        (within (operand_spelled {two = two}) (operand_deep room) (expr_spelled {two = two}) (expr_deep (suc room)) (λ o. alone o) (λ q. q) [] (λ x y. refl)
        (λ o. sym (append-nil (operand_spelled o))) (λ o z after h. h))
        (λ o d y. rest_reads o d y));
  }

pub expr_reads : (two : Bool) (room : ℕ) → Reads (expr_spelled {two = two}) (expr_deep room) expr_tree (expr_at two room)
unfolding expr_at
expr_reads two zero = no_room_reads
expr_reads two (suc room) = with_reads two room (expr_at two room) (expr_reads two room)
