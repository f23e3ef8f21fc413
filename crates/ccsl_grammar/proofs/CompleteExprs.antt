-- The reader of expressions on what is spelled from them: it takes them, or stops at the first that stands too deep.
use Rattle.std.proofs.Common.{◌≡◌, ℕ, zero, suc, true, false, List, [], ◌∷◌, ◌++◌, Option, refl, ◌∙◌, append_assoc, Bool}
use Rattle.ccsl_base.specs.declared.reserved.Reserved.TheVariants as w
use Rattle.ccsl_ast.specs.declared.spot.Spot.{Spot}
use Rattle.ccsl_ast.specs.declared.term.Term.{Term}
use Rattle.ccsl_ast.specs.declared.term.WordTerm.{WordTerm}
use Rattle.ccsl_ast.specs.declared.term.Test.{Test}
use Rattle.ccsl_ast.specs.declared.term.Argument.{Argument}
use Rattle.ccsl_ast.specs.declared.tree.BinaryOp.{BinaryOp}
use Rattle.ccsl_ast.specs.declared.tree.BinaryOp.TheVariants as op
use Rattle.ccsl_ast.specs.Trees.{Expression, EName, ECall, ENever, EBinary, EDelay, EAwait, EFilter, EDelayed, EIf, binop_in}
use Rattle.ccsl_grammar.specs.Terminals.{Terminal, word, name, number}
use Rattle.ccsl_grammar.specs.Kinds.{is_word, is_symbol}
use Rattle.ccsl_grammar.specs.Reader.{too_deep, took, stopped, Reader, followed, ◌>>=◌, ◌>>◌, given, begins}
use Rattle.ccsl_grammar.specs.Deep.{expr_deep, operand_deep}
use Rattle.std.specs.Option.{option_or}
use Rattle.ccsl_grammar.specs.Grammar.{opening, closing, semicolon, arg_spelled, binop_spelled, term_spelled, wterm_spelled, test_spelled, Expr, alone, binary}
use Rattle.ccsl_grammar.specs.Grammar.{delay, await, filter, delayed, choice, Operand, named, called, never, parens, expr_spelled, operand_spelled, expr_tree}
use Rattle.ccsl_grammar.specs.Grammar.{operand_tree}
use Rattle.ccsl_grammar.specs.Parser.{word_at, symbol_at, name_at, num_at, is_sign, sampled_at, goes_on_by, upto_at, binop_at, is_binop, named_at, parens_at}
use Rattle.ccsl_grammar.specs.Parser.{operand_at, binary_at, second_at, delayed_at, delay_at, await_at, filter_at, rest_at, branches_at, choice_at, expr_with}
use Rattle.ccsl_grammar.specs.Parser.{is_expr, no_room, expr_at}
use Rattle.ccsl_grammar.proofs.Leaves.{closed_spelled}
use Rattle.ccsl_grammar.proofs.Outcome.{outcome, outcome_then, outcome_last}
use Rattle.ccsl_grammar.proofs.CompleteLeaves.{term_complete, wterm_complete, test_complete, args_complete}

-- ---- what may stand behind an expression: nothing that goes on with it

pub record EndsExpr (rest : List Terminal) : Type 0 where
  pub call : begins (is_symbol 40) rest ≡ false
  pub operator : begins is_binop rest ≡ false
  pub delay : begins (is_word w.Delay) rest ≡ false
  pub await : begins (is_word w.Await) rest ≡ false
  pub filter : begins (is_word w.Filter) rest ≡ false
  pub delayed : begins (is_word w.Delayed) rest ≡ false
  pub sign : begins is_sign rest ≡ false

pub ends_closing : (z : List Terminal) → EndsExpr (closing ∷ z)
ends_closing z = record { call = refl; operator = refl; delay = refl; await = refl; filter = refl; delayed = refl; sign = refl }

pub ends_else : (z : List Terminal) → EndsExpr (word w.Else ∷ z)
ends_else z = record { call = refl; operator = refl; delay = refl; await = refl; filter = refl; delayed = refl; sign = refl }

pub ends_and : (z : List Terminal) → EndsExpr (word w.And ∷ z)
ends_and z = record { call = refl; operator = refl; delay = refl; await = refl; filter = refl; delayed = refl; sign = refl }

pub ends_semicolon : (z : List Terminal) → EndsExpr (semicolon ∷ z)
ends_semicolon z = record { call = refl; operator = refl; delay = refl; await = refl; filter = refl; delayed = refl; sign = refl }

-- ---- what an expression begins with

binop_first : (o : BinaryOp) (z : List Terminal) → begins (is_symbol 40) (binop_spelled o ++ z) ≡ false
binop_first op.Union z = refl
binop_first _ z = refl

operand_first : {two : Bool} (o : Operand two) (z : List Terminal)
    → (begins (is_word w.If) (operand_spelled o ++ z) ≡ false) × (begins is_expr (operand_spelled o ++ z) ≡ true)
    × (begins (goes_on_by two w.Weakly) (operand_spelled o ++ z) ≡ false)
operand_first (named x) z = (refl, refl, refl)
operand_first (called x args) z = (refl, refl, refl)
operand_first never z = (refl, refl, refl)
operand_first (parens e) z = (refl, refl, refl)

expr_first : {two : Bool} (e : Expr two) (z : List Terminal) → begins is_expr (expr_spelled e ++ z) ≡ true
expr_first (alone o) z = (operand_first o z).1
expr_first (binary op v a d) z =
    rw (append_assoc (operand_spelled a) (binop_spelled op ++ operand_spelled d) z) (operand_first a ((binop_spelled op ++ operand_spelled d) ++ z)).1
expr_first (delay a m) z = rw (append_assoc (operand_spelled a) (word w.Delay ∷ term_spelled m) z) (operand_first a (word w.Delay ∷ (term_spelled m ++ z))).1
expr_first (await a m) z = rw (append_assoc (operand_spelled a) (word w.Await ∷ term_spelled m) z) (operand_first a (word w.Await ∷ (term_spelled m ++ z))).1
expr_first (filter a m) z =
    rw (append_assoc (operand_spelled a) (word w.Filter ∷ wterm_spelled m) z) (operand_first a (word w.Filter ∷ (wterm_spelled m ++ z))).1
expr_first (delayed a at n d) z =
    rw (append_assoc (operand_spelled a) (word w.Delayed ∷ number at n ∷ word w.On ∷ operand_spelled d) z)
    (operand_first a (word w.Delayed ∷ number at n ∷ word w.On ∷ (operand_spelled d ++ z))).1
expr_first (choice q a d) z = refl

no_room_complete : {two : Bool} (e : Expr two) (rest : List Terminal) → no_room (expr_spelled e ++ rest) ≡ stopped too_deep (expr_spelled e ++ rest)
unfolding no_room
no_room_complete e rest = rw (expr_first e rest) refl

-- ---- what the reader does on each first terminal

module _ (two : Bool) (inner : Reader Expression) where
  rest_binary : (a : Expression) (o : BinaryOp) → binop_in two o ≡ true → (z : List Terminal) → begins (goes_on_by two w.Weakly) z ≡ false
      → rest_at inner two a (binop_spelled o ++ z) ≡ followed (operand_at inner z) (λ d. given (EBinary o a d))
  unfolding rest_at binary_at second_at binop_at sampled_at upto_at word_at
  rest_binary a op.Upto h z b = rw b refl
  rest_binary a op.UptoWeakly h z b = rw h refl
  rest_binary a op.Union h z b = refl
  rest_binary a _ h z b = refl

  rest_delay : (a : Expression) (m : Term) (rest : List Terminal) → begins is_sign rest ≡ false
      → rest_at inner two a (word w.Delay ∷ (term_spelled m ++ rest)) ≡ took (EDelay a m) rest
  unfolding rest_at delay_at word_at
  rest_delay a m rest h = rw (term_complete m rest h) refl

  rest_await : (a : Expression) (m : Term) (rest : List Terminal) → begins is_sign rest ≡ false
      → rest_at inner two a (word w.Await ∷ (term_spelled m ++ rest)) ≡ took (EAwait a m) rest
  unfolding rest_at await_at word_at
  rest_await a m rest h = rw (term_complete m rest h) refl

  rest_filter : (a : Expression) (m : WordTerm) (rest : List Terminal)
      → rest_at inner two a (word w.Filter ∷ (wterm_spelled m ++ rest)) ≡ took (EFilter a m) rest
  unfolding rest_at filter_at word_at
  rest_filter a m rest = rw (wterm_complete m rest) refl

  rest_delayed : (a : Expression) (at n : ℕ) (z : List Terminal)
      → rest_at inner two a (word w.Delayed ∷ number at n ∷ word w.On ∷ z) ≡ followed (operand_at inner z) (λ d. given (EDelayed a at n d))
  unfolding rest_at delayed_at word_at num_at
  rest_delayed a at n z = refl

  rest_nothing : (a : Expression) (rest : List Terminal) → EndsExpr rest → rest_at inner two a rest ≡ took a rest
  unfolding rest_at
  rest_nothing a rest h = rw (h.operator, h.delay, h.await, h.filter, h.delayed) refl

  named_complete : (x : Spot) (rest : List Terminal) → begins (is_symbol 40) rest ≡ false → operand_at inner (name x ∷ rest) ≡ took (EName x) rest
  unfolding operand_at name_at named_at
  named_complete x rest h = rw h refl

  called_complete : (x : Spot) (args : List Argument) (rest : List Terminal)
      → operand_at inner (name x ∷ opening ∷ (closed_spelled arg_spelled args ++ rest)) ≡ took (ECall x args) rest
  unfolding operand_at name_at named_at symbol_at
  called_complete x args rest = rw (args_complete args rest) refl

  never_complete : (rest : List Terminal) → operand_at inner (word w.Never ∷ rest) ≡ took ENever rest
  unfolding operand_at word_at
  never_complete rest = refl

  parens_open : (z : List Terminal) → operand_at inner (opening ∷ z) ≡ followed (inner z) (λ e. symbol_at 41 >> given e)
  unfolding operand_at parens_at symbol_at
  parens_open z = refl

  parens_close : (e : Expression) (rest : List Terminal) → (symbol_at 41 >> given e) (closing ∷ rest) ≡ took e rest
  unfolding symbol_at
  parens_close e rest = refl

  with_operand : (o : Operand two) (z : List Terminal)
      → expr_with inner two (operand_spelled o ++ z) ≡ followed (operand_at inner (operand_spelled o ++ z)) (λ a. rest_at inner two a)
  unfolding expr_with
  with_operand o z = rw (operand_first o z).0 refl

  choice_open : (q : Test) (z : List Terminal)
      → expr_with inner two (word w.If ∷ (test_spelled q ++ word w.Use ∷ z)) ≡ followed (inner z) (λ a. word_at w.Else >> inner >>= λ d. given (EIf q a d))
  unfolding expr_with choice_at branches_at word_at
  choice_open q z = rw (test_complete q (word w.Use ∷ z) refl) refl

  choice_middle : (q : Test) (a : Expression) (z : List Terminal)
      → (word_at w.Else >> inner >>= λ d. given (EIf q a d)) (word w.Else ∷ z) ≡ followed (inner z) (λ d. given (EIf q a d))
  unfolding word_at
  choice_middle q a z = refl

expr_zero : (two : Bool) (ts : List Terminal) → expr_at two zero ts ≡ no_room ts
unfolding expr_at
expr_zero two ts = refl

expr_operand : (two : Bool) (room : ℕ) (o : Operand two) (z : List Terminal)
    → expr_at two (suc room) (operand_spelled o ++ z) ≡ followed (operand_at (expr_at two room) (operand_spelled o ++ z))
    (λ a. rest_at (expr_at two room) two a)
unfolding expr_at
expr_operand two room o z = with_operand two (expr_at two room) o z

expr_choice : (two : Bool) (room : ℕ) (q : Test) (z : List Terminal)
    → expr_at two (suc room) (word w.If ∷ (test_spelled q ++ word w.Use ∷ z)) ≡ followed (expr_at two room z)
    (λ a. word_at w.Else >> expr_at two room >>= λ d. given (EIf q a d))
unfolding expr_at
expr_choice two room q z = choice_open two (expr_at two room) q z

-- ---- the first operand of an expression, and the second

module _ (two : Bool) (room : ℕ) (a : Operand two) (z : List Terminal)
    (first : operand_at (expr_at two room) (operand_spelled a ++ z) ≡ outcome (operand_deep room a z) (operand_tree a) z) where
  operand_then : (o : Option (List Terminal)) (w : Expression) (rest : List Terminal) → rest_at (expr_at two room) two (operand_tree a) z ≡ outcome o w rest
      → expr_at two (suc room) (operand_spelled a ++ z) ≡ outcome (option_or (operand_deep room a z) o) w rest
  operand_then o w rest e =
      expr_operand two room a z ∙ rw first (outcome_then (operand_deep room a z) o (operand_tree a) z (λ v. rest_at (expr_at two room) two v) w rest e)

  operand_last : (w : Expression) (rest : List Terminal) → rest_at (expr_at two room) two (operand_tree a) z ≡ took w rest
      → expr_at two (suc room) (operand_spelled a ++ z) ≡ outcome (operand_deep room a z) w rest
  operand_last w rest e = expr_operand two room a z ∙ rw first
      (outcome_last (operand_deep room a z) (operand_tree a) z (λ v. rest_at (expr_at two room) two v) w rest e)

  operand_second : (make : Expression → Expression)
      → followed (operand_at (expr_at two room) (operand_spelled a ++ z)) (λ t. given (make t)) ≡ outcome (operand_deep room a z) (make (operand_tree a)) z
  operand_second make = rw first (outcome_last (operand_deep room a z) (operand_tree a) z (λ t. given (make t)) (make (operand_tree a)) z refl)

-- ---- expressions and operands together

mutual
  pub expr_complete : (two : Bool) (room : ℕ) (e : Expr two) (rest : List Terminal) → EndsExpr rest
      → expr_at two room (expr_spelled e ++ rest) ≡ outcome (expr_deep room e rest) (expr_tree e) rest
  expr_complete two zero e rest h = expr_zero two (expr_spelled e ++ rest) ∙ no_room_complete e rest
  expr_complete two (suc room) (alone o) rest h =
      operand_last two room o rest (operand_complete two room o rest h.call) (operand_tree o) rest (rest_nothing two (expr_at two room) (operand_tree o) rest h)
  expr_complete two (suc room) (binary op v a d) rest h =
      let z : List Terminal = operand_spelled d ++ rest in
      rw (append_assoc (operand_spelled a) (binop_spelled op ++ operand_spelled d) rest, append_assoc (binop_spelled op) (operand_spelled d) rest)
      (operand_then two room a (binop_spelled op ++ z) (operand_complete two room a (binop_spelled op ++ z) (binop_first op z)) (operand_deep room d rest)
      (EBinary op (operand_tree a) (operand_tree d)) rest
      (rest_binary two (expr_at two room) (operand_tree a) op v z (operand_first d rest).2
      ∙ operand_second two room d rest (operand_complete two room d rest h.call) (λ t. EBinary op (operand_tree a) t)))
  expr_complete two (suc room) (delay a m) rest h =
      let z : List Terminal = word w.Delay ∷ (term_spelled m ++ rest) in
      rw (append_assoc (operand_spelled a) (word w.Delay ∷ term_spelled m) rest)
      (operand_last two room a z (operand_complete two room a z refl) (EDelay (operand_tree a) m) rest
      (rest_delay two (expr_at two room) (operand_tree a) m rest h.sign))
  expr_complete two (suc room) (await a m) rest h =
      let z : List Terminal = word w.Await ∷ (term_spelled m ++ rest) in
      rw (append_assoc (operand_spelled a) (word w.Await ∷ term_spelled m) rest)
      (operand_last two room a z (operand_complete two room a z refl) (EAwait (operand_tree a) m) rest
      (rest_await two (expr_at two room) (operand_tree a) m rest h.sign))
  expr_complete two (suc room) (filter a m) rest h =
      let z : List Terminal = word w.Filter ∷ (wterm_spelled m ++ rest) in
      rw (append_assoc (operand_spelled a) (word w.Filter ∷ wterm_spelled m) rest)
      (operand_last two room a z (operand_complete two room a z refl) (EFilter (operand_tree a) m) rest
      (rest_filter two (expr_at two room) (operand_tree a) m rest))
  expr_complete two (suc room) (delayed a at n d) rest h =
      let z : List Terminal = word w.Delayed ∷ number at n ∷ word w.On ∷ (operand_spelled d ++ rest) in
      rw (append_assoc (operand_spelled a) (word w.Delayed ∷ number at n ∷ word w.On ∷ operand_spelled d) rest)
      (operand_then two room a z (operand_complete two room a z refl) (operand_deep room d rest) (EDelayed (operand_tree a) at n (operand_tree d)) rest
      (rest_delayed two (expr_at two room) (operand_tree a) at n (operand_spelled d ++ rest)
      ∙ operand_second two room d rest (operand_complete two room d rest h.call) (λ t. EDelayed (operand_tree a) at n t)))
  expr_complete two (suc room) (choice q a d) rest h =
      let z : List Terminal = word w.Else ∷ (expr_spelled d ++ rest) in
      rw (
        append_assoc (test_spelled q) (word w.Use ∷ (expr_spelled a ++ word w.Else ∷ expr_spelled d)) rest,
        append_assoc (expr_spelled a) (word w.Else ∷ expr_spelled d) rest,
      )
      (expr_choice two room q (expr_spelled a ++ z)
      ∙ rw (expr_complete two room a z (ends_else (expr_spelled d ++ rest)))
      (outcome_then (expr_deep room a z) (expr_deep room d rest) (expr_tree a) z (λ a. word_at w.Else >> expr_at two room >>= λ d. given (EIf q a d))
      (EIf q (expr_tree a) (expr_tree d)) rest
      (choice_middle two (expr_at two room) q (expr_tree a) (expr_spelled d ++ rest)
      ∙ rw (expr_complete two room d rest h)
      (outcome_last (expr_deep room d rest) (expr_tree d) rest (λ t. given (EIf q (expr_tree a) t)) (EIf q (expr_tree a) (expr_tree d)) rest refl))))

  pub operand_complete : (two : Bool) (room : ℕ) (o : Operand two) (rest : List Terminal) → begins (is_symbol 40) rest ≡ false
      → operand_at (expr_at two room) (operand_spelled o ++ rest) ≡ outcome (operand_deep room o rest) (operand_tree o) rest
  operand_complete two room (named x) rest h = named_complete two (expr_at two room) x rest h
  operand_complete two room (called x args) rest h = called_complete two (expr_at two room) x args rest
  operand_complete two room never rest h = never_complete two (expr_at two room) rest
  operand_complete two room (parens e) rest h =
      rw (append_assoc (expr_spelled e) (closing ∷ []) rest)
      (parens_open two (expr_at two room) (expr_spelled e ++ closing ∷ rest)
      ∙ rw (expr_complete two room e (closing ∷ rest) (ends_closing rest))
      (outcome_last (expr_deep room e (closing ∷ rest)) (expr_tree e) (closing ∷ rest) (λ v. symbol_at 41 >> given v) (expr_tree e) rest
      (parens_close two (expr_at two room) (expr_tree e) rest)))
