-- Lines: what the reader takes is a derivation, and where it stops a derivation can be continued.
use Rattle.std.proofs.Common.{ℕ, Bool, ◌<◌, List, [], ◌∷◌, length, refl, sym, append_assoc, arith}
use Rattle.std.specs.List.{flat_map}
use Rattle.std.proofs.lemmas.List.{append-nil}
use Rattle.ccsl_base.specs.declared.reserved.Reserved.TheVariants as w
use Rattle.ccsl_ast.specs.declared.spot.Spot.{Spot}
use Rattle.ccsl_ast.specs.declared.term.Argument.TheVariants as arg
use Rattle.ccsl_ast.specs.Trees.{LDefine, LConstraint, LCall, SClocks, SLineOf}
use Rattle.ccsl_grammar.specs.Terminals.{Terminal, word, name}
use Rattle.ccsl_grammar.specs.Kinds.{is_word, is_symbol}
use Rattle.ccsl_grammar.specs.Deep.{expr_deep, rline_deep, sline_deep}
use Rattle.ccsl_grammar.specs.Places.{Begins, Stops, Is}
use Rattle.ccsl_grammar.specs.Grammar.{opening, closing, semicolon, equals, further_spelled, list_spelled, arg_spelled, relop_spelled, alone, never}
use Rattle.ccsl_grammar.specs.Grammar.{expr_spelled, expr_tree, Rline, define, constrain, call, rline_spelled, rline_tree, Sline, clocks, line, clock_spelled}
use Rattle.ccsl_grammar.specs.Grammar.{sline_spelled, sline_tree}
use Rattle.ccsl_grammar.specs.Reader.{◌>>◌}
use Rattle.ccsl_grammar.specs.Parser.{name_at, arg_at, define_at, call_at, constraint_at, rline_at, clocks_at, sline_at, word_at, symbol_at}
use Rattle.ccsl_grammar.proofs.Good.{Good, give, either}
use Rattle.ccsl_grammar.proofs.Parts.{Reads, within, inside, begun, built, part_then}
use Rattle.ccsl_grammar.proofs.Steps.{word_then, symbol_then, name_then}
use Rattle.ccsl_grammar.proofs.Leaves.{some_spot, closed_spelled, list_reads, further_some, arg_reads, Relop, relop_reads, clock_reads}
use Rattle.ccsl_grammar.proofs.Exprs.{expr_reads}

-- any line
abbrev some_line : {two : Bool} → List Terminal → Begins (rline_spelled {two = two}) []
some_line z = begun (call some_spot []) (name some_spot ∷ opening ∷ closing ∷ semicolon ∷ []) refl

pub rline_nonempty : {two : Bool} (l : Rline two) → 0 < length (rline_spelled l)
rline_nonempty (define x e) = omega arith
rline_nonempty (constrain a r v b) = omega arith
rline_nonempty (call x args) = omega arith

pub sline_nonempty : {two : Bool} (l : Sline two) → 0 < length (sline_spelled l)
sline_nonempty (clocks x xs) = omega arith
sline_nonempty (line l) = rline_nonempty l

module _ (two : Bool) (room : ℕ) where
  define_reads : (ts : List Terminal)
      → Good (Stops (rline_spelled {two = two}) (rline_deep room)) (Is (rline_spelled {two = two}) (rline_deep room) rline_tree)
      (word_at w.Define >> define_at two room) ts
  unfolding define_at
  define_reads ts = word_then _ _ w.Define _ ts some_line
      (λ z. name_then _ _ _ z (λ z. begun (define some_spot (alone never)) (name some_spot ∷ equals ∷ word w.Never ∷ semicolon ∷ []) refl)
      (λ x z. symbol_then _ _ 61 _ z (λ z. begun (define x (alone never)) (equals ∷ word w.Never ∷ semicolon ∷ []) refl)
      (λ z. part_then (expr_reads two room) _ _ _ z
      (within (expr_spelled {two = two}) (expr_deep room) (rline_spelled {two = two}) (rline_deep room) (λ e. define x e)
      (λ q. word w.Define ∷ name x ∷ equals ∷ q) (semicolon ∷ []) (λ x y. refl) (λ e. refl) (λ e z after h. h))
      (λ e d y. symbol_then _ _ 59 _ y (λ z. begun (define x e) (semicolon ∷ []) (rw (append-nil (expr_spelled e)) refl))
      (λ z. give _ _ (LDefine x (expr_tree e)) z (built (define x e) refl (λ after. d (semicolon ∷ after))))))))

  -- behind a line's name
  call_reads : (x : Spot) (ts : List Terminal)
      → Good (λ k q z. Stops (rline_spelled {two = two}) (rline_deep room) k (name x ∷ q) z)
      (λ v q. Is (rline_spelled {two = two}) (rline_deep room) rline_tree v (name x ∷ q)) (symbol_at 40 >> call_at x) ts
  unfolding call_at
  call_reads x ts = symbol_then _ _ 40 _ ts (λ z. begun (call x []) (opening ∷ closing ∷ semicolon ∷ []) refl)
      (λ z. part_then (list_reads arg_spelled arg_at (arg.Tail some_spot) arg_reads) _ _ _ z
      (inside (closed_spelled arg_spelled) (rline_spelled {two = two}) (rline_deep room) (λ args. call x args) (λ q. name x ∷ opening ∷ q) (semicolon ∷ [])
      (λ x y. refl) (λ args. rw (append_assoc (list_spelled arg_spelled args) (closing ∷ []) (semicolon ∷ [])) refl))
      (λ args d y. symbol_then _ _ 59 _ y
      (λ z. begun (call x args) (semicolon ∷ [])
      (rw (append-nil (closed_spelled arg_spelled args), append_assoc (list_spelled arg_spelled args) (closing ∷ []) (semicolon ∷ [])) refl))
      (λ z. give _ _ (LCall x args) z
      (built (call x args) (rw (append_assoc (list_spelled arg_spelled args) (closing ∷ []) (semicolon ∷ [])) refl) (λ after. refl)))))

  constraint_reads : (a : Spot) (ts : List Terminal)
      → Good (λ k q z. Stops (rline_spelled {two = two}) (rline_deep room) k (name a ∷ q) z)
      (λ v q. Is (rline_spelled {two = two}) (rline_deep room) rline_tree v (name a ∷ q)) (constraint_at two a) ts
  unfolding constraint_at
  constraint_reads a ts = part_then (relop_reads two) _ _ _ ts
      (inside (λ (r : Relop two). relop_spelled r.0) (rline_spelled {two = two}) (rline_deep room) (λ r. constrain a r.0 r.1 some_spot) (λ q. name a ∷ q)
      (name some_spot ∷ semicolon ∷ []) (λ x y. refl) (λ r. refl))
      (λ r d y. name_then _ _ _ y (λ z. begun (constrain a r.0 r.1 some_spot) (name some_spot ∷ semicolon ∷ []) (rw (append-nil (relop_spelled r.0)) refl))
      (λ b z. symbol_then _ _ 59 _ z
      (λ z. begun (constrain a r.0 r.1 b) (semicolon ∷ []) (rw (append_assoc (relop_spelled r.0) (name b ∷ []) (semicolon ∷ [])) refl))
      (λ z. give _ _ (LConstraint a r.0 b) z (built (constrain a r.0 r.1 b) refl (λ after. refl)))))

  pub rline_reads : Reads (rline_spelled {two = two}) (rline_deep room) rline_tree (rline_at two room)
  unfolding rline_at
  rline_reads = record {
    at = λ ts. either _ _ (is_word w.Define) _ _ ts
        (λ b. define_reads ts)
        (λ b. name_then _ _ _ ts some_line (λ x z. either _ _ (is_symbol 40) _ _ z (λ b. call_reads x z) (λ b. constraint_reads x z)));
  }

  clocks_reads : (ts : List Terminal)
      → Good (Stops (sline_spelled {two = two}) (sline_deep room)) (Is (sline_spelled {two = two}) (sline_deep room) sline_tree) (word_at w.Clock >> clocks_at)
      ts
  unfolding clocks_at
  clocks_reads ts = word_then _ _ w.Clock _ ts (λ z. begun (clocks some_spot []) (word w.Clock ∷ name some_spot ∷ semicolon ∷ []) refl)
      (λ z. name_then _ _ _ z (λ z. begun (clocks some_spot []) (name some_spot ∷ semicolon ∷ []) refl)
      (λ x z. part_then (further_some clock_spelled name_at some_spot clock_reads) _ _ _ z
      (inside (flat_map (further_spelled clock_spelled)) (sline_spelled {two = two}) (sline_deep room) (λ xs. clocks x xs) (λ q. word w.Clock ∷ name x ∷ q)
      (semicolon ∷ []) (λ x y. refl) (λ xs. refl))
      (λ xs d y. symbol_then _ _ 59 _ y (λ z. begun (clocks x xs) (semicolon ∷ []) (rw (append-nil (flat_map (further_spelled clock_spelled) xs)) refl))
      (λ z. give _ _ (SClocks (x ∷ xs)) z (built (clocks x xs) refl (λ after. refl))))))

  pub sline_reads : Reads (sline_spelled {two = two}) (sline_deep room) sline_tree (sline_at two room)
  unfolding sline_at
  sline_reads = record {
    at = λ ts. either _ _ (is_word w.Clock) _ _ ts
        (λ b. clocks_reads ts)
        (λ b. part_then rline_reads _ _ _ ts
        (within (rline_spelled {two = two}) (rline_deep room) (sline_spelled {two = two}) (sline_deep room) (λ l. line l) (λ q. q) [] (λ x y. refl)
        (λ l. sym (append-nil (rline_spelled l))) (λ l z after h. h))
        (λ l d y. give _ _ (SLineOf (rline_tree l)) y (built (line l) (sym (append-nil (rline_spelled l))) d)));
  }
