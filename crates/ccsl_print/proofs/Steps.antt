-- Writing in steps.
use Rattle.std.proofs.Common.{◌≡◌, ℕ, true, false, List, [], ◌∷◌, ◌++◌, map, refl, sym, ap}
use Rattle.std.specs.List.{flat_map}
use Rattle.std.proofs.lemmas.List.Folds.{flat_map-map}
use Rattle.ccsl_ast.specs.declared.definition.Definition.{Definition}
use Rattle.ccsl_ast.specs.declared.line.RelationLine.{RelationLine}
use Rattle.ccsl_ast.specs.declared.line.SystemLine.{SystemLine}
use Rattle.ccsl_ast.specs.Trees.{Expression}
use Rattle.ccsl_ast.specs.Plain.{plain_line, plain_sline, plain_definition}
use Rattle.ccsl_ast.specs.Depth.{stands_in_parens}
use Rattle.ccsl_grammar.specs.Terminals.{Terminal, number, quoted}
use Rattle.ccsl_grammar.specs.Grammar.{opening, closing, right_brace}
use Rattle.ccsl_grammar.specs.Canonical.{operand_tokens, rline_tokens, sline_tokens, TextLine, inner, outer, body_lines, definition_lines}
use Rattle.ccsl_print.specs.Pages.{PlainPage, step, after, line_after, lines_after}

pub after_append : (p : PlainPage) (xs ys : List Terminal) → after p (xs ++ ys) ≡ after (after p xs) ys
after_append p [] ys = refl
after_append p (x ∷ xs) ys = after_append (step p x) xs ys

pub lines_append : (p : PlainPage) (xs ys : List TextLine) → lines_after p (xs ++ ys) ≡ lines_after (lines_after p xs) ys
lines_append p [] ys = refl
lines_append p (x ∷ xs) ys = lines_append (line_after p x) xs ys

-- places are not written
pub number_step : (p : PlainPage) (at n : ℕ) → step p (number at n) ≡ step p (number 0 n)
unfolding step
number_step p at n = refl

pub quoted_step : (p : PlainPage) (at : ℕ) (bytes : List ℕ) → step p (quoted at bytes) ≡ step p (quoted 0 bytes)
unfolding step
quoted_step p at bytes = refl

-- an operand is written as an expression, in parentheses or without
pub in_parens : (e : Expression) (ts : List Terminal) → stands_in_parens e ≡ true → operand_tokens e ts ≡ opening ∷ (ts ++ closing ∷ [])
in_parens e ts h = rw h refl

pub without_parens : (e : Expression) (ts : List Terminal) → stands_in_parens e ≡ false → operand_tokens e ts ≡ ts
without_parens e ts h = rw h refl

-- a line for each, and the closing brace
lined : {A B : Type 0} (tokens : B → List Terminal) (plain : A → B) (xs : List A)
    → flat_map (λ x. inner (tokens (plain x)) ∷ []) xs ++ outer (right_brace ∷ []) ∷ [] ≡ body_lines tokens (map plain xs)
lined tokens plain [] = refl
lined tokens plain (x ∷ xs) = ap (λ z. inner (tokens (plain x)) ∷ z) (lined tokens plain xs)

pub rlines_lined : (ls : List RelationLine)
    → flat_map (λ l. inner (rline_tokens (plain_line l)) ∷ []) ls ++ outer (right_brace ∷ []) ∷ [] ≡ body_lines rline_tokens (map plain_line ls)
rlines_lined = lined rline_tokens plain_line

pub slines_lined : (ls : List SystemLine)
    → flat_map (λ l. inner (sline_tokens (plain_sline l)) ∷ []) ls ++ outer (right_brace ∷ []) ∷ [] ≡ body_lines sline_tokens (map plain_sline ls)
slines_lined = lined sline_tokens plain_sline

pub defined : (ds : List Definition) → flat_map (λ d. definition_lines (plain_definition d)) ds ≡ flat_map definition_lines (map plain_definition ds)
defined ds = sym (flat_map-map definition_lines plain_definition ds)
