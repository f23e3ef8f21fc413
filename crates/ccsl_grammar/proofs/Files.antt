-- Files: what the reader takes is a derivation, and where it stops a derivation can be continued.
use Rattle.std.proofs.Common.{◌≡◌, ℕ, Bool, true, false, List, [], ◌∷◌, ◌++◌, map, Option, Some, None, refl, sym, ap, ◌∙◌, append_assoc, eqb, cond}
use Rattle.std.specs.List.{flat_map}
use Rattle.std.proofs.lemmas.List.{append-nil}
use Rattle.std.proofs.lemmas.Bool.{eqb-true}
use Rattle.ccsl_base.specs.declared.reserved.Reserved.TheVariants as w
use Rattle.ccsl_grammar.specs.Terminals.{Terminal, word, number}
use Rattle.ccsl_grammar.specs.Reader.{Fault, no_syntax, ◌>>=◌, many}
use Rattle.ccsl_grammar.specs.Places.{Stops, Is, shallow}
use Rattle.ccsl_grammar.specs.Deep.{all_deep, sline_deep, definition_deep, file_deep}
use Rattle.ccsl_grammar.specs.Grammar.{semicolon, left_brace, right_brace, Sline, sline_spelled, sline_tree, Definition, definition_spelled, definition_tree}
use Rattle.ccsl_grammar.specs.Grammar.{Derivation, system_spelled, version, file_spelled, file_tree}
use Rattle.ccsl_grammar.specs.Parser.{sline_at, no_brace, definition_at, is_definition, version_of, version_at, system_at, ends, file_at}
use Rattle.ccsl_grammar.proofs.Good.{Good, give}
use Rattle.ccsl_grammar.proofs.Parts.{Reads, within, inside, begun, built, part_then}
use Rattle.ccsl_grammar.proofs.Many.{many_reads}
use Rattle.ccsl_grammar.proofs.Steps.{one, word_then, symbol_then}
use Rattle.ccsl_grammar.proofs.Lines.{sline_nonempty, sline_reads}
use Rattle.ccsl_grammar.proofs.Definitions.{definition_nonempty, definition_reads}

-- ---- the version

-- the first statement, with the place of its number and whether that is 2
abbrev version_spelled : ℕ × Bool → List Terminal
version_spelled v = word w.Ccsl ∷ number v.0 (version v.1) ∷ semicolon ∷ []

version_split : (at n : ℕ) (two a b : Bool) → eqb n 1 ≡ a → eqb n 2 ≡ b → cond a (Some false) (cond b (Some true) None) ≡ Some two
    → number at n ≡ number at (version two)
version_split at n two true b i j e = let k : false ≡ two = cc in rw (← k, eqb-true n 1 i) refl
version_split at n two false true i j e = let k : true ≡ two = cc in rw (← k, eqb-true n 2 j) refl
version_split at n two false false i j e = absurd cc

version_is : (u : Terminal) (two : Bool) → version_of u ≡ Some two → (at : ℕ) × (u ≡ number at (version two))
version_is (number at n) two e = (at, version_split at n two (eqb n 1) (eqb n 2) refl refl e)
version_is _ two e = absurd cc

version_reads : Reads version_spelled shallow (λ v. v.1) version_at
unfolding version_at
version_reads = record {
  at = λ ts. word_then _ _ w.Ccsl _ ts (λ z. begun (0, false) (version_spelled (0, false)) refl)
      (λ z. one _ _ version_of _ z (λ z. begun (0, false) (number 0 1 ∷ semicolon ∷ []) refl)
      (λ u two z e. let v = version_is u two e in
      rw v.1 (symbol_then _ _ 59 _ z (λ z. begun (v.0, two) (semicolon ∷ []) refl) (λ z. give _ _ two z (built (v.0, two) refl (λ after. refl))))));
}

module _ (two : Bool) (room : ℕ) where
  -- ---- the system

  abbrev pub system_deep : List (Sline two) → List Terminal → Option (List Terminal)
  system_deep ls after = all_deep (sline_spelled {two = two}) (sline_deep room) ls (right_brace ∷ after)

  lines_read : Reads (flat_map (sline_spelled {two = two})) (all_deep (sline_spelled {two = two}) (sline_deep room)) (map sline_tree)
      (many no_brace (sline_at two room))
  lines_read = many_reads (sline_spelled {two = two}) (sline_deep room) sline_tree no_brace (sline_at two room) sline_nonempty (sline_reads two room)

  system_reads : Reads (system_spelled {two = two}) system_deep (map sline_tree) (system_at two room)
  unfolding system_at
  system_reads = record {
    at = λ ts. word_then _ _ w.System _ ts (λ z. begun [] (system_spelled {two = two} []) refl)
        (λ z. symbol_then _ _ 123 _ z (λ z. begun [] (left_brace ∷ right_brace ∷ []) refl)
        (λ z. part_then lines_read _ _ _ z
        (within (flat_map (sline_spelled {two = two})) (all_deep (sline_spelled {two = two}) (sline_deep room)) (system_spelled {two = two}) system_deep
        (λ ls. ls) (λ q. word w.System ∷ left_brace ∷ q) (right_brace ∷ []) (λ x y. refl) (λ ls. refl) (λ ls z after h. h))
        (λ ls d y. symbol_then _ _ 125 _ y (λ z. begun ls (right_brace ∷ []) (rw (append-nil (flat_map sline_spelled ls)) refl))
        (λ z. give _ _ (map sline_tree ls) z (built ls refl (λ after. d (right_brace ∷ after)))))));
  }

  -- ---- the definitions

  definitions_read : Reads (flat_map (definition_spelled {two = two})) (all_deep (definition_spelled {two = two}) (definition_deep room)) (map definition_tree)
      (many is_definition (definition_at two room))
  definitions_read = many_reads (definition_spelled {two = two}) (definition_deep room) definition_tree is_definition (definition_at two room)
      definition_nonempty (definition_reads two room)

-- ---- the file

ends_good : {A : Type 0} (S : Fault → List Terminal → List Terminal → Type 0) (Q : A → List Terminal → Type 0) (v : A) (ts : List Terminal)
    → ((z : List Terminal) → S no_syntax [] z) → Q v [] → Good S Q (ends v) ts
ends_good S Q v [] s q = record { is = record { front = []; whole = refl; holds = q; again = λ t us more e. absurd cc } }
ends_good S Q v (t ∷ ts) s q = record { is = record { front = []; whole = refl; holds = s (t ∷ ts); again = λ t us more e. refl } }

-- the file with this version
abbrev whole_of : (v : ℕ × Bool) → List (Definition v.1) → List (Sline v.1) → Derivation
whole_of v ds ls = record { at = v.0; two = v.1; definitions = ds; lines = ls }

-- behind the version
body_reads : (room : ℕ) (v : ℕ × Bool) (z : List Terminal)
    → Good (λ k q y. Stops file_spelled (file_deep room) k (version_spelled v ++ q) y)
    (λ w q. Is file_spelled (file_deep room) file_tree w (version_spelled v ++ q))
    (many is_definition (definition_at v.1 room) >>= λ ds. system_at v.1 room >>= λ ls. ends (record { version = version v.1; definitions = ds; lines = ls })) z
body_reads room v z = part_then (definitions_read v.1 room) _ _ _ z
    (within (flat_map (definition_spelled {two = v.1})) (all_deep (definition_spelled {two = v.1}) (definition_deep room)) file_spelled (file_deep room)
    (λ ds. whole_of v ds []) (λ q. version_spelled v ++ q) (system_spelled {two = v.1} []) (λ x y. refl) (λ ds. refl) (λ ds z after h. rw h refl))
    (λ ds i z. part_then (system_reads v.1 room) _ _ _ z
    (within (system_spelled {two = v.1}) (system_deep v.1 room) file_spelled (file_deep room) (λ ls. whole_of v ds ls)
    (λ q. version_spelled v ++ (flat_map definition_spelled ds ++ q)) []
    (λ x y. ap (λ q. version_spelled v ++ q) (sym (append_assoc (flat_map definition_spelled ds) x y)))
    (λ ls. ap (λ q. version_spelled v ++ (flat_map definition_spelled ds ++ q)) (sym (append-nil (system_spelled ls))))
    (λ ls z after h. rw (i (system_spelled ls ++ after)) h))
    (λ ls j z. ends_good _ _ (file_tree (whole_of v ds ls)) z
    (λ z. begun (whole_of v ds ls) [] (sym (append-nil (file_spelled (whole_of v ds ls)))
    ∙ ap (λ q. (version_spelled v ++ (flat_map definition_spelled ds ++ q)) ++ []) (sym (append-nil (system_spelled ls)))))
    (built (whole_of v ds ls) (ap (λ q. version_spelled v ++ (flat_map definition_spelled ds ++ q)) (sym (append-nil (system_spelled ls))))
    (λ after. rw (i (system_spelled ls ++ after)) (j after)))))

pub file_reads : (room : ℕ) → Reads file_spelled (file_deep room) file_tree (file_at room)
unfolding file_at
file_reads room = record {
  at = λ ts. part_then version_reads _ _ _ ts
      (inside version_spelled file_spelled (file_deep room) (λ v. whole_of v [] []) (λ q. q) (system_spelled {two = false} []) (λ x y. refl) (λ v. refl))
      (λ v d z. body_reads room v z);
}
