-- The canonical text reads back.
use Rattle.std.proofs.Common.{◌≡◌, ℕ, true, List, [], ◌∷◌, map, refl, sym, ap, subst, ◌∙◌}
use Rattle.std.specs.Str.{IsAscii, IsUtf8}
use Rattle.std.proofs.lemmas.Str.{IsUtf8-from_ascii}
use Rattle.ccsl_base.specs.declared.limits.TheConstants.{MAX_LEVELS}
use Rattle.ccsl_lex.specs.declared.token.Token.{Token}
use Rattle.ccsl_lex.specs.Tokens.{plain_token, tokens_of}
use Rattle.ccsl_lex.proofs.Unique.{one_tokens}
use Rattle.ccsl_ast.specs.Trees.{PlainFile}
use Rattle.ccsl_ast.specs.Kept.{file_kept}
use Rattle.ccsl_grammar.specs.Terminals.{Terminal, terminals}
use Rattle.ccsl_grammar.specs.Canonical.{file_lines, canonical_terminals}
use Rattle.ccsl_grammar.specs.Bare.{bares}
use Rattle.ccsl_grammar.specs.File.{Parses}
use Rattle.ccsl_grammar.proofs.Spelled.{Holds, canonical_all}
use Rattle.ccsl_grammar.proofs.Bare.{canonical_reads_back}
use Rattle.ccsl_print.specs.CanonicalText.{canonical_text}
use Rattle.ccsl_print.specs.ReadsBack.{plain_terminal, CanonicalTextReadsBack, TokensReadBack}
use Rattle.ccsl_print.proofs.Pieces.{is_kept, mark_read}
use Rattle.ccsl_print.proofs.Cut.{lines_pieces, lines_bytes, tokens_in, Fine, lines_fine}

-- ---- the law

holds : Holds is_kept
holds = record { words = λ v. refl; marks = mark_read; names = λ x k. k; numbers = λ at n k. k; texts = λ at bytes k. k }

file_fine : (f : PlainFile) → file_kept f ≡ true → Fine (lines_pieces (file_lines f)) (tokens_in (file_lines f))
file_fine f k = lines_fine (file_lines f) (canonical_all is_kept holds f k)

pub text_is_utf8 : (f : PlainFile) → file_kept f ≡ true → IsUtf8 (canonical_text f)
text_is_utf8 f k = IsUtf8-from_ascii (canonical_text f) (subst (λ (z : List ℕ). IsAscii z) (sym (lines_bytes (file_lines f))) (file_fine f k).ascii)

pub canonical_text_reads_back : CanonicalTextReadsBack
canonical_text_reads_back f k deep =
    let fine = file_fine f k in
    let ps = lines_pieces (file_lines f) in
    let canonical : bares (map plain_terminal (tokens_of 0 ps)) ≡ bares (canonical_terminals f) = fine.read 0 in
    let r = canonical_reads_back MAX_LEVELS f k deep (map plain_terminal (tokens_of 0 ps)) canonical in
    record {
      tokens = tokens_of 0 ps;
      are = record { pieces = ps; whole = lines_bytes (file_lines f); cut = fine.cut; fit = fine.fit; are = refl };
      canonical = canonical;
      tree = r.0;
      parses = r.1;
      same = r.2;
    }

seen_plain : (ts : List Token) → map plain_terminal (map plain_token ts) ≡ terminals ts
seen_plain [] = refl
seen_plain (t ∷ ts) = ap (λ z. plain_terminal (plain_token t) ∷ z) (seen_plain ts)

pub tokens_read_back : TokensReadBack
tokens_read_back text f r ts a =
    let e : map plain_terminal r.tokens ≡ terminals ts = ap (map plain_terminal) (one_tokens text r.tokens (map plain_token ts) r.are a) ∙ seen_plain ts in
    (r.tree, subst (λ (z : List Terminal). Parses MAX_LEVELS z r.tree) e r.parses, r.same)
