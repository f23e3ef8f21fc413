-- Each text is a system or is refused.
use Rattle.std.proofs.Common.{◌≡◌, ◌⊎◌, ℕ, zero, suc, ◌+◌, ◌-◌, ◌<◌, ◌≤◌, List, [], ◌∷◌, ◌++◌, length, map, take, drop, Bool, true, false, ◌&&◌, not, Option}
use Rattle.std.proofs.Common.{Some, None, IsTrue, nat_le, refl, sym, ap, ◌∙◌, subst, inl, inr, ⊎_elim, arith, le-leb}
use Rattle.std.specs.List.{list_all}
use Rattle.std.proofs.lemmas.Bool.{and_parts, and_from, cases_lt}
use Rattle.std.proofs.lemmas.List.{take-map, drop-map, take_at, drop_at, take-append-drop}
use Rattle.ccsl_base.specs.declared.limits.TheConstants.{MAX_SPEC_BYTES, MAX_LEVELS, MAX_NAME_BYTES}
use Rattle.ccsl_base.specs.Name.{is_name, is_word}
use Rattle.ccsl_base.specs.Letters.{is_letter, is_inner}
use Rattle.ccsl_base.specs.declared.reserved.Reserved.{Reserved}
use Rattle.ccsl_base.specs.ReservedWords.{reserved}
use Rattle.ccsl_base.specs.KeptWords.{is_reserved}
use Rattle.ccsl_base.proofs.ReservedWords.{not_reserved}
use Rattle.ccsl_lex.specs.declared.token.Token.{Token}
use Rattle.ccsl_lex.specs.declared.token.TokenKind.{TokenKind}
use Rattle.ccsl_lex.specs.Kept.{kind_kept}
use Rattle.ccsl_lex.specs.Laws.{TokensOrFault}
use Rattle.ccsl_lex.specs.Tokens.{Piece, blank, comment, letters, digits, quoted, mark, text_of, is_piece, fits, AreCut, PlainToken, plain_token, name_or_word}
use Rattle.ccsl_lex.specs.Tokens.{kind_of, token_at, tokens_of, AreTokens, IsFirstFault}
use Rattle.ccsl_ast.specs.Trees.{PlainFile}
use Rattle.ccsl_grammar.specs.Terminals.{Terminal, terminal, terminals}
use Rattle.ccsl_grammar.specs.Reader.{Reply, took, stopped, no_syntax, too_deep}
use Rattle.ccsl_grammar.specs.Parser.{file_at}
use Rattle.ccsl_grammar.specs.File.{FailsAt, DeepAt}
use Rattle.ccsl_grammar.specs.Verdict.{Verdict}
use Rattle.ccsl_grammar.specs.Faults.{place, SyntaxAt, TooDeepAt}
use Rattle.ccsl_grammar.specs.Laws.{ReaderIsRight, FileKeeps, LeastDepth}
use Rattle.ccsl_parse.specs.declared.fault.ParseFault.TheVariants.{Syntax, TooDeep}
use Rattle.ccsl_kernel.specs.Syntax.{System}
use Rattle.ccsl_rules.specs.declared.refusal.Refusal.{Refusal}
use Rattle.ccsl_rules.specs.Elaborated.{refusal}
use Rattle.ccsl_rules.specs.Expansion.{expand}
use Rattle.ccsl_library.specs.Library.{the_library}
use Rattle.ccsl_report.specs.Texts.{spec_too_long_text, lex_text, parse_text, refusal_text}
use Rattle.ccsl_accepts.specs.Acceptance.{FilesExpand, IsLibrary}
use Rattle.ccsl_kernel.specs.Accepted.{IsAccepted}
use Rattle.ccsl_spec.specs.Laws.{SystemOrRefusal, SystemsAreAccepted}
use Rattle.ccsl_spec.specs.Specifications.{HasTree, HasNoTree, IsSystemOf, IsRefusedWith, too_long, no_tokens, no_tree, no_system}

-- WHAT A PIECE IS is kept by its token
name-kept : (bytes : List ℕ) → is_piece (letters bytes) ≡ true → fits (letters bytes) ≡ true → reserved bytes ≡ None → is_name bytes ≡ true
name-kept [] h f r = absurd (cc)
name-kept (b ∷ bytes) h f r =
    let first = and_parts (is_letter b) (is_inner b && list_all is_inner bytes) h in
    let rest = and_parts (is_inner b) (list_all is_inner bytes) first.1 in
    and_from (is_word (b ∷ bytes) && nat_le (length (b ∷ bytes)) MAX_NAME_BYTES) (not (is_reserved (b ∷ bytes)))
    (and_from (is_word (b ∷ bytes)) (nat_le (length (b ∷ bytes)) MAX_NAME_BYTES) (and_from (is_letter b) (list_all is_inner bytes) first.0 rest.1) f)
    (ap not (not_reserved (b ∷ bytes) r))

letters-kept : (bytes : List ℕ) → is_piece (letters bytes) ≡ true → fits (letters bytes) ≡ true → (o : Option Reserved) → reserved bytes ≡ o
    → kind_kept (name_or_word bytes o) ≡ true
letters-kept bytes h f (Some w) r = refl
letters-kept bytes h f None r = name-kept bytes h f r

-- tokens with what they keep, of plain ones
record AreKept (ps : List PlainToken) : Type 0 where
  tokens : List Token
  plain : map plain_token tokens ≡ ps

kept-none : AreKept []
kept-none = record { tokens = []; plain = refl }

kept-more : (at end : ℕ) (kind : TokenKind) (ps : List PlainToken) → kind_kept kind ≡ true → AreKept ps
    → AreKept (record { at = at; end = end; kind = kind } ∷ ps)
kept-more at end kind ps k a = record {
  tokens = record { at = at; end = end; kind = kind; kept = k } ∷ a.tokens;
  plain = ap (λ qs. record { at = at; end = end; kind = kind } ∷ qs) a.plain;
}

kept-piece : (at : ℕ) (p : Piece) (ps : List PlainToken) → is_piece p ≡ true → fits p ≡ true → AreKept ps
    → AreKept (token_at at (at + length (text_of p)) (kind_of p) ++ ps)
kept-piece at (blank b) ps h f a = a
kept-piece at (comment bytes) ps h f a = a
kept-piece at (letters bytes) ps h f a =
    kept-more at (at + length bytes) (name_or_word bytes (reserved bytes)) ps (letters-kept bytes h f (reserved bytes) refl) a
kept-piece at (digits bytes) ps h f a = kept-more at (at + length bytes) _ ps f a
kept-piece at (quoted bytes) ps h f a = kept-more at (at + length (text_of (quoted bytes))) _ ps h a
kept-piece at (mark b) ps h f a = kept-more at (at + 1) _ ps refl a

kept-pieces : (at : ℕ) (pieces : List Piece) (rest : List ℕ) → AreCut pieces rest → list_all fits pieces ≡ true → AreKept (tokens_of at pieces)
kept-pieces at [] rest c f = kept-none
kept-pieces at (p ∷ pieces) rest c f =
    let fit = and_parts (fits p) (list_all fits pieces) f in
    kept-piece at p (tokens_of (at + length (text_of p)) pieces) c.0.is fit.0 (kept-pieces (at + length (text_of p)) pieces rest c.1 fit.1)

kept-tokens : (text : List ℕ) (ps : List PlainToken) → AreTokens text ps → AreKept ps
kept-tokens text ps t = subst AreKept (sym t.are) (kept-pieces 0 t.pieces [] t.cut t.fit)

-- where the terminals are cut the tokens are
module _ (ts : List Token) (front rest : List Terminal) (e : terminals ts ≡ front ++ rest) where
  before : terminals (take (length front) ts) ≡ front
  before = sym (take-map terminal (length front) ts) ∙ ap (take (length front)) e ∙ take_at front rest (length front) refl

  behind : terminals (drop (length front) ts) ≡ rest
  behind = sym (drop-map terminal (length front) ts) ∙ ap (drop (length front)) e ∙ drop_at front rest (length front) refl

  syntax-there : FailsAt MAX_LEVELS front rest → SyntaxAt MAX_LEVELS ts (place (take (length front) ts) (drop (length front) ts))
  syntax-there f = record {
    front = take (length front) ts;
    back = drop (length front) ts;
    whole = sym (take-append-drop (length front) ts);
    fails = rw (before, behind) f;
    is = refl;
  }

  deep-there : DeepAt MAX_LEVELS front rest → TooDeepAt MAX_LEVELS ts (place (take (length front) ts) (drop (length front) ts))
  deep-there f = record {
    front = take (length front) ts;
    back = drop (length front) ts;
    whole = sym (take-append-drop (length front) ts);
    deep = rw (before, behind) f;
    is = refl;
  }

module _ (right : ReaderIsRight) (text : List ℕ) (short : length text ≤ MAX_SPEC_BYTES) where
  abbrev IsSettled : Type 0
  IsSettled = ((K : System) × IsSystemOf text K) ⊎ ((line : List ℕ) × IsRefusedWith text line)

  -- a tree is refused or not
  of-tree : (file : PlainFile) → HasTree text file → (o : Option Refusal) → refusal the_library file ≡ o → IsSettled
  of-tree file tree None e = inl (expand the_library file, record { short = short; file = file; tree = tree; accepted = e; system = refl })
  of-tree file tree (Some r) e = inr (refusal_text r, no_system short file tree r e refl)

  module _ (ts : List Token) (are : AreTokens text (map plain_token ts)) where
    of-reply : (r : Reply PlainFile) → file_at MAX_LEVELS (terminals ts) ≡ r → Verdict MAX_LEVELS (terminals ts) r → IsSettled
    of-reply (took f rest) e v = of-tree f (record { tokens = ts; are = are; parses = v.0 }) (refusal the_library f) refl
    of-reply (stopped no_syntax rest) e v =
        let fault = Syntax (place (take (length v.0) ts) (drop (length v.0) ts)) in
        inr (parse_text fault, no_tree short fault (record { tokens = ts; are = are; none = syntax-there ts v.0 rest v.1 v.2 }) refl)
    of-reply (stopped too_deep rest) e v =
        let fault = TooDeep (place (take (length v.0) ts) (drop (length v.0) ts)) in
        inr (parse_text fault, no_tree short fault (record { tokens = ts; are = are; none = deep-there ts v.0 rest v.1 v.2 }) refl)

    of-tokens : IsSettled
    of-tokens = of-reply (file_at MAX_LEVELS (terminals ts)) refl (right MAX_LEVELS (terminals ts))

pub settled : TokensOrFault → ReaderIsRight → SystemOrRefusal
settled lexed right text = ⊎_elim
    (λ (long : MAX_SPEC_BYTES < length text). inr (spec_too_long_text, too_long long refl))
    (λ (short : length text ≤ MAX_SPEC_BYTES). ⊎_elim
    (λ t. let k = kept-tokens text t.0 t.1 in of-tokens right text short k.tokens (subst (AreTokens text) (sym k.plain) t.1))
    (λ f. inr (lex_text f.0, no_tokens short f.0 f.1 refl))
    (lexed text))
    (cases_lt MAX_SPEC_BYTES (length text))

-- what a tree has of its tokens, and that it is not refused, make the expansion an accepted system
pub accepted-of : FilesExpand → IsLibrary the_library → FileKeeps → LeastDepth → SystemsAreAccepted
accepted-of expands library keeps deep text K a =
    let p = a.tree.parses in
    subst IsAccepted (sym a.system)
    (expands the_library a.file library
    (record {
      kept = keeps a.tree.tokens a.file p.is;
      depth = deep MAX_LEVELS (terminals a.tree.tokens) a.file p;
    })
    a.accepted)
