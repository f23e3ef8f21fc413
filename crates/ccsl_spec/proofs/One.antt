-- A text is one system, or refused with one line.
use Rattle.std.proofs.Common.{◌≡◌, ℕ, ◌<◌, ◌≤◌, List, [], ◌∷◌, ◌++◌, length, length-append, map, take, drop, Some, None, refl, sym, ap, ◌∙◌, subst, arith}
use Rattle.std.proofs.lemmas.List.{length-map, map-append, take_at, drop_at}
use Rattle.ccsl_base.specs.declared.limits.TheConstants.{MAX_SPEC_BYTES, MAX_LEVELS}
use Rattle.ccsl_lex.specs.declared.token.Token.{Token}
use Rattle.ccsl_lex.specs.declared.fault.LexFault.{LexFault}
use Rattle.ccsl_lex.specs.Tokens.{PlainToken, AreTokens, IsFirstFault, plain_token}
use Rattle.ccsl_lex.proofs.Unique.{one_tokens, one_fault, not_both}
use Rattle.ccsl_ast.specs.Trees.{PlainFile}
use Rattle.ccsl_grammar.specs.Terminals.{Terminal, seen_as, terminal, terminals}
use Rattle.ccsl_grammar.specs.Reader.{Reply, Fault, took, stopped, no_syntax, too_deep}
use Rattle.ccsl_grammar.specs.Parser.{file_at}
use Rattle.ccsl_grammar.specs.File.{Parses}
use Rattle.ccsl_grammar.specs.Faults.{last_end, place}
use Rattle.ccsl_grammar.specs.Laws.{OneVerdict}
use Rattle.ccsl_parse.specs.declared.fault.ParseFault.{ParseFault}
use Rattle.ccsl_parse.specs.declared.fault.ParseFault.TheVariants.{Syntax, TooDeep, Memory}
use Rattle.ccsl_kernel.specs.Syntax.{System}
use Rattle.ccsl_rules.specs.declared.refusal.Refusal.{Refusal}
use Rattle.ccsl_rules.specs.Elaborated.{refusal}
use Rattle.ccsl_rules.specs.Expansion.{expand}
use Rattle.ccsl_library.specs.Library.{the_library}
use Rattle.ccsl_report.specs.Texts.{spec_too_long_text, lex_text, parse_text, refusal_text}
use Rattle.ccsl_spec.specs.Specifications.{HasTree, IsNoTree, HasNoTree, IsSystemOf, IsRefusedWith, too_long, no_tokens, no_tree, no_system}

-- what the grammar sees of plain tokens
abbrev seen : List PlainToken → List Terminal
seen ps = map (λ p. seen_as p.at p.kind) ps

seen-plain : (ts : List Token) → terminals ts ≡ seen (map plain_token ts)
seen-plain [] = refl
seen-plain (t ∷ ts) = ap (λ z. seen_as t.at t.kind ∷ z) (seen-plain ts)

plain_end : List PlainToken → ℕ
plain_end [] = 0
plain_end (p ∷ []) = p.end
plain_end (p ∷ q ∷ ps) = plain_end (q ∷ ps)

plain_place : List PlainToken → List PlainToken → ℕ
plain_place front [] = plain_end front
plain_place front (p ∷ ps) = p.at

end-plain : (ts : List Token) → last_end ts ≡ plain_end (map plain_token ts)
unfolding plain_end
end-plain [] = refl
end-plain (t ∷ []) = refl
end-plain (t ∷ u ∷ ts) = end-plain (u ∷ ts)

place-plain : (front back : List Token) → place front back ≡ plain_place (map plain_token front) (map plain_token back)
unfolding plain_place
place-plain front [] = end-plain front
place-plain front (t ∷ ts) = refl

-- before as many tokens a list is cut at one place
same_place : (ts x y p q : List PlainToken) → ts ≡ x ++ y → ts ≡ p ++ q → seen y ≡ seen q → plain_place x y ≡ plain_place p q
same_place ts x y p q e h i =
    let look = λ (p : PlainToken). seen_as p.at p.kind in
    let n : length x ≡ length p =
    omega (arith, ap length e, ap length h, length-append x y, length-append p q, ap length i, length-map y look, length-map q look) in
    let a : x ≡ p = sym (take_at x y (length p) n) ∙ ap (take (length p)) (sym e ∙ h) ∙ take_at p q (length p) refl in
    let b : y ≡ q = sym (drop_at x y (length p) n) ∙ ap (drop (length p)) (sym e ∙ h) ∙ drop_at p q (length p) refl in
    rw (a, b) refl

-- the reader's reply on a fault
abbrev fault_in : ParseFault → Fault
fault_in (Syntax at) = no_syntax
fault_in (TooDeep at) = too_deep
fault_in Memory = no_syntax

abbrev place_in : ParseFault → ℕ
place_in (Syntax at) = at
place_in (TooDeep at) = at
place_in Memory = 0

-- where the tokens have no tree, the reader stops in front of some of them
record Stops (fault : ParseFault) (ts : List PlainToken) : Type 0 where
  front : List PlainToken
  back : List PlainToken
  whole : ts ≡ front ++ back
  reply : file_at MAX_LEVELS (seen ts) ≡ stopped (fault_in fault) (seen back)
  is : place_in fault ≡ plain_place front back

-- a fault has a place
HasPlace : ParseFault → Type 0
HasPlace (Syntax at) = Unit {0}
HasPlace (TooDeep at) = Unit {0}
HasPlace Memory = ⊥

same-fault : (e f : ParseFault) → HasPlace e → HasPlace f → fault_in e ≡ fault_in f → place_in e ≡ place_in f → e ≡ f
unfolding HasPlace
same-fault (Syntax m) (Syntax n) a b k p = ap Syntax p
same-fault (Syntax m) (TooDeep n) a b k p = absurd (cc)
same-fault (Syntax m) Memory a b k p = absurd b
same-fault (TooDeep m) (Syntax n) a b k p = absurd (cc)
same-fault (TooDeep m) (TooDeep n) a b k p = ap TooDeep p
same-fault (TooDeep m) Memory a b k p = absurd b
same-fault Memory f a b k p = absurd a

has-place : (e : ParseFault) (ts : List Token) → IsNoTree e ts → HasPlace e
unfolding HasPlace
has-place (Syntax at) ts h = record {}
has-place (TooDeep at) ts h = record {}
has-place Memory ts h = h

module _ (one_verdict : OneVerdict) where
  stops-at : (kind : Fault) (ts front back : List Token) → ts ≡ front ++ back → file_at MAX_LEVELS (terminals ts) ≡ stopped kind (terminals back) →
      file_at MAX_LEVELS (seen (map plain_token ts)) ≡ stopped kind (seen (map plain_token back))
  stops-at kind ts front back whole e = ap (file_at MAX_LEVELS) (sym (seen-plain ts)) ∙ e ∙ ap (stopped kind) (seen-plain back)

  stops : (fault : ParseFault) (ts : List Token) → IsNoTree fault ts → Stops fault (map plain_token ts)
  stops (Syntax at) ts s = record {
    front = map plain_token s.front;
    back = map plain_token s.back;
    whole = ap (map plain_token) s.whole ∙ map-append plain_token s.front s.back;
    reply = stops-at no_syntax ts s.front s.back s.whole
        (one_verdict MAX_LEVELS (terminals ts) (stopped no_syntax (terminals s.back))
        (terminals s.front, ap terminals s.whole ∙ map-append terminal s.front s.back, s.fails));
    is = s.is ∙ place-plain s.front s.back;
  }
  stops (TooDeep at) ts s = record {
    front = map plain_token s.front;
    back = map plain_token s.back;
    whole = ap (map plain_token) s.whole ∙ map-append plain_token s.front s.back;
    reply = stops-at too_deep ts s.front s.back s.whole
        (one_verdict MAX_LEVELS (terminals ts) (stopped too_deep (terminals s.back))
        (terminals s.front, ap terminals s.whole ∙ map-append terminal s.front s.back, s.deep));
    is = s.is ∙ place-plain s.front s.back;
  }
  stops Memory ts s = absurd s

  takes : (ts : List Token) (f : PlainFile) → Parses MAX_LEVELS (terminals ts) f → file_at MAX_LEVELS (seen (map plain_token ts)) ≡ took f []
  takes ts f p = ap (file_at MAX_LEVELS) (sym (seen-plain ts)) ∙ one_verdict MAX_LEVELS (terminals ts) (took f []) (p, refl)

  one_file : (ps : List PlainToken) (f g : PlainFile) → file_at MAX_LEVELS (seen ps) ≡ took f [] → file_at MAX_LEVELS (seen ps) ≡ took g [] → f ≡ g
  one_file ps f g p q = let e : took f [] ≡ took g [] = sym p ∙ q in cc

  faults_at : (e f : ParseFault) (ps : List PlainToken) → HasPlace e → HasPlace f → Stops e ps → Stops f ps → e ≡ f
  faults_at e f ps a b p q =
      let same : stopped (fault_in e) (seen p.back) ≡ stopped (fault_in f) (seen q.back) = sym p.reply ∙ q.reply in
      let kinds : fault_in e ≡ fault_in f = cc in
      let backs : seen p.back ≡ seen q.back = cc in
      same-fault e f a b kinds (p.is ∙ same_place ps p.front p.back q.front q.back p.whole q.whole backs ∙ sym q.is)

  tree_or_fault : (f : PlainFile) (e : ParseFault) (ps : List PlainToken) → file_at MAX_LEVELS (seen ps) ≡ took f [] → Stops e ps → ⊥
  tree_or_fault f e ps p q = let clash : took f [] ≡ stopped (fault_in e) (seen q.back) = sym p ∙ q.reply in absurd (cc)

  module _ (text : List ℕ) where
    -- two lists of tokens of one text
    tokens_are_one : (ts us : List Token) → AreTokens text (map plain_token ts) → AreTokens text (map plain_token us) → map plain_token ts ≡ map plain_token us
    tokens_are_one ts us a b = one_tokens text (map plain_token ts) (map plain_token us) a b

    -- two trees of one text
    trees_are_one : (f g : PlainFile) → HasTree text f → HasTree text g → f ≡ g
    trees_are_one f g a b =
        one_file (map plain_token b.tokens) f g
        (subst (λ ps. file_at MAX_LEVELS (seen ps) ≡ took f []) (tokens_are_one a.tokens b.tokens a.are b.are) (takes a.tokens f a.parses))
        (takes b.tokens g b.parses)

    -- two faults of syntax of one text
    faults_are_one : (e f : ParseFault) → HasNoTree text e → HasNoTree text f → e ≡ f
    faults_are_one e f a b =
        faults_at e f (map plain_token b.tokens) (has-place e a.tokens a.none) (has-place f b.tokens b.none)
        (subst (Stops e) (tokens_are_one a.tokens b.tokens a.are b.are) (stops e a.tokens a.none)) (stops f b.tokens b.none)

    -- no text has a tree and a fault of syntax
    tree_not_fault : (f : PlainFile) (e : ParseFault) → HasTree text f → HasNoTree text e → ⊥
    tree_not_fault f e a b =
        tree_or_fault f e (map plain_token b.tokens)
        (subst (λ ps. file_at MAX_LEVELS (seen ps) ≡ took f []) (tokens_are_one a.tokens b.tokens a.are b.are) (takes a.tokens f a.parses))
        (stops e b.tokens b.none)

    -- no text has a fault of its tokens, and a tree or a fault of syntax
    tree_not_lexed : (f : PlainFile) (e : LexFault) → HasTree text f → IsFirstFault e text → ⊥
    tree_not_lexed f e a b = not_both text (map plain_token a.tokens) e a.are b

    fault_not_lexed : (f : ParseFault) (e : LexFault) → HasNoTree text f → IsFirstFault e text → ⊥
    fault_not_lexed f e a b = not_both text (map plain_token a.tokens) e a.are b

    refused_or_accepted : (f g : PlainFile) (r : Refusal) → HasTree text f → HasTree text g → refusal the_library f ≡ None → refusal the_library g ≡ Some r → ⊥
    refused_or_accepted f g r a b x y = let e : refusal the_library f ≡ refusal the_library g = ap (refusal the_library) (trees_are_one f g a b) in cc

    refusals_are_one : (f g : PlainFile) (r s : Refusal) → HasTree text f → HasTree text g → refusal the_library f ≡ Some r → refusal the_library g ≡ Some s
        → r ≡ s
    refusals_are_one f g r s a b x y = let e : refusal the_library f ≡ refusal the_library g = ap (refusal the_library) (trees_are_one f g a b) in cc

    pub one_system : (K L : System) → IsSystemOf text K → IsSystemOf text L → K ≡ L
    one_system K L a b = a.system ∙ ap (expand the_library) (trees_are_one a.file b.file a.tree b.tree) ∙ sym b.system

    pub one_refusal : (line other : List ℕ) → IsRefusedWith text line → IsRefusedWith text other → line ≡ other
    one_refusal line other (too_long long is) (too_long long' is') = is ∙ sym is'
    one_refusal line other (too_long long is) (no_tokens short fault first is') = absurd (omega (arith, long, short))
    one_refusal line other (too_long long is) (no_tree short fault none is') = absurd (omega (arith, long, short))
    one_refusal line other (too_long long is) (no_system short file tree r refused is') = absurd (omega (arith, long, short))
    one_refusal line other (no_tokens short fault first is) (too_long long is') = absurd (omega (arith, long, short))
    one_refusal line other (no_tokens short fault first is) (no_tokens short' fault' first' is') =
        is ∙ ap lex_text (one_fault text fault fault' first first') ∙ sym is'
    one_refusal line other (no_tokens short fault first is) (no_tree short' fault' none is') = absurd (fault_not_lexed fault' fault none first)
    one_refusal line other (no_tokens short fault first is) (no_system short' file tree r refused is') = absurd (tree_not_lexed file fault tree first)
    one_refusal line other (no_tree short fault none is) (too_long long is') = absurd (omega (arith, long, short))
    one_refusal line other (no_tree short fault none is) (no_tokens short' fault' first is') = absurd (fault_not_lexed fault fault' none first)
    one_refusal line other (no_tree short fault none is) (no_tree short' fault' none' is') =
        is ∙ ap parse_text (faults_are_one fault fault' none none') ∙ sym is'
    one_refusal line other (no_tree short fault none is) (no_system short' file tree r refused is') = absurd (tree_not_fault file fault tree none)
    one_refusal line other (no_system short file tree r refused is) (too_long long is') = absurd (omega (arith, long, short))
    one_refusal line other (no_system short file tree r refused is) (no_tokens short' fault first is') = absurd (tree_not_lexed file fault tree first)
    one_refusal line other (no_system short file tree r refused is) (no_tree short' fault none is') = absurd (tree_not_fault file fault tree none)
    one_refusal line other (no_system short file tree r refused is) (no_system short' file' tree' r' refused' is') =
        is ∙ ap refusal_text (refusals_are_one file file' r r' tree tree' refused refused') ∙ sym is'

    pub not_both_ways : (line : List ℕ) (K : System) → IsSystemOf text K → IsRefusedWith text line → ⊥
    not_both_ways line K a (too_long long is) = let short = a.short in omega (arith, long, short)
    not_both_ways line K a (no_tokens short fault first is) = tree_not_lexed a.file fault a.tree first
    not_both_ways line K a (no_tree short fault none is) = tree_not_fault a.file fault a.tree none
    not_both_ways line K a (no_system short file tree r refused is) = refused_or_accepted a.file file r a.tree tree a.accepted refused
