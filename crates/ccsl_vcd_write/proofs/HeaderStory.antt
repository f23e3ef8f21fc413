-- The story of a written header.
use Rattle.std.proofs.Common.{◌≡◌, ℕ, ◌+◌, ◌≤◌, ◌<◌, List, [], ◌∷◌, ◌++◌, length, Bool, true, false, ◌&&◌, nat_eq, cond, Ok, refl, sym, ap, ap₂, ◌∙◌, arith}
use Rattle.std.proofs.Common.{codes, append_assoc, append-nil, length-append}
use Rattle.std.specs.List.{list_all}
use Rattle.std.proofs.lemmas.Bool.{and_parts, le-leb, lt-leb}
use Rattle.std.proofs.lemmas.Grind.{common_steps}
use Rattle.ccsl_base.specs.Name.{is_word}
use Rattle.ccsl_base.specs.Letters.{is_letter, is_inner}
use Rattle.ccsl_vcd_lex.specs.Tokens.{Token, token, word}
use Rattle.ccsl_vcd.specs.declared.limits.Limits.{Limits}
use Rattle.ccsl_vcd.specs.declared.fault.VcdFault.TheVariants as faults
use Rattle.ccsl_vcd.specs.Words.{number}
use Rattle.ccsl_vcd.specs.Binding.{Wanted, Declaration, Bound, bind}
use Rattle.ccsl_vcd.specs.Places.{Header, commands, inside, header, goes as on, refused}
use Rattle.ccsl_vcd.specs.Header.{HeaderWord, end_command, var, scope, upscope, end_definitions, other_command, plain, begins_command, header_word, is_code}
use Rattle.ccsl_vcd.specs.Header.{word_fits, inside_says}
use Rattle.ccsl_vcd.specs.Reading.{Story, next, says}
use Rattle.ccsl_vcd.specs.Grammar.{body_story}
use Rattle.ccsl_vcd_write.specs.Code.{code_of}
use Rattle.ccsl_vcd_write.proofs.Lines.{behind, all_words}
use Rattle.ccsl_vcd_write.proofs.CodeLaws.{code-visible, code-short, longer-equal}
use Rattle.ccsl_vcd_write.proofs.Stories.{goes, goes-append, at_header}

-- WORDS that end no command

abbrev pub ends_command : HeaderWord → Bool
ends_command end_command = true
ends_command var = false
ends_command scope = false
ends_command upscope = false
ends_command end_definitions = false
ends_command other_command = false
ends_command plain = false

-- a text shorter than all commands that are known
short-word : (text : List ℕ) → length text ≤ 2 → ends_command (header_word text) ≡ false
short-word text h =
    rw (
      longer-equal text (codes "$end") (omega arith),
      longer-equal text (codes "$var") (omega arith),
      longer-equal text (codes "$scope") (omega arith),
      longer-equal text (codes "$upscope") (omega arith),
      longer-equal text (codes "$enddefinitions") (omega arith),
    )
    (elim (begins_command text) as (λ w. ends_command (cond w other_command plain) ≡ false) [ true ↦ refl | false ↦ refl ])

letter-other : (b : ℕ) → is_letter b ≡ true → nat_eq b 36 ≡ false
letter-other b h = grind (arith, common_steps)

name-plain : (name : List ℕ) → is_word name ≡ true → ends_command (header_word name) ≡ false
name-plain [] h = absurd (cc)
name-plain (b ∷ bs) h = rw (letter-other b (and_parts (is_letter b) (list_all is_inner bs) h).0) refl

code-fits : (x : ℕ) → x < 1024 → is_code (code_of x) ≡ true
code-fits x h = ap₂ (λ a b. a && b) (le-leb (length (code_of x)) 32 (omega (arith, code-short x))) (code-visible x h)

-- what a clock declares
abbrev pub declaration : ℕ → List ℕ → Declaration
declaration clock name = record { depth = 1; kind = codes "event"; size = 1; code = code_of clock; reference = name }

abbrev pub declarations : ℕ → List (List ℕ) → List Declaration
declarations clock [] = []
declarations clock (name ∷ names) = declaration clock name ∷ declarations (clock + 1) names

abbrev pub var_words : ℕ → List ℕ → List (List ℕ)
var_words clock name = codes "$var" ∷ codes "event" ∷ codes "1" ∷ code_of clock ∷ name ∷ codes "$end" ∷ []

abbrev pub vars_words : ℕ → List (List ℕ) → List (List (List ℕ))
vars_words clock [] = []
vars_words clock (name ∷ names) = var_words clock name ∷ vars_words (clock + 1) names

module _ (wanted : Wanted) (limits : Limits) where
  -- a word inside a command
  passes : (h : Header) (head : Token) (words : List Token) (t : Token) (x : HeaderWord) → ends_command x ≡ false
      → inside_says wanted limits h head words t x ≡ cond (word_fits (header_word head.text) words t)
      (on (header (record h { among = inside head (words ++ t ∷ []) })) []) (refused (faults.BadHeader t.at))
  passes h head words t end_command e = absurd (cc)
  passes h head words t var e = refl
  passes h head words t scope e = refl
  passes h head words t upscope e = refl
  passes h head words t end_definitions e = refl
  passes h head words t other_command e = refl
  passes h head words t plain e = refl

  pub word-passes : (depth : ℕ) (ds : List Declaration) (head : Token) (words : List Token) (t : Token) → ends_command (header_word t.text) ≡ false
      → word_fits (header_word head.text) words t ≡ true
      → next wanted limits (at_header (inside head words) depth ds) (word t) ≡ at_header (inside head (words ++ t ∷ [])) depth ds
  unfolding says
  word-passes depth ds head words t e f =
      rw (passes (record { among = inside head words; depth = depth; declared = ds }) head words t (header_word t.text) e, f) refl

  -- a declaration
  pub var-story : (at : ℕ) (ds : List Declaration) (clock : ℕ) (name : List ℕ) → length ds < limits.vars → clock < 1024 → is_word name ≡ true
      → goes wanted limits (at_header commands 1 ds) at (var_words clock name) ≡ at_header commands 1 (ds ++ declaration clock name ∷ [])
  unfolding says number
  var-story at ds clock name v c n =
      let kind_at : ℕ = at + 4 + 1 in
      let size_at : ℕ = kind_at + 5 + 1 in
      let code_at : ℕ = size_at + 1 + 1 in
      let name_at : ℕ = code_at + length (code_of clock) + 1 in
      let end_at : ℕ = name_at + length name + 1 in
      let head : Token = token at (codes "$var") in
      let kind : Token = token kind_at (codes "event") in
      let size : Token = token size_at (codes "1") in
      let code : Token = token code_at (code_of clock) in
      let reference : Token = token name_at name in
      let begins : next wanted limits (at_header commands 1 ds) (word head) ≡ at_header (inside head []) 1 ds = rw (lt-leb limits.vars (length ds) v) refl in
      let sized : next wanted limits (at_header (inside head (kind ∷ [])) 1 ds) (word size) ≡ at_header (inside head (kind ∷ size ∷ [])) 1 ds = refl in
      let coded = word-passes 1 ds head (kind ∷ size ∷ []) code (short-word (code_of clock) (code-short clock)) (code-fits clock c) in
      let named = word-passes 1 ds head (kind ∷ size ∷ code ∷ []) reference (name-plain name n) refl in
      ap (λ (s : Story). goes wanted limits s kind_at (codes "event" ∷ codes "1" ∷ code_of clock ∷ name ∷ codes "$end" ∷ [])) begins
      ∙ ap (λ (s : Story). goes wanted limits s code_at (code_of clock ∷ name ∷ codes "$end" ∷ [])) sized
      ∙ ap (λ (s : Story). goes wanted limits s name_at (name ∷ codes "$end" ∷ [])) coded
      ∙ ap (λ (s : Story). goes wanted limits s end_at (codes "$end" ∷ [])) named

  pub vars-story : (at : ℕ) (ds : List Declaration) (clock : ℕ) (names : List (List ℕ)) → length ds + length names ≤ limits.vars → clock + length names ≤ 1024
      → list_all is_word names ≡ true
      → goes wanted limits (at_header commands 1 ds) at (all_words (vars_words clock names)) ≡ at_header commands 1 (ds ++ declarations clock names)
  vars-story at ds clock [] v c n = ap (at_header commands 1) (sym (append-nil ds))
  vars-story at ds clock (name ∷ names) v c n =
      let p = and_parts (is_word name) (list_all is_word names) n in
      let more : List Declaration = ds ++ declaration clock name ∷ [] in
      goes-append wanted limits (at_header commands 1 ds) at (var_words clock name) (all_words (vars_words (clock + 1) names))
      ∙ ap (λ (s : Story). goes wanted limits s (behind at (var_words clock name)) (all_words (vars_words (clock + 1) names)))
      (var-story at ds clock name (omega arith) (omega arith) p.0)
      ∙ vars-story (behind at (var_words clock name)) more (clock + 1) names (omega (arith, length-append ds (declaration clock name ∷ []))) (omega arith) p.1
      ∙ ap (at_header commands 1) (append_assoc ds (declaration clock name ∷ []) (declarations (clock + 1) names))

  -- the other lines
  pub version-story : (at : ℕ) → goes wanted limits (at_header commands 0 []) at (codes "$version" ∷ codes "ccsl" ∷ codes "$end" ∷ []) ≡ at_header commands 0 []
  unfolding says
  version-story at = refl

  pub timescale-story : (at : ℕ)
      → goes wanted limits (at_header commands 0 []) at (codes "$timescale" ∷ codes "1" ∷ codes "ns" ∷ codes "$end" ∷ []) ≡ at_header commands 0 []
  unfolding says
  timescale-story at = refl

  pub scope-story : (at : ℕ) → 1 ≤ limits.scopes
      → goes wanted limits (at_header commands 0 []) at (codes "$scope" ∷ codes "module" ∷ codes "ccsl" ∷ codes "$end" ∷ []) ≡ at_header commands 1 []
  unfolding says
  scope-story at h = rw (lt-leb limits.scopes 0 h) refl

  pub upscope-story : (at : ℕ) (ds : List Declaration)
      → goes wanted limits (at_header commands 1 ds) at (codes "$upscope" ∷ codes "$end" ∷ []) ≡ at_header commands 0 ds
  unfolding says
  upscope-story at ds = refl

  pub opening-story : (at : ℕ) (ds : List Declaration) (bs : List Bound) → bind wanted ds ≡ Ok bs
      → goes wanted limits (at_header commands 0 ds) at (codes "$enddefinitions" ∷ codes "$end" ∷ []) ≡ body_story [] 0 ds bs
  unfolding says
  opening-story at ds bs e = rw e refl
