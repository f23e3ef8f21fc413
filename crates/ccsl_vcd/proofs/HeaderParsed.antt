-- What is read past the end of the header begins with a header of the grammar.
use Rattle.std.proofs.Common.{◌≡◌, ℕ, ◌+◌, ◌-◌, ◌<◌, List, [], ◌∷◌, ◌++◌, length, Bool, true, false, Some, None, Ok, Err, nat_le, if◌then◌else◌, refl, sym, ap}
use Rattle.std.proofs.Common.{◌∙◌, append_assoc, subst}
use Rattle.std.specs.Prelude.{map}
use Rattle.std.specs.List.{AllByRecursion}
use Rattle.std.specs.Option.{option_to_list}
use Rattle.std.proofs.lemmas.Bool.{leb-false}
use Rattle.std.proofs.lemmas.List.{append-nil}
use Rattle.ccsl_vcd_lex.specs.Tokens.{Token, word}
use Rattle.ccsl_vcd.specs.declared.fault.VcdFault.{VcdFault}
use Rattle.ccsl_vcd.specs.declared.fault.VcdFault.TheVariants as faults
use Rattle.ccsl_vcd.specs.Binding.{Declaration, Wanted, Bound, bind}
use Rattle.ccsl_vcd.specs.declared.limits.Limits.{Limits}
use Rattle.ccsl_vcd.specs.Places as p
use Rattle.ccsl_vcd.specs.Header.{HeaderWord, var, scope, upscope, end_definitions, other_command, end_command, plain, header_word, word_fits, declares, starts}
use Rattle.ccsl_vcd.specs.Header.{inside_says, ends, put_declared, opens}
use Rattle.ccsl_vcd.specs.Reading.{Story, says, told}
use Rattle.ccsl_vcd.specs.Grammar.{is_end}
use Rattle.ccsl_vcd.specs.Commands.{Command, command_tokens, commands_tokens, kind_of, IsClosed, IsVariable, MayStand, depth_behind, declared_by, AreCommands}
use Rattle.ccsl_vcd.specs.Commands.{declarations}
use Rattle.ccsl_vcd.proofs.Decided.{sticks}
use Rattle.ccsl_vcd.proofs.Spelled.{tale}
use Rattle.ccsl_vcd.proofs.HeaderRead.{is_end_word, end-seen, AllFit, at, goes}

abbrev pub in_body : p.Where → Bool
in_body (p.header h) = false
in_body (p.body b) = true

abbrev pub InBody : Story → Type 0
InBody s = in_body s.place ≡ true

module _ (w : Wanted) (l : Limits) where
  -- commands from here to the end of the header, and what stands behind it
  pub record Parsed (depth : ℕ) (ds : List Declaration) (ts : List Token) : Type 0 where
    pub cs : List Command
    pub last : Command
    pub rest : List Token
    pub bound : List Bound
    pub are : AreCommands l depth ds cs
    pub closed : IsClosed last
    pub ends : kind_of last ≡ end_definitions
    pub binds : bind w (ds ++ declarations depth cs) ≡ Ok bound
    pub spelled : ts ≡ commands_tokens cs ++ (command_tokens last ++ rest)

  -- what has to follow a command of that kind with that text
  abbrev After : HeaderWord → ℕ → List Declaration → List Token → List Token → Type 0
  After var depth ds text rest = (d : Declaration) × (declares depth text ≡ Some d) × Parsed depth (ds ++ d ∷ []) rest
  After scope depth ds text rest = (depth < l.scopes) × Parsed (depth + 1) ds rest
  After upscope depth ds text rest = Parsed (depth - 1) ds rest
  After end_definitions depth ds text rest = (bound : List Bound) × (bind w ds ≡ Ok bound)
  After other_command depth ds text rest = Parsed depth ds rest
  After end_command depth ds text rest = Parsed depth ds rest
  After plain depth ds text rest = Parsed depth ds rest

  -- the rest of a command
  record Closing (kind : HeaderWord) (depth : ℕ) (ds : List Declaration) (words ts : List Token) : Type 0 where
    pub text : List Token
    pub close : Token
    pub rest : List Token
    pub inside : AllByRecursion (λ t. is_end t ≡ false) text
    pub ends : is_end close ≡ true
    pub fits : AllFit kind words text
    pub spelled : ts ≡ text ++ close ∷ rest
    pub after : After kind depth ds (words ++ text) rest

  abbrev At : p.Among → ℕ → List Declaration → List Token → Type 0
  At p.commands depth ds ts = Parsed depth ds ts
  At (p.inside head words) depth ds ts = Closing (header_word head.text) depth ds words ts

  -- what is known of the rest, for each place
  abbrev Rest : List Token → Type 0
  Rest ts = (among : p.Among) (depth : ℕ) (ds : List Declaration) → InBody (goes w l (tale [] (at among depth ds)) ts) → At among depth ds ts

  -- no body behind a fault of a header
  refuses : {X : Type 0} (among : p.Among) (depth : ℕ) (ds : List Declaration) (f : VcdFault) (ts : List Token)
      → InBody (goes w l (told [] (at among depth ds) (p.refused f)) ts) → X
  refuses among depth ds f ts g =
      let s : Story = told [] (at among depth ds) (p.refused f) in
      let x : false ≡ true = ap (λ (t : Story). in_body t.place) (sym (sticks w l s f (map word ts) refl)) ∙ g in
      absurd (cc)

  -- A command, and those behind it.
  module _ (depth : ℕ) (ds : List Declaration) (t : Token) (ts : List Token) (kind : HeaderWord) (e : header_word t.text ≡ kind)
      (q : Closing kind depth ds [] ts) where
    abbrev command : Command
    command = record { keyword = t; text = q.text; close = q.close }

    spelled-so : (xs : List Token) → q.rest ≡ xs → t ∷ ts ≡ command_tokens command ++ xs
    spelled-so xs k =
        ap (λ ys. t ∷ ys) (q.spelled ∙ ap (λ ys. q.text ++ q.close ∷ ys) k ∙ sym (append_assoc q.text (q.close ∷ []) xs))

    closed-so : IsClosed command
    closed-so = record { inside = q.inside; close = q.ends }

    add : MayStand l depth ds q.text kind → Parsed (depth_behind depth kind) (ds ++ declared_by depth kind q.text) q.rest → Parsed depth ds (t ∷ ts)
    add m r = record {
      cs = command ∷ r.cs;
      last = r.last;
      rest = r.rest;
      bound = r.bound;
      are = subst (λ (x : HeaderWord). IsClosed command × MayStand l depth ds q.text x
          × AreCommands l (depth_behind depth x) (ds ++ declared_by depth x q.text) r.cs) (sym e) (closed-so, m, r.are);
      closed = r.closed;
      ends = r.ends;
      binds =
          subst (λ (x : HeaderWord). bind w (ds ++ (declared_by depth x q.text ++ declarations (depth_behind depth x) r.cs)) ≡ Ok r.bound) (sym e)
          (ap (bind w) (sym (append_assoc ds (declared_by depth kind q.text) (declarations (depth_behind depth kind) r.cs))) ∙ r.binds);
      spelled = spelled-so (commands_tokens r.cs ++ (command_tokens r.last ++ r.rest)) r.spelled
          ∙ sym (append_assoc (command_tokens command) (commands_tokens r.cs) (command_tokens r.last ++ r.rest));
    }

    last-so : kind ≡ end_definitions → (bound : List Bound) → bind w ds ≡ Ok bound → Parsed depth ds (t ∷ ts)
    last-so k bound b = record {
      cs = [];
      last = command;
      rest = q.rest;
      bound = bound;
      are = tt;
      closed = closed-so;
      ends = e ∙ k;
      binds = ap (bind w) (append-nil ds) ∙ b;
      spelled = spelled-so q.rest refl;
    }

  none-more : (depth : ℕ) (ds : List Declaration) (ts : List Token) → Parsed depth ds ts → Parsed depth (ds ++ []) ts
  none-more depth ds ts r = subst (λ xs. Parsed depth xs ts) (sym (append-nil ds)) r

  none-some : {X : Type 0} (d : Declaration) → None ≡ Some d → X
  none-some d e = absurd (cc)

  variable-said : (depth : ℕ) (text : List Token) (d : Declaration) → AllFit var [] text → declares depth text ≡ Some d → IsVariable text
  variable-said depth (k ∷ s ∷ c ∷ f ∷ more) d fits e = (fits.1.0, fits.1.1.0)
  variable-said depth [] d fits e = none-some d e
  variable-said depth (k ∷ []) d fits e = none-some d e
  variable-said depth (k ∷ s ∷ []) d fits e = none-some d e
  variable-said depth (k ∷ s ∷ c ∷ []) d fits e = none-some d e

  module _ (depth : ℕ) (ds : List Declaration) (t : Token) (ts : List Token) where
    abbrev Begun : p.Said → Type 0
    Begun said = InBody (goes w l (told [] (at p.commands depth ds) said) ts)

    abbrev within : p.Said
    within = p.goes (at (p.inside t []) depth ds) []

    -- a token in a command's place
    on-start : Rest ts → (kind : HeaderWord) → header_word t.text ≡ kind → Begun (starts l (record { among = p.commands; depth = depth; declared = ds }) t kind)
        → Parsed depth ds (t ∷ ts)
    on-start ih end_command e g = refuses p.commands depth ds (faults.BadHeader t.at) ts g
    on-start ih plain e g = refuses p.commands depth ds (faults.BadHeader t.at) ts g
    on-start ih var e g =
        (elim (nat_le l.vars (length ds)) as (λ b. nat_le l.vars (length ds) ≡ b → Begun (if b then p.refused (faults.TooManyVars t.at) else within)
        → Parsed depth ds (t ∷ ts)) [
          | true ↦ λ k h. refuses p.commands depth ds (faults.TooManyVars t.at) ts h
          | false ↦ λ k h.
              let q : Closing var depth ds [] ts = subst (λ x. Closing x depth ds [] ts) e (ih (p.inside t []) depth ds h) in
              add depth ds t ts var e q (variable-said depth q.text q.after.0 q.fits q.after.1, leb-false l.vars (length ds) k)
              (subst (λ o. Parsed depth (ds ++ option_to_list o) q.rest) (sym q.after.1) q.after.2)
        ]) refl g
    on-start ih scope e g =
        let q : Closing scope depth ds [] ts = subst (λ x. Closing x depth ds [] ts) e (ih (p.inside t []) depth ds g) in
        add depth ds t ts scope e q q.after.0 (none-more (depth + 1) ds q.rest q.after.1)
    on-start ih upscope e g =
        let q : Closing upscope depth ds [] ts = subst (λ x. Closing x depth ds [] ts) e (ih (p.inside t []) depth ds g) in
        add depth ds t ts upscope e q tt (none-more (depth - 1) ds q.rest q.after)
    on-start ih other_command e g =
        let q : Closing other_command depth ds [] ts = subst (λ x. Closing x depth ds [] ts) e (ih (p.inside t []) depth ds g) in
        add depth ds t ts other_command e q tt (none-more depth ds q.rest q.after)
    on-start ih end_definitions e g =
        let q : Closing end_definitions depth ds [] ts = subst (λ x. Closing x depth ds [] ts) e (ih (p.inside t []) depth ds g) in
        last-so depth ds t ts end_definitions e q refl q.after.0 q.after.1

    module _ (head : Token) (words : List Token) where
      abbrev Inner : p.Said → Type 0
      Inner said = InBody (goes w l (told [] (at (p.inside head words) depth ds) said) ts)

      abbrev Ended : HeaderWord → Type 0
      Ended kind = Inner (ends w l (record { among = p.inside head words; depth = depth; declared = ds }) kind head words t)

      -- the end of a command
      on-end : Rest ts → (kind : HeaderWord) → Ended kind → After kind depth ds words ts
      on-end ih var g =
          (elim (declares depth words) as (λ o. declares depth words ≡ o
          → Inner (put_declared (record { among = p.inside head words; depth = depth; declared = ds }) t o) → After var depth ds words ts) [
            | Some d ↦ λ k h. (d, k, ih p.commands depth (ds ++ d ∷ []) h)
            | None ↦ λ k h. refuses (p.inside head words) depth ds (faults.BadHeader t.at) ts h
          ]) refl g
      on-end ih scope g =
          (elim (nat_le l.scopes depth) as (λ b. nat_le l.scopes depth ≡ b
          → Inner (if b then p.refused (faults.TooDeep head.at) else p.goes (at p.commands (depth + 1) ds) []) → After scope depth ds words ts) [
            | true ↦ λ k h. refuses (p.inside head words) depth ds (faults.TooDeep head.at) ts h
            | false ↦ λ k h. (leb-false l.scopes depth k, ih p.commands (depth + 1) ds h)
          ]) refl g
      on-end ih upscope g = ih p.commands (depth - 1) ds g
      on-end ih end_definitions g =
          (elim (bind w ds) as (λ r. bind w ds ≡ r → Inner (opens ds r) → After end_definitions depth ds words ts) [
            | Ok bound ↦ λ k h. (bound, k)
            | Err f ↦ λ k h. refuses (p.inside head words) depth ds f ts h
          ]) refl g
      on-end ih other_command g = ih p.commands depth ds g
      on-end ih end_command g = ih p.commands depth ds g
      on-end ih plain g = ih p.commands depth ds g

      -- a word of its text
      on-word : Rest ts → is_end t ≡ false
          → Inner (if word_fits (header_word head.text) words t then p.goes (at (p.inside head (words ++ t ∷ [])) depth ds) [] else p.refused
          (faults.BadHeader t.at))
          → Closing (header_word head.text) depth ds words (t ∷ ts)
      on-word ih n g =
          (elim (word_fits (header_word head.text) words t) as (λ b. word_fits (header_word head.text) words t ≡ b
          → Inner (if b then p.goes (at (p.inside head (words ++ t ∷ [])) depth ds) [] else p.refused (faults.BadHeader t.at))
          → Closing (header_word head.text) depth ds words (t ∷ ts)) [
            | true ↦ λ k h.
                let q = ih (p.inside head (words ++ t ∷ [])) depth ds h in
                record {
                  text = t ∷ q.text;
                  close = q.close;
                  rest = q.rest;
                  inside = (n, q.inside);
                  ends = q.ends;
                  fits = (k, q.fits);
                  spelled = ap (λ xs. t ∷ xs) q.spelled;
                  after = subst (λ xs. After (header_word head.text) depth ds xs q.rest) (append_assoc words (t ∷ []) q.text) q.after;
                }
            | false ↦ λ k h. refuses (p.inside head words) depth ds (faults.BadHeader t.at) ts h
          ]) refl g

      on-inside : Rest ts → (kind : HeaderWord) → header_word t.text ≡ kind
          → Inner (inside_says w l (record { among = p.inside head words; depth = depth; declared = ds }) head words t kind)
          → Closing (header_word head.text) depth ds words (t ∷ ts)
      on-inside ih end_command e g = record {
        text = [];
        close = t;
        rest = ts;
        inside = tt;
        ends = end-seen t ∙ ap is_end_word e;
        fits = tt;
        spelled = refl;
        after = subst (λ xs. After (header_word head.text) depth ds xs ts) (sym (append-nil words)) (on-end ih (header_word head.text) g);
      }
      on-inside ih var e g = on-word ih (end-seen t ∙ ap is_end_word e) g
      on-inside ih scope e g = on-word ih (end-seen t ∙ ap is_end_word e) g
      on-inside ih upscope e g = on-word ih (end-seen t ∙ ap is_end_word e) g
      on-inside ih end_definitions e g = on-word ih (end-seen t ∙ ap is_end_word e) g
      on-inside ih other_command e g = on-word ih (end-seen t ∙ ap is_end_word e) g
      on-inside ih plain e g = on-word ih (end-seen t ∙ ap is_end_word e) g

  at-each : (ts : List Token) → Rest ts
  unfolding says
  at-each [] p.commands depth ds g = absurd (cc)
  at-each [] (p.inside head words) depth ds g = absurd (cc)
  at-each (t ∷ ts) p.commands depth ds g = on-start depth ds t ts (at-each ts) (header_word t.text) refl g
  at-each (t ∷ ts) (p.inside head words) depth ds g = on-inside depth ds t ts head words (at-each ts) (header_word t.text) refl g

  -- Tokens that are read into a body begin with a header.
  pub header-spelled : (ts : List Token) → InBody (goes w l (tale [] (at p.commands 0 [])) ts) → Parsed 0 [] ts
  header-spelled ts g = at-each ts p.commands 0 [] g
