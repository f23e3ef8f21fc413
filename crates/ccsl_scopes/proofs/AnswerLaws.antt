-- What a token of a header says, and what a reader answers.
use Rattle.std.proofs.Common.{◌≡◌, ◌⊎◌, inl, inr, ℕ, ◌+◌, ◌<◌, ◌≤◌, List, [], ◌∷◌, ◌++◌, length, Bool, true, false, nat_le, if◌then◌else◌, Option, Some, None}
use Rattle.std.proofs.Common.{Result, Ok, Err, refl, sym, ap, ap₂, subst, ◌∙◌, arith, length-append, append_assoc}
use Rattle.std.proofs.lemmas.List.{append-nil}
use Rattle.std.proofs.lemmas.Grind.{common_steps}
use Rattle.ccsl_vcd_lex.specs.Tokens.{Token}
use Rattle.ccsl_vcd.specs.declared.fault.VcdFault.{VcdFault}
use Rattle.ccsl_vcd.specs.declared.fault.VcdFault.TheVariants as faults
use Rattle.ccsl_vcd.specs.declared.limits.Limits.{Limits}
use Rattle.ccsl_vcd.specs.Places.{Among, commands, inside}
use Rattle.ccsl_scopes.specs.declared.command.HeaderWord.{HeaderWord}
use Rattle.ccsl_scopes.specs.declared.command.HeaderWord.TheVariants.{Var, Scope}
use Rattle.ccsl_scopes.specs.declared.reader.HeaderReader.{HeaderReader}
use Rattle.ccsl_scopes.specs.Headings.{Declared, Heading, Said, goes, over, refused, header_word, scope_name, codes_of, declares, word_fits, put_declared}
use Rattle.ccsl_scopes.specs.Headings.{starts, ends, inside_says, is_end, heading_says}
use Rattle.ccsl_scopes.specs.Standing.{scope_text, scope_begins, Holds, StandsIn, StandsBetween, Counts, Stands, Answers, Opens, Fits, Declares}
use Rattle.ccsl_scopes.proofs.VariableLaws.{same-length}
use Rattle.ccsl_base.proofs.Cases.{not-within}

is-below : (a b : ℕ) → b < a → nat_le a b ≡ false
is-below a b l = grind (arith, common_steps)

is-within : (a b : ℕ) → a ≤ b → nat_le a b ≡ true
is-within a b l = grind (arith, common_steps)

-- The begin of a command.

pub full-opens : (limits : Limits) (h : Heading) (t : Token) (r : HeaderReader) → nat_le limits.vars (length h.declared) ≡ true →
    Opens limits (starts limits h t Var) (Err (faults.TooManyVars t.at)) r
full-opens limits h t r e = subst
    (λ (w : Bool). Opens limits (if w then refused (faults.TooManyVars t.at) else goes (inside t []) h) (Err (faults.TooManyVars t.at)) r) (sym e)
    (inl refl)

pub var-opens : (limits : Limits) (h : Heading) (t : Token) (old : HeaderReader) → nat_le limits.vars (length h.declared) ≡ false →
    header_word t.text ≡ Var → StandsBetween limits h old →
    Opens limits (starts limits h t Var) (Ok tt) (record old { command = Some Var; head = t.at; words = 0 })
var-opens limits h t old e word s =
    subst (λ (w : Bool). Opens limits (if w then refused (faults.TooManyVars t.at) else goes (inside t []) h) (Ok tt)
    (record old { command = Some Var; head = t.at; words = 0 })) (sym e) (
      subst (λ (w : HeaderWord). StandsIn limits h w t [] (record old { command = Some Var; head = t.at; words = 0 })) (sym word) record {
        command = refl;
        head_is = refl;
        holds = record {
          limits_are = s.holds.limits_are;
          variables = s.holds.variables;
          codes = s.holds.codes;
          timescale_is = s.holds.timescale_is;
          scopes = s.holds.scopes;
          begins_are = s.holds.begins_are;
        };
        parts = (few, tt);
      },
      refl,
    )
  where
    few : length h.declared < limits.vars
    few = not-within limits.vars (length h.declared) e

-- whether there is room, by the limits and the variables that the reader has
pub is-full : (limits : Limits) (h : Heading) (old : HeaderReader) → StandsBetween limits h old →
    nat_le old.limits.vars (length old.header.variables.items) ≡ nat_le limits.vars (length h.declared)
is-full limits h old s =
    ap₂ nat_le (ap (λ (l : Limits). l.vars) s.holds.limits_are) (same-length (codes_of h.declared) h.declared old.header.variables.items s.holds.variables)

pub opens-refuses : (limits : Limits) (said : Said) (f : VcdFault) (r new : HeaderReader) → Opens limits said (Err f) r → Answers limits said (Err f) new
opens-refuses limits (goes among h) f r new s = s
opens-refuses limits (over h) f r new s = s
opens-refuses limits (refused g) f r new s = s

-- The end of a command.

closes : (limits : Limits) (h : Heading) (r : HeaderReader) → Holds limits h [] [] (codes_of h.declared) h.timescale r →
    StandsBetween limits h (record r { command = None })
closes limits h r s = record {
  command = refl;
  holds = record {
    limits_are = s.limits_are;
    variables = s.variables;
    codes = s.codes;
    timescale_is = s.timescale_is;
    scopes = s.scopes;
    begins_are = s.begins_are;
  };
}

pub declare-answers : (limits : Limits) (h : Heading) (t : Token) (o : Option Declared) (r new : HeaderReader) → Declares limits h t.at o (Ok tt) r →
    new ≡ record r { command = None } →
    Answers limits (put_declared h t o) (Ok false) new
declare-answers limits h t None r new d e = d
declare-answers limits h t (Some v) r new d e = (
  refl,
  subst (λ (x : HeaderReader). StandsBetween limits (record h { declared = h.declared ++ v ∷ [] }) x) (sym e)
      (closes limits (record h { declared = h.declared ++ v ∷ [] }) r d),
)

pub declare-refuses : (limits : Limits) (h : Heading) (t : Token) (o : Option Declared) (f : VcdFault) (r new : HeaderReader) →
    Declares limits h t.at o (Err f) r →
    Answers limits (put_declared h t o) (Err f) new
declare-refuses limits h t None f r new d = d
declare-refuses limits h t (Some v) f r new d = d

length-begins : (names : List (List ℕ)) → length (scope_begins names) ≡ length names
length-begins [] = refl
length-begins (name ∷ names) = omega (arith, length-append (scope_begins names) (length (scope_text names) ∷ []), length-begins names)

abbrev pub scope_says : Limits → Heading → Token → List Token → Bool → Said
scope_says limits h head words deep =
    if deep then refused (faults.TooDeep head.at) else goes commands (record h { scopes = scope_name words ∷ h.scopes })

module _ (limits : Limits) (h : Heading) (head : Token) (words : List Token) (t : Token) (old : HeaderReader) (s : StandsIn limits h Scope head words old) where
  depth : length old.begins.items ≡ length h.scopes + 1
  depth = omega (arith, ap length s.holds.begins_are, length-append (scope_begins h.scopes) (length (scope_text h.scopes) ∷ []), length-begins h.scopes)

  room : old.limits.scopes ≡ limits.scopes
  room = ap (λ (l : Limits). l.scopes) s.holds.limits_are

  pub scope-answers : (mid new : HeaderReader) → length old.begins.items ≤ old.limits.scopes → mid.scopes.items ≡ old.scopes.items ++ 32 ∷ [] →
      mid ≡ record old { scopes = mid.scopes } → new ≡ record mid { command = None } → Answers limits (ends limits h Scope head words t) (Ok false) new
  scope-answers mid new fits name kept closed =
      subst (λ (w : Bool). Answers limits (scope_says limits h head words w) (Ok false) new) (sym shallow)
      (refl, subst (λ (x : HeaderReader). StandsBetween limits inner x) (sym (closed ∙ ap (λ (x : HeaderReader). record x { command = None }) kept)) stands)
    where
      inner : Heading
      inner = record h { scopes = scope_name words ∷ h.scopes }

      shallow : nat_le limits.scopes (length h.scopes) ≡ false
      shallow = is-below limits.scopes (length h.scopes) (omega (arith, fits, depth, room))

      stands : StandsBetween limits (record h { scopes = scope_name words ∷ h.scopes }) (record old { scopes = mid.scopes; command = None })
      stands = record {
        command = refl;
        holds = record {
          limits_are = s.holds.limits_are;
          variables = s.holds.variables;
          codes = s.holds.codes;
          timescale_is = s.holds.timescale_is;
          scopes =
              name ∙ ap (λ x. x ++ 32 ∷ []) s.holds.scopes ∙ append_assoc (scope_text h.scopes) (scope_name words) (32 ∷ [])
              ∙ sym (append-nil (scope_text h.scopes ++ (scope_name words ++ 32 ∷ [])));
          begins_are = s.holds.begins_are ∙ sym (append-nil (scope_begins h.scopes ++ length (scope_text h.scopes) ∷ []));
        };
      }

  pub scope-refuses : (f : VcdFault) (new : HeaderReader) →
      (f ≡ faults.Memory) ⊎ ((f ≡ faults.TooDeep old.head) × (old.limits.scopes < length old.begins.items)) →
      Answers limits (ends limits h Scope head words t) (Err f) new
  scope-refuses f new (inl e) = any (nat_le limits.scopes (length h.scopes))
    where
      any : (w : Bool) → Answers limits (scope_says limits h head words w) (Err f) new
      any true = inr e
      any false = e
  scope-refuses f new (inr (e, far)) =
      subst (λ (w : Bool). Answers limits (scope_says limits h head words w) (Err f) new)
      (sym (is-within limits.scopes (length h.scopes) (omega (arith, far, depth, room))))
      (inl (e ∙ ap (λ at. faults.TooDeep at) s.head_is))

-- A token inside a command that does not end it.

abbrev pub fits_says : Token → Heading → List Token → Token → Bool → Said
fits_says head h words t w = if w then goes (inside head (words ++ t ∷ [])) h else refused (faults.BadHeader t.at)

pub fits-answers : (limits : Limits) (h : Heading) (head : Token) (words : List Token) (t : Token) (w : Bool) (r : HeaderReader) →
    Fits w limits h (header_word head.text) head words t (Ok tt) r →
    Answers limits (fits_says head h words t w) (Ok false) r
fits-answers limits h head words t true r s = (refl, s)
fits-answers limits h head words t false r s = s

pub fits-refuses : (limits : Limits) (h : Heading) (head : Token) (words : List Token) (t : Token) (w : Bool) (f : VcdFault) (r new : HeaderReader) →
    Fits w limits h (header_word head.text) head words t (Err f) r → Answers limits (fits_says head h words t w) (Err f) new
fits-refuses limits h head words t true f r new s = s
fits-refuses limits h head words t false f r new s = s

-- The end of a declaration, by the word that is open.

pub var-end-refuses : (limits : Limits) (h : Heading) (w : HeaderWord) (head : Token) (words : List Token) (t : Token) (f : VcdFault)
    (old mid : HeaderReader) (result : Result Bool VcdFault) →
    w ≡ Var → result ≡ Err f → (StandsIn limits h Var head words old → Counts words old → Declares limits h t.at (declares h.scopes words) (Err f) mid) →
    StandsIn limits h w head words old → Counts words old → Answers limits (ends limits h w head words t) result mid
var-end-refuses limits h w head words t f old mid result is e declare s n =
    subst (λ x. Answers limits (ends limits h w head words t) x mid) (sym e)
    (subst (λ v. Answers limits (ends limits h v head words t) (Err f) mid) (sym is)
    (declare-refuses limits h t (declares h.scopes words) f mid mid (declare (subst (λ v. StandsIn limits h v head words old) is s) n)))

pub var-end-answers : (limits : Limits) (h : Heading) (w : HeaderWord) (head : Token) (words : List Token) (t : Token) (ended : Bool)
    (old mid new : HeaderReader) →
    w ≡ Var → ended ≡ false → new ≡ record mid { command = None } →
    (StandsIn limits h Var head words old → Counts words old → Declares limits h t.at (declares h.scopes words) (Ok tt) mid) →
    StandsIn limits h w head words old → Counts words old → Answers limits (ends limits h w head words t) (Ok ended) new
var-end-answers limits h w head words t ended old mid new is e closed declare s n =
    subst (λ x. Answers limits (ends limits h w head words t) (Ok x) new) (sym e)
    (subst (λ v. Answers limits (ends limits h v head words t) (Ok false) new) (sym is)
    (declare-answers limits h t (declares h.scopes words) mid new (declare (subst (λ v. StandsIn limits h v head words old) is s) n) closed))

-- The end of a scope's name, by the word that is open.

pub scope-end-refuses : (limits : Limits) (h : Heading) (w : HeaderWord) (head : Token) (words : List Token) (t : Token) (f : VcdFault)
    (old mid : HeaderReader) (result : Result Bool VcdFault) →
    w ≡ Scope → result ≡ Err f → (f ≡ faults.Memory) ⊎ ((f ≡ faults.TooDeep old.head) × (old.limits.scopes < length old.begins.items)) →
    StandsIn limits h w head words old → Answers limits (ends limits h w head words t) result mid
scope-end-refuses limits h w head words t f old mid result is e why s =
    subst (λ x. Answers limits (ends limits h w head words t) x mid) (sym e)
    (subst (λ v. Answers limits (ends limits h v head words t) (Err f) mid) (sym is)
    (scope-refuses limits h head words t old (subst (λ v. StandsIn limits h v head words old) is s) f mid why))

pub scope-end-answers : (limits : Limits) (h : Heading) (w : HeaderWord) (head : Token) (words : List Token) (t : Token) (ended : Bool)
    (old mid new : HeaderReader) →
    w ≡ Scope → ended ≡ false → length old.begins.items ≤ old.limits.scopes → mid.scopes.items ≡ old.scopes.items ++ 32 ∷ [] →
    mid ≡ record old { scopes = mid.scopes } → new ≡ record mid { command = None } →
    StandsIn limits h w head words old → Answers limits (ends limits h w head words t) (Ok ended) new
scope-end-answers limits h w head words t ended old mid new is e fits name kept closed s =
    subst (λ x. Answers limits (ends limits h w head words t) (Ok x) new) (sym e)
    (subst (λ v. Answers limits (ends limits h v head words t) (Ok false) new) (sym is)
    (scope-answers limits h head words t old (subst (λ v. StandsIn limits h v head words old) is s) mid new fits name kept closed))

-- A token that is heard, by whether a command is open.

pub start-refuses : (limits : Limits) (h : Heading) (t : Token) (f : VcdFault) (old mid : HeaderReader) (result : Result Bool VcdFault) →
    old.command ≡ None → result ≡ Err f →
    (StandsBetween limits h old → Opens limits (starts limits h t (header_word t.text)) (Err f) mid) →
    (among : Among) → Stands limits h among old → Answers limits (heading_says limits h t among) result mid
start-refuses limits h t f old mid result between e opens commands s =
    subst (λ x. Answers limits (starts limits h t (header_word t.text)) x mid) (sym e)
    (opens-refuses limits (starts limits h t (header_word t.text)) f mid mid (opens s))
start-refuses limits h t f old mid result between e opens (inside head words) s = absurd (let c = s.0.command in cc)

module _ (limits : Limits) (h : Heading) (t : Token) (word : HeaderWord) (old mid : HeaderReader) (within : old.command ≡ Some word)
    (going : is_end t ≡ false) where
  same-word : (head : Token) (words : List Token) → StandsIn limits h (header_word head.text) head words old → header_word head.text ≡ word
  same-word head words s = let c : old.command ≡ Some (header_word head.text) = s.command in cc

  pub inside-refuses : (f : VcdFault) (result : Result Bool VcdFault) → result ≡ Err f →
      ((head : Token) (words : List Token) → StandsIn limits h word head words old → Counts words old → Fits (word_fits word words t) limits h word head
      words t (Err f) mid) →
      (among : Among) → Stands limits h among old → Answers limits (heading_says limits h t among) result mid
  inside-refuses f result e fits commands s = absurd (let c : old.command ≡ None = s.command in cc)
  inside-refuses f result e fits (inside head words) s =
      let is : header_word head.text ≡ word = same-word head words s.0 in
      subst (λ x. Answers limits (heading_says limits h t (inside head words)) x mid) (sym e)
      (subst (λ b. Answers limits (inside_says limits h (header_word head.text) head words t b) (Err f) mid) (sym going)
      (fits-refuses limits h head words t (word_fits (header_word head.text) words t) f mid mid
      (subst (λ v. Fits (word_fits v words t) limits h v head words t (Err f) mid) (sym is)
      (fits head words (subst (λ v. StandsIn limits h v head words old) is s.0) s.1))))

  pub inside-answers : ((head : Token) (words : List Token) → StandsIn limits h word head words old → Counts words old → Fits (word_fits word words t)
      limits h word head words t (Ok tt) mid) →
      (among : Among) → Stands limits h among old → Answers limits (heading_says limits h t among) (Ok false) mid
  inside-answers fits commands s = absurd (let c : old.command ≡ None = s.command in cc)
  inside-answers fits (inside head words) s =
      let is : header_word head.text ≡ word = same-word head words s.0 in
      subst (λ b. Answers limits (inside_says limits h (header_word head.text) head words t b) (Ok false) mid) (sym going)
      (fits-answers limits h head words t (word_fits (header_word head.text) words t) mid
      (subst (λ v. Fits (word_fits v words t) limits h v head words t (Ok tt) mid) (sym is)
      (fits head words (subst (λ v. StandsIn limits h v head words old) is s.0) s.1)))
