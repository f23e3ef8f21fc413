-- What is kept of a header, token by token.
use Rattle.std.proofs.Common.{◌≡◌, ℕ, ◌+◌, ◌-◌, List, [], ◌∷◌, ◌++◌, length, take, drop, Bool, true, false, Some, None, Result, Ok, Err, nat_le, cond}
use Rattle.std.proofs.Common.{◌&&◌, refl, sym, ap, ◌∙◌, append_assoc, arith, subst, length-append}
use Rattle.std.specs.Prelude.{bytes_eq, codes, flat_map, is_some, unwrap_or}
use Rattle.std.proofs.lemmas.List.{append-nil}
use Rattle.std.proofs.lemmas.Grind.{common_steps}
use Rattle.std.proofs.Math.Seq.{take-append_seam, drop-append_seam}
use Rattle.ccsl_vcd_lex.specs.Tokens.{Token, token, word}
use Rattle.ccsl_vcd.specs.declared.fault.VcdFault.{VcdFault}
use Rattle.ccsl_vcd.specs.declared.fault.VcdFault.TheVariants as faults
use Rattle.ccsl_vcd.specs.declared.limits.Limits.{Limits}
use Rattle.ccsl_vcd.specs.Binding.{Declaration, Wanted, bind}
use Rattle.ccsl_vcd.specs.Places as p
use Rattle.ccsl_vcd.specs.Header as d
use Rattle.ccsl_vcd.specs.Reading.{Story, next, says, told}
use Rattle.ccsl_bind.specs.Gathered.{StandsFor}
use Rattle.ccsl_vcd_read.specs.declared.command.Command.{Command}
use Rattle.ccsl_vcd_read.specs.declared.command.Command.TheVariants.{Between, Kind, Size, Code, Reference, More, Scope, Upscope, EndDefinitions, Other}
use Rattle.ccsl_vcd_read.specs.declared.heading.Heading.{Heading}
use Rattle.ccsl_vcd_read.specs.Heading.{start_of, put_size, size_in, code_in, word_in, end_in, reference_in, declared_in, InVar, InOther, InScope, SizeNext}
use Rattle.ccsl_vcd_read.specs.Heading.{CodeNext, ReferenceNext, MoreNext, Stands, header_of, opening, HeadShows, Closes, Refuses, Caused, Becomes}
use Rattle.ccsl_base.proofs.Cases.{not-within}

abbrev pub HeadHears : Wanted → Limits → Story → Story → Result Heading VcdFault → Type 0
HeadHears wanted limits st next (Ok h) = HeadShows wanted limits h next
HeadHears wanted limits st next (Err f) = Refuses f st next

-- what a token says behind declarations, which are none yet
abbrev pub says_at : p.Header → p.Said → Story
says_at hd said = told [] (p.header hd) said

refuses : (hd : p.Header) (f : VcdFault) → Refuses f (opening hd) (says_at hd (p.refused f))
refuses hd f = record { fault = refl; place = refl; rows = refl }

-- A token in a command's place.

module _ (wanted : Wanted) (limits : Limits) (h : Heading) (ds : List Declaration) (at : ℕ) (text : List ℕ) (binds : StandsFor wanted h.binder ds)
    (vars : h.vars ≡ length ds) where
  abbrev place : p.Header
  place = header_of h p.commands ds

  opens-var : d.header_word text ≡ d.var
      → HeadHears wanted limits (opening place) (says_at place (d.starts limits place (token at text) d.var)) (start_of limits h at d.var)
  opens-var e =
      rw (← vars) ((elim (nat_le limits.vars h.vars) as (λ v. nat_le limits.vars h.vars ≡ v → HeadHears wanted limits (opening place)
      (says_at place (cond v (p.refused (faults.TooManyVars at)) (p.goes (p.header (record place { among = p.inside (token at text) [] })) [])))
      (cond v (Err (faults.TooManyVars at)) (Ok (record h { command = Kind })))) [
        | true ↦ λ _. refuses place (faults.TooManyVars at)
        | false ↦ λ g. record {
          among = p.inside (token at text) [];
          declared = ds;
          told = refl;
          binds = binds;
          vars = vars;
          stands = record { head = token at text; inside = refl; is_var = e; few = not-within limits.vars h.vars g };
        }
      ]) refl)

  opens-other : (w : d.HeaderWord) (c : Command) → d.header_word text ≡ w → Stands limits (record h { command = c }) (p.inside (token at text) []) c
      → HeadShows wanted limits (record h { command = c }) (says_at place (p.goes (p.header (record place { among = p.inside (token at text) [] })) []))
  opens-other w c e s = record { among = p.inside (token at text) []; declared = ds; told = refl; binds = binds; vars = vars; stands = s }

  other-head : (w : d.HeaderWord) → d.header_word text ≡ w → InOther (p.inside (token at text) []) w
  other-head w e = record { head = token at text; words = []; inside = refl; is_word = e }

  starts-at : (w : d.HeaderWord) → d.header_word text ≡ w
      → HeadHears wanted limits (opening place) (says_at place (d.starts limits place (token at text) w)) (start_of limits h at w)
  unfolding other-head
  starts-at d.var e = opens-var e
  starts-at d.scope e = opens-other d.scope (Scope at) e (record { opened = other-head d.scope e; place = refl })
  starts-at d.upscope e = opens-other d.upscope Upscope e (other-head d.upscope e)
  starts-at d.end_definitions e = opens-other d.end_definitions EndDefinitions e (other-head d.end_definitions e)
  starts-at d.other_command e = opens-other d.other_command Other e (other-head d.other_command e)
  starts-at d.end_command e = refuses place (faults.BadHeader at)
  starts-at d.plain e = refuses place (faults.BadHeader at)

pub starts : (wanted : Wanted) (limits : Limits) (h : Heading) (st : Story) (at : ℕ) (text : List ℕ) (s : HeadShows wanted limits h st) → h.command ≡ Between
    → HeadHears wanted limits st (next wanted limits st (word (token at text))) (start_of limits h at (d.header_word text))
unfolding says
starts wanted limits h st at text s e =
    let a : s.among ≡ p.commands = subst (Stands limits h s.among) e s.stands in
    let t : st ≡ opening (header_of h p.commands s.declared) = s.told ∙ ap (λ x. opening (header_of h x s.declared)) a in
    subst (λ (x : Story). HeadHears wanted limits x (next wanted limits x (word (token at text))) (start_of limits h at (d.header_word text))) (sym t)
    (starts-at wanted limits h s.declared at text s.binds s.vars (d.header_word text) refl)

-- A token inside a command that is not its end.

abbrev pub NotEnd : d.HeaderWord → Type 0
NotEnd d.end_command = ⊥
NotEnd d.var = Unit {0}
NotEnd d.scope = Unit {0}
NotEnd d.upscope = Unit {0}
NotEnd d.end_definitions = Unit {0}
NotEnd d.other_command = Unit {0}
NotEnd d.plain = Unit {0}

pub not-end : (text : List ℕ) → bytes_eq text (codes "$end") ≡ false → NotEnd (d.header_word text)
not-end text e = rw e (go (bytes_eq text (codes "$var")) (bytes_eq text (codes "$scope")) (bytes_eq text (codes "$upscope"))
    (bytes_eq text (codes "$enddefinitions")) (d.begins_command text))
  where
    go : (a b c f g : Bool) → NotEnd (cond a d.var (cond b d.scope (cond c d.upscope (cond f d.end_definitions (cond g d.other_command d.plain)))))
    go true b c f g = tt
    go false true c f g = tt
    go false false true f g = tt
    go false false false true g = tt
    go false false false false true = tt
    go false false false false false = tt

inside-goes : (wanted : Wanted) (limits : Limits) (hd : p.Header) (head : Token) (words : List Token) (t : Token) (w : d.HeaderWord) → NotEnd w
    → d.inside_says wanted limits hd head words t w ≡ cond (d.word_fits (d.header_word head.text) words t)
    (p.goes (p.header (record hd { among = p.inside head (words ++ t ∷ []) })) []) (p.refused (faults.BadHeader t.at))
inside-goes wanted limits hd head words t d.end_command n = absurd n
inside-goes wanted limits hd head words t d.var n = refl
inside-goes wanted limits hd head words t d.scope n = refl
inside-goes wanted limits hd head words t d.upscope n = refl
inside-goes wanted limits hd head words t d.end_definitions n = refl
inside-goes wanted limits hd head words t d.other_command n = refl
inside-goes wanted limits hd head words t d.plain n = refl

inside-fits : (wanted : Wanted) (limits : Limits) (hd : p.Header) (head : Token) (words : List Token) (t : Token) → NotEnd (d.header_word t.text)
    → d.word_fits (d.header_word head.text) words t ≡ true
    → d.inside_says wanted limits hd head words t (d.header_word t.text) ≡ p.goes (p.header (record hd { among = p.inside head (words ++ t ∷ []) })) []
inside-fits wanted limits hd head words t n e =
    inside-goes wanted limits hd head words t (d.header_word t.text) n
    ∙ ap (λ v. cond v (p.goes (p.header (record hd { among = p.inside head (words ++ t ∷ []) })) []) (p.refused (faults.BadHeader t.at))) e

inside-fits-not : (wanted : Wanted) (limits : Limits) (hd : p.Header) (head : Token) (words : List Token) (t : Token) → NotEnd (d.header_word t.text)
    → d.word_fits (d.header_word head.text) words t ≡ false
    → d.inside_says wanted limits hd head words t (d.header_word t.text) ≡ p.refused (faults.BadHeader t.at)
inside-fits-not wanted limits hd head words t n e =
    inside-goes wanted limits hd head words t (d.header_word t.text) n
    ∙ ap (λ v. cond v (p.goes (p.header (record hd { among = p.inside head (words ++ t ∷ []) })) []) (p.refused (faults.BadHeader t.at))) e

abbrev texts_of : List Token → List ℕ
texts_of ts = flat_map (λ t. t.text) ts

join-more : (ts : List Token) (t : Token) → texts_of (ts ++ t ∷ []) ≡ texts_of ts ++ t.text
join-more [] t = append-nil t.text
join-more (u ∷ ts) t = ap (λ xs. u.text ++ xs) (join-more ts t) ∙ sym (append_assoc u.text (texts_of ts) t.text)

module _ (wanted : Wanted) (limits : Limits) (h : Heading) (ds : List Declaration) (at : ℕ) (text : List ℕ) (binds : StandsFor wanted h.binder ds)
    (vars : h.vars ≡ length ds) (n : NotEnd (d.header_word text)) where
  abbrev this : Token
  this = token at text

  abbrev among_at : p.Among → p.Header
  among_at a = header_of h a ds

  -- what is said there
  abbrev Said : p.Among → Story
  Said a = says_at (among_at a) (d.header_says wanted limits (among_at a) this a)

  -- it fits, or does not
  fits : (head : Token) (words : List Token) (g : Heading) → d.word_fits (d.header_word head.text) words this ≡ true → g.depth ≡ h.depth → g.binder ≡ h.binder
      → g.vars ≡ h.vars
      → Stands limits g (p.inside head (words ++ this ∷ [])) g.command → HeadShows wanted limits g (Said (p.inside head words))
  fits head words g w e1 e2 e3 s = record {
    among = p.inside head (words ++ this ∷ []);
    declared = ds;
    told = ap (says_at (among_at (p.inside head words))) (inside-fits wanted limits (among_at (p.inside head words)) head words this n w)
        ∙ ap (λ x. opening (record { among = p.inside head (words ++ this ∷ []); depth = x; declared = ds })) (sym e1);
    binds = subst (λ x. StandsFor wanted x ds) (sym e2) binds;
    vars = e3 ∙ vars;
    stands = s;
  }

  fits-not : (head : Token) (words : List Token) → d.word_fits (d.header_word head.text) words this ≡ false
      → Refuses (faults.BadHeader at) (opening (among_at (p.inside head words))) (Said (p.inside head words))
  fits-not head words w =
      let e = inside-fits-not wanted limits (among_at (p.inside head words)) head words this n w in
      subst (λ x. Refuses (faults.BadHeader at) (opening (among_at (p.inside head words))) (says_at (among_at (p.inside head words)) x)) (sym e)
      (refuses (among_at (p.inside head words)) (faults.BadHeader at))

  -- whether a word fits hangs on the command's head
  by-head : (head : Token) (words : List Token) (w : d.HeaderWord) (v : Bool) → d.header_word head.text ≡ w → d.word_fits w words this ≡ v
      → d.word_fits (d.header_word head.text) words this ≡ v
  by-head head words w v e f = ap (λ x. d.word_fits x words this) e ∙ f

  abbrev Hears : p.Among → Result Heading VcdFault → Type 0
  Hears a r = HeadHears wanted limits (opening (among_at a)) (Said a) r

  at-among : (a b : p.Among) (r : Result Heading VcdFault) → a ≡ b → Hears b r → Hears a r
  at-among a b r e x = subst (λ z. Hears z r) (sym e) x

  other-word : (a : p.Among) (w : d.HeaderWord) → ((words : List Token) → d.word_fits w words this ≡ true) → (o : InOther a w)
      → Stands limits h (p.inside o.head (o.words ++ this ∷ [])) h.command → Hears a (Ok h)
  other-word a w f o s =
      at-among a (p.inside o.head o.words) (Ok h) o.inside (fits o.head o.words h (by-head o.head o.words w true o.is_word (f o.words)) refl refl refl s)

  still : (w : d.HeaderWord) (a : p.Among) (o : InOther a w) → InOther (p.inside o.head (o.words ++ this ∷ [])) w
  still w a o = record { head = o.head; words = o.words ++ this ∷ []; inside = refl; is_word = o.is_word }

  kind-word : (a : p.Among) → InVar limits h a [] → Hears a (word_in h at text Kind)
  kind-word a o =
      at-among a (p.inside o.head []) (word_in h at text Kind) o.inside
      (fits o.head [] (record h { kind = text; command = Size }) (by-head o.head [] d.var true o.is_var refl) refl refl refl
      (record { kind = this; opened = record { head = o.head; inside = refl; is_var = o.is_var; few = o.few }; kind_is = refl }))

  size-word : (a : p.Among) → SizeNext limits h a → Hears a (size_in h at text)
  size-word a s =
      at-among a (p.inside s.opened.head (s.kind ∷ [])) (size_in h at text) s.opened.inside
      ((elim (d.size_of text) as (λ o. d.size_of text ≡ o → Hears (p.inside s.opened.head (s.kind ∷ [])) (put_size h at o)) [
        | None ↦ λ e. fits-not s.opened.head (s.kind ∷ []) (by-head s.opened.head (s.kind ∷ []) d.var false s.opened.is_var (ap is_some e))
        | Some m ↦ λ e. fits s.opened.head (s.kind ∷ []) (record h { size = m; command = Code })
            (by-head s.opened.head (s.kind ∷ []) d.var true s.opened.is_var (ap is_some e)) refl refl refl
            (record {
              kind = s.kind;
              size = this;
              opened =
                  record { head = s.opened.head; inside = refl; is_var = s.opened.is_var; few = s.opened.few };
              kind_is = s.kind_is;
              size_is = e;
            })
      ]) refl)

  code-word : (a : p.Among) → CodeNext limits h a → Hears a (code_in h at text)
  code-word a s =
      at-among a (p.inside s.opened.head (s.kind ∷ s.size ∷ [])) (code_in h at text) s.opened.inside
      ((elim (d.is_code text) as (λ v. d.is_code text ≡ v
      → Hears (p.inside s.opened.head (s.kind ∷ s.size ∷ [])) (cond v (Ok (record h { code = text; command = Reference })) (Err (faults.BadHeader at)))) [
        | true ↦ λ e. fits s.opened.head (s.kind ∷ s.size ∷ []) (record h { code = text; command = Reference })
            (by-head s.opened.head (s.kind ∷ s.size ∷ []) d.var true s.opened.is_var e) refl refl refl
            (record {
              kind = s.kind;
              size = s.size;
              code = this;
              opened =
                  record { head = s.opened.head; inside = refl; is_var = s.opened.is_var; few = s.opened.few };
              kind_is = s.kind_is;
              size_is =
                  s.size_is;
              code_is = refl;
            })
        | false ↦ λ e. fits-not s.opened.head (s.kind ∷ s.size ∷ []) (by-head s.opened.head (s.kind ∷ s.size ∷ []) d.var false s.opened.is_var e)
      ]) refl)

  reference-word : (a : p.Among) → ReferenceNext limits h a → Hears a (word_in h at text Reference)
  reference-word a s =
      at-among a (p.inside s.opened.head (s.kind ∷ s.size ∷ s.code ∷ [])) (word_in h at text Reference) s.opened.inside
      (fits s.opened.head (s.kind ∷ s.size ∷ s.code ∷ []) (record h { reference = text; first = length text; command = More })
      (by-head s.opened.head (s.kind ∷ s.size ∷ s.code ∷ []) d.var true s.opened.is_var refl) refl refl refl
      (record {
        kind = s.kind;
        size = s.size;
        code = s.code;
        first = this;
        more = [];
        opened = record { head = s.opened.head; inside = refl; is_var = s.opened.is_var; few = s.opened.few };
        kind_is = s.kind_is;
        size_is = s.size_is;
        code_is = s.code_is;
        reference_is = sym (append-nil text);
        first_is = refl;
      }))

  more-word : (a : p.Among) → MoreNext limits h a → h.command ≡ More → Hears a (word_in h at text More)
  more-word a s e =
      at-among a (p.inside s.opened.head (s.kind ∷ s.size ∷ s.code ∷ s.first ∷ s.more)) (word_in h at text More) s.opened.inside
      (fits s.opened.head (s.kind ∷ s.size ∷ s.code ∷ s.first ∷ s.more) (record h { reference = h.reference ++ text })
      (by-head s.opened.head (s.kind ∷ s.size ∷ s.code ∷ s.first ∷ s.more) d.var true s.opened.is_var refl) refl refl refl
      (subst (Stands limits (record h { reference = h.reference ++ text })
      (p.inside s.opened.head (s.kind ∷ s.size ∷ s.code ∷ s.first ∷ (s.more ++ this ∷ [])))) (sym e) (record {
        kind = s.kind;
        size = s.size;
        code = s.code;
        first = s.first;
        more = s.more ++ this ∷ [];
        opened = record { head = s.opened.head; inside = refl; is_var = s.opened.is_var; few = s.opened.few };
        kind_is = s.kind_is;
        size_is = s.size_is;
        code_is = s.code_is;
        reference_is = ap (λ xs. xs ++ text) s.reference_is ∙ sym (join-more (s.first ∷ s.more) this);
        first_is = s.first_is;
      })))

  words-at : (a : p.Among) (c : Command) → h.command ≡ c → (c ≡ Between → ⊥) → Stands limits h a c → Hears a (word_in h at text c)
  unfolding still
  words-at a Between e k s = absurd (k refl)
  words-at a Kind e k s = kind-word a s
  words-at a Size e k s = size-word a s
  words-at a Code e k s = code-word a s
  words-at a Reference e k s = reference-word a s
  words-at a More e k s = more-word a s e
  words-at a (Scope head) e k s =
      other-word a d.scope (λ ws. refl) s.opened
      (subst (Stands limits h (p.inside s.opened.head (s.opened.words ++ this ∷ []))) (sym e)
      (record { opened = still d.scope a s.opened; place = s.place }))
  words-at a Upscope e k s =
      other-word a d.upscope (λ ws. refl) s (subst (Stands limits h (p.inside s.head (s.words ++ this ∷ []))) (sym e) (still d.upscope a s))
  words-at a EndDefinitions e k s =
      other-word a d.end_definitions (λ ws. refl) s (subst (Stands limits h (p.inside s.head (s.words ++ this ∷ []))) (sym e) (still d.end_definitions a s))
  words-at a Other e k s =
      other-word a d.other_command (λ ws. refl) s (subst (Stands limits h (p.inside s.head (s.words ++ this ∷ []))) (sym e) (still d.other_command a s))

pub words : (wanted : Wanted) (limits : Limits) (h : Heading) (st : Story) (at : ℕ) (text : List ℕ) (s : HeadShows wanted limits h st)
    → (h.command ≡ Between → ⊥) → bytes_eq text (codes "$end") ≡ false
    → HeadHears wanted limits st (next wanted limits st (word (token at text))) (word_in h at text h.command)
unfolding says
words wanted limits h st at text s k e =
    subst (λ (x : Story). HeadHears wanted limits x (next wanted limits x (word (token at text))) (word_in h at text h.command)) (sym s.told)
    (words-at wanted limits h s.declared at text s.binds s.vars (not-end text e) s.among h.command refl k s.stands)

-- The end of a command.

module _ (wanted : Wanted) (limits : Limits) (h : Heading) (ds : List Declaration) (at : ℕ) (text : List ℕ) (binds : StandsFor wanted h.binder ds)
    (vars : h.vars ≡ length ds) (n : d.header_word text ≡ d.end_command) where
  abbrev here : Token
  here = token at text

  abbrev placed : p.Among → p.Header
  placed a = header_of h a ds

  abbrev Ended : p.Among → Story
  Ended a = says_at (placed a) (d.header_says wanted limits (placed a) here a)

  -- the end of the command that a token began, behind others
  ended : (head : Token) (words : List Token) (w : d.HeaderWord) → d.header_word head.text ≡ w
      → Ended (p.inside head words) ≡ says_at (placed (p.inside head words)) (d.ends wanted limits (placed (p.inside head words)) w head words here)
  ended head words w e =
      ap (λ x. says_at (placed (p.inside head words)) (d.inside_says wanted limits (placed (p.inside head words)) head words here x)) n
      ∙ ap (λ x. says_at (placed (p.inside head words)) (d.ends wanted limits (placed (p.inside head words)) x head words here)) e

  closed : (g : Heading) → g.binder ≡ h.binder → g.vars ≡ h.vars → g.command ≡ Between
      → HeadShows wanted limits g (opening (record { among = p.commands; depth = g.depth; declared = ds }))
  closed g e1 e2 e3 = record {
    among = p.commands;
    declared = ds;
    told = refl;
    binds = subst (λ x. StandsFor wanted x ds) (sym e1) binds;
    vars = e2 ∙ vars;
    stands = subst (Stands limits g p.commands) (sym e3) refl;
  }

  abbrev EndHears : p.Among → Result Heading VcdFault → Type 0
  EndHears a r = HeadHears wanted limits (opening (placed a)) (Ended a) r

  at-end-of : (a : p.Among) (head : Token) (words : List Token) (w : d.HeaderWord) (r : Result Heading VcdFault) → a ≡ p.inside head words
      → d.header_word head.text ≡ w
      → HeadHears wanted limits (opening (placed (p.inside head words)))
      (says_at (placed (p.inside head words)) (d.ends wanted limits (placed (p.inside head words)) w head words here)) r → EndHears a r
  at-end-of a head words w r e f x =
      subst (λ z. EndHears z r) (sym e) (subst (λ y. HeadHears wanted limits (opening (placed (p.inside head words))) y r) (sym (ended head words w f)) x)

  -- a declaration that has fewer than four words
  too-few : (a : p.Among) (words : List Token) → InVar limits h a words → d.declares h.depth words ≡ None → EndHears a (Err (faults.BadHeader at))
  too-few a words o e =
      at-end-of a o.head words d.var (Err (faults.BadHeader at)) o.inside o.is_var
      (subst (λ x. Refuses (faults.BadHeader at) (opening (placed (p.inside o.head words)))
      (says_at (placed (p.inside o.head words)) (d.put_declared (placed (p.inside o.head words)) here x))) (sym e)
      (refuses (placed (p.inside o.head words)) (faults.BadHeader at)))

  end-scope : (a : p.Among) (place : ℕ) → InScope a place → EndHears a (end_in limits h at (Scope place))
  end-scope a place s =
      at-end-of a s.opened.head s.opened.words d.scope (end_in limits h at (Scope place)) s.opened.inside s.opened.is_word
      (elim (nat_le limits.scopes h.depth) as (λ v. HeadHears wanted limits (opening (placed (p.inside s.opened.head s.opened.words)))
      (says_at (placed (p.inside s.opened.head s.opened.words))
      (cond v (p.refused (faults.TooDeep s.opened.head.at))
      (p.goes (p.header (record (placed (p.inside s.opened.head s.opened.words)) { among = p.commands; depth = h.depth + 1 })) [])))
      (cond v (Err (faults.TooDeep place)) (Ok (record h { depth = h.depth + 1; command = Between })))) [
        | true ↦ subst (λ x. Refuses (faults.TooDeep x) (opening (placed (p.inside s.opened.head s.opened.words)))
            (says_at (placed (p.inside s.opened.head s.opened.words)) (p.refused (faults.TooDeep s.opened.head.at)))) s.place
            (refuses (placed (p.inside s.opened.head s.opened.words)) (faults.TooDeep s.opened.head.at))
        | false ↦ closed (record h { depth = h.depth + 1; command = Between }) refl refl refl
      ])

  ends-at : (a : p.Among) (c : Command) → (c ≡ Between → ⊥) → (c ≡ More → ⊥) → (c ≡ EndDefinitions → ⊥) → Stands limits h a c
      → EndHears a (end_in limits h at c)
  ends-at a Between k l m s = absurd (k refl)
  ends-at a More k l m s = absurd (l refl)
  ends-at a EndDefinitions k l m s = absurd (m refl)
  ends-at a Kind k l m s = too-few a [] s refl
  ends-at a Size k l m s = too-few a (s.kind ∷ []) s.opened refl
  ends-at a Code k l m s = too-few a (s.kind ∷ s.size ∷ []) s.opened refl
  ends-at a Reference k l m s = too-few a (s.kind ∷ s.size ∷ s.code ∷ []) s.opened refl
  ends-at a (Scope place) k l m s = end-scope a place s
  ends-at a Upscope k l m s =
      at-end-of a s.head s.words d.upscope (end_in limits h at Upscope) s.inside s.is_word
      (closed (record h { depth = h.depth - 1; command = Between }) refl refl refl)
  ends-at a Other k l m s =
      at-end-of a s.head s.words d.other_command (end_in limits h at Other) s.inside s.is_word (closed (record h { command = Between }) refl refl refl)

pub ends : (wanted : Wanted) (limits : Limits) (h : Heading) (st : Story) (at : ℕ) (text : List ℕ) (s : HeadShows wanted limits h st)
    → (h.command ≡ Between → ⊥) → (h.command ≡ More → ⊥) → (h.command ≡ EndDefinitions → ⊥)
    → d.header_word text ≡ d.end_command → HeadHears wanted limits st (next wanted limits st (word (token at text))) (end_in limits h at h.command)
unfolding says
ends wanted limits h st at text s k l m e =
    subst (λ (x : Story). HeadHears wanted limits x (next wanted limits x (word (token at text))) (end_in limits h at h.command)) (sym s.told)
    (ends-at wanted limits h s.declared at text s.binds s.vars e s.among h.command k l m s.stands)

-- The end of a declaration, and of the header.

reference-same : (first : Token) (more : List Token) → reference_in (first.text ++ texts_of more) (length first.text) ≡ d.reference_of first more
reference-same first more =
    let l : nat_le (length first.text) (length (first.text ++ texts_of more)) ≡ true = grind (arith, common_steps, length-append first.text (texts_of more)) in
    ap (λ v. cond (v && bytes_eq (drop (length first.text) (first.text ++ texts_of more)) (codes "[0:0]"))
    (take (length first.text) (first.text ++ texts_of more)) (first.text ++ texts_of more)) l
    ∙ ap (λ xs. cond (bytes_eq xs (codes "[0:0]")) (take (length first.text) (first.text ++ texts_of more)) (first.text ++ texts_of more))
    (drop-append_seam first.text (texts_of more))
    ∙ ap (λ xs. cond (bytes_eq (texts_of more) (codes "[0:0]")) xs (first.text ++ texts_of more)) (take-append_seam first.text (texts_of more))
    ∙ by-more more
  where
    by-more : (ts : List Token) → cond (bytes_eq (texts_of ts) (codes "[0:0]")) first.text (first.text ++ texts_of ts) ≡ d.reference_of first ts
    by-more [] = append-nil first.text
    by-more (t ∷ ts) = refl

pub declared-same : (depth size : ℕ) (k k' x x' r r' : List ℕ) → k ≡ k' → x ≡ x' → r ≡ r'
    → let a : Declaration = record { depth = depth; kind = k; size = size; code = x; reference = r } in let b : Declaration =
    record { depth = depth; kind = k'; size = size; code = x'; reference = r' } in a ≡ b
declared-same depth size k k' x x' r r' e f g = cc

whole : (limits : Limits) (h : Heading) (a : p.Among) (s : MoreNext limits h a)
    → d.declares h.depth (s.kind ∷ s.size ∷ s.code ∷ s.first ∷ s.more) ≡ Some (declared_in h)
whole limits h a s =
    let r : reference_in h.reference h.first ≡ d.reference_of s.first s.more =
    ap (λ xs. reference_in xs h.first) s.reference_is ∙ ap (reference_in (s.first.text ++ texts_of s.more)) s.first_is ∙ reference-same s.first s.more in
    ap (λ x. Some x) (ap (λ n. record { depth = h.depth; kind = s.kind.text; size = n; code = s.code.text; reference = d.reference_of s.first s.more })
    (ap (λ n. unwrap_or n 0) s.size_is)
    ∙ sym (declared-same h.depth h.size h.kind s.kind.text h.code s.code.text (reference_in h.reference h.first) (d.reference_of s.first s.more) s.kind_is
    s.code_is r))

declares-at : (wanted : Wanted) (limits : Limits) (h g : Heading) (ds : List Declaration) (at : ℕ) (text : List ℕ) → h.vars ≡ length ds
    → d.header_word text ≡ d.end_command → (a : p.Among) (m : MoreNext limits h a)
    → g ≡ record h { binder = g.binder; vars = h.vars + 1; command = Between } → StandsFor wanted g.binder (ds ++ declared_in h ∷ [])
    → HeadShows wanted limits g (says_at (header_of h a ds) (d.header_says wanted limits (header_of h a ds) (token at text) a))
declares-at wanted limits h g ds at text v n a m e b =
    let w : List Token = m.kind ∷ m.size ∷ m.code ∷ m.first ∷ m.more in
    let hd : p.Header = header_of h (p.inside m.opened.head w) ds in
    let t : says_at hd (d.header_says wanted limits hd (token at text) (p.inside m.opened.head w)) ≡ opening
    (record { among = p.commands; depth = h.depth; declared = ds ++ declared_in h ∷ [] }) =
    ap (λ x. says_at hd (d.inside_says wanted limits hd m.opened.head w (token at text) x)) n
    ∙ ap (λ x. says_at hd (d.ends wanted limits hd x m.opened.head w (token at text))) m.opened.is_var
    ∙ ap (λ x. says_at hd (d.put_declared hd (token at text) x)) (whole limits h a m) in
    record {
      among = p.commands;
      declared = ds ++ declared_in h ∷ [];
      told = ap (λ x. says_at (header_of h x ds) (d.header_says wanted limits (header_of h x ds) (token at text) x)) m.opened.inside ∙ t
          ∙ ap (λ x. opening (record { among = p.commands; depth = x; declared = ds ++ declared_in h ∷ [] })) (sym (ap (λ (x : Heading). x.depth) e));
      binds = b;
      vars = ap (λ (x : Heading). x.vars) e ∙ ap (λ x. x + 1) v ∙ sym (length-append ds (declared_in h ∷ []));
      stands = subst (Stands limits g p.commands) (sym (ap (λ (x : Heading). x.command) e)) refl;
    }

pub declares : (wanted : Wanted) (limits : Limits) (h g : Heading) (st : Story) (at : ℕ) (text : List ℕ) (s : HeadShows wanted limits h st) → h.command ≡ More
    → d.header_word text ≡ d.end_command
    → g ≡ record h { binder = g.binder; vars = h.vars + 1; command = Between } → StandsFor wanted g.binder (s.declared ++ declared_in h ∷ [])
    → HeadShows wanted limits g (next wanted limits st (word (token at text)))
unfolding says
declares wanted limits h g st at text s c n e b =
    let m : MoreNext limits h s.among = subst (Stands limits h s.among) c s.stands in
    subst (λ (x : Story). HeadShows wanted limits g (next wanted limits x (word (token at text)))) (sym s.told)
    (declares-at wanted limits h g s.declared at text s.vars n s.among m e b)

closes-at : (wanted : Wanted) (limits : Limits) (h : Heading) (ds : List Declaration) (at : ℕ) (text : List ℕ) (a : p.Among) → InOther a d.end_definitions
    → d.header_word text ≡ d.end_command
    → says_at (header_of h a ds) (d.header_says wanted limits (header_of h a ds) (token at text) a) ≡ says_at (header_of h a ds) (d.opens ds (bind wanted ds))
closes-at wanted limits h ds at text a o n =
    let hd : p.Header = header_of h a ds in
    ap (λ x. says_at hd (d.header_says wanted limits hd (token at text) x)) o.inside
    ∙ ap (λ x. says_at hd (d.inside_says wanted limits hd o.head o.words (token at text) x)) n
    ∙ ap (λ x. says_at hd (d.ends wanted limits hd x o.head o.words (token at text))) o.is_word

pub closes : (wanted : Wanted) (limits : Limits) (h : Heading) (st : Story) (at : ℕ) (text : List ℕ) (s : HeadShows wanted limits h st)
    → h.command ≡ EndDefinitions → d.header_word text ≡ d.end_command
    → Closes wanted h st (next wanted limits st (word (token at text)))
unfolding says
closes wanted limits h st at text s c n = record {
  before = header_of h s.among s.declared;
  declared = s.declared;
  told = s.told;
  binds = s.binds;
  ends = ap (λ (x : Story). next wanted limits x (word (token at text))) s.told
      ∙ closes-at wanted limits h s.declared at text s.among (subst (Stands limits h s.among) c s.stands) n;
}

-- What was answered.

pub weaken : {P : Type 0} (f : VcdFault) → P → Caused f P
weaken faults.Memory x = tt
weaken (faults.TokenTooLong a) x = x
weaken (faults.BadHeader a) x = x
weaken (faults.TooManyVars a) x = x
weaken (faults.TooDeep a) x = x
weaken (faults.BadTime a) x = x
weaken (faults.BadChange a) x = x
weaken (faults.UnknownCode a) x = x
weaken (faults.UnknownCommand a) x = x
weaken (faults.Gap a) x = x
weaken (faults.Truncated a) x = x
weaken (faults.TooLong a) x = x
weaken (faults.TimeBack a b c) x = x
weaken (faults.Unbound a) x = x
weaken (faults.Ambiguous a) x = x

abbrev pub OnFault : (VcdFault → Type 0) → Result Heading VcdFault → Type 0
OnFault Q (Ok h) = Unit {0}
OnFault Q (Err f) = Q f

pub caused-by : (Q : VcdFault → Type 0) (f : VcdFault) (r : Result Heading VcdFault) (new : Heading) → Becomes r (Err f) new → OnFault Q r → Caused f (Q f)
caused-by Q f (Ok h) new b q = subst (λ x. Caused x (Q f)) (sym b) tt
caused-by Q f (Err g) new b q = weaken f (subst Q (sym b) q)

pub goes-by : (wanted : Wanted) (limits : Limits) (st next : Story) (r : Result Heading VcdFault) (new : Heading) → Becomes r (Ok tt) new
    → HeadHears wanted limits st next r → HeadShows wanted limits new next
goes-by wanted limits st next (Ok h) new b s = subst (λ x. HeadShows wanted limits x next) (sym b) s
goes-by wanted limits st next (Err f) new b s = absurd b

pub faulty : (limits : Limits) (h : Heading) (nx : Wanted → Story → Story) (r : Result Heading VcdFault)
    → ((wanted : Wanted) (st : Story) → HeadShows wanted limits h st → HeadHears wanted limits st (nx wanted st) r)
    → OnFault (λ f. (wanted : Wanted) (st : Story) → HeadShows wanted limits h st → Refuses f st (nx wanted st)) r
faulty limits h nx (Ok g) q = tt
faulty limits h nx (Err f) q = q

pub faulty-end : (limits : Limits) (h : Heading) (nx : Wanted → Story → List ℕ → Story) (r : Result Heading VcdFault)
    → ((wanted : Wanted) (st : Story) (text : List ℕ) → HeadShows wanted limits h st → d.header_word text ≡ d.end_command
    → HeadHears wanted limits st (nx wanted st text) r)
    → OnFault (λ f. (wanted : Wanted) (st : Story) (text : List ℕ) → HeadShows wanted limits h st → d.header_word text ≡ d.end_command
    → Refuses f st (nx wanted st text)) r
faulty-end limits h nx (Ok g) q = tt
faulty-end limits h nx (Err f) q = q
