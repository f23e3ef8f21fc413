-- What a reader of a header holds, as words come.
use Rattle.std.proofs.Common.{◌≡◌, ◌⊎◌, inl, inr, ℕ, ◌+◌, ◌<◌, ◌≤◌, min, List, [], ◌∷◌, ◌++◌, length, take, drop, Bool, true, false, nat_lt, if◌then◌else◌}
use Rattle.std.proofs.Common.{Option, Some, None, Result, Ok, Err, OnOk, IfErr, refl, sym, ap, ap₂, subst, ◌∙◌, arith, length-append}
use Rattle.std.specs.Prelude.{unwrap_or}
use Rattle.std.specs.declared.vec.Vec.{Vec}
use Rattle.std.specs.declared.alloc.Global.{Global}
use Rattle.std.proofs.lemmas.List.{append-nil}
use Rattle.std.proofs.lemmas.Grind.{common_steps, fold-append}
use Rattle.std.proofs.Math.Seq.{take-append_seam, drop-append_seam}
use Rattle.ccsl_base.specs.Names.{find_name}
use Rattle.ccsl_vcd_lex.specs.Tokens.{Token}
use Rattle.ccsl_vcd.specs.declared.fault.VcdFault.{VcdFault}
use Rattle.ccsl_vcd.specs.declared.fault.VcdFault.TheVariants as faults
use Rattle.ccsl_vcd.specs.declared.limits.Limits.{Limits}
use Rattle.ccsl_vcd.specs.Header.{is_code}
use Rattle.ccsl_scopes.specs.declared.command.HeaderWord.{HeaderWord}
use Rattle.ccsl_scopes.specs.declared.command.HeaderWord.TheVariants.{Var, Timescale}
use Rattle.ccsl_scopes.specs.declared.variable.Variable.{Variable}
use Rattle.ccsl_scopes.specs.declared.header.Header.{Header}
use Rattle.ccsl_scopes.specs.declared.reader.HeaderReader.{HeaderReader}
use Rattle.ccsl_scopes.specs.declared.reference.Reference.{Reference}
use Rattle.ccsl_scopes.specs.declared.select.Select.{Select}
use Rattle.ccsl_scopes.specs.References.{reference_of}
use Rattle.ccsl_scopes.specs.Headings.{Declared, Heading, kind_named, size_of, joined, put_spaced, spaced, with_code, codes_of, declares, word_fits}
use Rattle.ccsl_scopes.specs.Standing.{scope_text, text_in, IsVariable, AreVariables, FromKind, StandsIn, Counts, Extends, Fits, Declares}
use Rattle.ccsl_scopes.proofs.BracketLaws.{bare-within}
use Rattle.ccsl_scopes.proofs.CodeLaws.{few-codes, codes-more}
use Rattle.ccsl_scopes.proofs.VariableLaws.{all-kept, all-more}
use Rattle.ccsl_base.proofs.Tables.{found-within}

-- A code is taken.

module _ (limits : Limits) (h : Heading) (head a b t : Token) (old : HeaderReader) (s : StandsIn limits h Var head (a ∷ b ∷ []) old) where
  known-then : old.header.codes ≡ codes_of h.declared
  known-then = s.holds.codes

  code-stands : (x : Header) (n : ℕ) → x.codes ≡ with_code old.header.codes t.text → find_name t.text x.codes ≡ Some n →
      x.variables ≡ old.header.variables → x.timescale ≡ old.header.timescale →
      StandsIn limits h Var head (a ∷ b ∷ t ∷ []) (record old { header = x; code = n })
  code-stands x n e f same scale = record {
    command = s.command;
    head_is = s.head_is;
    holds = record {
      limits_are = s.holds.limits_are;
      variables =
          subst (λ (vs : Vec Variable Global). AreVariables (with_code (codes_of h.declared) t.text) h.declared vs.items) (sym same)
          (all-kept (codes_of h.declared) t.text h.declared old.header.variables.items s.holds.variables);
      codes = e ∙ ap (λ known. with_code known t.text) known-then;
      timescale_is = ap text_in scale ∙ s.holds.timescale_is;
      scopes = s.holds.scopes;
      begins_are = s.holds.begins_are;
    };
    parts = (s.parts.0, (s.parts.1.0, (s.parts.1.1.0, (f, tt))));
  }

  -- there is room for its number
  room : old.limits.vars ≤ length old.header.codes → ⊥
  room far =
      let few : length old.header.codes ≤ length h.declared = subst (λ (known : List (List ℕ)). length known ≤ length h.declared) (sym known-then)
      (few-codes h.declared) in
      let vars : old.limits.vars ≡ limits.vars = ap (λ (l : Limits). l.vars) s.holds.limits_are in
      let more : length h.declared < limits.vars = s.parts.0 in
      omega (arith, far, few, vars, more)

  code-extends : (new : HeaderReader) (result : Result (Unit {0}) VcdFault) →
      OnOk result (is_code t.text ≡ true) →
      OnOk result (new.header.codes ≡ with_code old.header.codes t.text) →
      OnOk result (find_name t.text new.header.codes ≡ Some new.code) →
      OnOk result (new.header.variables ≡ old.header.variables) →
      OnOk result (new.header.timescale ≡ old.header.timescale) →
      OnOk result (new ≡ record old { header = new.header; code = new.code }) →
      IfErr result (λ f. ((f ≡ faults.BadHeader t.at) × (is_code t.text ≡ false))
      ⊎ ((is_code t.text ≡ true) × ((f ≡ faults.Memory) ⊎ (old.limits.vars ≤ length old.header.codes)))) →
      Extends (is_code t.text) limits h Var head (a ∷ b ∷ []) t result new
  code-extends new (Ok u) fits known number same scale kept refused =
      subst (λ (w : Bool). Extends w limits h Var head (a ∷ b ∷ []) t (Ok u) new) (sym fits)
      (subst (λ (r : HeaderReader). StandsIn limits h Var head (a ∷ b ∷ t ∷ []) r) (sym kept)
      (code-stands new.header new.code known number same scale))
  code-extends new (Err f) fits known number same scale kept (inl (e, bad)) =
      subst (λ (w : Bool). Extends w limits h Var head (a ∷ b ∷ []) t (Err f) new) (sym bad) (inl e)
  code-extends new (Err f) fits known number same scale kept (inr (good, inl e)) =
      subst (λ (w : Bool). Extends w limits h Var head (a ∷ b ∷ []) t (Err f) new) (sym good) e
  code-extends new (Err f) fits known number same scale kept (inr (good, inr far)) = absurd (room far)

pub third-extends : (limits : Limits) (h : Heading) (head : Token) (words : List Token) (t : Token) (old new : HeaderReader)
    (result : Result (Unit {0}) VcdFault) →
    old.words ≡ 2 → StandsIn limits h Var head words old → Counts words old →
    OnOk result (is_code t.text ≡ true) →
    OnOk result (new.header.codes ≡ with_code old.header.codes t.text) →
    OnOk result (find_name t.text new.header.codes ≡ Some new.code) →
    OnOk result (new.header.variables ≡ old.header.variables) →
    OnOk result (new.header.timescale ≡ old.header.timescale) →
    OnOk result (new ≡ record old { header = new.header; code = new.code }) →
    IfErr result (λ f. ((f ≡ faults.BadHeader t.at) × (is_code t.text ≡ false))
    ⊎ ((is_code t.text ≡ true) × ((f ≡ faults.Memory) ⊎ (old.limits.vars ≤ length old.header.codes)))) →
    Extends (word_fits Var words t) limits h Var head words t result new
third-extends limits h head [] t old new result two s n = absurd (omega (arith, two, n))
third-extends limits h head (a ∷ []) t old new result two s n = absurd (omega (arith, two, n))
third-extends limits h head (a ∷ b ∷ []) t old new result two s n = code-extends limits h head a b t old s new result
third-extends limits h head (a ∷ b ∷ c ∷ words) t old new result two s n = absurd (omega (arith, two, n))

-- One word more is counted.

counted-parts : (known : List (List ℕ)) (words : List Token) (n : ℕ) (r : HeaderReader) → FromKind known words r →
    FromKind known words (record r { words = n })
counted-parts known [] n r p = tt
counted-parts known (a ∷ []) n r p = p
counted-parts known (a ∷ b ∷ []) n r p = p
counted-parts known (a ∷ b ∷ c ∷ []) n r p = p
counted-parts known (a ∷ b ∷ c ∷ f ∷ more) n r p = p

counted-stands : (limits : Limits) (h : Heading) (head : Token) (words : List Token) (n : ℕ) (r : HeaderReader) →
    StandsIn limits h Var head words r → StandsIn limits h Var head words (record r { words = n })
counted-stands limits h head words n r s = record {
  command = s.command;
  head_is = s.head_is;
  holds = record {
    limits_are = s.holds.limits_are;
    variables = s.holds.variables;
    codes = s.holds.codes;
    timescale_is = s.holds.timescale_is;
    scopes = s.holds.scopes;
    begins_are = s.holds.begins_are;
  };
  parts = (s.parts.0, counted-parts r.header.codes words n r s.parts.1);
}

counted : (n m : ℕ) → m ≡ min n 4 → (if nat_lt m 4 then m + 1 else m) ≡ min (n + 1) 4
counted n m e = grind (arith, common_steps)

count-more : (words : List Token) (t : Token) (m : ℕ) → m ≡ min (length words) 4 → (if nat_lt m 4 then m + 1 else m) ≡ min (length (words ++ t ∷ [])) 4
count-more words t m e = counted (length words) m e ∙ ap (λ n. min n 4) (sym (length-append words (t ∷ [])))

pub part-fits : (b : Bool) (limits : Limits) (h : Heading) (head : Token) (words : List Token) (t : Token) (old part new : HeaderReader) →
    Extends b limits h Var head words t (Ok tt) part → part.words ≡ old.words → Counts words old →
    new ≡ record part { words = if nat_lt part.words 4 then part.words + 1 else part.words } →
    Fits b limits h Var head words t (Ok tt) new
part-fits true limits h head words t old part new s same n e =
    subst (λ (r : HeaderReader). StandsIn limits h Var head (words ++ t ∷ []) r × Counts (words ++ t ∷ []) r) (sym e)
    (counted-stands limits h head (words ++ t ∷ []) _ part s, count-more words t part.words (same ∙ n))
part-fits false limits h head words t old part new s same n e = s

pub part-refused : (b : Bool) (limits : Limits) (h : Heading) (head : Token) (words : List Token) (t : Token) (f : VcdFault) (part new : HeaderReader) →
    Extends b limits h Var head words t (Err f) part → Fits b limits h Var head words t (Err f) new
part-refused true limits h head words t f part new e = e
part-refused false limits h head words t f part new e = e

pub word-refused : (limits : Limits) (h : Heading) (w : HeaderWord) (head : Token) (words : List Token) (t : Token) (f : VcdFault) (old part : HeaderReader)
    (result : Result (Unit {0}) VcdFault) →
    w ≡ Var → result ≡ Err f →
    (StandsIn limits h Var head words old → Counts words old → Extends (word_fits Var words t) limits h Var head words t (Err f) part) →
    StandsIn limits h w head words old → Counts words old → Fits (word_fits w words t) limits h w head words t result part
word-refused limits h w head words t f old part result is e extends s n =
    subst (λ x. Fits (word_fits w words t) limits h w head words t x part) (sym e)
    (subst (λ v. Fits (word_fits v words t) limits h v head words t (Err f) part) (sym is)
    (part-refused (word_fits Var words t) limits h head words t f part part (extends (subst (λ v. StandsIn limits h v head words old) is s) n)))

pub word-kept : (limits : Limits) (h : Heading) (w : HeaderWord) (head : Token) (words : List Token) (t : Token) (old part new : HeaderReader) →
    w ≡ Var → (StandsIn limits h Var head words old → Counts words old → Extends (word_fits Var words t) limits h Var head words t (Ok tt) part) →
    part.words ≡ old.words →
    new ≡ record part { words = if nat_lt part.words 4 then part.words + 1 else part.words } →
    StandsIn limits h w head words old → Counts words old → Fits (word_fits w words t) limits h w head words t (Ok tt) new
word-kept limits h w head words t old part new is extends same e s n =
    subst (λ v. Fits (word_fits v words t) limits h v head words t (Ok tt) new) (sym is)
    (part-fits (word_fits Var words t) limits h head words t old part new (extends (subst (λ v. StandsIn limits h v head words old) is s) n) same n e)

-- A word of a time scale.

spaced-more : (words : List Token) (t : Token) → spaced (words ++ t ∷ []) ≡ put_spaced (spaced words) t.text
spaced-more words t = fold-append (λ before (w : Token). put_spaced before w.text) [] words (t ∷ [])

pub scale-kept : (limits : Limits) (h : Heading) (w : HeaderWord) (head : Token) (words : List Token) (t : Token) (old mid new : HeaderReader) →
    w ≡ Timescale →
    ((before : List ℕ) → text_in old.header.timescale ≡ Some before → text_in mid.header.timescale ≡ Some (put_spaced before t.text)) →
    mid.header.variables ≡ old.header.variables → mid.header.codes ≡ old.header.codes → mid ≡ record old { header = mid.header } →
    new ≡ record mid { words = if nat_lt mid.words 4 then mid.words + 1 else mid.words } →
    StandsIn limits h w head words old → Counts words old → Fits (word_fits w words t) limits h w head words t (Ok tt) new
scale-kept limits h w head words t old mid new is text variables codes kept counted s n =
    subst (λ v. Fits (word_fits v words t) limits h v head words t (Ok tt) new) (sym is)
    (subst (λ (r : HeaderReader). StandsIn limits h Timescale head (words ++ t ∷ []) r × Counts (words ++ t ∷ []) r) (sym counted)
    (stands (subst (λ v. StandsIn limits h v head words old) is s), count-more words t mid.words (ap (λ (r : HeaderReader). r.words) kept ∙ n)))
  where
    stands : StandsIn limits h Timescale head words old →
        StandsIn limits h Timescale head (words ++ t ∷ []) (record mid { words = if nat_lt mid.words 4 then mid.words + 1 else mid.words })
    stands s = record {
      command = ap (λ (r : HeaderReader). r.command) kept ∙ s.command;
      head_is = ap (λ (r : HeaderReader). r.head) kept ∙ s.head_is;
      holds = record {
        limits_are = ap (λ (r : HeaderReader). r.limits) kept ∙ s.holds.limits_are;
        variables =
            subst (λ (vs : Vec Variable Global). AreVariables (codes_of h.declared) h.declared vs.items) (sym variables) s.holds.variables;
        codes = codes ∙ s.holds.codes;
        timescale_is = text (spaced words) s.holds.timescale_is ∙ ap (λ x. Some x) (sym (spaced-more words t));
        scopes = ap (λ (r : HeaderReader). r.scopes.items) kept ∙ s.holds.scopes;
        begins_are = ap (λ (r : HeaderReader). r.begins.items) kept ∙ s.holds.begins_are;
      };
      parts = tt;
    }

-- A declaration ends.

-- a declaration of four words has a declared code
pub coded : (limits : Limits) (h : Heading) (head : Token) (words : List Token) (old : HeaderReader) → StandsIn limits h Var head words old →
    Counts words old → 4 ≤ old.words →
    old.code < length old.header.codes
coded limits h head [] old s n l = absurd (omega (arith, n, l))
coded limits h head (a ∷ []) old s n l = absurd (omega (arith, n, l))
coded limits h head (a ∷ b ∷ []) old s n l = absurd (omega (arith, n, l))
coded limits h head (a ∷ b ∷ c ∷ []) old s n l = absurd (omega (arith, n, l))
coded limits h head (a ∷ b ∷ c ∷ f ∷ more) old s n l = found-within c.text old.header.codes old.code s.parts.1.1.1.0

abbrev pub declared_as : HeaderReader → Vec ℕ Global → ℕ → Select → Variable
declared_as old path bare range = record { kind = old.kind; size = old.size; code = old.code; path = path; bare = bare; range = range }

module _ (limits : Limits) (h : Heading) (head a b c f : Token) (more : List Token) (old : HeaderReader)
    (s : StandsIn limits h Var head (a ∷ b ∷ c ∷ f ∷ more) old) where
  abbrev d : Declared
  d = record {
    kind = kind_named a.text;
    size = unwrap_or (size_of b.text) 0;
    code = c.text;
    scopes = h.scopes;
    first = f.text;
    more = joined more;
  }

  first-is : old.first ≡ length f.text
  first-is = s.parts.1.1.1.1.0

  reference-is : old.reference.items ≡ f.text ++ joined more
  reference-is = s.parts.1.1.1.1.1

  cut-at : min old.first (length old.reference.items) ≡ length f.text
  cut-at = omega (arith, first-is, ap length reference-is, length-append f.text (joined more))

  module _ (n : ℕ) (path : Vec ℕ Global) (r : Reference) (bare : ℕ) (cut : n ≡ min old.first (length old.reference.items))
      (joins : path.items ≡ old.scopes.items ++ old.reference.items)
      (split : r ≡ reference_of (take n old.reference.items) (drop n old.reference.items))
      (sum : bare ≡ min (length old.scopes.items + r.bare) 18446744073709551615) where
    front : take n old.reference.items ≡ f.text
    front = ap (λ k. take k old.reference.items) (cut ∙ cut-at) ∙ ap (take (length f.text)) reference-is ∙ take-append_seam f.text (joined more)

    back : drop n old.reference.items ≡ joined more
    back = ap (λ k. drop k old.reference.items) (cut ∙ cut-at) ∙ ap (drop (length f.text)) reference-is ∙ drop-append_seam f.text (joined more)

    split-is : r ≡ reference_of f.text (joined more)
    split-is = split ∙ ap₂ reference_of front back

    -- the path is a list, so that the sum of its parts is small
    whole-sum : bare ≡ length old.scopes.items + r.bare
    whole-sum =
        let inside : r.bare ≤ length f.text + length (joined more) = subst (λ (x : Reference). x.bare ≤ length f.text + length (joined more)) (sym split-is)
        (bare-within f.text (joined more)) in
        let both : length path.items ≡ length old.scopes.items + length old.reference.items = ap length joins
        ∙ length-append old.scopes.items old.reference.items in
        let parts : length old.reference.items ≡ length f.text + length (joined more) = ap length reference-is ∙ length-append f.text (joined more) in
        omega (arith, sum, path.ok.0, path.ok.1, path.small)

    scopes-are : old.scopes.items ≡ scope_text h.scopes
    scopes-are = s.holds.scopes ∙ append-nil (scope_text h.scopes)

    variable : IsVariable (with_code (codes_of h.declared) c.text) d (declared_as old path bare r.range)
    variable = record {
      kind = s.parts.1.0;
      size = sym (ap (λ o. unwrap_or o 0) s.parts.1.1.0);
      code = subst (λ (known : List (List ℕ)). find_name c.text known ≡ Some old.code) s.holds.codes s.parts.1.1.1.0;
      path = joins ∙ ap₂ (λ x y. x ++ y) scopes-are reference-is;
      bare = whole-sum ∙ ap₂ (λ x y. x + y) (ap length scopes-are) (ap (λ (x : Reference). x.bare) split-is);
      range = ap (λ (x : Reference). x.range) split-is;
    }

    declared-holds : (at : ℕ) (x : Header) → x.variables.items ≡ old.header.variables.items ++ declared_as old path bare r.range ∷ [] →
        x.codes ≡ old.header.codes → x.timescale ≡ old.header.timescale → Declares limits h at (Some d) (Ok tt) (record old { header = x })
    declared-holds at x pushed same scale = record {
      limits_are = s.holds.limits_are;
      variables =
          subst (λ (known : List (List ℕ)). AreVariables known (h.declared ++ d ∷ []) x.variables.items) (sym (codes-more h.declared d))
          (subst (λ (items : List Variable). AreVariables (with_code (codes_of h.declared) c.text) (h.declared ++ d ∷ []) items) (sym pushed)
          (all-more (with_code (codes_of h.declared) c.text) d (declared_as old path bare r.range) variable h.declared old.header.variables.items
          s.holds.variables));
      codes = same ∙ s.holds.codes ∙ sym (codes-more h.declared d);
      timescale_is = ap text_in scale ∙ s.holds.timescale_is;
      scopes = s.holds.scopes;
      begins_are = s.holds.begins_are;
    }

pub declares-all : (limits : Limits) (h : Heading) (head : Token) (at : ℕ) (words : List Token) (old : HeaderReader) (n bare : ℕ) (path : Vec ℕ Global)
    (r : Reference) (x : Header) →
    StandsIn limits h Var head words old → Counts words old → 4 ≤ old.words →
    n ≡ min old.first (length old.reference.items) → path.items ≡ old.scopes.items ++ old.reference.items →
    r ≡ reference_of (take n old.reference.items) (drop n old.reference.items) → bare ≡ min (length old.scopes.items + r.bare) 18446744073709551615 →
    x.variables.items ≡ old.header.variables.items ++ declared_as old path bare r.range ∷ [] →
    x.codes ≡ old.header.codes → x.timescale ≡ old.header.timescale →
    Declares limits h at (declares h.scopes words) (Ok tt) (record old { header = x })
declares-all limits h head at [] old n bare path r x s k l cut joins split sum pushed same scale = absurd (omega (arith, k, l))
declares-all limits h head at (a ∷ []) old n bare path r x s k l cut joins split sum pushed same scale = absurd (omega (arith, k, l))
declares-all limits h head at (a ∷ b ∷ []) old n bare path r x s k l cut joins split sum pushed same scale = absurd (omega (arith, k, l))
declares-all limits h head at (a ∷ b ∷ c ∷ []) old n bare path r x s k l cut joins split sum pushed same scale = absurd (omega (arith, k, l))
declares-all limits h head at (a ∷ b ∷ c ∷ f ∷ more) old n bare path r x s k l cut joins split sum pushed same scale =
    declared-holds limits h head a b c f more old s n path r bare cut joins split sum at x pushed same scale
