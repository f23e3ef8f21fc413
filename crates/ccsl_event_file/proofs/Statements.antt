-- How a token leads on in a statement, and in front of the first one.
use Rattle.std.proofs.Common.{◌≡◌, ◌<◌, ◌≤◌, ◌&&◌, nat_lt, ◌==◌, arith, rules, tests, ℕ, List, [], ◌∷◌, ◌++◌, length, Bool, true, false, Option, Some, None}
use Rattle.std.proofs.Common.{Result, Ok, Err, cond, codes, refl, sym, ap, ◌∙◌, subst}
use Rattle.std.proofs.lemmas.Bool.{lt-ltb, le-ltb}
use Rattle.std.proofs.lemmas.List.{length-map}
use Rattle.std.proofs.Math.Bool.{and-false}
use Rattle.ccsl_base.specs.declared.limits.TheConstants.{MAX_CLOCKS}
use Rattle.ccsl_base.specs.Name.{is_name}
use Rattle.ccsl_base.specs.Added.{IsAdded}
use Rattle.ccsl_base.specs.Names.{is_among}
use Rattle.ccsl_event_file.specs.declared.fault.EventFault.{EventFault}
use Rattle.ccsl_event_file.specs.declared.fault.EventFault.TheVariants as faults
use Rattle.ccsl_event_file.specs.Tokens.{tokens_in, Token, word, quoted, letters, equal, unequal, mark, Placed}
use Rattle.ccsl_event_file.specs.File.{Path, Condition, Trigger, Event, event, draft, Use, trigger_of, condition_of, keyword, version, head_end, statement}
use Rattle.ccsl_event_file.specs.File.{sign, kind, first_part, behind_path, behind, Said, goes, refused, told, syntax, expects, is_word, is_mark, may_be_named}
use Rattle.ccsl_event_file.specs.File.{names_of, named, use_of_token, used, text_of, joint, says, story, reading, events, fault}
use Rattle.ccsl_event_file.specs.Parsing.{ahead, place_of, next_is, next_value, TakesOne, ReadsOne, IsValueFault, IsFault, Expects, Reads}
use Rattle.ccsl_event_file.proofs.Story.{moved, taken, same, stops, Refuses, ExpectsAt, expected, unexpected, valued, unvalued}

module _ (es : List Event) (name : List ℕ) where
  kind_says : (u : Use) (t : Placed) → use_of_token t.token ≡ Some u → says (kind es name) t ≡ goes (first_part (draft es name u))
  unfolding says
  kind_says u t e = ap (used es name t) e

  kind_no : (t : Placed) → use_of_token t.token ≡ None → says (kind es name) t ≡ syntax t
  unfolding says
  kind_no t e = ap (used es name t) e

  pub kinds : (len : ℕ) (u : Use) (old new : List Placed) → ReadsOne use_of_token u old new
      → story len (kind es name) old ≡ story len (first_part (draft es name u)) new
  kinds len u old new one = valued len (kind es name) (λ _. first_part (draft es name u)) use_of_token u old new (kind_says u) one

  pub no_kind : (f : EventFault) (len : ℕ) (old : List Placed) → IsValueFault f use_of_token len old → IsFault f (story len (kind es name) old)
  no_kind f len old h = unvalued f len (kind es name) use_of_token old (λ _. refl) kind_no h

  pub is_made : (made : Path → Trigger) (p : Path) (len : ℕ) (ts : List Placed)
      → story len (behind_path (draft es name (trigger_of made)) p) ts ≡ story len (behind es (event name (made p) [])) ts
  unfolding says
  is_made made p len ts = same len (behind_path (draft es name (trigger_of made)) p) (behind es (event name (made p) [])) ts refl (λ t us e. refl)

  pub joins : (t : Trigger) (cs : List Condition) (len : ℕ) (old new : List Placed) → TakesOne (is_word (joint cs)) old new
      → story len (behind es (event name t cs)) old ≡ story len (first_part (draft es name (condition_of t cs))) new
  unfolding says
  joins t cs len old new one = taken len (behind es (event name t cs)) (first_part (draft es name (condition_of t cs))) one.next old new one.is
      (ap (λ b. cond b (goes (first_part (draft es name (condition_of t cs))))
      (expects (is_mark 59 one.next.token) (statement (es ++ event name t cs ∷ [])) one.next)) one.passes)

  at_sign : ExpectsAt (sign es name) (is_mark 61) (kind es name)
  unfolding says
  at_sign t = refl

  pub signs : (len : ℕ) (old new : List Placed) → TakesOne (is_mark 61) old new → story len (sign es name) old ≡ story len (kind es name) new
  signs len old new one = expected len (sign es name) (kind es name) (is_mark 61) old new at_sign one

  pub no_sign : (f : EventFault) (len : ℕ) (old : List Placed) → (next_is (is_mark 61) old ≡ false) × (f ≡ faults.Syntax (place_of len old))
      → IsFault f (story len (sign es name) old)
  no_sign f len old h = unexpected f len (sign es name) (kind es name) (is_mark 61) old (λ _. refl) at_sign h

module _ (es : List Event) (e : Event) where
  behind_expects : (t : Placed) → is_word (joint e.conditions) t.token ≡ false
      → says (behind es e) t ≡ expects (is_mark 59 t.token) (statement (es ++ e ∷ [])) t
  unfolding says
  behind_expects t h = ap (λ b. cond b (goes (first_part (draft es e.name (condition_of e.trigger e.conditions))))
      (expects (is_mark 59 t.token) (statement (es ++ e ∷ [])) t)) h

  pub closes : (len : ℕ) (old new : List Placed) → next_is (is_word (joint e.conditions)) old ≡ false → TakesOne (is_mark 59) old new
      → story len (behind es e) old ≡ story len (statement (es ++ e ∷ [])) new
  closes len old new absent one = taken len (behind es e) (statement (es ++ e ∷ [])) one.next old new one.is
      (behind_expects one.next (sym (ap (next_is (is_word (joint e.conditions))) one.is) ∙ absent)
      ∙ ap (λ b. expects b (statement (es ++ e ∷ [])) one.next) one.passes)

  refuses : (old : List Placed) → next_is (is_word (joint e.conditions)) old ≡ false → next_is (is_mark 59) old ≡ false → Refuses (behind es e) old
  refuses [] absent shut = tt
  refuses (t ∷ ts) absent shut = behind_expects t absent ∙ ap (λ b. expects b (statement (es ++ e ∷ [])) t) shut

  pub not_closed : (f : EventFault) (len : ℕ) (old : List Placed) → next_is (is_word (joint e.conditions)) old ≡ false
      → (next_is (is_mark 59) old ≡ false) × (f ≡ faults.Syntax (place_of len old)) → IsFault f (story len (behind es e) old)
  not_closed f len old absent h =
      subst (λ g. IsFault g (story len (behind es e) old)) (sym h.1) (stops len (behind es e) old (λ _. refl) (refuses old absent h.0))

-- ## Names

some-same : (a b : List ℕ) → Some a ≡ Some b → a ≡ b
some-same a b e = cc

named_word : (es : List Event) (t : Placed) (token : Token) (name : List ℕ) → text_of token ≡ Some name → named es t token ≡ named es t (word name)
named_word es t (word text) name e = ap (λ o. named es t (word o)) (some-same text name e)
named_word es t (quoted text) name e = absurd (cc)
named_word es t (letters text) name e = absurd (cc)
named_word es t equal name e = absurd (cc)
named_word es t unequal name e = absurd (cc)
named_word es t (mark b) name e = absurd (cc)

named_none : (es : List Event) (t : Placed) (token : Token) → text_of token ≡ None → named es t token ≡ syntax t
named_none es t (word text) e = absurd (cc)
named_none es t (quoted text) e = refl
named_none es t (letters text) e = refl
named_none es t equal e = refl
named_none es t unequal e = refl
named_none es t (mark b) e = refl

-- what is said of a name that may be one, and of one that some event has
abbrev name_says : List Event → List ℕ → Placed → Bool → Bool → Said
name_says es name t may is_there = cond may (cond is_there (refused (faults.Duplicate t.at)) (goes (sign es name))) (syntax t)

module _ (es : List Event) (name : List ℕ) (len : ℕ) (old new : List Placed) (one : ReadsOne text_of name old new) where
  says_name : says (statement es) one.next ≡ name_says es name one.next (may_be_named es name) (is_among name (names_of es))
  unfolding says
  says_name = named_word es one.next one.next.token name one.value

  pub is_new : may_be_named es name ≡ true → is_among name (names_of es) ≡ false → story len (statement es) old ≡ story len (sign es name) new
  is_new may absent = taken len (statement es) (sign es name) one.next old new one.is
      (says_name ∙ ap (λ b. name_says es name one.next b (is_among name (names_of es))) may ∙ ap (λ b. name_says es name one.next true b) absent)

  pub is_bad : may_be_named es name ≡ false → story len (statement es) old ≡ fault (faults.Syntax (place_of len old))
  unfolding story
  is_bad may = ap (story len (statement es)) one.is
      ∙ ap (λ s. told s (λ q. story len q new)) (says_name ∙ ap (λ b. name_says es name one.next b (is_among name (names_of es))) may)
      ∙ ap (λ n. fault (faults.Syntax n)) (sym (ap (place_of len) one.is))

  pub is_there : may_be_named es name ≡ true → is_among name (names_of es) ≡ true → story len (statement es) old ≡ fault (faults.Duplicate (place_of len old))
  unfolding story
  is_there may there = ap (story len (statement es)) one.is
      ∙ ap (λ s. told s (λ q. story len q new)) (says_name ∙ ap (λ b. name_says es name one.next b (is_among name (names_of es))) may
      ∙ ap (λ b. name_says es name one.next true b) there)
      ∙ ap (λ n. fault (faults.Duplicate n)) (sym (ap (place_of len) one.is))

no_name_says : (es : List Event) (t : Placed) → text_of t.token ≡ None → says (statement es) t ≡ syntax t
unfolding says
no_name_says es t e = named_none es t t.token e

no_name_story : (es : List Event) (len : ℕ) (old : List Placed) → (old ≡ [] → ⊥) → next_value text_of old ≡ None
    → story len (statement es) old ≡ fault (faults.Syntax (place_of len old))
unfolding story
no_name_story es len [] some h = absurd (some refl)
no_name_story es len (t ∷ ts) some h = ap (λ s. told s (λ q. story len q ts)) (no_name_says es t h)

no_name_at : (f : EventFault) (es : List Event) (len : ℕ) (old : List Placed) → (old ≡ [] → ⊥)
    → (next_value text_of old ≡ None) × (f ≡ faults.Syntax (place_of len old)) → IsFault f (story len (statement es) old)
no_name_at f es len old some h = subst (λ g. IsFault g (story len (statement es) old)) (sym h.1) (no_name_story es len old some h.0)

pub no_name : (f : EventFault) (es : List Event) (len : ℕ) (old : List Placed) → (old ≡ [] → ⊥) → IsValueFault f text_of len old
    → IsFault f (story len (statement es) old)
no_name faults.Memory es len old some h = tt
no_name f es len old some h = no_name_at f es len old some h

-- ## The words in front of the first statement

pub at_keyword : ExpectsAt keyword (is_word (codes "events")) version
unfolding says
at_keyword t = refl

pub at_version : ExpectsAt version (is_word (codes "1")) head_end
unfolding says
at_version t = refl

pub at_end : ExpectsAt head_end (is_mark 59) (statement [])
unfolding says
at_end t = refl

pub head_closes : {X : Type 0} (r : Result X EventFault) (len other : ℕ) (old mid new : List Placed) → other ≡ len
    → story len keyword old ≡ story len head_end mid
    → Expects r (is_mark 59) other mid new → Reads r len keyword old (λ _. statement []) new
head_closes (Ok x) len other old mid new same e h = e ∙ expected len head_end (statement []) (is_mark 59) mid new at_end h
head_closes (Err f) len other old mid new same e h =
    moved f (story len keyword old) (story other head_end mid) (e ∙ ap (λ n. story n head_end mid) (sym same))
    (unexpected f other head_end (statement []) (is_mark 59) mid (λ _. refl) at_end h)

-- ## The whole file

pub begins : (text : List ℕ) (len : ℕ) (old : List Placed) → len ≡ length text → old ≡ ahead (length text) text → reading text ≡ story len keyword old
unfolding reading
begins text len old same is = ap (λ ts. story (length text) keyword ts) (sym is) ∙ ap (λ n. story n keyword old) (sym same)

pub over : (len : ℕ) (es : List Event) (rest : List ℕ) → (length rest == 0) ≡ true → story len (statement es) (ahead len rest) ≡ events es
unfolding story tokens_in
over len es [] h = refl
over len es (b ∷ bs) h = absurd (search (rules, tests))

-- ## Which names may stand

pub may_not : (es : List Event) (name : List ℕ) → is_name name ≡ false → may_be_named es name ≡ false
may_not es name h = ap (λ b. b && nat_lt (length es) MAX_CLOCKS) h

pub too_many : (es : List Event) (names : List (List ℕ)) (name : List ℕ) → names ≡ names_of es → MAX_CLOCKS ≤ length names → may_be_named es name ≡ false
too_many es names name is h =
    let count : length names ≡ length es = ap length is ∙ length-map es (λ e. e.name) in
    ap (λ b. is_name name && b) (le-ltb (length es) MAX_CLOCKS (omega (arith, h, count))) ∙ and-false (is_name name)

pub may : (es : List Event) (names : List (List ℕ)) (name : List ℕ) → names ≡ names_of es → length names < MAX_CLOCKS → is_name name ≡ true
    → may_be_named es name ≡ true
may es names name is h is_one =
    let count : length names ≡ length es = ap length is ∙ length-map es (λ e. e.name) in
    ap (λ b. b && nat_lt (length es) MAX_CLOCKS) is_one ∙ lt-ltb (length es) MAX_CLOCKS (omega (arith, h, count))

pub was_new : (es : List Event) (old new : List (List ℕ)) (name : List ℕ) (o : Option ℕ) (n : ℕ) → old ≡ names_of es → IsAdded old new name o → o ≡ Some n
    → is_among name (names_of es) ≡ false
was_new es old new name None n is h e = absurd (cc)
was_new es old new name (Some m) n is h e = ap (is_among name) (sym is) ∙ h.0

pub was_there : (es : List Event) (old new : List (List ℕ)) (name : List ℕ) (o : Option ℕ) → old ≡ names_of es → IsAdded old new name o → o ≡ None
    → is_among name (names_of es) ≡ true
was_there es old new name None is h e = ap (is_among name) (sym is) ∙ h.0
was_there es old new name (Some m) is h e = absurd (cc)
