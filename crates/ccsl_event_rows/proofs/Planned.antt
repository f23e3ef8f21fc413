-- What the program reads gives names and a plan for them.
use Rattle.std.proofs.Common.{◌≡◌, ℕ, suc, ◌<◌, List, [], ◌∷◌, ◌++◌, length, Bool, true, false, ◌&&◌, nat_lt, cond, Option, Some, None}
use Rattle.std.proofs.Common.{Result, Ok, Err, refl, sym, ap, ap₂, ◌∙◌, arith, subst, length-append, codes}
use Rattle.std.proofs.lemmas.Bool.{and_parts, ltb-true}
use Rattle.std.proofs.lemmas.List.{map-append, length-map}
use Rattle.std.proofs.lemmas.List.Folds.{list_all-append}
use Rattle.ccsl_base.specs.Name.{is_name}
use Rattle.ccsl_base.specs.Names.{is_among}
use Rattle.ccsl_base.proofs.Tables.{distinct-snoc}
use Rattle.ccsl_event_file.specs.declared.fault.EventFault.{EventFault}
use Rattle.ccsl_event_file.specs.declared.fault.EventFault.TheVariants as faults
use Rattle.ccsl_event_file.specs.Tokens.{Token, word, quoted, letters, equal, unequal, mark, Placed, tokens}
use Rattle.ccsl_event_file.specs.Values.{value_of}
use Rattle.ccsl_event_file.specs.File as f
use Rattle.ccsl_scopes.specs.declared.select.Select.TheVariants.{Whole, Bit}
use Rattle.ccsl_scopes.specs.declared.variable.Variable as declared
use Rattle.ccsl_events.specs.Binding.{made, in_front, each, watch, read_by, different, number_in, watch_with, numbered, Bound, bound}
use Rattle.ccsl_events.specs.Binds.{seen_watch, seen_plan}
use Rattle.ccsl_events.specs.Dump.{Plan}
use Rattle.std.specs.List.{flat_map}
use Rattle.ccsl_event_rows.specs.ReadsBack.{AreEventNames}
use Rattle.ccsl_base.proofs.Sets.{by_case}

-- NAMES, in the order in which a file has them

abbrev Named : List f.Event → Type 0
Named es = AreEventNames (f.names_of es)

-- these and one more
abbrev NamedWith : List f.Event → List ℕ → Type 0
NamedWith es name = AreEventNames (f.names_of es ++ name ∷ [])

abbrev InDraft : f.Draft → Type 0
InDraft d = NamedWith d.events d.name

abbrev At : f.Place → Type 0
At f.keyword = Unit {0}
At f.version = Unit {0}
At f.head_end = Unit {0}
At (f.statement es) = Named es
At (f.sign es name) = NamedWith es name
At (f.kind es name) = NamedWith es name
At (f.first_part d) = InDraft d
At (f.part d at parts) = InDraft d
At (f.behind_part d at parts) = InDraft d
At (f.left d at parts) = InDraft d
At (f.behind_left d at parts n) = InDraft d
At (f.right d at parts n) = InDraft d
At (f.bracket d p) = InDraft d
At (f.behind_path d p) = InDraft d
At (f.value d p is_equal) = InDraft d
At (f.behind es e) = NamedWith es e.name

abbrev Said : f.Said → Type 0
Said (f.goes p) = At p
Said (f.refused g) = Unit {0}

either : (b : Bool) (s t : f.Said) → Said s → Said t → Said (cond b s t)
either true s t g h = g
either false s t g h = h

expects-well : (b : Bool) (p : f.Place) (t : Placed) → At p → Said (f.expects b p t)
expects-well true p t a = a
expects-well false p t a = tt

add-name : (names : List (List ℕ)) (name : List ℕ) → AreEventNames names → length names < 1024 → is_name name ≡ true → is_among name names ≡ false
    → AreEventNames (names ++ name ∷ [])
add-name names name n l i a = record {
  few = omega (arith, length-append names (name ∷ []));
  named = list_all-append is_name names (name ∷ []) ∙ ap₂ (λ x y. x && y) n.named (ap (λ x. x && true) i);
  distinct = distinct-snoc names name n.distinct a;
}

named-well : (es : List f.Event) (t : Placed) (name : List ℕ) → Named es → Said (f.named es t (word name))
named-well es t name n =
    by_case (f.may_be_named es name) _
    (λ e.
    let p = and_parts (is_name name) (nat_lt (length es) 1024) e in
    let few : length (f.names_of es) < 1024 = let l = ltb-true (length es) 1024 p.1 in omega (arith, length-map es (λ e. e.name)) in
    subst (λ b. Said (cond b (cond (is_among name (f.names_of es)) (f.refused (faults.Duplicate t.at)) (f.goes (f.sign es name))) (f.syntax t))) (sym e)
    (by_case (is_among name (f.names_of es)) _
    (λ a. subst (λ b. Said (cond b (f.refused (faults.Duplicate t.at)) (f.goes (f.sign es name)))) (sym a) tt)
    (λ a. subst (λ b. Said (cond b (f.refused (faults.Duplicate t.at)) (f.goes (f.sign es name)))) (sym a) (add-name (f.names_of es) name n few p.0 a))))
    (λ e. subst (λ b. Said (cond b (cond (is_among name (f.names_of es)) (f.refused (faults.Duplicate t.at)) (f.goes (f.sign es name))) (f.syntax t)))
    (sym e) tt)

statement-well : (es : List f.Event) (t : Placed) (x : Token) → Named es → Said (f.named es t x)
statement-well es t (word name) n = named-well es t name n
statement-well es t (quoted text) n = tt
statement-well es t (letters text) n = tt
statement-well es t equal n = tt
statement-well es t unequal n = tt
statement-well es t (mark b) n = tt

used-well : (es : List f.Event) (name : List ℕ) (t : Placed) (u : Option f.Use) → NamedWith es name → Said (f.used es name t u)
used-well es name t (Some u) n = n
used-well es name t None n = tt

module _ (d : f.Draft) (i : InDraft d) where
  part-well : (at : ℕ) (parts : List ℕ) (t : Placed) (text : Option (List ℕ)) → Said (f.with_part d at parts t text)
  part-well at parts t (Some text) = i
  part-well at parts t None = tt

  left-well : (at : ℕ) (parts : List ℕ) (t : Placed) (n : Option ℕ) → Said (f.with_left d at parts t n)
  left-well at parts t (Some n) = i
  left-well at parts t None = tt

  right-well : (at : ℕ) (parts : List ℕ) (n : ℕ) (t : Placed) (m : Option ℕ) → Said (f.with_right d at parts n t m)
  right-well at parts n t (Some m) = i
  right-well at parts n t None = tt

  compares-well : (p : f.Path) (t : Placed) (b : Option Bool) → Said (f.compares d p t b)
  compares-well p t (Some b) = i
  compares-well p t None = tt

  own-name : (c : f.Condition) (u : f.Use) → (f.with_condition d c u).name ≡ d.name
  own-name c (f.trigger_of made) = refl
  own-name c f.becoming = refl
  own-name c (f.condition_of trigger conditions) = refl

  value-well : (p : f.Path) (b : Bool) (t : Placed) (ls : Option (List ℕ)) → Said (f.with_value d p b t ls)
  value-well p b t (Some ls) = subst (λ (name : List ℕ). NamedWith d.events name) (sym (own-name _ d.use_of)) i
  value-well p b t None = tt

behind-well : (es : List f.Event) (e : f.Event) (t : Placed) → NamedWith es e.name → Said (f.behind_says es e t)
behind-well es e t n =
    let more : f.Said = f.goes (f.first_part (f.draft es e.name (f.condition_of e.trigger e.conditions))) in
    let last : f.Place = f.statement (es ++ e ∷ []) in
    either (f.is_word (f.joint e.conditions) t.token) more (f.expects (f.is_mark 59 t.token) last t) n
    (expects-well (f.is_mark 59 t.token) last t (subst AreEventNames (sym (map-append (λ (x : f.Event). x.name) es (e ∷ []))) n))

path-well : (d : f.Draft) (p : f.Path) (t : Placed) (u : f.Use) → InDraft d → Said (f.path_says d p t u)
path-well d p t (f.trigger_of made) i = behind-well d.events (f.event d.name (made p) []) t i
path-well d p t f.becoming i = compares-well d i p t (f.comparison_of t.token)
path-well d p t (f.condition_of trigger conditions) i = compares-well d i p t (f.comparison_of t.token)

says-well : (p : f.Place) (t : Placed) → At p → Said (f.says p t)
unfolding f.says
says-well f.keyword t a = expects-well (f.is_word (codes "events") t.token) f.version t tt
says-well f.version t a = expects-well (f.is_word (codes "1") t.token) f.head_end t tt
says-well f.head_end t a =
    expects-well (f.is_mark 59 t.token) (f.statement []) t (record { few = omega arith; named = refl; distinct = refl })
says-well (f.statement es) t a = statement-well es t t.token a
says-well (f.sign es name) t a = expects-well (f.is_mark 61 t.token) (f.kind es name) t a
says-well (f.kind es name) t a = used-well es name t (f.use_of_token t.token) a
says-well (f.first_part d) t a = part-well d a t.at [] t (f.part_of t.token)
says-well (f.part d at parts) t a = part-well d a at parts t (f.part_of t.token)
says-well (f.behind_part d at parts) t a =
    either (f.is_mark 46 t.token) (f.goes (f.part d at (parts ++ 32 ∷ []))) _ a
    (either (f.is_mark 91 t.token) (f.goes (f.left d at parts)) _ a (path-well d (f.path at parts Whole) t d.use_of a))
says-well (f.left d at parts) t a = left-well d a at parts t (f.index_of t.token)
says-well (f.behind_left d at parts n) t a =
    either (f.is_mark 58 t.token) (f.goes (f.right d at parts n)) _ a
    (expects-well (f.is_mark 93 t.token) (f.behind_path d (f.path at parts (Bit n))) t a)
says-well (f.right d at parts n) t a = right-well d a at parts n t (f.index_of t.token)
says-well (f.bracket d p) t a = expects-well (f.is_mark 93 t.token) (f.behind_path d p) t a
says-well (f.behind_path d p) t a = path-well d p t d.use_of a
says-well (f.value d p b) t a = value-well d a p b t (value_of t.token)
says-well (f.behind es e) t a = behind-well es e t a

abbrev Reads : f.Reading → Type 0
Reads (f.events es) = Named es
Reads (f.fault g) = Unit {0}

ends-well : (len : ℕ) (p : f.Place) → At p → Reads (f.ends len p)
ends-well len (f.statement es) a = a
ends-well len f.keyword a = tt
ends-well len f.version a = tt
ends-well len f.head_end a = tt
ends-well len (f.sign es name) a = tt
ends-well len (f.kind es name) a = tt
ends-well len (f.first_part d) a = tt
ends-well len (f.part d at parts) a = tt
ends-well len (f.behind_part d at parts) a = tt
ends-well len (f.left d at parts) a = tt
ends-well len (f.behind_left d at parts n) a = tt
ends-well len (f.right d at parts n) a = tt
ends-well len (f.bracket d p) a = tt
ends-well len (f.behind_path d p) a = tt
ends-well len (f.value d p b) a = tt
ends-well len (f.behind es e) a = tt

told-well : (s : f.Said) (more : f.Place → f.Reading) → Said s → ((q : f.Place) → At q → Reads (more q)) → Reads (f.told s more)
told-well (f.goes q) more h r = r q h
told-well (f.refused g) more h r = tt

story-well : (len : ℕ) (p : f.Place) (ts : List Placed) → At p → Reads (f.story len p ts)
unfolding f.story
story-well len p [] a = ends-well len p a
story-well len p (t ∷ ts) a = told-well (f.says p t) (λ q. f.story len q ts) (says-well p t a) (λ q h. story-well len q ts h)

-- The names of a file of events are those that a trace may have.
pub names-read : (file : List ℕ) (es : List f.Event) → f.reading file ≡ f.events es → AreEventNames (f.names_of es)
unfolding f.reading
names-read file es e = subst Reads e (story-well (length file) f.keyword (tokens file) tt)

-- PLANS: one watch for each event

each-length : {A B : Type 0} (meaning : A → Result B EventFault) (xs : List A) (ys : List B) → each meaning xs ≡ Ok ys → length ys ≡ length xs
each-length meaning [] [] e = refl
each-length meaning [] (y ∷ ys) e = absurd (cc)
each-length {B = B} meaning (x ∷ xs) ys e = by (meaning x) (each meaning xs) refl e (λ ms k. each-length meaning xs ms k)
  where
    by : (q : Result B EventFault) (r : Result (List B) EventFault) → each meaning xs ≡ r → in_front q r ≡ Ok ys
        → ((ms : List B) → each meaning xs ≡ Ok ms → length ms ≡ length xs) → length ys ≡ suc (length xs)
    by (Ok m) (Ok ms) k h l = let is : m ∷ ms ≡ ys = cc in sym (ap length is) ∙ ap suc (l ms k)
    by (Ok m) (Err g) k h l = absurd (cc)
    by (Err g) r k h l = absurd (cc)

made-ok : {A B : Type 0} (of : A → B) (r : Result A EventFault) (b : B) → made of r ≡ Ok b → (a : A) × (r ≡ Ok a) × (of a ≡ b)
made-ok of (Ok a) b e = (a, refl, cc)
made-ok of (Err g) b e = absurd (cc)

pub plan-length : (es : List f.Event) (vs : List declared.Variable) (codes : List (List ℕ)) (skips : Bool) (plan : Plan)
    → bound es vs codes skips ≡ Ok (seen_plan plan) → length plan.watches ≡ length (f.names_of es)
unfolding bound
plan-length es vs codes skips plan e =
    let k = made-ok (λ ws. numbered codes skips (different (flat_map read_by ws)) ws) (each (watch vs) es) (seen_plan plan) e in
    sym (length-map plan.watches seen_watch) ∙ sym (ap (λ (b : Bound). length b.watches) k.2)
    ∙ length-map k.0 (watch_with (number_in (different (flat_map read_by k.0)))) ∙ each-length (watch vs) es k.0 k.1
    ∙ sym (length-map es (λ (x : f.Event). x.name))
