-- What is kept for the variables that are read suits the plan of the events.
use Rattle.std.proofs.Common.{◌≡◌, inl, ℕ, zero, suc, ◌<◌, ◌≤◌, List, [], ◌∷◌, length, map, true, false, Option, Some, None, nat_lt, bytes_eq, slice_get}
use Rattle.std.proofs.Common.{slice_index_or, ◌+◌, lt-ltb, refl, sym, ap, subst, ◌∙◌, ⊎_elim, arith, eq-eqb}
use Rattle.std.specs.Prelude.{◌==◌}
use Rattle.std.specs.List.{list_any, position_or_len}
use Rattle.std.specs.declared.vec.Vec.{Vec}
use Rattle.std.specs.declared.alloc.Global.{Global}
use Rattle.std.proofs.lemmas.Bool.{and_parts, cases_eq, cases_lt, ltb-true, ne_eqb}
use Rattle.std.proofs.lemmas.Option.{slice_get_within}
use Rattle.ccsl_base.proofs.Sets.{by_case}
use Rattle.ccsl_base.proofs.Tables.{find_name-there, bytes_eq-true, bytes_eq-refl, there-among, find-own}
use Rattle.ccsl_base.specs.declared.limits.TheConstants.{MAX_CLOCKS}
use Rattle.ccsl_base.specs.Clocks.{ticks_in}
use Rattle.ccsl_base.specs.Names.{find_name, are_distinct}
use Rattle.ccsl_triggers.specs.declared.watch.Watch.{Watch}
use Rattle.ccsl_triggers.specs.Views.{no_view}
use Rattle.ccsl_triggers.specs.Held.{Held, held, new_held}
use Rattle.ccsl_events.specs.declared.binder.Source.{Source}
use Rattle.ccsl_events.specs.declared.body.Gaps.{Gaps}
use Rattle.ccsl_events.specs.declared.codes.Entry.{Entry}
use Rattle.ccsl_events.specs.declared.codes.Entry.TheVariants.{Undeclared, Unused, Used}
use Rattle.ccsl_events.specs.declared.values.Values.{Values}
use Rattle.ccsl_events.specs.Dump.{Variable}
use Rattle.ccsl_events.specs.Places.{entry_in, entry_at, entry_of}
use Rattle.ccsl_events.specs.Keeping.{AreUsers, AreSole, held_at, chain, has_code, reads, Knows, SizeIn, Keeps}
use Rattle.ccsl_events.specs.Binding.{variable_of}
use Rattle.ccsl_events.specs.Begun.{plan_of}
use Rattle.ccsl_events.specs.Links.{first_in, has_number, alone, IsLinked, are_coded}

-- ## Variables

new_in : Option Source → Held
new_in None = new_held 0
new_in (Some s) = new_held s.size

variable_in : List (List ℕ) → Option Source → Option Variable
variable_in codes None = None
variable_in codes (Some s) = Some (variable_of codes s)

alone-at : (hs : List Held) (n : ℕ) → alone (held_at hs n) ≡ held_at (map alone hs) n
alone-at [] n = refl
alone-at (h ∷ hs) zero = refl
alone-at (h ∷ hs) (suc n) = alone-at hs n

new-at : (ss : List Source) (n : ℕ) → held_at (map (λ s. new_held s.size) ss) n ≡ new_in (slice_get ss n)
unfolding new_in
new-at [] n = refl
new-at (s ∷ ss) zero = refl
new-at (s ∷ ss) (suc n) = new-at ss n

variable-at : (codes : List (List ℕ)) (ss : List Source) (n : ℕ) → slice_get (map (variable_of codes) ss) n ≡ variable_in codes (slice_get ss n)
unfolding variable_in
variable-at codes [] n = refl
variable-at codes (s ∷ ss) zero = refl
variable-at codes (s ∷ ss) (suc n) = variable-at codes ss n

size-in : (codes : List (List ℕ)) (o : Option Source) → SizeIn (variable_in codes o) (new_in o).size
unfolding new_in variable_in
size-in codes None = tt
size-in codes (Some s) = refl

view-in : (o : Option Source) → (new_in o).view ≡ no_view
unfolding new_in
view-in None = refl
view-in (Some s) = refl

touched-in : (o : Option Source) → (new_in o).touched ≡ false
unfolding new_in
touched-in None = refl
touched-in (Some s) = refl

coded-at : (count : ℕ) (ss : List Source) (n : ℕ) (s : Source) → are_coded count ss ≡ true → slice_get ss n ≡ Some s → s.code < count
coded-at count [] n s a e = absurd (cc)
coded-at count (t ∷ ss) zero s a e =
    let both = and_parts (nat_lt t.code count) (are_coded count ss) a in
    let same : t ≡ s = cc in
    ltb-true s.code count (ap (λ u. nat_lt u.code count) (sym same) ∙ both.0)
coded-at count (t ∷ ss) (suc n) s a e = let both = and_parts (nat_lt t.code count) (are_coded count ss) a in coded-at count ss n s both.1 e

-- ## Codes

code-there : (codes : List (List ℕ)) (i : ℕ) → i < length codes → slice_get codes i ≡ Some (slice_index_or codes i [])
code-there [] i l = absurd (omega (arith, l))
code-there (c ∷ codes) zero l = refl
code-there (c ∷ codes) (suc i) l = code-there codes i (omega (arith, l))

-- a declared code is another's where their numbers are
same-number : (codes : List (List ℕ)) (i k : ℕ) (code : List ℕ) → are_distinct codes ≡ true → i < length codes → find_name code codes ≡ Some k →
    bytes_eq (slice_index_or codes i []) code ≡ (i == k)
same-number codes i k code distinct l found =
    ⊎_elim
    (λ (same : i ≡ k).
    let there : Some (slice_index_or codes i []) ≡ Some code = sym (code-there codes i l) ∙ ap (slice_get codes) same ∙ find_name-there code codes k found in
    let text : slice_index_or codes i [] ≡ code = cc in
    bytes_eq-refl (slice_index_or codes i []) code text ∙ sym (eq-eqb i k same))
    (λ (other : i ≡ k → ⊥).
    by_case (bytes_eq (slice_index_or codes i []) code) _
    (λ y.
    let own : find_name (slice_index_or codes i []) codes ≡ Some i = find-own codes i (slice_index_or codes i []) distinct (code-there codes i l) in
    let both : Some i ≡ Some k = sym own ∙ ap (λ c. find_name c codes) (bytes_eq-true (slice_index_or codes i []) code y) ∙ found in
    let same : i ≡ k = cc in
    absurd (other same))
    (λ n. n ∙ sym (ne_eqb i k other)))
    (cases_eq i k)

none-among : (code : List ℕ) (codes : List (List ℕ)) → length codes ≤ position_or_len (bytes_eq code) codes → list_any (bytes_eq code) codes ≡ false
none-among code [] l = refl
none-among code (c ∷ codes) l =
    by_case (bytes_eq code c) _
    (λ y. absurd (let here : position_or_len (bytes_eq code) (c ∷ codes) ≡ 0 = rw y refl in omega (arith, here, l)))
    (λ n.
    let there : position_or_len (bytes_eq code) (c ∷ codes) ≡ 1 + position_or_len (bytes_eq code) codes = rw n refl in
    rw n (none-among code codes (omega (arith, there, l))))

not-found : (code : List ℕ) (codes : List (List ℕ)) → find_name code codes ≡ None → list_any (bytes_eq code) codes ≡ false
not-found code codes e =
    ⊎_elim
    (λ (l : position_or_len (bytes_eq code) codes < length codes).
    let some : find_name code codes ≡ Some (position_or_len (bytes_eq code) codes) =
    rw (lt-ltb (position_or_len (bytes_eq code) codes) (length codes) l) refl in
    absurd (cc (some, e)))
    (λ (l : length codes ≤ position_or_len (bytes_eq code) codes). none-among code codes l)
    (cases_lt (position_or_len (bytes_eq code) codes) (length codes))

-- ## What is known of the codes

module _ (codes : List (List ℕ)) (ss : List Source) (hs : List Held) (es : List Entry) (ws : Vec Watch Global) (gaps : Gaps) where
  reads-number : (code : List ℕ) (k n : ℕ) → are_distinct codes ≡ true → are_coded (length codes) ss ≡ true → find_name code codes ≡ Some k →
      reads (plan_of codes ss ws gaps) code n ≡ has_number k (slice_get ss n)
  unfolding variable_in
  reads-number code k n distinct coded found = ap (has_code code) (variable-at codes ss n) ∙ by (slice_get ss n) refl
    where
      by : (o : Option Source) → slice_get ss n ≡ o → has_code code (variable_in codes o) ≡ has_number k o
      by None e = refl
      by (Some s) e = same-number codes s.code k code distinct (coded-at (length codes) ss n s coded e) found

  knows-number : (code : List ℕ) (k : ℕ) (o : Option Entry) → are_distinct codes ≡ true → are_coded (length codes) ss ≡ true → IsLinked (length codes) ss hs es
      →
      find_name code codes ≡ Some k → slice_get es k ≡ o → Knows (plan_of codes ss ws gaps) hs code (entry_in o)
  knows-number code k None distinct coded linked found e =
      absurd (let within : k < length codes = slice_get_within codes k code (find_name-there code codes k found) in no es k (omega
      (arith, within, linked.len)) e)
    where
      no : (ds : List Entry) (i : ℕ) → i < length ds → slice_get ds i ≡ None → ⊥
      no [] i l f = absurd (omega (arith, l))
      no (d ∷ ds) zero l f = absurd (cc)
      no (d ∷ ds) (suc i) l f = no ds i (omega (arith, l)) f
  knows-number code k (Some Undeclared) distinct coded linked found e = absurd (linked.declared k e)
  knows-number code k (Some Unused) distinct coded linked found e = (
    there-among codes k code (find_name-there code codes k found),
    λ n. reads-number code k n distinct coded found ∙ linked.chains k n ∙ ap (λ o. ticks_in n (chain (length hs) (first_in o) hs)) e
        ∙ ap (ticks_in n) (none (length hs)),
  )
    where
      none : (most : ℕ) → chain most None hs ≡ []
      none zero = refl
      none (suc most) = refl
  knows-number code k (Some (Used first)) distinct coded linked found e = (
    there-among codes k code (find_name-there code codes k found),
    λ n. reads-number code k n distinct coded found ∙ linked.chains k n ∙ ap (λ o. ticks_in n (chain (length hs) (first_in o) hs)) e,
  )

  knows : (code : List ℕ) (o : Option ℕ) → are_distinct codes ≡ true → are_coded (length codes) ss ≡ true → IsLinked (length codes) ss hs es →
      find_name code codes ≡ o → Knows (plan_of codes ss ws gaps) hs code (entry_at es o)
  knows code None distinct coded linked found = not-found code codes found
  knows code (Some k) distinct coded linked found = knows-number code k (slice_get es k) distinct coded linked found refl

  pub keeps-begun : (v : Values) → are_distinct codes ≡ true → are_coded (length codes) ss ≡ true → IsLinked (length codes) ss hs es
      → map held v.signals.items ≡ hs →
      v.watches ≡ ws → length ws.items ≤ MAX_CLOCKS → v.none ≡ [] → AreUsers ws.items v.users.items → v.codes ≡ record { names = codes; entries = es } →
      AreSole ws.items v.users.items v.sole_names.items → v.names ≡ [] → Keeps (plan_of codes ss ws gaps) (λ n. no_view) v
  keeps-begun v distinct coded linked is watches few none users tables sole unnamed = record {
    watches = ap (λ w. w.items) watches;
    few = few;
    none = none;
    users = users;
    codes = λ code.
        subst (λ c. Knows (plan_of codes ss ws gaps) (map held v.signals.items) code (entry_of c code)) (sym tables)
        (subst (λ gs. Knows (plan_of codes ss ws gaps) gs code (entry_at es (find_name code codes))) (sym is)
        (knows code (find_name code codes) distinct coded linked refl));
    sizes = λ n.
        subst (λ o. SizeIn o (held_at (map held v.signals.items) n).size) (sym (variable-at codes ss n))
        (subst (λ size. SizeIn (variable_in codes (slice_get ss n)) size) (sym (ap (λ h. h.size) (at n))) (size-in codes (slice_get ss n)));
    seen = λ n. ap (λ h. h.view) (at n) ∙ view-in (slice_get ss n);
    quiet = λ n e. inl (record { same = refl; unheard = refl });
    sole = sole;
    recorded = λ name e. absurd (let no : ticks_in name v.names ≡ false = ap (ticks_in name) unnamed in cc (no, e));
    flags = λ n e. absurd (let no : (held_at (map held v.signals.items) n).touched ≡ false = ap (λ h. h.touched) (at n) ∙ touched-in (slice_get ss n) in cc (
      no,
      e,
    ));
  }
    where
      at : (n : ℕ) → alone (held_at (map held v.signals.items) n) ≡ new_in (slice_get ss n)
      at n = ap (λ gs. alone (held_at gs n)) is ∙ alone-at hs n ∙ ap (λ gs. held_at gs n) linked.new ∙ new-at ss n
