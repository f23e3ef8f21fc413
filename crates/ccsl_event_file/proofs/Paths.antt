-- How a token leads on in a path or a condition.
use Rattle.std.proofs.Common.{◌≡◌, ℕ, List, [], ◌∷◌, ◌++◌, Bool, true, false, Option, Some, None, is_some, cond, refl, sym, ap, ◌∙◌}
use Rattle.std.proofs.lemmas.Bool.{false≢true}
use Rattle.ccsl_scopes.specs.declared.select.Select.{Select}
use Rattle.ccsl_scopes.specs.declared.select.Select.TheVariants.{Whole, Bit, Range}
use Rattle.ccsl_event_file.specs.declared.fault.EventFault.{EventFault}
use Rattle.ccsl_event_file.specs.declared.fault.EventFault.TheVariants as faults
use Rattle.ccsl_event_file.specs.Tokens.{Placed}
use Rattle.ccsl_event_file.specs.Values.{value_of}
use Rattle.ccsl_event_file.specs.File.{Path, Condition, path, Draft, Use, trigger_of, becoming, condition_of, first_part, part, behind_part, left, behind_left}
use Rattle.ccsl_event_file.specs.File.{right, bracket, behind_path, value, behind, Said, goes, syntax, expects, is_mark, part_of, with_part, index_of}
use Rattle.ccsl_event_file.specs.File.{with_left, with_right, comparison_of, compares, path_says, with_condition, with_value, says, story}
use Rattle.ccsl_event_file.specs.Parsing.{place_of, next_is, TakesOne, ReadsOne, PutsPart}
use Rattle.ccsl_event_file.specs.Parsing.{IsValueFault, IsFault, is_condition}
use Rattle.ccsl_event_file.proofs.Story.{taken, same, ExpectsAt, expected, unexpected, valued, unvalued}

-- behind a part: whether a dot is next, and whether a bracket is
abbrev part_says : Draft → ℕ → List ℕ → Placed → Bool → Bool → Said
part_says d at parts t is_dot is_open =
    cond is_dot (goes (part d at (parts ++ 32 ∷ []))) (cond is_open (goes (left d at parts)) (path_says d (path at parts Whole) t d.use_of))

module _ (d : Draft) (at : ℕ) (parts : List ℕ) where
  pub at_bracket : (select : Select) → ExpectsAt (bracket d (path at parts select)) (is_mark 93) (behind_path d (path at parts select))
  unfolding says
  at_bracket select t = refl

  pub no_colon : (len n : ℕ) (old : List Placed) → next_is (is_mark 58) old ≡ false
      → story len (behind_left d at parts n) old ≡ story len (bracket d (path at parts (Bit n))) old
  unfolding says
  no_colon len n old h = same len (behind_left d at parts n) (bracket d (path at parts (Bit n))) old refl
      (λ t us e. ap (λ b. cond b (goes (right d at parts n)) (expects (is_mark 93 t.token) (behind_path d (path at parts (Bit n))) t))
      (sym (ap (next_is (is_mark 58)) e) ∙ h))

  pub colon : (len n : ℕ) (old new : List Placed) → TakesOne (is_mark 58) old new
      → story len (behind_left d at parts n) old ≡ story len (right d at parts n) new
  unfolding says
  colon len n old new one = taken len (behind_left d at parts n) (right d at parts n) one.next old new one.is
      (ap (λ b. cond b (goes (right d at parts n)) (expects (is_mark 93 one.next.token) (behind_path d (path at parts (Bit n))) one.next)) one.passes)

  right_says : (n m : ℕ) (t : Placed) → index_of t.token ≡ Some m → says (right d at parts n) t ≡ goes (bracket d (path at parts (Range n m)))
  unfolding says
  right_says n m t e = ap (with_right d at parts n t) e

  right_no : (n : ℕ) (t : Placed) → index_of t.token ≡ None → says (right d at parts n) t ≡ syntax t
  unfolding says
  right_no n t e = ap (with_right d at parts n t) e

  pub second : (len n m : ℕ) (old new : List Placed) → ReadsOne index_of m old new
      → story len (right d at parts n) old ≡ story len (bracket d (path at parts (Range n m))) new
  second len n m old new one = valued len (right d at parts n) (λ _. bracket d (path at parts (Range n m))) index_of m old new (right_says n m) one

  pub no_second : (f : EventFault) (len n : ℕ) (old : List Placed) → IsValueFault f index_of len old → IsFault f (story len (right d at parts n) old)
  no_second f len n old h = unvalued f len (right d at parts n) index_of old (λ _. refl) (right_no n) h

  left_says : (m : ℕ) (t : Placed) → index_of t.token ≡ Some m → says (left d at parts) t ≡ goes (behind_left d at parts m)
  unfolding says
  left_says m t e = ap (with_left d at parts t) e

  left_no : (t : Placed) → index_of t.token ≡ None → says (left d at parts) t ≡ syntax t
  unfolding says
  left_no t e = ap (with_left d at parts t) e

  pub first : (len m : ℕ) (old new : List Placed) → ReadsOne index_of m old new → story len (left d at parts) old ≡ story len (behind_left d at parts m) new
  first len m old new one = valued len (left d at parts) (λ _. behind_left d at parts m) index_of m old new (left_says m) one

  pub no_first : (f : EventFault) (len : ℕ) (old : List Placed) → IsValueFault f index_of len old → IsFault f (story len (left d at parts) old)
  no_first f len old h = unvalued f len (left d at parts) index_of old (λ _. refl) left_no h

  pub dot : (len : ℕ) (old new : List Placed) → TakesOne (is_mark 46) old new
      → story len (behind_part d at parts) old ≡ story len (part d at (parts ++ 32 ∷ [])) new
  unfolding says
  dot len old new one = taken len (behind_part d at parts) (part d at (parts ++ 32 ∷ [])) one.next old new one.is
      (ap (λ b. part_says d at parts one.next b (is_mark 91 one.next.token)) one.passes)

  pub opens : (len : ℕ) (old new : List Placed) → next_is (is_mark 46) old ≡ false → TakesOne (is_mark 91) old new
      → story len (behind_part d at parts) old ≡ story len (left d at parts) new
  unfolding says
  opens len old new absent one = taken len (behind_part d at parts) (left d at parts) one.next old new one.is
      (ap (λ b. part_says d at parts one.next b (is_mark 91 one.next.token)) (sym (ap (next_is (is_mark 46)) one.is) ∙ absent)
      ∙ ap (λ b. part_says d at parts one.next false b) one.passes)

  pub is_whole : (len : ℕ) (old : List Placed) → next_is (is_mark 46) old ≡ false → next_is (is_mark 91) old ≡ false
      → story len (behind_part d at parts) old ≡ story len (behind_path d (path at parts Whole)) old
  unfolding says
  is_whole len old absent closed = same len (behind_part d at parts) (behind_path d (path at parts Whole)) old refl
      (λ t us e. ap (λ b. part_says d at parts t b (is_mark 91 t.token)) (sym (ap (next_is (is_mark 46)) e) ∙ absent)
      ∙ ap (λ b. part_says d at parts t false b) (sym (ap (next_is (is_mark 91)) e) ∙ closed))

  part_no : (t : Placed) → part_of t.token ≡ None → says (part d at parts) t ≡ syntax t
  unfolding says
  part_no t e = ap (with_part d at parts t) e

  pub puts : (len : ℕ) (now : List ℕ) (old new : List Placed) → PutsPart parts now old new
      → story len (part d at parts) old ≡ story len (behind_part d at now) new
  unfolding says
  puts len now old new one = taken len (part d at parts) (behind_part d at now) one.next old new one.is
      (ap (with_part d at parts one.next) one.value ∙ ap (λ x. goes (behind_part d at x)) (sym one.put))

  pub no_part : (f : EventFault) (len : ℕ) (old : List Placed) → IsValueFault f part_of len old → IsFault f (story len (part d at parts) old)
  no_part f len old h = unvalued f len (part d at parts) part_of old (λ _. refl) part_no h

module _ (d : Draft) where
  first_no : (t : Placed) → part_of t.token ≡ None → says (first_part d) t ≡ syntax t
  unfolding says
  first_no t e = ap (with_part d t.at [] t) e

  pub puts_first : (len : ℕ) (now : List ℕ) (old new : List Placed) → PutsPart [] now old new
      → story len (first_part d) old ≡ story len (behind_part d (place_of len old) now) new
  unfolding says
  puts_first len now old new one = taken len (first_part d) (behind_part d (place_of len old) now) one.next old new one.is
      (ap (with_part d one.next.at [] one.next) one.value
      ∙ ap (λ x. goes (behind_part d one.next.at x)) (sym one.put)
      ∙ ap (λ n. goes (behind_part d n now)) (sym (ap (place_of len) one.is)))

  pub no_first_part : (f : EventFault) (len : ℕ) (old : List Placed) → IsValueFault f part_of len old → IsFault f (story len (first_part d) old)
  no_first_part f len old h = unvalued f len (first_part d) part_of old (λ _. refl) first_no h

-- ## Conditions

compares_on : (d : Draft) (p : Path) (t : Placed) (u : Use) → is_condition u ≡ true → path_says d p t u ≡ compares d p t (comparison_of t.token)
compares_on d p t (trigger_of made) e = absurd (false≢true e)
compares_on d p t becoming e = refl
compares_on d p t (condition_of trigger conditions) e = refl

abbrev pub condition_at : Path → Bool → ℕ → List ℕ → Condition
condition_at p equal at ls = record { path = p; is_equal = equal; at = at; letters = ls }

module _ (d : Draft) (p : Path) where
  path_compares : is_condition d.use_of ≡ true → (t : Placed) → says (behind_path d p) t ≡ compares d p t (comparison_of t.token)
  unfolding says
  path_compares is t = compares_on d p t d.use_of is

  pub compared : is_condition d.use_of ≡ true → (len : ℕ) (equal : Bool) (old new : List Placed) → ReadsOne comparison_of equal old new
      → story len (behind_path d p) old ≡ story len (value d p equal) new
  compared is len equal old new one = valued len (behind_path d p) (λ _. value d p equal) comparison_of equal old new
      (λ t e. path_compares is t ∙ ap (compares d p t) e) one

  pub not_compared : is_condition d.use_of ≡ true → (f : EventFault) (len : ℕ) (old : List Placed) → IsValueFault f comparison_of len old
      → IsFault f (story len (behind_path d p) old)
  not_compared is f len old h = unvalued f len (behind_path d p) comparison_of old (λ _. refl) (λ t e. path_compares is t ∙ ap (compares d p t) e) h

  value_says : (equal : Bool) (ls : List ℕ) (t : Placed) → value_of t.token ≡ Some ls
      → says (value d p equal) t ≡ goes (behind d.events (with_condition d (condition_at p equal t.at ls) d.use_of))
  unfolding says
  value_says equal ls t e = ap (with_value d p equal t) e

  value_no : (equal : Bool) (t : Placed) → value_of t.token ≡ None → says (value d p equal) t ≡ syntax t
  unfolding says
  value_no equal t e = ap (with_value d p equal t) e

  pub has_value : (len : ℕ) (equal : Bool) (ls : List ℕ) (old new : List Placed) → ReadsOne value_of ls old new
      → story len (value d p equal) old ≡ story len (behind d.events (with_condition d (condition_at p equal (place_of len old) ls) d.use_of)) new
  has_value len equal ls old new one =
      valued len (value d p equal) (λ at. behind d.events (with_condition d (condition_at p equal at ls) d.use_of)) value_of ls old new (value_says equal ls)
      one

  pub no_value : (f : EventFault) (len : ℕ) (equal : Bool) (old : List Placed) → IsValueFault f value_of len old → IsFault f (story len (value d p equal) old)
  no_value f len equal old h = unvalued f len (value d p equal) value_of old (λ _. refl) (value_no equal) h

-- ## What the code takes

pub closes : (d : Draft) (at : ℕ) (parts : List ℕ) (select : Select) (len : ℕ) (old new : List Placed) → TakesOne (is_mark 93) old new
    → story len (bracket d (path at parts select)) old ≡ story len (behind_path d (path at parts select)) new
closes d at parts select len old new one =
    expected len (bracket d (path at parts select)) (behind_path d (path at parts select)) (is_mark 93) old new (at_bracket d at parts select) one

pub not_closed : (d : Draft) (at : ℕ) (parts : List ℕ) (select : Select) (f : EventFault) (len : ℕ) (old : List Placed)
    → (next_is (is_mark 93) old ≡ false) × (f ≡ faults.Syntax (place_of len old)) → IsFault f (story len (bracket d (path at parts select)) old)
not_closed d at parts select f len old h =
    unexpected f len (bracket d (path at parts select)) (behind_path d (path at parts select)) (is_mark 93) old (λ _. refl) (at_bracket d at parts select) h

none_if : {X : Type 0} (o : Option X) → false ≡ is_some o → o ≡ None
none_if None h = refl
none_if (Some x) h = absurd (false≢true h)
