-- What paths and events mean for a header is one, however it lies in memory.
use Rattle.std.proofs.Common.{◌≡◌, ℕ, List, [], ◌∷◌, take, Bool, true, false, cond, Option, Some, None, Result, refl, sym, ap, ◌∙◌}
use Rattle.std.specs.List.{flat_map}
use Rattle.ccsl_base.specs.Names.{find_name}
use Rattle.ccsl_scopes.specs.declared.select.Select.{Select}
use Rattle.ccsl_scopes.specs.declared.select.Select.TheVariants.{Whole}
use Rattle.ccsl_scopes.specs.declared.select.Bits.{Bits}
use Rattle.ccsl_scopes.specs.declared.variable.Variable.{Variable}
use Rattle.ccsl_scopes.specs.declared.variable.Kind.{Kind}
use Rattle.ccsl_scopes.specs.declared.header.Header.{Header}
use Rattle.ccsl_scopes.specs.declared.lookup.Target.{Target}
use Rattle.ccsl_scopes.specs.Headings.{Declared, Heading, codes_of}
use Rattle.ccsl_scopes.specs.Standing.{IsVariable, AreVariables, IsHeaderOf}
use Rattle.ccsl_scopes.specs.Selects.{bits_of}
use Rattle.ccsl_scopes.specs.Paths.{has_letters, is_or_ends_in, with_bits, target_of, joined, only_from, only, chosen, resolved}
use Rattle.ccsl_event_file.specs.declared.fault.EventFault.{EventFault}
use Rattle.ccsl_event_file.specs.File as file
use Rattle.ccsl_events.specs.declared.binder.Source.{Source}
use Rattle.ccsl_events.specs.Binding.{Trigger, Watch, rise, fall, change, becomes, record_of, part_of, source_of, and_then, made, in_front, each}
use Rattle.ccsl_events.specs.Binding.{found, target, of_one_bit, of_event, of_value, goal_on, goal, trigger, watch_on, watch}
use Rattle.ccsl_events.specs.Binding.{read_by, different, numbered, bound}

pub some-one : {A : Type 0} (x y : A) (o : Option A) → o ≡ Some x → o ≡ Some y → x ≡ y
some-one x y o e f = let g : Some x ≡ Some y = sym e ∙ f in cc

-- what a variable is found by
found_bits : ℕ → ℕ → Kind → Option Bits → Option Target
found_bits code size kind None = None
found_bits code size kind (Some b) = Some (record { code = code; size = size; kind = kind; bits = b })

abbrev target_by : Bool → List ℕ → Select → Kind → ℕ → ℕ → List ℕ → ℕ → Select → Option Target
target_by exact parts select kind size code path bare range =
    cond (has_letters kind)
    (cond (is_or_ends_in exact (take bare path) parts) (found_bits code size kind (bits_of range size select))
    (cond (is_or_ends_in exact path parts) (found_bits code size kind (bits_of Whole size select)) None)) None

same-bits : (v : Variable) (b : Option Bits) → with_bits v b ≡ found_bits v.code v.size v.kind b
unfolding found_bits
same-bits v None = refl
same-bits v (Some b) = refl

by-fields : (exact : Bool) (parts : List ℕ) (select : Select) (v : Variable)
    → target_of exact parts select v ≡ target_by exact parts select v.kind v.size v.code v.path.items v.bare v.range
by-fields exact parts select v =
    ap (λ (o : Option Target). cond (has_letters v.kind) (cond (is_or_ends_in exact (take v.bare v.path.items) parts) o
    (cond (is_or_ends_in exact v.path.items parts) (with_bits v (bits_of Whole v.size select)) None)) None)
    (same-bits v (bits_of v.range v.size select))
    ∙ ap (λ (o : Option Target). cond (has_letters v.kind)
    (cond (is_or_ends_in exact (take v.bare v.path.items) parts) (found_bits v.code v.size v.kind (bits_of v.range v.size select))
    (cond (is_or_ends_in exact v.path.items parts) o None)) None)
    (same-bits v (bits_of Whole v.size select))

one-target : (known : List (List ℕ)) (d : Declared) (v w : Variable) → IsVariable known d v → IsVariable known d w
    → (exact : Bool) (parts : List ℕ) (select : Select) → target_of exact parts select v ≡ target_of exact parts select w
one-target known d v w a b exact parts select =
    by-fields exact parts select v
    ∙ ap (λ (k : Kind). target_by exact parts select k v.size v.code v.path.items v.bare v.range) (a.kind ∙ sym b.kind)
    ∙ ap (λ (n : ℕ). target_by exact parts select w.kind n v.code v.path.items v.bare v.range) (a.size ∙ sym b.size)
    ∙ ap (λ (n : ℕ). target_by exact parts select w.kind w.size n v.path.items v.bare v.range)
    (some-one v.code w.code (find_name d.code known) a.code b.code)
    ∙ ap (λ (p : List ℕ). target_by exact parts select w.kind w.size w.code p v.bare v.range) (a.path ∙ sym b.path)
    ∙ ap (λ (n : ℕ). target_by exact parts select w.kind w.size w.code w.path.items n v.range) (a.bare ∙ sym b.bare)
    ∙ ap (λ (r : Select). target_by exact parts select w.kind w.size w.code w.path.items w.bare r) (a.range ∙ sym b.range)
    ∙ sym (by-fields exact parts select w)

one-found : (known : List (List ℕ)) (ds : List Declared) (vs ws : List Variable) → AreVariables known ds vs → AreVariables known ds ws
    → (exact : Bool) (parts : List ℕ) (select : Select) (so_far : _)
    → only_from so_far exact parts select vs ≡ only_from so_far exact parts select ws
one-found known [] [] [] a b exact parts select so_far = refl
one-found known [] [] (w ∷ ws) a b exact parts select so_far = absurd b
one-found known [] (v ∷ vs) ws a b exact parts select so_far = absurd a
one-found known (d ∷ ds) [] ws a b exact parts select so_far = absurd a
one-found known (d ∷ ds) (v ∷ vs) [] a b exact parts select so_far = absurd b
one-found known (d ∷ ds) (v ∷ vs) (w ∷ ws) a b exact parts select so_far =
    ap (λ (t : Option Target). only_from (joined so_far t) exact parts select vs) (one-target known d v w a.0 b.0 exact parts select)
    ∙ one-found known ds vs ws a.1 b.1 exact parts select (joined so_far (target_of exact parts select w))

module _ (h : Heading) (x y : Header) (a : IsHeaderOf h x) (b : IsHeaderOf h y) where
  one-only : (exact : Bool) (parts : List ℕ) (select : Select)
      → only exact parts select x.variables.items ≡ only exact parts select y.variables.items
  one-only exact parts select =
      one-found (codes_of h.declared) h.declared x.variables.items y.variables.items a.variables b.variables exact parts select _

  one-path : (p : file.Path) → target x.variables.items p ≡ target y.variables.items p
  unfolding resolved
  one-path p =
      ap (λ s. found p.at (chosen s (only true p.parts p.select x.variables.items))) (one-only false p.parts p.select)
      ∙ ap (λ s. found p.at (chosen (only false p.parts p.select y.variables.items) s)) (one-only true p.parts p.select)

  one-goal : (c : file.Condition) → goal x.variables.items c ≡ goal y.variables.items c
  one-goal c = ap (λ (t : Result Target EventFault). made (goal_on c) (and_then t (of_value c))) (one-path c.path)

  one-trigger : (t : file.Trigger) → trigger x.variables.items t ≡ trigger y.variables.items t
  one-trigger (file.rise p) =
      ap (λ (t : Result Target EventFault). made (λ u. rise (part_of u)) (and_then t (of_one_bit p.at))) (one-path p)
  one-trigger (file.fall p) =
      ap (λ (t : Result Target EventFault). made (λ u. fall (part_of u)) (and_then t (of_one_bit p.at))) (one-path p)
  one-trigger (file.change p) = ap (λ (t : Result Target EventFault). made (λ u. change (part_of u)) t) (one-path p)
  one-trigger (file.becomes c) = ap (made becomes) (one-goal c)
  one-trigger (file.record_of p) =
      ap (λ (t : Result Target EventFault). made (λ u. record_of (source_of u)) (and_then t (λ u. of_event p.at u u.kind))) (one-path p)

  one-each : {A B : Type 0} (f g : A → Result B EventFault) (xs : List A) → ((z : A) → f z ≡ g z) → each f xs ≡ each g xs
  one-each f g [] same = refl
  one-each f g (z ∷ zs) same = ap (λ r. in_front r (each f zs)) (same z) ∙ ap (in_front (g z)) (one-each f g zs same)

  one-watch : (e : file.Event) → watch x.variables.items e ≡ watch y.variables.items e
  one-watch e =
      ap (λ (t : Result (Trigger Source) EventFault). watch_on t (each (goal x.variables.items) e.conditions)) (one-trigger e.trigger)
      ∙ ap (watch_on (trigger y.variables.items e.trigger))
      (one-each (goal x.variables.items) (goal y.variables.items) e.conditions one-goal)

  pub one-meaning : (es : List file.Event) (skips : Bool) → bound es x.variables.items x.codes skips ≡ bound es y.variables.items y.codes skips
  unfolding bound
  one-meaning es skips =
      ap (λ (codes : List (List ℕ)). made (λ ws. numbered codes skips (different (flat_map read_by ws)) ws) (each (watch x.variables.items) es))
      (a.codes ∙ sym b.codes)
      ∙ ap (λ (r : Result (List (Watch Source)) EventFault). made (λ ws. numbered y.codes skips (different (flat_map read_by ws)) ws) r)
      (one-each (watch x.variables.items) (watch y.variables.items) es one-watch)
