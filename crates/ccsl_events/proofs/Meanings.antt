-- What holds of each variable that the meaning of events reads.
use Rattle.std.proofs.Common.{◌≡◌, ℕ, suc, List, [], ◌∷◌, ◌++◌, length, map, ◌&&◌, ◌||◌, Bool, true, false, Result, Ok, Err, nat_lt, if◌then◌else◌, refl, sym}
use Rattle.std.proofs.Common.{ap, ap₂, subst, ◌∙◌, lt-ltb}
use Rattle.std.specs.Prelude.{◌==◌}
use Rattle.std.specs.List.{list_any, flat_map}
use Rattle.std.proofs.lemmas.List.Folds.{list_any-append}
use Rattle.std.proofs.lemmas.Bool.{and_parts}
use Rattle.ccsl_scopes.specs.declared.variable.Variable.{Variable}
use Rattle.ccsl_scopes.specs.declared.variable.Kind.{Kind}
use Rattle.ccsl_scopes.specs.declared.variable.Kind.TheVariants as kinds
use Rattle.ccsl_scopes.specs.declared.lookup.Target.{Target}
use Rattle.ccsl_scopes.specs.declared.lookup.Resolution.{Resolution}
use Rattle.ccsl_scopes.specs.declared.lookup.Resolution.TheVariants.{Found, Unknown, Ambiguous}
use Rattle.ccsl_scopes.specs.Paths.{resolved}
use Rattle.ccsl_scopes.specs.Codes.{are_declared, IsDeclared}
use Rattle.ccsl_scopes.proofs.Codes.{resolved-declared}
use Rattle.ccsl_event_file.specs.declared.fault.EventFault.{EventFault}
use Rattle.ccsl_event_file.specs.File as file
use Rattle.ccsl_triggers.specs.declared.watch.Watch as watches
use Rattle.ccsl_triggers.specs.declared.watch.Trigger as triggers
use Rattle.ccsl_triggers.specs.declared.watch.Trigger.TheVariants as t
use Rattle.ccsl_triggers.specs.Triggers.{variable_of}
use Rattle.ccsl_events.specs.declared.binder.Source.{Source}
use Rattle.ccsl_events.specs.Binding as b
use Rattle.ccsl_events.specs.Binds.{seen_trigger, seen_watch, seen_watches}
use Rattle.ccsl_events.specs.Links.{are_coded, are_within}
use Rattle.ccsl_events.proofs.Sources.{number-within, is_same-refl}

-- ## Codes of what is read

Coded : {M : Type 0} → (M → List Source) → ℕ → Result M EventFault → Type 0
Coded read count (Ok m) = are_coded count (read m) ≡ true
Coded read count (Err f) = Unit {0}

one_target : Target → List Source
one_target u = b.source_of u ∷ []

coded-source : (count : ℕ) (s : Source) → nat_lt s.code count ≡ true → are_coded count (s ∷ []) ≡ true
coded-source count s e = ap (λ p. p && true) e

coded-found : (count : ℕ) (at : ℕ) (r : Resolution) → IsDeclared count r → Coded one_target count (b.found at r)
unfolding Coded one_target
coded-found count at (Found u) c = coded-source count (b.source_of u) c
coded-found count at Unknown c = tt
coded-found count at Ambiguous c = tt

coded-then : (count : ℕ) (r : Result Target EventFault) (next : Target → Result Target EventFault) → Coded one_target count r →
    ((u : Target) → are_coded count (one_target u) ≡ true → Coded one_target count (next u)) → Coded one_target count (b.and_then r next)
unfolding Coded
coded-then count (Ok u) next c more = more u c
coded-then count (Err f) next c more = tt

coded-made : {M : Type 0} (read : M → List Source) (of : Target → M) (count : ℕ) (r : Result Target EventFault) → ((u : Target) → read (of u) ≡ one_target u)
    → Coded one_target count r →
    Coded read count (b.made of r)
unfolding Coded
coded-made read of count (Ok u) same c = ap (are_coded count) (same u) ∙ c
coded-made read of count (Err f) same c = tt

module _ (vs : List Variable) (count : ℕ) (e : are_declared count vs ≡ true) where
  target-coded : (p : file.Path) → Coded one_target count (b.target vs p)
  target-coded p = coded-found count p.at (resolved p.parts p.select vs) (resolved-declared count p.parts p.select vs e)

  if-coded : (u : Target) (f : EventFault) → are_coded count (one_target u) ≡ true → (p : Bool) → Coded one_target count (if p then Ok u else Err f)
  unfolding Coded
  if-coded u f c true = c
  if-coded u f c false = tt

  unless-coded : (u : Target) (f : EventFault) → are_coded count (one_target u) ≡ true → (p : Bool) → Coded one_target count (if p then Err f else Ok u)
  unfolding Coded
  unless-coded u f c true = tt
  unless-coded u f c false = c

  event-coded : (at : ℕ) (u : Target) (k : Kind) → are_coded count (one_target u) ≡ true → Coded one_target count (b.of_event at u k)
  unfolding Coded
  event-coded at u kinds.Event c = c
  event-coded at u kinds.Bits c = tt
  event-coded at u kinds.Other c = tt

  bit-coded : (p : file.Path) → Coded one_target count (b.bit vs p)
  bit-coded p = coded-then count (b.target vs p) (b.of_one_bit p.at) (target-coded p) (λ u c. if-coded u _ c (u.bits.width == 1))

  recorded-coded : (p : file.Path) → Coded one_target count (b.recorded vs p)
  recorded-coded p = coded-then count (b.target vs p) (λ u. b.of_event p.at u u.kind) (target-coded p) (λ u c. event-coded p.at u u.kind c)

  compared-coded : (k : file.Condition) → Coded one_target count (b.compared vs k)
  compared-coded k = coded-then count (b.target vs k.path) (b.of_value k) (target-coded k.path)
      (λ u c. unless-coded u _ c (nat_lt u.bits.width (length k.letters)))

  goal-coded : (k : file.Condition) → Coded (λ g. b.read_by_goal g ∷ []) count (b.goal vs k)
  unfolding one_target
  goal-coded k = coded-made (λ g. b.read_by_goal g ∷ []) (b.goal_on k) count (b.compared vs k) (λ u. refl) (compared-coded k)

  becomes-coded : (r : Result (b.Goal Source) EventFault) → Coded (λ g. b.read_by_goal g ∷ []) count r
      → Coded (λ u. b.read_by_trigger u ∷ []) count (b.made b.becomes r)
  unfolding Coded
  becomes-coded (Ok g) c = c
  becomes-coded (Err f) c = tt

  trigger-coded : (u : file.Trigger) → Coded (λ u. b.read_by_trigger u ∷ []) count (b.trigger vs u)
  unfolding one_target
  trigger-coded (file.rise p) = coded-made (λ u. b.read_by_trigger u ∷ []) (λ u. b.rise (b.part_of u)) count (b.bit vs p) (λ u. refl) (bit-coded p)
  trigger-coded (file.fall p) = coded-made (λ u. b.read_by_trigger u ∷ []) (λ u. b.fall (b.part_of u)) count (b.bit vs p) (λ u. refl) (bit-coded p)
  trigger-coded (file.change p) = coded-made (λ u. b.read_by_trigger u ∷ []) (λ u. b.change (b.part_of u)) count (b.target vs p) (λ u. refl) (target-coded p)
  trigger-coded (file.becomes k) = becomes-coded (b.goal vs k) (goal-coded k)
  trigger-coded (file.record_of p) =
      coded-made (λ u. b.read_by_trigger u ∷ []) (λ u. b.record_of (b.source_of u)) count (b.recorded vs p) (λ u. refl) (recorded-coded p)

  all-both : (xs ys : List Source) → are_coded count xs ≡ true → are_coded count ys ≡ true → are_coded count (xs ++ ys) ≡ true
  all-both [] ys cx cy = cy
  all-both (x ∷ xs) ys cx cy = let both = and_parts (nat_lt x.code count) (are_coded count xs) cx in ap₂ (λ p q. p && q) both.0 (all-both xs ys both.1 cy)

  front-coded : {M : Type 0} (read : M → List Source) (r : Result M EventFault) (rs : Result (List M) EventFault) → Coded read count r
      → Coded (flat_map read) count rs →
      Coded (flat_map read) count (b.in_front r rs)
  unfolding Coded
  front-coded read (Ok m) (Ok ms) c cs = all-both (read m) (flat_map read ms) c cs
  front-coded read (Ok m) (Err f) c cs = tt
  front-coded read (Err f) rs c cs = tt

  each-coded : {A M : Type 0} (read : M → List Source) (meaning : A → Result M EventFault) (xs : List A) → ((x : A) → Coded read count (meaning x))
      → Coded (flat_map read) count (b.each meaning xs)
  unfolding Coded
  each-coded read meaning [] c = refl
  each-coded read meaning (x ∷ xs) c = front-coded read (meaning x) (b.each meaning xs) (c x) (each-coded read meaning xs c)

  single : (gs : List (b.Goal Source)) → flat_map (λ g. b.read_by_goal g ∷ []) gs ≡ map b.read_by_goal gs
  single [] = refl
  single (g ∷ gs) = ap (λ ss. b.read_by_goal g ∷ ss) (single gs)

  on-coded : (rt : Result (b.Trigger Source) EventFault) (rg : Result (List (b.Goal Source)) EventFault) → Coded (λ u. b.read_by_trigger u ∷ []) count rt →
      Coded (flat_map (λ g. b.read_by_goal g ∷ [])) count rg → Coded b.read_by count (b.watch_on rt rg)
  unfolding Coded
  on-coded (Ok u) (Ok gs) ct cg =
      all-both (b.read_by_trigger u ∷ []) (map b.read_by_goal gs) ct (ap (are_coded count) (sym (single gs)) ∙ cg)
  on-coded (Ok u) (Err f) ct cg = tt
  on-coded (Err f) rg ct cg = tt

  watch-coded : (x : file.Event) → Coded b.read_by count (b.watch vs x)
  watch-coded x =
      on-coded (b.trigger vs x.trigger) (b.each (b.goal vs) x.conditions) (trigger-coded x.trigger)
      (each-coded (λ g. b.read_by_goal g ∷ []) (b.goal vs) x.conditions goal-coded)

  pub events-coded : (xs : List file.Event) (ms : List (b.Watch Source)) → b.each (b.watch vs) xs ≡ Ok ms → are_coded count (flat_map b.read_by ms) ≡ true
  unfolding Coded
  events-coded xs ms is = subst (Coded (flat_map b.read_by) count) is (each-coded b.read_by (b.watch vs) xs watch-coded)

-- ## How many events have a meaning

pub each-length : {A M : Type 0} (meaning : A → Result M EventFault) (xs : List A) (ms : List M) → b.each meaning xs ≡ Ok ms → length ms ≡ length xs
each-length meaning [] ms e = let none : [] ≡ ms = cc in ap length (sym none)
each-length {M = M} meaning (x ∷ xs) ms e = by (meaning x) (b.each meaning xs) refl e (each-length meaning xs)
  where
    by : (q : Result M EventFault) (r : Result (List M) EventFault) → b.each meaning xs ≡ r → b.in_front q r ≡ Ok ms →
        ((ns : List M) → b.each meaning xs ≡ Ok ns → length ns ≡ length xs) → length ms ≡ suc (length xs)
    by (Ok n) (Ok ns) er k more = let all : n ∷ ns ≡ ms = cc in ap length (sym all) ∙ ap suc (more ns er)
    by (Ok n) (Err f) er k more = absurd (cc)
    by (Err f) r er k more = absurd (cc)

-- ## Which variables triggers read

seen-variable : (u : triggers.Trigger) → variable_of u ≡ b.read_by_trigger (seen_trigger u)
seen-variable (t.Rise p) = refl
seen-variable (t.Fall p) = refl
seen-variable (t.Change p) = refl
seen-variable (t.Becomes g) = refl
seen-variable (t.Record n) = refl

named-variable : (name : Source → ℕ) (u : b.Trigger Source) → b.read_by_trigger (b.trigger_with name u) ≡ name (b.read_by_trigger u)
named-variable name (b.rise p) = refl
named-variable name (b.fall p) = refl
named-variable name (b.change p) = refl
named-variable name (b.becomes g) = refl
named-variable name (b.record_of s) = refl

pub triggers-within : (sources : List Source) (ws : List watches.Watch) (ms : List (b.Watch Source))
    → seen_watches ws ≡ map (b.watch_with (b.number_in sources)) ms →
    ((s : Source) → list_any (b.is_same s) (flat_map b.read_by ms) ≡ true → list_any (b.is_same s) sources ≡ true) → are_within (length sources) ws ≡ true
triggers-within sources [] ms e among = refl
triggers-within sources (w ∷ ws) [] e among = absurd (cc)
triggers-within sources (w ∷ ws) (m ∷ ms) e among =
    let here : seen_watch w ≡ b.watch_with (b.number_in sources) m = cc in
    let rest : seen_watches ws ≡ map (b.watch_with (b.number_in sources)) ms = cc in
    let is : variable_of w.trigger ≡ b.number_in sources (b.read_by_trigger m.trigger) =
    seen-variable w.trigger ∙ ap (λ x. b.read_by_trigger x.trigger) here ∙ named-variable (b.number_in sources) m.trigger in
    let first : list_any (b.is_same (b.read_by_trigger m.trigger)) (flat_map b.read_by (m ∷ ms)) ≡ true =
    ap (λ p. p || list_any (b.is_same (b.read_by_trigger m.trigger)) (map b.read_by_goal m.conditions ++ flat_map b.read_by ms))
    (is_same-refl (b.read_by_trigger m.trigger)) in
    let low = number-within sources (b.read_by_trigger m.trigger) (among (b.read_by_trigger m.trigger) first) in
    ap₂ (λ p q. p && q) (ap (λ n. nat_lt n (length sources)) is ∙ lt-ltb (b.number_in sources (b.read_by_trigger m.trigger)) (length sources) low)
    (triggers-within sources ws ms rest
    (λ s k. among s (list_any-append (b.is_same s) (b.read_by m) (flat_map b.read_by ms) ∙ ap (λ q. list_any (b.is_same s) (b.read_by m) || q) k
    ∙ or-true (list_any (b.is_same s) (b.read_by m)))))
  where
    or-true : (p : Bool) → (p || true) ≡ true
    or-true true = refl
    or-true false = refl
