-- What a pass over the definitions, from the last one down, has reached.
use Rattle.std.proofs.lemmas.Grind.{common_steps}
use Rattle.std.proofs.Common.{◌≡◌, ℕ, ◌+◌, ◌<◌, ◌≤◌, List, true, false, ◌||◌, Some, slice_get, sym, ap, ◌∙◌, arith, ⊎_elim}
use Rattle.std.proofs.lemmas.Bool.{or_cases, cases_eq, or_left, or_right}
use Rattle.std.proofs.lemmas.Option.{slice_get_within}
use Rattle.ccsl_base.specs.Clocks.{ticks_in}
use Rattle.ccsl_kernel.specs.Syntax.{Expression, System, definition_of}
use Rattle.ccsl_kernel.specs.Accepted.{IsAccepted}
use Rattle.ccsl_kernel.proofs.AcceptedParts.{accepted_scoped}
use Rattle.ccsl_kernel.proofs.Definitions.{definitions-are}
use Rattle.ccsl_kernel.specs.Within.{NamesWithin}
use Rattle.ccsl_kernel.proofs.WithinLaws.{names_more}
use Rattle.ccsl_state.specs.Reach.{names_clock, Includes, IsClosed}
use Rattle.ccsl_state.proofs.WithinLaws.{named}

module _ (K : System) (ok : IsAccepted K) where
  -- a definition names lower clocks, so few as there are
  pub definition_names : (x y : ℕ) (e : Expression) → definition_of K x ≡ Some e → names_clock e y ≡ true → y < x
  definition_names x y e is n = named (λ y. y < x) e y ((accepted_scoped K ok).definitions x e is) n

  pub definition_at : (i : ℕ) (e : Expression) → slice_get K.definitions i ≡ Some e → definition_of K (K.declared + i) ≡ Some e
  definition_at i e is = sym (definitions-are K i) ∙ is

  pub names_few : (i : ℕ) (e : Expression) → slice_get K.definitions i ≡ Some e → NamesWithin (λ y. y < 1024) e
  names_few i e is = names_more (λ y. y < K.declared + i) (λ y. y < 1024)
      (λ y low. let within = slice_get_within K.definitions i e is in let all = ok.defined in let few = ok.few_clocks in omega arith)
      e ((accepted_scoped K ok).definitions (K.declared + i) e (definition_at i e is))

-- the definitions from number i on have been passed
pub record ReachedSo (K : System) (clocks set : List ℕ) (i : ℕ) : Type 0 where
  pub has : (x : ℕ) → ticks_in x clocks ≡ true → ticks_in x set ≡ true
  pub closed : (x y : ℕ) (e : Expression) → K.declared + i ≤ x → definition_of K x ≡ Some e → ticks_in x set ≡ true → names_clock e y ≡ true → K.declared ≤ y
      → ticks_in y set ≡ true
  pub least : (other : List ℕ) → IsClosed K other → Includes K other clocks → Includes K other set

module _ (K : System) (ok : IsAccepted K) (clocks set : List ℕ) where
  -- one definition more, whose clock is not in the set
  pub reached_past : (i : ℕ) → ReachedSo K clocks set (i + 1) → ticks_in (K.declared + i) set ≡ false → ReachedSo K clocks set i
  reached_past i so out = record {
    has = so.has;
    closed = λ x y e past is h named low.
        ⊎_elim
        (λ (same : x ≡ K.declared + i). let z : ⊥ = (let e = sym h ∙ ap (λ k. ticks_in k set) same ∙ out in cc) in absurd z)
        (λ (ne : x ≡ K.declared + i → ⊥). so.closed x y e (omega (arith, past, ne)) is h named low)
        (cases_eq x (K.declared + i));
    least = so.least;
  }

  -- or is, and then so are those that it names
  pub reached_more : (i : ℕ) (e : Expression) (set' : List ℕ) → slice_get K.definitions i ≡ Some e → ReachedSo K clocks set (i + 1)
      → ticks_in (K.declared + i) set ≡ true →
      ((y : ℕ) → ticks_in y set' ≡ (names_clock e y || ticks_in y set)) → ReachedSo K clocks set' i
  reached_more i e set' at so is_in added = record {
    has = λ x h. kept x (so.has x h);
    closed = λ x y d past is h named low.
        ⊎_elim
        (λ (same : x ≡ K.declared + i).
        let one : e ≡ d = (let p = definition_at K ok i e at in let q : definition_of K (K.declared + i) ≡ Some d =
        ap (definition_of K) (sym same) ∙ is in cc) in
        added y ∙ or_left (names_clock e y) (ticks_in y set) (ap (λ d. names_clock d y) one ∙ named))
        (λ (ne : x ≡ K.declared + i → ⊥). kept y (so.closed x y d (omega (arith, past, ne)) is (before x (omega (arith, past, ne)) h) named low))
        (cases_eq x (K.declared + i));
    least = λ other closed has y low h.
        ⊎_elim
        (λ (named : names_clock e y ≡ true). closed (K.declared + i) y e (definition_at K ok i e at)
        (so.least other closed has (K.declared + i) (omega arith) is_in) named low)
        (λ (was : ticks_in y set ≡ true). so.least other closed has y low was)
        (or_cases (names_clock e y) (ticks_in y set) (sym (added y) ∙ h));
  }
    where
      kept : (y : ℕ) → ticks_in y set ≡ true → ticks_in y set' ≡ true
      kept y h = added y ∙ or_right (names_clock e y) (ticks_in y set) h

      -- a clock past the definition is not named by it
      before : (x : ℕ) → K.declared + i < x → ticks_in x set' ≡ true → ticks_in x set ≡ true
      before x past h = grind (arith, common_steps, named, definition_names, definition_at)
