-- Events that are users of the variables that their triggers read.
use Rattle.std.proofs.Common.{◌≡◌, ℕ, zero, suc, ◌+◌, ◌<◌, ◌≤◌, List, [], ◌∷◌, ◌++◌, length, Bool, true, false, Option, Some, None, if◌then◌else◌}
use Rattle.std.proofs.Common.{slice_get, get_or}
use Rattle.std.proofs.Common.{slice_index_or, refl, sym, ap, subst, ◌∙◌, ⊎_elim, arith, eq-eqb}
use Rattle.std.specs.Prelude.{◌==◌}
use Rattle.std.specs.declared.vec.Vec.{Vec}
use Rattle.std.specs.declared.alloc.Global.{Global}
use Rattle.std.proofs.lemmas.Bool.{cases_eq, cases_lt}
use Rattle.std.proofs.lemmas.Option.{slice_get_within}
use Rattle.ccsl_base.specs.Clocks.{ticks_in}
use Rattle.ccsl_triggers.specs.declared.watch.Watch.{Watch}
use Rattle.ccsl_triggers.specs.Triggers.{variable_of}
use Rattle.ccsl_events.specs.Keeping.{users_of, AreUsers, IsSoleOf, sole_at, AreSole}
use Rattle.ccsl_events.specs.Links.{with_user}
use Rattle.ccsl_events.proofs.Chains.{ticks_in-append, ticks_in-last}

-- the first events are
pub record AreFirstUsers (count done : ℕ) (watches : List Watch) (users : List (Vec ℕ Global)) : Type 0 where
  pub len : length users ≡ count
  pub each : (name : ℕ) (w : Watch) → name < done → slice_get watches name ≡ Some w → ticks_in name (users_of users (variable_of w.trigger)) ≡ true

pub got-watch : (ws : List Watch) (i : ℕ) (w : Watch) → i < length ws → w ≡ get_or ws i w → slice_get ws i ≡ Some w
got-watch [] i w l g = absurd (omega (arith, l))
got-watch (v ∷ ws) zero w l g = ap (λ u. Some u) (sym g)
got-watch (v ∷ ws) (suc i) w l g = got-watch ws i w (omega (arith, l)) g

kept-user : (number name n k : ℕ) (users : List (Vec ℕ Global)) → ticks_in k (users_of users n) ≡ true → ticks_in k (with_user number name users n) ≡ true
kept-user number name n k users e = by (n == number)
  where
    by : (b : Bool) → ticks_in k (if b then users_of users n ++ name ∷ [] else users_of users n) ≡ true
    by true = ticks_in-append k (users_of users n) name e
    by false = e

pub first-more : (count done : ℕ) (watches : List Watch) (old new : List (Vec ℕ Global)) (w : Watch) → AreFirstUsers count done watches old
    → slice_get watches done ≡ Some w →
    length new ≡ length old → ((n : ℕ) → users_of new n ≡ with_user (variable_of w.trigger) done old n) → AreFirstUsers count (done + 1) watches new
first-more count done watches old new w first at len put = record {
  len = len ∙ first.len;
  each = λ name v low e.
      ⊎_elim
      (λ (before : name < done).
      ap (ticks_in name) (put (variable_of v.trigger)) ∙ kept-user (variable_of w.trigger) done (variable_of v.trigger) name old (first.each name v before e))
      (λ (after : done ≤ name). last name v (omega (arith, low, after)) e)
      (cases_lt name done);
}
  where
    last : (name : ℕ) (v : Watch) → name ≡ done → slice_get watches name ≡ Some v → ticks_in name (users_of new (variable_of v.trigger)) ≡ true
    last name v same e =
        let is : v ≡ w = cc (at, ap (slice_get watches) (sym same) ∙ e) in
        ap (λ u. ticks_in name (users_of new (variable_of u.trigger))) is
        ∙ ap (λ k. ticks_in k (users_of new (variable_of w.trigger))) same
        ∙ ap (ticks_in done) (put (variable_of w.trigger))
        ∙ ap (λ b. ticks_in done (if b then users_of old (variable_of w.trigger) ++ done ∷ [] else users_of old (variable_of w.trigger)))
        (eq-eqb (variable_of w.trigger) (variable_of w.trigger) refl)
        ∙ ticks_in-last done (users_of old (variable_of w.trigger))

pub first-all : (count done : ℕ) (watches : List Watch) (users : List (Vec ℕ Global)) → AreFirstUsers count done watches users → length watches ≤ done
    → AreUsers watches users
first-all count done watches users first all = λ name w e. first.each name w (omega (arith, all, slice_get_within watches name w e)) e

-- Names that wait for a record alone.

pub one-name : (names : List ℕ) → 0 < length names → length names < 2 → names ≡ slice_index_or names 0 0 ∷ []
one-name [] some few = absurd (omega (arith, some))
one-name (x ∷ []) some few = refl
one-name (x ∷ y ∷ names) some few = absurd (omega (arith, few))

pub got-users : (users : List (Vec ℕ Global)) (n : ℕ) (v : Vec ℕ Global) → n < length users → v ≡ get_or users n v → users_of users n ≡ v.items
got-users [] n v l e = absurd (omega (arith, l))
got-users (u ∷ users) zero v l e = ap (λ (w : Vec ℕ Global). w.items) (sym e)
got-users (u ∷ users) (suc n) v l e = got-users users n v (omega (arith, l)) e

sole-before : (names : List (Option ℕ)) (last : Option ℕ) (n : ℕ) → n < length names → sole_at (names ++ last ∷ []) n ≡ sole_at names n
sole-before [] last n l = absurd (omega (arith, l))
sole-before (x ∷ names) last zero l = refl
sole-before (x ∷ names) last (suc n) l = sole-before names last n (omega (arith, l))

sole-last : (names : List (Option ℕ)) (last : Option ℕ) (n : ℕ) → n ≡ length names → sole_at (names ++ last ∷ []) n ≡ last
sole-last [] last zero e = refl
sole-last [] last (suc n) e = absurd (omega (arith, e))
sole-last (x ∷ names) last zero e = absurd (omega (arith, e))
sole-last (x ∷ names) last (suc n) e = sole-last names last n (omega (arith, e))

sole-past : (names : List (Option ℕ)) (last : Option ℕ) (n : ℕ) → length names < n → sole_at (names ++ last ∷ []) n ≡ None
sole-past [] last zero l = absurd (omega (arith, l))
sole-past [] last (suc n) l = refl
sole-past (x ∷ names) last zero l = absurd (omega (arith, l))
sole-past (x ∷ names) last (suc n) l = sole-past names last n (omega (arith, l))

-- one variable more
pub sole-more : (watches : List Watch) (users : List (Vec ℕ Global)) (names : List (Option ℕ)) (last : Option ℕ) (n : ℕ) → n ≡ length names →
    AreSole watches users names → ((name : ℕ) → last ≡ Some name → IsSoleOf watches (users_of users n) n name) → AreSole watches users (names ++ last ∷ [])
sole-more watches users names last n e sole new m name is =
    ⊎_elim
    (λ (before : m < length names). sole m name (sym (sole-before names last m before) ∙ is))
    (λ (after : length names ≤ m).
    ⊎_elim
    (λ (here : m ≡ n).
    subst (λ i. IsSoleOf watches (users_of users i) i name) (sym here) (new name (sym (sole-last names last m (here ∙ e)) ∙ is)))
    (λ (past : m ≡ n → ⊥). absurd (let none = sole-past names last m (omega (arith, after, e, past)) in cc (none, is)))
    (cases_eq m n))
    (cases_lt m (length names))
