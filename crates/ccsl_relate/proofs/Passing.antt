-- A monitor that takes a row more, and the step that it completes.
use Rattle.std.proofs.lemmas.Grind.{common_steps}
use Rattle.std.proofs.Common.{◌≡◌, ℕ, ◌+◌, ◌<◌, ◌≤◌, ◌^◌, List, [], ◌∷◌, ◌++◌, length, map, get_or, Option, Some, None, true, false, refl, sym, ap, ◌∙◌, subst}
use Rattle.std.proofs.Common.{arith, length-append}
use Rattle.std.specs.Prelude.{All}
use Rattle.std.specs.Vec.{with_items}
use Rattle.std.specs.declared.vec.Vec.{Vec}
use Rattle.std.proofs.lemmas.List.{length-map}
use Rattle.ccsl_base.specs.Clocks.{is_ascending}
use Rattle.ccsl_base.specs.declared.rows.Row.{Row}
use Rattle.ccsl_kernel.specs.Syntax.{System}
use Rattle.ccsl_kernel.specs.Lives.{Step}
use Rattle.ccsl_kernel.specs.Runs.{full_step, declared_part}
use Rattle.ccsl_kernel.specs.Verdict.{is_violated, completed_rows}
use Rattle.ccsl_kernel.proofs.EachOne.{each_at, each_made_from}
use Rattle.ccsl_state.specs.Part.{HeldPart}
use Rattle.ccsl_relate.specs.declared.violation.Violation.{Violation}
use Rattle.ccsl_relate.specs.declared.watched.Watched.{Watched}
use Rattle.ccsl_relate.specs.declared.watched.Watched.TheVariants.{Nothing}
use Rattle.ccsl_relate.specs.Few.{HasRoomFor}
use Rattle.ccsl_relate.specs.Violations.{AreObeyed, Finds}
use Rattle.ccsl_relate.specs.Watching.{Watching, IsUndeclared, Keeps, fails_in, next_in, FailsFirst, Follows, StandsFor}
use Rattle.ccsl_relate.specs.Reading.{TakeStep}
use Rattle.ccsl_relate.specs.Completed.{IsCompleted, TakeTicks}
use Rattle.ccsl_relate.specs.Taking.{MayTake, Takes}
use Rattle.ccsl_relate.proofs.Finding.{first-here, obeyed-on}
use Rattle.ccsl_relate.proofs.History.{X-more, X-length, sets-snoc}
use Rattle.ccsl_relate.proofs.Judging.{fails-where-violated, keeps-on, keeps-room-for}
use Rattle.ccsl_relate.proofs.Known.{fails-known, next-known, suffice-on}
use Rattle.ccsl_relate.proofs.Ranges.{same-count, come-back}

-- what a monitor finds at a row, where the item at a place fails
abbrev pub violation_at : Watching → Row → Option ℕ → Option Violation
violation_at v row None = None
violation_at v row (Some place) = Some (record { step = v.steps; time = row.time; item = v.start + place })

module _ (recorded : List ℕ) (v : Watching) (rows : List Row) (s : StandsFor recorded v rows) (none : v.first ≡ None) where
  abbrev K : System
  K = v.system

  abbrev T : List Step
  T = completed_rows K rows

  follows : Follows K recorded v.start v.kept v.states T
  follows = s.follows none

  keeps-at : (k : ℕ) (d : Watched) → k < length v.kept → Keeps K recorded T (v.start + k) (get_or v.kept k d)
  keeps-at k d l = each_at (Keeps K recorded T) v.start v.kept k d l follows.keeps

  each-has-room : (n : ℕ) → length rows + n < 2 ^ 64 → All (HasRoomFor n) v.kept
  each-has-room n few k d l = keeps-room-for K s.accepted recorded (v.start + k) rows n few (get_or v.kept k d) (keeps-at k d l)

  module _ (row : Row) (sorted : is_ascending row.ticks ≡ true) where
    abbrev more : List Row
    more = rows ++ row ∷ []

    abbrev whole : Step
    whole = full_step K T (declared_part K row.ticks)

    obeyed : AreObeyed K recorded rows v.start (length v.kept)
    obeyed = subst (Finds K recorded rows v.start (length v.kept)) none s.first

    module _ (step : Step) (held' : Option HeldPart) (c : IsCompleted K T v.states row.ticks step held') where
      -- what is asked of an item is whether the row violates it
      asked : (k : ℕ) (d : Watched) → k < length v.kept
          → fails_in row.ticks step (get_or v.kept k d) ≡ is_violated K recorded more (length rows) (v.start + k)
      asked k d l =
          ap (λ s. fails_in row.ticks s (get_or v.kept k d)) c.step_is
          ∙ fails-known K T row.ticks v.states row.ticks v.kept k d follows.suffice l
          ∙ fails-where-violated K s.accepted recorded (v.start + k) rows row s.sets sorted (get_or v.kept k d) (keeps-at k d l)

      -- AN ITEM FAILS at the row: of what is kept then no more is asked than how much it is
      pub row-violated : (end : Option HeldPart) (new : List Watched) (place : ℕ) → length new ≡ length v.kept → FailsFirst row.ticks step v.kept place
          → StandsFor recorded (record v { kept = new; states = end; steps = v.steps + 1; first = violation_at v row (Some place) }) more
      row-violated end new place count f = record {
        accepted = s.accepted;
        items = omega (arith, s.items, count);
        sets = sets-snoc rows row s.sets sorted;
        steps = omega (arith, s.steps, length-append rows (row ∷ []));
        first = rw (count, s.steps)
            (first-here K s.accepted recorded rows row s.sets sorted v.start (length v.kept) place obeyed f.inside
            (sym (asked place Nothing f.inside) ∙ f.fails Nothing)
            (λ k l. sym (asked k Nothing (omega (arith, l, f.inside))) ∙ f.before k Nothing l));
        follows = λ n. absurd (cc n);
      }

      -- NO ITEM FAILS at the row, and all go on
      pub row-obeyed : All (λ x. fails_in row.ticks step x ≡ false) v.kept
          → StandsFor recorded (record v { kept = map (next_in step) v.kept; states = held'; steps = v.steps + 1 }) more
      row-obeyed obeys = rw kept-is (record {
        accepted = s.accepted;
        items = omega (arith, s.items, length-map v.kept (next_in whole));
        sets = sets-snoc rows row s.sets sorted;
        steps = omega (arith, s.steps, length-append rows (row ∷ []));
        first = rw (length-map v.kept (next_in whole), none)
            (obeyed-on K s.accepted recorded rows row s.sets sorted v.start (length v.kept) obeyed (λ k l. sym (asked k Nothing l) ∙ obeys k Nothing l));
        follows = λ _. record {
          keeps = each_made_from (Keeps K recorded (completed_rows K more)) (next_in whole) v.start v.kept
              (λ k d l. keeps-on K s.accepted recorded (v.start + k) rows row s.sets sorted (get_or v.kept k d) (keeps-at k d l));
          suffice = suffice-on K v.states held' whole v.kept c.known follows.suffice;
          states = rw X-more c.after;
        };
      })
        where
          kept-is : map (next_in step) v.kept ≡ map (next_in whole) v.kept
          kept-is = ap (λ s. map (next_in s) v.kept) c.step_is ∙ next-known K T row.ticks v.states v.kept follows.suffice

      row-stands : (new : List Watched) (place : Option ℕ) → TakeStep row.ticks step v.kept new place
          → StandsFor recorded (record v { kept = new; states = held'; steps = v.steps + 1; first = violation_at v row place }) more
      row-stands new None t = rw (t.next, ← none) (row-obeyed t.none)
      row-stands new (Some place) t = row-violated held' new place (same-count v.kept new t.clocks) t.fails

-- A ROW IS TAKEN by a monitor u that is v, and in which nothing was violated yet: it lends its items
pub row-taken : {Z : Type 0} (kept : Vec Watched Z) {u v : Watching} {given new : List Watched} {held' : Option HeldPart} {row : Row} (place : Option ℕ)
    → kept.items ≡ u.kept → given ≡ kept.items → u ≡ v → u.first ≡ None → is_ascending row.ticks ≡ true
    → TakeTicks row.ticks u.states held' given new place
    → Takes v (record u { kept = (with_items kept new).items; states = held'; steps = u.steps + 1; first = violation_at u row place }) (row ∷ [])
row-taken kept {u} {v} {given} {new} {held'} {row} place at value same none sorted t =
    let p = rw (value ∙ at) at t in
    subst (λ x. Takes x (record u { kept = (with_items kept new).items; states = held'; steps = u.steps + 1; first = violation_at u row place }) (row ∷ []))
    same
    (rw (come-back kept new at p.items.clocks) (record {
      system = refl;
      start = refl;
      count = same-count u.kept new p.items.clocks;
      stands = λ recorded rows s few.
          row-stands recorded u rows s none row sorted p.step held'
          (p.completed u.system (completed_rows u.system rows) (s.follows none).states (omega (arith, few, X-length u.system rows))) new place p.items;
    }))

-- there is room for more ticks of each item
pub items-have-room : {u v : Watching} {given : List Watched} (n m : ℕ) → n ≤ m → given ≡ u.kept → u ≡ v → u.first ≡ None → MayTake v m
    → All (HasRoomFor n) given
items-have-room {u} {v} {given} n m l value same none w =
    rw value (each-has-room w.0 u w.1 (subst (λ x. StandsFor w.0 x w.1) (sym same) w.2) none n (omega (arith, l, w.3)))

-- the states are those of its system
pub same-undeclared : {u v : Watching} {p : HeldPart} (undeclared : List ℕ) (n : ℕ) → u ≡ v → u.first ≡ None → u.states ≡ Some p → MayTake v n
    → IsUndeclared u.system undeclared → IsUndeclared p.system undeclared
same-undeclared {u} {v} {p} undeclared n same none e w is =
    let s = subst (λ x. StandsFor w.0 x w.1) (sym same) w.2 in
    let held = rw e at (s.follows none).states in
    subst (λ K. IsUndeclared K undeclared) (sym held.0) is

-- there is room for more rows in its count, and for its items among the numbers of items
pub steps-counted : {u v : Watching} (n m : ℕ) → m ≤ n → u ≡ v → MayTake v n → u.steps + m < 2 ^ 64
steps-counted {u} {v} n m l same w = let s = subst (λ x. StandsFor w.0 x w.1) (sym same) w.2 in omega (arith, l, s.steps, w.3)

pub items-counted : {u v : Watching} (n : ℕ) → u ≡ v → MayTake v n → u.start + length u.kept < 2 ^ 32
items-counted {u} {v} n same w = let s = subst (λ x. StandsFor w.0 x w.1) (sym same) w.2 in grind (arith, common_steps, s.items, s.accepted)
