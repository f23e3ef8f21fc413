-- A monitor that takes some rows item by item, with what is known of their steps.
use Rattle.std.proofs.Common.{◌≡◌, ℕ, zero, suc, ◌+◌, ◌<◌, ◌^◌, List, [], ◌∷◌, ◌++◌, length, map, get_or, Option, Some, None, true, false, refl, sym, ap}
use Rattle.std.proofs.Common.{◌∙◌, subst, arith, append_assoc}
use Rattle.std.specs.Vec.{with_items}
use Rattle.std.specs.declared.vec.Vec.{Vec}
use Rattle.std.proofs.Math.ListN.{get_or-map}
use Rattle.std.proofs.lemmas.Bool.{and_parts}
use Rattle.std.proofs.lemmas.List.{append-nil, get_or_default, length-map, map-id}
use Rattle.std.proofs.lemmas.List.Elements.{All-map}
use Rattle.std.proofs.lemmas.Simd.{map-map}
use Rattle.ccsl_base.specs.Clocks.{is_ascending}
use Rattle.ccsl_base.specs.declared.rows.Row.{Row}
use Rattle.ccsl_kernel.specs.Lives.{Step}
use Rattle.ccsl_kernel.specs.Verdict.{completed_rows}
use Rattle.ccsl_state.specs.Part.{HeldPart}
use Rattle.ccsl_relate.specs.declared.violation.Violation.{Violation}
use Rattle.ccsl_relate.specs.declared.watched.Watched.{Watched}
use Rattle.ccsl_relate.specs.declared.watched.Watched.TheVariants.{Nothing}
use Rattle.ccsl_relate.specs.Completed.{IsCompleted, Completes}
use Rattle.ccsl_relate.specs.Stretch.{after_steps, fails_at, ObeysUpTo, IsFirstViolation, TakeRows}
use Rattle.ccsl_relate.specs.Taking.{Takes}
use Rattle.ccsl_relate.specs.Watching.{Watching, are_sets, fails_in, next_in, FailsFirst, AreAfter, StandsFor}
use Rattle.ccsl_relate.proofs.History.{X-more, X-length}
use Rattle.ccsl_relate.proofs.Passing.{row-violated, row-obeyed}
use Rattle.ccsl_relate.proofs.Ranges.{same-count, come-back, clocks-next}
use Rattle.ccsl_relate.proofs.Resting.{stands-still}

-- THE FIRST OF SOME ROWS, and those behind it
module _ (row step : Row) (block completed : List Row) (others start : ℕ) (kept : List Watched) (x : Violation)
    (f : IsFirstViolation (row ∷ block) (step ∷ completed) others start kept x) where
  -- the item fails there
  at-first : f.row ≡ 0 → FailsFirst row.ticks step.ticks kept f.place
  at-first e = record {
    inside = f.within;
    fails = λ d. ap (fails_in row.ticks step.ticks) (get_or_default kept f.place d Nothing f.within) ∙ (rw e at f.fails);
    before = λ k d l.
        ap (fails_in row.ticks step.ticks) (get_or_default kept k d Nothing (omega (arith, l, f.within))) ∙ (rw e at (f.lower k l));
  }

  violation-first : f.row ≡ 0 → x ≡ record { step = others; time = row.time; item = start + f.place }
  violation-first e =
      let same : row ≡ f.at = (let at = rw e at f.at_is in cc) in
      let z : others + f.row ≡ others = omega arith in
      cc (f.violation, same, z)

  -- or behind it
  at-later : (n : ℕ) → f.row ≡ suc n → IsFirstViolation block completed (others + 1) start (map (next_in step.ticks) kept) x
  at-later n e = record {
    row = n;
    place = f.place;
    at = f.at;
    inside = omega (arith, f.inside, e);
    within = omega (arith, f.within, length-map kept (next_in step.ticks));
    fails = ap (λ w. fails_at block completed w n) (get_or-map (next_in step.ticks) kept f.place Nothing) ∙ (rw e at f.fails);
    earlier = λ k l m i.
        ap (λ w. fails_at block completed w m) (get_or-map (next_in step.ticks) kept k Nothing)
        ∙ f.earlier k (omega (arith, l, length-map kept (next_in step.ticks))) (suc m) (omega (arith, e, i));
    lower = λ k l. ap (λ w. fails_at block completed w n) (get_or-map (next_in step.ticks) kept k Nothing) ∙ (rw e at (f.lower k l));
    at_is = rw e at f.at_is;
    violation = let z : others + f.row ≡ others + 1 + n = omega (arith, e) in cc (f.violation, z);
  }

-- A MONITOR TAKES A ROW, where it takes those behind as told
module _ (recorded : List ℕ) (v : Watching) (rows : List Row) (row step : Row) (block completed : List Row) (held held' : Option HeldPart)
    (new : List Watched) (s : StandsFor recorded v rows) (none : v.first ≡ None)
    (c : IsCompleted v.system (completed_rows v.system rows) v.states row.ticks step.ticks held) (sets : are_sets (row ∷ block) ≡ true) where
  abbrev next : Watching
  next = record v { kept = map (next_in step.ticks) v.kept; states = held; steps = v.steps + 1 }

  abbrev Stands : Watching → Option Violation → Type 0
  Stands from found = StandsFor recorded (record v { kept = new; states = held'; steps = from.steps + length block; first = found }) (rows ++ row ∷ block)

  abbrev Behind : Option Violation → Type 0
  Behind found = StandsFor recorded next (rows ++ row ∷ []) → TakeRows block completed next.steps v.start next.kept new found
      → StandsFor recorded (record v { kept = new; states = held'; steps = next.steps + length block; first = found }) ((rows ++ row ∷ []) ++ block)

  both : (is_ascending row.ticks ≡ true) × (are_sets block ≡ true)
  both = and_parts (is_ascending row.ticks) (are_sets block) sets

  -- no item fails at it
  onward : (found : Option Violation) → ((k : ℕ) → k < length v.kept → fails_in row.ticks step.ticks (get_or v.kept k Nothing) ≡ false)
      → TakeRows block completed next.steps v.start next.kept new found → Behind found → Stands next found
  onward found obeys t behind =
      rw append_assoc at (behind (row-obeyed recorded v rows s none row both.0 step.ticks held c
      (λ k d l. ap (fails_in row.ticks step.ticks) (get_or_default v.kept k d Nothing l) ∙ obeys k l)) t)

  one-taken : (found : Option Violation) → TakeRows (row ∷ block) (step ∷ completed) v.steps v.start v.kept new found → Behind found → Stands next found
  one-taken None t behind = onward None (λ k l. t.none k Nothing l 0 (omega arith)) (record {
    clocks = t.clocks ∙ sym (clocks-next step.ticks v.kept);
    fails = tt;
    none = All-map (ObeysUpTo block completed (length completed)) (next_in step.ticks) v.kept (λ k d l n m. t.none k d l (suc n) (omega (arith, m)));
    next = t.next ∙ sym (map-map (after_steps completed) (next_in step.ticks) v.kept);
  }) behind
  one-taken (Some x) t behind = by t.fails.row refl
    where
      f : IsFirstViolation (row ∷ block) (step ∷ completed) v.steps v.start v.kept x
      f = t.fails

      by : (n : ℕ) → f.row ≡ n → Stands next (Some x)
      by zero e =
          let here = row-violated recorded v rows s none row both.0 step.ticks held c held' new f.place (same-count v.kept new t.clocks)
          (at-first row step block completed v.steps v.start v.kept x f e) in
          let at = violation-first row step block completed v.steps v.start v.kept x f e in
          rw at (rw append_assoc at (stands-still recorded _ (rows ++ row ∷ []) block _ refl both.1 here))
      by (suc n) e = onward (Some x) (λ k l. f.earlier k l 0 (omega (arith, e))) (record {
        clocks = t.clocks ∙ sym (clocks-next step.ticks v.kept);
        fails = at-later row step block completed v.steps v.start v.kept x f n e;
        none = tt;
        next = tt;
      }) behind

module _ (recorded : List ℕ) where
  -- ROWS ARE TAKEN, up to the first violation
  pub rows-stand : (v : Watching) (rows block completed : List Row) (held' : Option HeldPart) (new : List Watched) (found : Option Violation)
      → StandsFor recorded v rows → v.first ≡ None → Completes v.system (completed_rows v.system rows) v.states block completed held'
      → are_sets block ≡ true → TakeRows block completed v.steps v.start v.kept new found
      → StandsFor recorded (record v { kept = new; states = held'; steps = v.steps + length block; first = found }) (rows ++ block)
  rows-stand v rows [] [] held' new (Some x) s none same sets t = absurd (omega (arith, t.fails.inside))
  rows-stand v rows [] [] held' new None s none same sets t =
      let z : v.steps + 0 ≡ v.steps = omega arith in
      rw (append-nil rows, t.next, z, ← none, ← same, map-id v.kept) s
  rows-stand v rows [] (step ∷ completed) held' new found s none never sets t = absurd never
  rows-stand v rows (row ∷ block) [] held' new found s none never sets t = absurd never
  rows-stand v rows (row ∷ block) (step ∷ completed) held' new found s none h sets t =
      let z : v.steps + 1 + length block ≡ v.steps + suc (length block) = omega arith in
      rw (← z) (one-taken recorded v rows row step block completed h.0 held' new s none h.1 sets found t
      (λ here t. rows-stand (record v { kept = map (next_in step.ticks) v.kept; states = h.0; steps = v.steps + 1 }) (rows ++ row ∷ []) block completed held'
      new found here none (subst (λ T. Completes v.system T h.0 block completed held') (sym (X-more v.system rows row)) h.2)
      (and_parts (is_ascending row.ticks) (are_sets block) sets).1 t))

-- ROWS ARE TAKEN by a monitor u that is v, and in which nothing was violated yet: it lends its items
pub rows-taken : {Z : Type 0} (kept : Vec Watched Z) {u v : Watching} {given new : List Watched} {held' : Option HeldPart} {found : Option Violation}
    (block completed : List Row) (n : ℕ) → kept.items ≡ u.kept → given ≡ kept.items → u ≡ v → u.first ≡ None → are_sets block ≡ true → n ≡ length block
    → ((T : List Step) → AreAfter u.system u.states T → length T + length block < 2 ^ 64 → Completes u.system T u.states block completed held')
    → TakeRows block completed u.steps u.start given new found
    → Takes v (record u { kept = (with_items kept new).items; states = held'; steps = u.steps + n; first = found }) block
rows-taken kept {u} {v} {given} {new} {held'} {found} block completed n at value same none sets many chain t =
    let p = rw (value ∙ at) at t in
    subst (λ x. Takes x (record u { kept = (with_items kept new).items; states = held'; steps = u.steps + n; first = found }) block) same
    (rw (come-back kept new at p.clocks, many) (record {
      system = refl;
      start = refl;
      count = same-count u.kept new p.clocks;
      stands = λ recorded rows s few.
          rows-stand recorded u rows block completed held' new found s none
          (chain (completed_rows u.system rows) (s.follows none).states (omega (arith, few, X-length u.system rows))) sets p;
    }))
