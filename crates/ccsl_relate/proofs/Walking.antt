-- A walk over the places of the items of a group that read a clock that ticks.
use Rattle.std.proofs.lemmas.Grind.{common_steps}
use Rattle.std.proofs.Common.{◌≡◌, ℕ, ◌+◌, ◌-◌, ◌<◌, ◌≤◌, List, [], ◌∷◌, true, false, nat_eq, nat_lt, length, get_or, slice_set, ◌⊎◌}
use Rattle.std.proofs.Common.{subst, arith}
use Rattle.std.specs.List.{list_all}
use Rattle.std.proofs.lemmas.Bool.{and_parts, or_right}
use Rattle.ccsl_base.specs.declared.limits.TheConstants.{MAX_CLOCKS}
use Rattle.ccsl_base.specs.Clocks.{ticks_in, is_ascending, are_below}
use Rattle.ccsl_base.proofs.Sets.{member-below, first-ticks}
use Rattle.ccsl_kernel.specs.Lives.{Step}
use Rattle.ccsl_relate.specs.declared.watched.Watched.{Watched}
use Rattle.ccsl_relate.specs.declared.watched.Watched.TheVariants.{Nothing}
use Rattle.ccsl_relate.specs.Watching.{fails_in, next_in}
use Rattle.ccsl_relate.specs.Reading.{IsQuiet, Touches, FailsFrom, GoesOn}
use Rattle.ccsl_base.proofs.Ascending.{above}
use Rattle.ccsl_relate.proofs.Ranges.{on-skip, on-more, fails-here}

-- the items before place `next` are behind the walk, and the places that are left are all that follow
pub record Walks (ticks : List ℕ) (s : Step) (start : ℕ) (touched rest : List ℕ) (old now : List Watched) : Type 0 where
  pub next : ℕ
  pub low : start ≤ next
  pub high : next ≤ start + MAX_CLOCKS
  pub on : GoesOn ticks s start next old now
  pub left : (p : ℕ) → next ≤ start + p → ticks_in p touched ≡ true → ticks_in p rest ≡ true
  pub behind : (p : ℕ) → ticks_in p rest ≡ true → next ≤ start + p
  pub within : (p : ℕ) → ticks_in p rest ≡ true → ticks_in p touched ≡ true
  pub sorted : is_ascending rest ≡ true
  pub below : are_below MAX_CLOCKS touched ≡ true

module _ {ticks : List ℕ} {s : Step} {start : ℕ} {touched : List ℕ} {old : List Watched} (t : Touches ticks s touched start old) where
  -- an item at which the walk does not stop is quiet
  quiet-between : (next : ℕ) (stop : ℕ) → start ≤ next → stop ≤ start + MAX_CLOCKS
      → ((p : ℕ) → next ≤ start + p → start + p < stop → ticks_in p touched ≡ false)
      → (k : ℕ) → next ≤ k → k < stop → k < length old → IsQuiet ticks s (get_or old k Nothing)
  quiet-between next stop low high none k a b l =
      let p : ℕ = k - start in
      let at : start + p ≡ k = omega (arith, low, a) in
      subst (λ (i : ℕ). IsQuiet ticks s (get_or old i Nothing)) at
      (t.quiet p (omega (arith, at, b, high)) (none p (omega (arith, at, a)) (omega (arith, at, b))))

  module _ {now : List Watched} {m : ℕ} {rest : List ℕ} (w : Walks ticks s start touched (m ∷ rest) old now) where
    parts : (list_all (nat_lt m) rest ≡ true) × (is_ascending rest ≡ true)
    parts = and_parts (list_all (nat_lt m) rest) (is_ascending rest) w.sorted

    member : ticks_in m touched ≡ true
    member = w.within m (first-ticks m rest)

    small : m < MAX_CLOCKS
    small = member-below MAX_CLOCKS touched m w.below member

    pub walk-inside : start + m < length old
    walk-inside = t.inside m small member

    from : w.next ≤ start + m
    from = w.behind m (first-ticks m rest)

    -- what is left behind the next place
    later : (p : ℕ) → ticks_in p (m ∷ rest) ≡ true → (p ≡ m) ⊎ (ticks_in p rest ≡ true)
    later p h = grind (arith, common_steps)

    none-between : (p : ℕ) → w.next ≤ start + p → start + p < start + m → ticks_in p touched ≡ false
    none-between p a b = grind (arith, common_steps, above, parts, later)

    -- the walk comes to the next place
    comes : GoesOn ticks s start (start + m) old now
    comes = on-skip (start + m) w.on w.low from (quiet-between w.next (start + m) w.low (omega (arith, small)) none-between)

    pub walk-fails : fails_in ticks s (get_or now (start + m) Nothing) ≡ true → FailsFrom ticks s start old (start + m)
    walk-fails e = fails-here comes (omega arith) walk-inside e

    pub walk-more : (x : Watched) → fails_in ticks s (get_or now (start + m) Nothing) ≡ false → x ≡ next_in s (get_or now (start + m) Nothing)
        → Walks ticks s start touched rest old (slice_set now (start + m) x)
    walk-more x e is = record {
      next = start + m + 1;
      low = omega arith;
      high = omega (arith, small);
      on = on-more x comes (omega arith) walk-inside e is;
      left = λ p a h. grind (arith, common_steps, w.left p, from, later p);
      behind = λ p h. let l : m < p = above m rest p parts.0 h in omega (arith, l);
      within = λ p h. w.within p (or_right (nat_eq p m) (ticks_in p rest) h);
      sorted = parts.1;
      below = w.below;
    }

  -- the walk is over
  pub walk-done : {now : List Watched} → Walks ticks s start touched [] old now → GoesOn ticks s start (start + MAX_CLOCKS) old now
  walk-done w = on-skip (start + MAX_CLOCKS) w.on w.low w.high (quiet-between w.next (start + MAX_CLOCKS) w.low (omega arith) none)
    where
      none : (p : ℕ) → w.next ≤ start + p → start + p < start + MAX_CLOCKS → ticks_in p touched ≡ false
      none p a b = grind (arith, common_steps, w.left p)
