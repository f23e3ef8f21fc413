-- Items that are taken over rows, one after the other: the first row at which one of them fails.
use Rattle.std.proofs.lemmas.Grind.{common_steps}
use Rattle.std.proofs.Common.{◌≡◌, ℕ, suc, ◌+◌, ◌<◌, ◌≤◌, List, Option, Some, None, true, false, map, length, take, get_or, slice_get, slice_set, ap, ap₂, ◌∙◌}
use Rattle.std.proofs.Common.{subst, arith}
use Rattle.std.specs.Prelude.{IfSome, IfNone}
use Rattle.std.proofs.Math.Seq.{map-set_same}
use Rattle.std.proofs.lemmas.List.{get_or_default, get_or-set_other, length-set, take_all}
use Rattle.ccsl_base.specs.declared.rows.Row.{Row}
use Rattle.ccsl_relate.specs.declared.violation.Violation.{Violation}
use Rattle.ccsl_relate.specs.declared.watched.Watched.{Watched}
use Rattle.ccsl_relate.specs.declared.watched.Watched.TheVariants.{Nothing}
use Rattle.ccsl_relate.specs.Reading.{clocks_of}
use Rattle.ccsl_relate.specs.Stretch.{after_steps, fails_at, ObeysUpTo, TakesRows, TakeRows}
use Rattle.ccsl_relate.proofs.Partly.{partly, partly-more, partly-all}

module _ (rows steps : List Row) (others start : ℕ) (old : List Watched) where
  -- of the items before item i one fails first at row `end`
  pub record IsFound (i end : ℕ) (v : Violation) : Type 0 where
    pub place : ℕ
    pub at : Row
    pub inside : end < length steps
    pub below : place < i
    pub fails : fails_at rows steps (get_or old place Nothing) end ≡ true
    pub lower : (k : ℕ) → k < place → fails_at rows steps (get_or old k Nothing) end ≡ false
    pub at_is : slice_get rows end ≡ Some at
    pub violation : v ≡ record { step = others + end; time = at.time; item = start + place }

  -- none of them fails
  pub record HaveGone (now : List Watched) (i end : ℕ) : Type 0 where
    pub whole : end ≡ length steps
    pub gone : now ≡ partly (after_steps steps) i old

  -- the items before item i were taken, and none of them fails before row `end`
  pub record IsSoFar (now : List Watched) (i end : ℕ) (first : Option Violation) : Type 0 where
    pub some : i ≤ length old
    pub count : length now ≡ length old
    pub clocks : map clocks_of now ≡ map clocks_of old
    pub within : end ≤ length steps
    pub before : (k : ℕ) → k < i → ObeysUpTo rows steps end (get_or old k Nothing)
    pub rest : (k : ℕ) → i ≤ k → get_or now k Nothing ≡ get_or old k Nothing
    pub found : IfSome first (IsFound i end)
    pub none : IfNone first (HaveGone now i end)

module _ {rows steps : List Row} {others start : ℕ} {old now : List Watched} {i end : ℕ} {first : Option Violation}
    (f : IsSoFar rows steps others start old now i end first) where
  module _ (l : i < length old) (x : Watched) where
    abbrev next : List Watched
    next = slice_set now i x

    same : get_or now i Nothing ≡ get_or old i Nothing
    same = f.rest i (omega arith)

    next-rest : (k : ℕ) → i + 1 ≤ k → get_or next k Nothing ≡ get_or old k Nothing
    next-rest k m = get_or-set_other now i k x Nothing (λ e. omega (arith, e, m)) ∙ f.rest k (omega (arith, m))

    -- the next item does not fail before row `end`
    module _ (t : TakesRows rows steps end (get_or now i Nothing) x None) where
      found-on : (o : Option Violation) → IfSome o (IsFound rows steps others start old i end) → IfSome o (IsFound rows steps others start old (i + 1) end)
      found-on None h = grind (arith, common_steps)
      found-on (Some v) h = grind (arith, common_steps)

      gone-on : (o : Option Violation) → IfNone o (HaveGone rows steps others start old now i end)
          → IfNone o (HaveGone rows steps others start old next (i + 1) end)
      gone-on (Some v) h = tt
      gone-on None h =
          let on = after_steps steps in
          let x-is : x ≡ on (get_or old i Nothing) =
          t.next ∙ ap₂ after_steps (ap (λ n. take n steps) h.whole ∙ take_all (length steps) steps (omega arith)) same in
          record {
            whole = h.whole;
            gone = let z : suc i ≡ i + 1 = omega arith in cc (h.gone, x-is, partly-more on i old Nothing l, z);
          }

      pub far-on : IsSoFar rows steps others start old next (i + 1) end first
      far-on = grind (arith, common_steps, length-set, map-set_same, same, next-rest, found-on, gone-on)

    -- it fails at an earlier row than those before it
    pub far-found : (row : ℕ) (at : Row) → TakesRows rows steps end (get_or now i Nothing) x (Some row) → slice_get rows row ≡ Some at
        → IsSoFar rows steps others start old next (i + 1) row (Some (record { step = others + row; time = at.time; item = start + i }))
    far-found row at t e = grind (arith, common_steps, same, length-set, map-set_same, next-rest, t.fails)

  -- ALL ITEMS were taken
  pub all-taken : length old ≤ i → TakeRows rows steps others start old now first
  all-taken whole = by first f.found f.none
    where
      by : (o : Option Violation) → IfSome o (IsFound rows steps others start old i end)
          → IfNone o (HaveGone rows steps others start old now i end) → TakeRows rows steps others start old now o
      by None h n = record {
        clocks = f.clocks;
        fails = tt;
        none = λ k d l. subst (ObeysUpTo rows steps (length steps)) (get_or_default old k Nothing d l)
            (λ m b. f.before k (omega (arith, l, whole)) m (omega (arith, b, n.whole)));
        next = n.gone ∙ partly-all (after_steps steps) i old whole;
      }
      by (Some v) h n = record {
        clocks = f.clocks;
        fails = record {
          row = end;
          place = h.place;
          at = h.at;
          inside = h.inside;
          within = omega (arith, h.below, f.some);
          fails = h.fails;
          earlier = λ k l. f.before k (omega (arith, l, whole));
          lower = h.lower;
          at_is = h.at_is;
          violation = h.violation;
        };
        none = tt;
        next = tt;
      }
