-- Items that go on by a step, from one place to another.
use Rattle.std.proofs.lemmas.Grind.{common_steps}
use Rattle.std.proofs.Common.{◌≡◌, ◌≢◌, ℕ, ◌+◌, ◌<◌, ◌≤◌, List, [], ◌∷◌, Bool, true, false, map, length, get_or, slice_set, nat_lt, nat_eq, refl}
use Rattle.std.proofs.Common.{sym, ap, ap₂, ◌∙◌, subst, arith, eq-eqb, ⊎_elim, Option, Some, None}
use Rattle.std.specs.Option.{ForSome}
use Rattle.std.specs.Vec.{with_items}
use Rattle.std.specs.declared.vec.Vec.{Vec}
use Rattle.std.proofs.Math.Seq.{map-set_same}
use Rattle.std.proofs.lemmas.Bool.{ltb-true, ltb-false, cases_lt}
use Rattle.std.proofs.lemmas.List.{get_or_default, get_or-map, get_or-set_same, get_or-set_other, length-map, length-set, same_lists, with_items_is}
use Rattle.ccsl_kernel.specs.Lives.{Step}
use Rattle.ccsl_relate.specs.declared.watched.Watched.{Watched}
use Rattle.ccsl_relate.specs.declared.watched.Watched.TheVariants.{Nothing, Definition, Relation}
use Rattle.ccsl_relate.specs.Watching.{fails_in, next_in}
use Rattle.ccsl_relate.specs.Reading.{clocks_of, AreReaders, Fit, IsQuiet, FailsFrom, GoesOn, TakeStep}

-- a step changes none of the clocks that an item reads
pub clocks_of-next : (s : Step) (w : Watched) → clocks_of (next_in s w) ≡ clocks_of w
clocks_of-next s Nothing = refl
clocks_of-next s (Definition clock) = refl
clocks_of-next s (Relation r) = refl

pub clocks-next : (s : Step) (kept : List Watched) → map clocks_of (map (next_in s) kept) ≡ map clocks_of kept
clocks-next s [] = refl
clocks-next s (w ∷ kept) = ap₂ (λ x xs. x ∷ xs) (clocks_of-next s w) (clocks-next s kept)

-- as many items as before
pub same-count : (old new : List Watched) → map clocks_of new ≡ map clocks_of old → length new ≡ length old
same-count old new e = omega (arith, ap length e, length-map new clocks_of, length-map old clocks_of)

-- a list takes them back
pub come-back : {Z : Type 0} (kept : Vec Watched Z) {old : List Watched} (new : List Watched) → kept.items ≡ old → map clocks_of new ≡ map clocks_of old
    → (with_items kept new).items ≡ new
come-back kept {old} new at same = with_items_is kept new (same-count old new same ∙ sym (ap length at) ∙ sym kept.ok.0)

-- and each of them reads what it read
pub fit-on : {Z : Type 0} (kept : Vec Watched Z) (readers : Option (List (List (List ℕ)))) {old : List Watched} (new : List Watched) → old ≡ kept.items
    → map clocks_of new ≡ map clocks_of old → Fit readers kept.items → Fit readers (with_items kept new).items
fit-on kept readers new at same f =
    rw (come-back kept new (sym at) same)
    (subst (λ read. ForSome readers (λ groups. AreReaders groups read)) (sym (same ∙ ap (map clocks_of) at)) f)

pub clocks-set : (s : Step) (kept : List Watched) (i : ℕ) (d w : Watched) → w ≡ next_in s (get_or kept i d)
    → map clocks_of (slice_set kept i w) ≡ map clocks_of kept
clocks-set s kept i d w e = map-set_same clocks_of kept i w d (ap clocks_of e ∙ clocks_of-next s (get_or kept i d))

other : (k n : ℕ) → nat_eq k n ≡ false → k ≢ n
other k n e q = let z : false ≡ true = sym e ∙ eq-eqb k n q in cc

module _ {ticks : List ℕ} {s : Step} where
  pub on-none : {start : ℕ} {kept : List Watched} → GoesOn ticks s start start kept kept
  on-none {start} {kept} = grind (arith, common_steps)

  -- the next items are quiet
  pub on-skip : {start end : ℕ} (next : ℕ) {old now : List Watched} → GoesOn ticks s start end old now → start ≤ end → end ≤ next
      → ((k : ℕ) → end ≤ k → k < next → k < length old → IsQuiet ticks s (get_or old k Nothing)) → GoesOn ticks s start next old now
  on-skip {start} {end} next {old} {now} g low up quiet = record {
    count = g.count;
    obeys = λ k d a b l. grind (arith, quiet-at k d, g.obeys k d);
    gone = λ k d a b l. grind (arith, quiet-at k d, g.gone k d, g.rest k d);
    front = g.front;
    rest = λ k d l. g.rest k d (omega (arith, l, up));
  }
    where
      quiet-at : (k : ℕ) (d : Watched) → end ≤ k → k < next → k < length old → IsQuiet ticks s (get_or old k d)
      quiet-at k d a b l = subst (IsQuiet ticks s) (get_or_default old k Nothing d l) (quiet k a b l)

  -- the next item does not fail, and goes on
  pub on-more : {start end : ℕ} {old now : List Watched} (w : Watched) → GoesOn ticks s start end old now → start ≤ end → end < length old
      → fails_in ticks s (get_or now end Nothing) ≡ false → w ≡ next_in s (get_or now end Nothing)
      → GoesOn ticks s start (end + 1) old (slice_set now end w)
  on-more {start} {end} {old} {now} w g low inside obeyed is = grind (arith, common_steps, length-set, get_or-set_other, get_or_default, other, get_or-set_same)

  -- one range behind the other
  pub on-both : {start mid end : ℕ} {old now new : List Watched} → GoesOn ticks s start mid old now → GoesOn ticks s mid end now new → start ≤ mid → mid ≤ end
      → GoesOn ticks s start end old new
  on-both {start} {mid} {end} {old} {now} {new} g h low up = record {
    count = h.count ∙ g.count;
    obeys = λ k d a b l. obeys k d a b l (nat_lt k mid) refl;
    gone = λ k d a b l. gone k d a b l (nat_lt k mid) refl;
    front = λ k d l. h.front k d (omega (arith, l, low)) ∙ g.front k d l;
    rest = λ k d l. h.rest k d l ∙ g.rest k d (omega (arith, l, up));
  }
    where
      obeys : (k : ℕ) (d : Watched) → start ≤ k → k < end → k < length old → (b : Bool) → nat_lt k mid ≡ b → fails_in ticks s (get_or old k d) ≡ false
      obeys k d a b l true e = g.obeys k d a (ltb-true k mid e) l
      obeys k d a b l false e =
          let m : mid ≤ k = ltb-false k mid e in
          sym (ap (fails_in ticks s) (g.rest k d m)) ∙ h.obeys k d m b (omega (arith, l, g.count))

      gone : (k : ℕ) (d : Watched) → start ≤ k → k < end → k < length old → (b : Bool) → nat_lt k mid ≡ b → get_or new k d ≡ next_in s (get_or old k d)
      gone k d a b l true e = h.front k d (ltb-true k mid e) ∙ g.gone k d a (ltb-true k mid e) l
      gone k d a b l false e =
          let m : mid ≤ k = ltb-false k mid e in
          h.gone k d m b (omega (arith, l, g.count)) ∙ ap (next_in s) (g.rest k d m)

  -- ALL ITEMS went on
  pub on-all : {end : ℕ} {old new : List Watched} → GoesOn ticks s 0 end old new → length old ≤ end → map clocks_of new ≡ map clocks_of old
      → TakeStep ticks s old new None
  on-all {end} {old} {new} g l same = record {
    clocks = same;
    fails = tt;
    none = λ k d m. g.obeys k d (omega arith) (omega (arith, l, m)) m;
    next = grind (arith, common_steps, same_lists, length-map, get_or-map, g.count, g.gone);
  }

  -- THE FIRST that fails
  pub fails-here : {start end : ℕ} {old now : List Watched} → GoesOn ticks s start end old now → start ≤ end → end < length old
      → fails_in ticks s (get_or now end Nothing) ≡ true → FailsFrom ticks s start old end
  fails-here {start} {end} {old} {now} g low inside e = grind (arith, common_steps, get_or_default)

  -- it is the first of all, where those before went on
  pub stops-at : {mid place : ℕ} {old now new : List Watched} → GoesOn ticks s 0 mid old now → FailsFrom ticks s mid now place
      → map clocks_of new ≡ map clocks_of old → TakeStep ticks s old new (Some place)
  stops-at {mid} {place} {old} {now} g f same = record {
    clocks = same;
    fails = record {
      inside = omega (arith, f.inside, g.count);
      fails = λ d. sym (ap (fails_in ticks s) (g.rest place d f.low)) ∙ f.fails d;
      before = λ k d l.
          ⊎_elim
          (λ (m : k < mid). g.obeys k d (omega arith) m (omega (arith, l, f.inside, g.count)))
          (λ (m : mid ≤ k). sym (ap (fails_in ticks s) (g.rest k d m)) ∙ f.before k d m l)
          (cases_lt k mid);
    };
    none = tt;
    next = tt;
  }
