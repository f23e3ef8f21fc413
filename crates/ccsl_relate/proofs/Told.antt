-- What the sets of a group tell.
use Rattle.std.proofs.lemmas.Grind.{common_steps}
use Rattle.std.proofs.Common.{◌≡◌, ℕ, ◌+◌, ◌*◌, ◌<◌, List, [], ◌∷◌, ◌++◌, Bool, true, false, ◌||◌, ◌&&◌, nat_eq, nat_lt, map, length, get_or}
use Rattle.std.proofs.Common.{slice_set, refl, sym, ap, ap₂, ◌∙◌, arith, length-append}
use Rattle.std.specs.List.{list_any}
use Rattle.std.proofs.Common.{not}
use Rattle.std.proofs.Math.Bool.{or-false, and-false}
use Rattle.std.proofs.Math.ListN.{get_or-map, get_or-append}
use Rattle.std.proofs.Math.Seq.{get_or-append_seam}
use Rattle.std.proofs.lemmas.List.{get_or_default, get_or_past, get_or-set_same, get_or-set_other, length-map}
use Rattle.ccsl_base.specs.declared.limits.TheConstants.{MAX_CLOCKS}
use Rattle.ccsl_base.specs.Clocks.{ticks_in, with_clock}
use Rattle.ccsl_base.specs.Changes.{difference}
use Rattle.ccsl_base.proofs.Sets.{ticks_in-with_same, ticks_in-with_other, ticks_in-difference}
use Rattle.ccsl_kernel.specs.Lives.{Step}
use Rattle.ccsl_relate.specs.declared.watched.Watched.{Watched}
use Rattle.ccsl_relate.specs.declared.watched.Watched.TheVariants.{Nothing}
use Rattle.ccsl_relate.specs.Reading.{clocks_of, TellsFrom, Touches}
use Rattle.ccsl_relate.proofs.Quiet.{meet, quiet-unread}

-- whether place p is told at clock c
abbrev pub told : List (List ℕ) → ℕ → ℕ → Bool
told group c p = ticks_in p (get_or group c [])

-- AN ITEM MORE
told-with : (place p : ℕ) (s : List ℕ) → ticks_in p (with_clock place s) ≡ (ticks_in p s || nat_eq p place)
told-with place p s = grind (arith, common_steps, ticks_in-with_same, ticks_in-with_other)

without : (a b : Bool) → (a || (b && false)) ≡ a
without a b = simp (and-false, or-false)

-- with one place more at one clock
pub told-more : (old mid : List (List ℕ)) (clock place : ℕ) (was now : List ℕ) → ((c : ℕ) → get_or mid c [] ≡ get_or old c []) → clock < length mid
    → was ≡ get_or mid clock was → now ≡ with_clock place was
    → (c p : ℕ) → told (slice_set mid clock now) c p ≡ (told old c p || (nat_eq p place && nat_eq c clock))
told-more old mid clock place was now same l at is c p = grind (arith, common_steps, get_or-set_same, get_or_default, told-with, get_or-set_other, without)

-- the items before a place are told
pub record TellsBefore (start place : ℕ) (group read : List (List ℕ)) : Type 0 where
  pub tell : (c p : ℕ) → told group c p ≡ (nat_lt p place && ticks_in c (get_or read (start + p) []))

-- GROUPS, one more
pub record AreSoFar (start : ℕ) (groups : List (List (List ℕ))) (read : List (List ℕ)) : Type 0 where
  pub start_is : start ≡ length groups * MAX_CLOCKS
  pub few : start < length read + MAX_CLOCKS
  pub tell : (i : ℕ) → i < length groups → TellsFrom (i * MAX_CLOCKS) (get_or groups i []) read

-- THE PLACES THAT ARE TOLD at some clocks
abbrev pub told_at : List (List ℕ) → List ℕ → ℕ → Bool
told_at group clocks p = list_any (λ c. told group c p) clocks

-- what is gathered, and what the clocks that are left tell, is what was there and what all tell
pub record Gathers (group : List (List ℕ)) (clocks rest before touched : List ℕ) : Type 0 where
  pub both : (p : ℕ) → (ticks_in p touched || told_at group rest p) ≡ (ticks_in p before || told_at group clocks p)

-- THE ITEMS OF A GROUP THAT ARE TOUCHED
told-meet : (start : ℕ) (group read : List (List ℕ)) → TellsFrom start group read → (clocks : List ℕ) (p : ℕ) → p < MAX_CLOCKS
    → told_at group clocks p ≡ meet clocks (get_or read (start + p) [])
told-meet start group read t [] p l = refl
told-meet start group read t (c ∷ clocks) p l = ap₂ (λ x y. x || y) (t c p l) (told-meet start group read t clocks p l)

meet-none : (clocks : List ℕ) → meet clocks [] ≡ false
meet-none [] = refl
meet-none (c ∷ clocks) = meet-none clocks

-- those that read one of the step's clocks, or one of others, which have with the step's all that tick in the row
touches-told : (ticks : List ℕ) (s : Step) (others : List ℕ) (start : ℕ) (group : List (List ℕ)) (touched : List ℕ) (kept : List Watched)
    → ((x : ℕ) → ticks_in x s ≡ false → ticks_in x others ≡ false → ticks_in x ticks ≡ false)
    → TellsFrom start group (map clocks_of kept) → ((p : ℕ) → ticks_in p touched ≡ (told_at group s p || told_at group others p))
    → Touches ticks s touched start kept
touches-told ticks s others start group touched kept all t h = record {
  inside = λ p l e. grind (arith, met p l, get_or_past read (start + p) [], length-map kept clocks_of, meet-none s, meet-none others);
  quiet = λ p l e.
      let w = get_or kept (start + p) Nothing in
      let none : (meet s (clocks_of w) || meet others (clocks_of w)) ≡ false =
      ap (λ cs. meet s cs || meet others cs) (sym (at p)) ∙ sym (met p l) ∙ e in
      quiet-unread s ticks others all w none;
}
  where
    read : List (List ℕ)
    read = map clocks_of kept

    met : (p : ℕ) → p < MAX_CLOCKS → ticks_in p touched ≡ (meet s (get_or read (start + p) []) || meet others (get_or read (start + p) []))
    met p l = h p ∙ ap₂ (λ x y. x || y) (told-meet start group read t s p l) (told-meet start group read t others p l)

    at : (p : ℕ) → get_or read (start + p) [] ≡ clocks_of (get_or kept (start + p) Nothing)
    at p = get_or-map clocks_of kept (start + p) Nothing

-- what ticks in the row ticks in the step
pub touches-alike : (ticks : List ℕ) (s : Step) (start : ℕ) (group : List (List ℕ)) (touched : List ℕ) (kept : List Watched) → difference ticks s ≡ []
    → TellsFrom start group (map clocks_of kept) → ((p : ℕ) → ticks_in p touched ≡ told_at group s p) → Touches ticks s touched start kept
touches-alike ticks s start group touched kept alike t h =
    touches-told ticks s [] start group touched kept
    (λ x r _. within (ticks_in x ticks) (ticks_in x s) (sym (ticks_in-difference ticks s x) ∙ ap (ticks_in x) alike) r) t
    (λ p. h p ∙ sym (or-false (told_at group s p)))
  where
    within : (a b : Bool) → (a && not b) ≡ false → b ≡ false → a ≡ false
    within true b h e = cc (ap not e)
    within false b h e = refl

-- or the row's clocks are gone through too, behind the step's
pub touches-both : (ticks : List ℕ) (s : Step) (start : ℕ) (group : List (List ℕ)) (mid touched : List ℕ) (kept : List Watched)
    → TellsFrom start group (map clocks_of kept) → ((p : ℕ) → ticks_in p mid ≡ told_at group s p)
    → ((p : ℕ) → ticks_in p touched ≡ (ticks_in p mid || told_at group ticks p)) → Touches ticks s touched start kept
touches-both ticks s start group mid touched kept t first second =
    touches-told ticks s ticks start group touched kept (λ x _ r. r) t (λ p. second p ∙ ap (λ b. b || told_at group ticks p) (first p))

-- one group more
pub one-group-more : {start : ℕ} {groups : List (List (List ℕ))} {read : List (List ℕ)} (group : List (List ℕ)) → AreSoFar start groups read
    → TellsFrom start group read → start < length read → AreSoFar (start + MAX_CLOCKS) (groups ++ group ∷ []) read
one-group-more {start} {groups} {read} group f t l = grind (arith, common_steps, length-append, get_or-append, get_or-append_seam)
