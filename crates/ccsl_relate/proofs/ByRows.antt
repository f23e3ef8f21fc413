-- An item over rows, each with the step that it completes.
use Rattle.std.proofs.lemmas.Grind.{common_steps}
use Rattle.std.proofs.Common.{add-one, ◌≡◌, ℕ, zero, suc, ◌+◌, ◌<◌, ◌≤◌, List, [], ◌∷◌, length, take, get_or, Option}
use Rattle.std.proofs.Common.{Some, None, Bool, true, false, not, refl, sym, ap, ap₂, ◌∙◌, arith, below_more}
use Rattle.ccsl_base.specs.declared.rows.Row.{Row}
use Rattle.std.specs.Bool.{beq}
use Rattle.ccsl_base.specs.Clocks.{ticks_in}
use Rattle.ccsl_formula.specs.Formula.{same}
use Rattle.ccsl_kernel.specs.Lives.{Step}
use Rattle.ccsl_relate.specs.declared.watched.Watched.{Watched}
use Rattle.ccsl_relate.specs.declared.watched.Related.{Related}
use Rattle.ccsl_relate.specs.declared.watched.Watched.TheVariants.{Nothing, Definition, Relation}
use Rattle.ccsl_relate.specs.Few.{HasRoom, HasRoomFor}
use Rattle.ccsl_relate.specs.Watching.{fails_in, next_in, counted_on, related_formula}
use Rattle.ccsl_relate.specs.Reading.{clocks_of}
use Rattle.ccsl_relate.specs.Stretch.{after_steps, fails_at, ObeysUpTo, TakesRows}
use Rattle.ccsl_relate.proofs.Ranges.{clocks_of-next}

-- one row more
pub after-more : (rows : List Row) (w : Watched) (n : ℕ) (d : Row) → n < length rows
    → after_steps (take (n + 1) rows) w ≡ next_in (get_or rows n d).ticks (after_steps (take n rows) w)
after-more [] w n d l = absurd (omega (arith, l))
after-more (row ∷ rows) w zero d l = refl
after-more (row ∷ rows) w (suc n) d l = simp add-one (simp add-one at (after-more rows (next_in row.ticks w) n d (omega (arith, l))))

-- what fails at a row is what is kept up to it
pub fails-here : (rows steps : List Row) (w : Watched) (n : ℕ) (d e : Row) → n < length rows → n < length steps
    → fails_at rows steps w n ≡ fails_in (get_or rows n d).ticks (get_or steps n e).ticks (after_steps (take n steps) w)
fails-here [] steps w n d e l m = absurd (omega (arith, l))
fails-here (row ∷ rows) [] w n d e l m = absurd (omega (arith, m))
fails-here (row ∷ rows) (step ∷ steps) w zero d e l m = refl
fails-here (row ∷ rows) (step ∷ steps) w (suc n) d e l m = fails-here rows steps (next_in step.ticks w) n d e (omega (arith, l)) (omega (arith, m))

pub obeys-more : (rows steps : List Row) (w : Watched) (n : ℕ) → ObeysUpTo rows steps n w → fails_at rows steps w n ≡ false → ObeysUpTo rows steps (n + 1) w
obeys-more rows steps w n = below_more (λ n. fails_at rows steps w n ≡ false) n

pub clocks-after : (rows : List Row) (w : Watched) → clocks_of (after_steps rows w) ≡ clocks_of w
clocks-after [] w = refl
clocks-after (row ∷ rows) w = clocks-after rows (next_in row.ticks w) ∙ clocks_of-next row.ticks w

-- ROOM for the ticks of all rows is room for one more before the last
room-on : (s : Step) (w : Watched) (n : ℕ) → HasRoomFor (suc n) w → HasRoomFor n (next_in s w)
room-on s Nothing n h = grind (arith, common_steps)
room-on s (Definition clock) n h = grind (arith, common_steps)
room-on s (Relation r) n h = grind (arith, common_steps)

room-here : (n : ℕ) (w : Watched) → 0 < n → HasRoomFor n w → HasRoom w
room-here n Nothing l h = tt
room-here n (Definition clock) l h = tt
room-here n (Relation r) l h = (omega (arith, l, h.0), omega (arith, l, h.1))

pub room-after : (rows : List Row) (w : Watched) (n : ℕ) → length rows < n → HasRoomFor n w → HasRoom (after_steps rows w)
room-after [] w n l h = room-here n w l h
room-after (row ∷ rows) w zero l h = absurd (omega (arith, l))
room-after (row ∷ rows) w (suc n) l h = room-after rows (next_in row.ticks w) n (omega (arith, l)) (room-on row.ticks w n h)

-- a definition that was not recorded does not fail, and definitions stay
nothing-obeys : (rows steps : List Row) (n : ℕ) → fails_at rows steps Nothing n ≡ false
nothing-obeys [] steps n = refl
nothing-obeys (row ∷ rows) [] n = refl
nothing-obeys (row ∷ rows) (step ∷ steps) zero = refl
nothing-obeys (row ∷ rows) (step ∷ steps) (suc n) = nothing-obeys rows steps n

nothing-stays : (steps : List Row) → Nothing ≡ after_steps steps Nothing
nothing-stays [] = refl
nothing-stays (step ∷ steps) = nothing-stays steps

pub nothing-takes : (rows steps : List Row) (end : ℕ) → TakesRows rows steps end Nothing Nothing None
nothing-takes rows steps end =
    record { clocks = refl; fails = tt; none = λ n l. nothing-obeys rows steps n; next = nothing-stays (take end steps) }

pub definition-stays : (clock : ℕ) (steps : List Row) → Definition clock ≡ after_steps steps (Definition clock)
definition-stays clock [] = refl
definition-stays clock (step ∷ steps) = definition-stays clock steps

-- whether two differ, as the code asks for it
not-same : (a b : Bool) → not (same a b) ≡ not (beq a b)
not-same true true = refl
not-same true false = refl
not-same false true = refl
not-same false false = refl

-- a recorded definition fails where the row and its step differ
pub definition-here : (rows steps : List Row) (clock n : ℕ) (d e : Row) {a b : Bool} → n < length rows → n < length steps
    → a ≡ ticks_in clock (get_or rows n d).ticks → b ≡ ticks_in clock (get_or steps n e).ticks → fails_at rows steps (Definition clock) n ≡ not (beq a b)
definition-here rows steps clock n d e {a} {b} l m p q =
    fails-here rows steps (Definition clock) n d e l m
    ∙ ap (fails_in (get_or rows n d).ticks (get_or steps n e).ticks) (sym (definition-stays clock (take n steps)))
    ∙ ap₂ (λ x y. not (same x y)) (sym p) (sym q)
    ∙ not-same a b

-- a relation that has gone on so far fails in the next step
pub relation-here : (rows : List Row) (r : Related) (n : ℕ) (d : Row) {now : Related} {b : Bool} → n < length rows
    → Relation now ≡ after_steps (take n rows) (Relation r) → b ≡ not (related_formula now (get_or rows n d).ticks) → fails_at rows rows (Relation r) n ≡ b
relation-here rows r n d {now} l gone is =
    fails-here rows rows (Relation r) n d d l l ∙ ap (fails_in (get_or rows n d).ticks (get_or rows n d).ticks) (sym gone) ∙ sym is

-- A RELATION reads no more of a row than its step
relation-alike : (rows steps : List Row) (r : Related) (n : ℕ) → length steps ≤ length rows → fails_at rows steps (Relation r) n
    ≡ fails_at steps steps (Relation r) n
relation-alike [] [] r n l = refl
relation-alike [] (step ∷ steps) r n l = absurd (omega (arith, l))
relation-alike (row ∷ rows) [] r n l = refl
relation-alike (row ∷ rows) (step ∷ steps) r zero l = refl
relation-alike (row ∷ rows) (step ∷ steps) r (suc n) l = relation-alike rows steps (counted_on r step.ticks) n (omega (arith, l))

pub relation-takes : (rows steps : List Row) (end : ℕ) (r : Related) (new : Watched) (first : Option ℕ) → length steps ≤ length rows
    → TakesRows steps steps end (Relation r) new first → TakesRows rows steps end (Relation r) new first
relation-takes rows steps end r new None l t =
    record { clocks = t.clocks; fails = tt; none = λ n m. relation-alike rows steps r n l ∙ t.none n m; next = t.next }
relation-takes rows steps end r new (Some n) l t = record {
  clocks = t.clocks;
  fails = record {
    inside = t.fails.inside;
    fails = relation-alike rows steps r n l ∙ t.fails.fails;
    before = λ k m. relation-alike rows steps r k l ∙ t.fails.before k m;
  };
  none = tt;
  next = tt;
}
