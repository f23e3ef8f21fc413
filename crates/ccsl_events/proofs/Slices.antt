-- What becomes of the variables where one of them is another.
use Rattle.std.proofs.Common.{◌≡◌, ℕ, zero, suc, ◌<◌, ◌≤◌, List, [], ◌∷◌, ◌++◌, length, map, take, drop, slice_set, get_or, Bool, refl, sym, ap, ap₂, ◌∙◌}
use Rattle.std.proofs.Common.{arith}
use Rattle.std.proofs.lemmas.List.{map-set}
use Rattle.ccsl_triggers.specs.declared.signal.Signal.{Signal}
use Rattle.ccsl_triggers.specs.Held.{Held, held, forget_held}
use Rattle.ccsl_events.specs.Keeping.{held_at, replaced, put_touched, touch_held, set_one}

pub held_at-map : (ss : List Signal) (i : ℕ) (s : Signal) → i < length ss → s ≡ get_or ss i s → held_at (map held ss) i ≡ held s
held_at-map [] i s l e = absurd (omega (arith, l))
held_at-map (t ∷ ss) zero s l e = ap held (sym e)
held_at-map (t ∷ ss) (suc i) s l e = held_at-map ss i s (omega (arith, l)) e

pub forget-more : (hs : List Held) (i : ℕ) → i < length hs →
    slice_set (map forget_held (take i hs) ++ drop i hs) i (forget_held (held_at (map forget_held (take i hs) ++ drop i hs) i)) ≡ map forget_held
    (take (suc i) hs) ++ drop (suc i) hs
forget-more [] i l = absurd (omega (arith, l))
forget-more (h ∷ hs) zero l = refl
forget-more (h ∷ hs) (suc i) l = ap (λ gs. forget_held h ∷ gs) (forget-more hs i (omega (arith, l)))

-- a variable of those that are kept is replaced
pub replaced-map : (f : Held → Held) (ss : List Signal) (i : ℕ) (old new : Signal) → i < length ss → old ≡ get_or ss i old → held new ≡ f (held old) →
    map held (slice_set ss i new) ≡ replaced i f (map held ss)
replaced-map f ss i old new l e is = map-set held ss i new ∙ ap (slice_set (map held ss) i) (is ∙ ap f (sym (held_at-map ss i old l e)))

past : (hs : List Held) (i : ℕ) (h : Held) → length hs ≤ i → hs ≡ slice_set hs i h
past [] i h l = refl
past (g ∷ hs) zero h l = absurd (omega (arith, l))
past (g ∷ hs) (suc i) h l = ap (λ gs. g ∷ gs) (past hs i h (omega (arith, l)))

-- one value was taken
pub one-set : (ss : List Signal) (i : ℕ) (old new : Signal) (touched touched' : List ℕ) (letters : List ℕ) (dumped : Bool) → i < length ss
    → old ≡ get_or ss i old →
    held new ≡ touch_held letters dumped (held old) → touched' ≡ put_touched i (held old).touched touched →
    record { all = map held (slice_set ss i new); touched = touched' } ≡ set_one i letters dumped (record { all = map held ss; touched = touched })
one-set ss i old new touched touched' letters dumped l e is more =
    ap₂ (λ (a : List Held) (t : List ℕ). record { all = a; touched = t }) (replaced-map (touch_held letters dumped) ss i old new l e is)
    (more ∙ ap (λ h. put_touched i h.touched touched) (sym (held_at-map ss i old l e)))

-- the same, where what was there is read from the list
held_at-got : (ss : List Signal) (i : ℕ) (d : Signal) → i < length ss → held_at (map held ss) i ≡ held (get_or ss i d)
held_at-got [] i d l = absurd (omega (arith, l))
held_at-got (t ∷ ss) zero d l = refl
held_at-got (t ∷ ss) (suc i) d l = held_at-got ss i d (omega (arith, l))

pub replaced-got : (f : Held → Held) (ss : List Signal) (i : ℕ) (d new : Signal) → i < length ss → held new ≡ f (held (get_or ss i d)) →
    map held (slice_set ss i new) ≡ replaced i f (map held ss)
replaced-got f ss i d new l is = map-set held ss i new ∙ ap (slice_set (map held ss) i) (is ∙ ap f (sym (held_at-got ss i d l)))
