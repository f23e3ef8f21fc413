-- What the end of a time makes of the variables.
use Rattle.std.proofs.Common.{◌≡◌, ℕ, zero, suc, ◌<◌, ◌≤◌, List, [], ◌∷◌, length, map, ◌||◌, Bool, true, false, Option, nat_eq, if◌then◌else◌, refl, sym, ap}
use Rattle.std.proofs.Common.{ap₂, ◌∙◌, ⊎_elim, arith, eqb-true}
use Rattle.std.proofs.lemmas.List.{get_or-set_same, get_or-set_other, get_or_past, length-set}
use Rattle.std.proofs.lemmas.Bool.{cases_lt, eqb-false}
use Rattle.ccsl_base.specs.Clocks.{ticks_in}
use Rattle.ccsl_triggers.specs.declared.signal.Signal.{Signal}
use Rattle.ccsl_triggers.specs.Views.{View, at_rest}
use Rattle.ccsl_triggers.specs.Held.{Held, held, new_held, settle_held, IsQuiet}
use Rattle.ccsl_triggers.specs.Triggers.{view_at}
use Rattle.ccsl_events.specs.Keeping.{held_at, replaced, settle_each}

-- what is seen of a variable is seen of what is kept
pub view_at-held : (ss : List Signal) (n : ℕ) → view_at ss n ≡ (held_at (map held ss) n).view
view_at-held [] n = refl
view_at-held (s ∷ ss) zero = refl
view_at-held (s ∷ ss) (suc n) = view_at-held ss n

pub held_at-same : (hs : List Held) (n : ℕ) (f : Held → Held) → n < length hs → held_at (replaced n f hs) n ≡ f (held_at hs n)
held_at-same hs n f l = get_or-set_same hs n (f (held_at hs n)) (new_held 0) l

pub held_at-other : (hs : List Held) (m n : ℕ) (f : Held → Held) → (n ≡ m → ⊥) → held_at (replaced m f hs) n ≡ held_at hs n
held_at-other hs m n f ne = get_or-set_other hs m n (f (held_at hs m)) (new_held 0) ne

settle-same : (hs : List Held) (n : ℕ) → held_at (replaced n settle_held hs) n ≡ settle_held (held_at hs n)
settle-same hs n =
    ⊎_elim
    (λ (l : n < length hs). held_at-same hs n settle_held l)
    (λ (l : length hs ≤ n).
    get_or_past (replaced n settle_held hs) n (new_held 0) (omega (arith, l, length-set hs n (settle_held (held_at hs n))))
    ∙ sym (ap settle_held (get_or_past hs n (new_held 0) l)))
    (cases_lt n (length hs))

-- one with a number among some is settled, and each other stays
pub settle_each-at : (ns : List ℕ) (hs : List Held) (n : ℕ)
    → held_at (settle_each ns hs) n ≡ (if ticks_in n ns then settle_held (held_at hs n) else held_at hs n)
settle_each-at [] hs n = refl
settle_each-at (m ∷ ns) hs n = settle_each-at ns (replaced m settle_held hs) n ∙ by (nat_eq n m) refl
  where
    after : Held
    after = held_at (replaced m settle_held hs) n

    twice : (b : Bool) → (if b then settle_held (settle_held (held_at hs n)) else settle_held (held_at hs n)) ≡ settle_held (held_at hs n)
    twice true = refl
    twice false = refl

    by : (b : Bool) → nat_eq n m ≡ b →
        (if ticks_in n ns then settle_held after else after) ≡ (if ticks_in n (m ∷ ns) then settle_held (held_at hs n) else held_at hs n)
    by true e =
        let here : after ≡ settle_held (held_at hs n) = ap (λ k. held_at (replaced k settle_held hs) n) (sym (eqb-true n m e)) ∙ settle-same hs n in
        ap (λ h. if ticks_in n ns then settle_held h else h) here ∙ twice (ticks_in n ns)
        ∙ sym (ap (λ t. if t || ticks_in n ns then settle_held (held_at hs n) else held_at hs n) e)
    by false e =
        ap (λ h. if ticks_in n ns then settle_held h else h) (held_at-other hs m n settle_held (eqb-false n m e))
        ∙ sym (ap (λ t. if t || ticks_in n ns then settle_held (held_at hs n) else held_at hs n) e)

-- of a variable of which nothing was recorded, the same is seen
pub rests : (v : View) → IsQuiet v → at_rest v ≡ v
rests v q = ap₂ (λ (b : Option (List ℕ)) (h : Bool). record { before = b; after = v.after; heard = h }) (sym q.same) (sym q.unheard)

-- Behind the end of a time each variable is seen at rest, and is not among those that changed.
pub settle_each-view : (ns : List ℕ) (hs : List Held) (n : ℕ) → (ticks_in n ns ≡ false → IsQuiet (held_at hs n).view) →
    (held_at (settle_each ns hs) n).view ≡ at_rest (held_at hs n).view
settle_each-view ns hs n quiet = ap (λ h. h.view) (settle_each-at ns hs n) ∙ by (ticks_in n ns) refl
  where
    by : (b : Bool) → ticks_in n ns ≡ b → (if ticks_in n ns then settle_held (held_at hs n) else held_at hs n).view ≡ at_rest (held_at hs n).view
    by true e = rw e refl
    by false e = rw e (sym (rests (held_at hs n).view (quiet e)))

pub settle_each-touched : (ns : List ℕ) (hs : List Held) (n : ℕ) → ((held_at hs n).touched ≡ true → ticks_in n ns ≡ true) →
    (held_at (settle_each ns hs) n).touched ≡ false
settle_each-touched ns hs n flag = ap (λ h. h.touched) (settle_each-at ns hs n) ∙ by (ticks_in n ns) refl (held_at hs n).touched refl
  where
    by : (b : Bool) → ticks_in n ns ≡ b → (t : Bool) → (held_at hs n).touched ≡ t
        → (if ticks_in n ns then settle_held (held_at hs n) else held_at hs n).touched ≡ false
    by true e t f = rw e refl
    by false e false f = rw e f
    by false e true f = absurd (cc (flag f, e))
