-- What a reader keeps of the changes of a code.
use Rattle.std.proofs.Common.{◌≡◌, ℕ, List, [], ◌∷◌, ◌++◌, Bool, true, false, Option, Some, None, ◌&&◌, ◌||◌, not, cond, refl, sym, ap, ◌∙◌}
use Rattle.std.specs.Prelude.{bytes_eq}
use Rattle.std.specs.Option.{option_or}
use Rattle.ccsl_vcd.specs.Places.{Change}
use Rattle.ccsl_vcd.specs.Rows.{last_value, event_ticks}

later-none : (o : Option Bool) → option_or o None ≡ o
later-none None = refl
later-none (Some v) = refl

later-later : (o p q : Option Bool) → option_or (option_or o p) q ≡ option_or o (option_or p q)
later-later None p q = refl
later-later (Some v) p q = refl

-- The last value of earlier changes and of later ones: a greater time makes the present value the earlier one.
pub last-append : (code : List ℕ) (xs ys : List Change) → last_value code (xs ++ ys) ≡ option_or (last_value code ys) (last_value code xs)
last-append code [] ys = sym (later-none (last_value code ys))
last-append code (c ∷ xs) ys =
    ap (λ (o : Option Bool). option_or o (cond (bytes_eq c.code code) (Some c.one) None)) (last-append code xs ys)
    ∙ later-later (last_value code ys) (last_value code xs) _

-- one more change at the present time
pub last-more : (code : List ℕ) (cur : List Change) (c : Change)
    → last_value code (cur ++ c ∷ []) ≡ cond (bytes_eq c.code code) (Some c.one) (last_value code cur)
last-more code cur c =
    last-append code cur (c ∷ [])
    ∙ elim (bytes_eq c.code code) as (λ w. option_or (option_or None (cond w (Some c.one) None)) (last_value code cur) ≡ cond w (Some c.one)
    (last_value code cur)) [ true ↦ refl | false ↦ refl ]

pub event-more : (code : List ℕ) (cur : List Change) (c : Change)
    → event_ticks code (cur ++ c ∷ []) ≡ (event_ticks code cur || (bytes_eq c.code code && not c.dumped))
event-more code [] c = elim (bytes_eq c.code code && not c.dumped) as (λ w. (w || false) ≡ (false || w)) [ true ↦ refl | false ↦ refl ]
event-more code (d ∷ cur) c =
    elim (bytes_eq d.code code && not d.dumped) as (λ w.
    (w || event_ticks code (cur ++ c ∷ [])) ≡ ((w || event_ticks code cur) || (bytes_eq c.code code && not c.dumped))) [
      | true ↦ refl
      | false ↦ event-more code cur c
    ]
