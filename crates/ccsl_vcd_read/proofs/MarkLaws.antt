-- How marks go on at a change and at a later time, and which clocks tick.
use Rattle.std.proofs.Common.{◌≡◌, ℕ, List, [], ◌∷◌, ◌++◌, Bool, true, false, not, ◌&&◌, ◌||◌, cond, Option, Some, None, filter, map, refl, sym, ap, ◌∙◌}
use Rattle.std.specs.Prelude.{bytes_eq, unwrap_or, nat_eq}
use Rattle.std.specs.List.{list_all}
use Rattle.std.specs.Option.{option_or}
use Rattle.std.proofs.Math.Bool.{or-false}
use Rattle.std.proofs.lemmas.Bool.{and_parts}
use Rattle.ccsl_base.specs.Names.{is_among}
use Rattle.ccsl_vcd.specs.Binding.{Bound}
use Rattle.ccsl_vcd.specs.Places.{Change}
use Rattle.ccsl_vcd.specs.Rows.{last_value, event_ticks, is_value, ticks}
use Rattle.ccsl_vcd.proofs.Marks.{last-append, last-more, event-more}
use Rattle.ccsl_bind.specs.Codes.{number_of}
use Rattle.ccsl_vcd_read.specs.declared.marks.Mark.{Mark}
use Rattle.ccsl_vcd_read.specs.Marks.{put, aged, is_ticking, ticking, stands, mark_of}
use Rattle.ccsl_bind.proofs.Codes.{among-found, same-number}

-- a clock ticks where its mark says so

settles : (now before : Option Bool) → (stands (option_or now before) && not (stands before)) ≡ (is_value true now && is_value false before)
settles None None = refl
settles None (Some true) = refl
settles None (Some false) = refl
settles (Some true) None = refl
settles (Some true) (Some w) = refl
settles (Some false) before = refl

and-none : (b : Bool) → (b && not false) ≡ b
and-none true = refl
and-none false = refl

mark-ticks : (codes : List (List ℕ)) (old cur : List Change) (b : Bound) → is_ticking (mark_of codes old cur b) ≡ ticks cur old b
mark-ticks codes old cur b =
    elim b.event as (λ w. (cond w (event_ticks b.code cur) (stands (option_or (last_value b.code cur) (last_value b.code old)))
    && not (cond w false (stands (last_value b.code old))))
    ≡ cond w (event_ticks b.code cur) (is_value true (last_value b.code cur) && is_value false (last_value b.code old))) [
      | true ↦ and-none (event_ticks b.code cur)
      | false ↦ settles (last_value b.code cur) (last_value b.code old)
    ]

pub ticking-marks : (codes : List (List ℕ)) (old cur : List Change) (bound : List Bound)
    → map (λ b. b.clock) (filter (ticks cur old) bound) ≡ ticking (map (mark_of codes old cur) bound)
ticking-marks codes old cur [] = refl
ticking-marks codes old cur (b ∷ bs) =
    ap (λ w. map (λ x. x.clock) (cond w (b ∷ filter (ticks cur old) bs) (filter (ticks cur old) bs))) (sym (mark-ticks codes old cur b))
    ∙ elim (is_ticking (mark_of codes old cur b)) as (λ w. map (λ x. x.clock) (cond w (b ∷ filter (ticks cur old) bs) (filter (ticks cur old) bs))
    ≡ map (λ m. m.clock) (cond w (mark_of codes old cur b ∷ filter is_ticking (map (mark_of codes old cur) bs))
    (filter is_ticking (map (mark_of codes old cur) bs)))) [
      | true ↦ ap (λ xs. b.clock ∷ xs) (ticking-marks codes old cur bs)
      | false ↦ ticking-marks codes old cur bs
    ]

-- a later time

mark-aged : (codes : List (List ℕ)) (old cur : List Change) (b : Bound) → aged (mark_of codes old cur b) ≡ mark_of codes (old ++ cur) [] b
mark-aged codes old cur b =
    let at : Bool → Bool → Mark =
    λ now before. record { clock = b.clock; code = unwrap_or (number_of b.code codes) 0; event = b.event; now = now; before = before } in
    let e : option_or (last_value b.code cur) (last_value b.code old) ≡ last_value b.code (old ++ cur) = sym (last-append b.code old cur) in
    elim b.event as (λ w. at (not w && cond w (event_ticks b.code cur) (stands (option_or (last_value b.code cur) (last_value b.code old))))
    (not w && cond w (event_ticks b.code cur) (stands (option_or (last_value b.code cur) (last_value b.code old))))
    ≡ at (cond w false (stands (last_value b.code (old ++ cur)))) (cond w false (stands (last_value b.code (old ++ cur))))) [
      | true ↦ refl
      | false ↦ ap (λ o. at (stands o) (stands o)) e
    ]

pub marks-aged : (codes : List (List ℕ)) (old cur : List Change) (bound : List Bound)
    → map aged (map (mark_of codes old cur) bound) ≡ map (mark_of codes (old ++ cur) []) bound
marks-aged codes old cur [] = refl
marks-aged codes old cur (b ∷ bs) = rw (mark-aged codes old cur b, marks-aged codes old cur bs) refl

-- a change

mark-put : (codes : List (List ℕ)) (old cur : List Change) (c : Change) (n m : ℕ) (b : Bound) → number_of c.code codes ≡ Some n
    → number_of b.code codes ≡ Some m
    → put n c.one c.dumped (mark_of codes old cur b) ≡ mark_of codes old (cur ++ c ∷ []) b
mark-put codes old cur c n m b e f =
    let same : nat_eq (unwrap_or (number_of b.code codes) 0) n ≡ bytes_eq c.code b.code =
    ap (λ o. nat_eq (unwrap_or o 0) n) f ∙ same-number codes c.code b.code n m e f in
    let at : Bool → Mark = λ now. record {
      clock = b.clock;
      code = unwrap_or (number_of b.code codes) 0;
      event = b.event;
      now = now;
      before =
          cond b.event false (stands (last_value b.code old));
    } in
    let now : Bool → Bool = λ w. cond w (event_ticks b.code cur) (stands (option_or (last_value b.code cur) (last_value b.code old))) in
    rw (same, last-more b.code cur c, event-more b.code cur c) (
    elim (bytes_eq c.code b.code) as (λ v. cond v (cond b.event (at (now b.event || not c.dumped)) (at c.one)) (at (now b.event))
    ≡ at (cond b.event (event_ticks b.code cur || (v && not c.dumped))
    (stands (option_or (cond v (Some c.one) (last_value b.code cur)) (last_value b.code old))))) [
      | true ↦ elim b.event as (λ w. cond w (at (now w || not c.dumped)) (at c.one) ≡ at
          (cond w (event_ticks b.code cur || not c.dumped) (stands (option_or (Some c.one) (last_value b.code old))))) [ true ↦ refl | false ↦ refl ]
      | false ↦ elim b.event as (λ w. at (now w) ≡ at
          (cond w (event_ticks b.code cur || false) (stands (option_or (last_value b.code cur) (last_value b.code old))))) [
            | true ↦ ap at
                (sym (or-false (event_ticks b.code cur)))
            | false ↦ refl
          ]
    ])

found : (o : Option ℕ) → Rattle.std.specs.Prelude.is_some o ≡ true → (m : ℕ) × (o ≡ Some m)
found (Some m) h = (m, refl)
found None h = absurd (cc)

pub marks-put : (codes : List (List ℕ)) (old cur : List Change) (c : Change) (n : ℕ) (bound : List Bound) → number_of c.code codes ≡ Some n
    → list_all (λ b. is_among b.code codes) bound ≡ true
    → map (put n c.one c.dumped) (map (mark_of codes old cur) bound) ≡ map (mark_of codes old (cur ++ c ∷ [])) bound
marks-put codes old cur c n [] e h = refl
marks-put codes old cur c n (b ∷ bs) e h =
    let both = and_parts (is_among b.code codes) (list_all (λ x. is_among x.code codes) bs) h in
    let m = found (number_of b.code codes) (sym (among-found b.code codes) ∙ both.0) in
    ap (λ x. x ∷ map (put n c.one c.dumped) (map (mark_of codes old cur) bs)) (mark-put codes old cur c n m.0 b e m.1)
    ∙ ap (λ xs. mark_of codes old (cur ++ c ∷ []) b ∷ xs) (marks-put codes old cur c n bs e both.1)
