-- Each written clock is bound to its declaration.
use Rattle.std.proofs.Common.{◌≡◌, ℕ, suc, zero, ◌+◌, List, [], ◌∷◌, ◌++◌, length, map, Bool, true, false, ◌||◌, not, nat_lt, cond, Result, Ok, refl, sym, ap}
use Rattle.std.proofs.Common.{ap₂, ◌∙◌, append_assoc, filter}
use Rattle.std.specs.List.{AllByRecursion, range_with_len}
use Rattle.std.specs.Str.{bytes_eq}
use Rattle.std.proofs.lemmas.Bool.{and_parts, not-true, or_parts}
use Rattle.std.proofs.lemmas.List.Elements.{filter-append}
use Rattle.ccsl_base.specs.Names.{is_among, are_distinct}
use Rattle.ccsl_base.proofs.Tables.{bytes_eq-refl, bytes_eq-sym}
use Rattle.ccsl_vcd.specs.declared.fault.VcdFault.{VcdFault}
use Rattle.ccsl_vcd.specs.Binding.{Declaration, Bound, qualifies, candidates, outermost, joined, bind_from, bind_one, bind}
use Rattle.ccsl_vcd_write.specs.Code.{code_of}
use Rattle.ccsl_vcd_write.proofs.HeaderStory.{declaration, declarations}

-- what a written clock is bound to
abbrev pub own_bound : ℕ → Bound
own_bound clock = record { clock = clock; code = code_of clock; event = true }

-- so many clocks, from a number on
abbrev pub bounds : ℕ → ℕ → List Bound
bounds clock zero = []
bounds clock (suc n) = own_bound clock ∷ bounds (clock + 1) n

pub bound-clocks : (clock n : ℕ) → map (λ b. b.clock) (bounds clock n) ≡ range_with_len clock n
bound-clocks clock zero = refl
bound-clocks clock (suc n) = ap (λ (xs : List ℕ). clock ∷ xs) (bound-clocks (clock + 1) n)

pub others-away : (name : List ℕ) (clock : ℕ) (names : List (List ℕ)) → is_among name names ≡ false → filter (qualifies name) (declarations clock names) ≡ []
others-away name clock [] h = refl
others-away name clock (n ∷ names) h =
    let p = or_parts (bytes_eq name n) (is_among name names) h in
    rw (bytes_eq-sym name n p.0) (others-away name (clock + 1) names p.1)

own-qualifies : (clock : ℕ) (name : List ℕ) → qualifies name (declaration clock name) ≡ true
own-qualifies clock name = rw (bytes_eq-refl name name refl) refl

-- none of the declarations qualifies for one of the names
abbrev AreAway : List Declaration → List (List ℕ) → Type 0
AreAway ds names = AllByRecursion (λ name. filter (qualifies name) ds ≡ []) names

away-more : (ds : List Declaration) (clock : ℕ) (name : List ℕ) (names : List (List ℕ)) → AreAway ds names → is_among name names ≡ false
    → AreAway (ds ++ declaration clock name ∷ []) names
away-more ds clock name [] h f = tt
away-more ds clock name (n ∷ names) h f =
    let p = or_parts (bytes_eq name n) (is_among name names) f in (
      filter-append (qualifies n) ds (declaration clock name ∷ []) ∙ rw (h.0, p.0) refl,
      away-more ds clock name names h.1 p.1,
    )

-- the one candidate
own-candidate : (ds : List Declaration) (clock : ℕ) (name : List ℕ) (names : List (List ℕ)) → filter (qualifies name) ds ≡ [] → is_among name names ≡ false
    → candidates name (ds ++ declaration clock name ∷ declarations (clock + 1) names) ≡ declaration clock name ∷ []
own-candidate ds clock name names h f =
    ap outermost (
    filter-append (qualifies name) ds (declaration clock name ∷ declarations (clock + 1) names)
    ∙ ap (λ (xs : List Declaration). xs ++ filter (qualifies name) (declaration clock name ∷ declarations (clock + 1) names)) h
    ∙ ap (λ w. cond w (declaration clock name ∷ filter (qualifies name) (declarations (clock + 1) names))
    (filter (qualifies name) (declarations (clock + 1) names))) (own-qualifies clock name)
    ∙ ap (λ (xs : List Declaration). declaration clock name ∷ xs) (others-away name (clock + 1) names f))

binds-from : (declared clock : ℕ) (ds : List Declaration) (names : List (List ℕ)) → are_distinct names ≡ true → AreAway ds names
    → bind_from clock declared names (ds ++ declarations clock names) ≡ Ok (bounds clock (length names))
binds-from declared clock ds [] d a = refl
binds-from declared clock ds (name ∷ names) d a =
    let p = and_parts (not (is_among name names)) (are_distinct names) d in
    let fresh : is_among name names ≡ false = not-true (is_among name names) p.0 in
    let all : List Declaration = ds ++ declaration clock name ∷ declarations (clock + 1) names in
    let rest : bind_from (clock + 1) declared names all ≡ Ok (bounds (clock + 1) (length names)) =
    ap (bind_from (clock + 1) declared names) (sym (append_assoc ds (declaration clock name ∷ []) (declarations (clock + 1) names)))
    ∙ binds-from declared (clock + 1) (ds ++ declaration clock name ∷ []) names p.1 (away-more ds clock name names a.1 fresh) in
    ap₂ (λ (cs : List Declaration) (r : Result (List Bound) VcdFault). joined (bind_one clock (nat_lt clock declared) cs) r)
    (own-candidate ds clock name names a.0 fresh) rest

none-away : (names : List (List ℕ)) → AreAway [] names
none-away [] = tt
none-away (name ∷ names) = (refl, none-away names)

-- All names are bound, in order.
pub binds : (declared : ℕ) (names : List (List ℕ)) → are_distinct names ≡ true
    → bind (record { names = names; declared = declared }) (declarations 0 names) ≡ Ok (bounds 0 (length names))
unfolding bind
binds declared names d = binds-from declared 0 [] names d (none-away names)
