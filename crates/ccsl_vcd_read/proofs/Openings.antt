-- The marks of the bound clocks, clock by clock.
use Rattle.std.proofs.Common.{◌≡◌, ℕ, ◌+◌, ◌<◌, ◌≤◌, List, [], ◌∷◌, ◌++◌, Bool, true, false, not, cond, nat_lt, nat_eq, Option, Some, None, filter, map, refl}
use Rattle.std.proofs.Common.{sym, ap, ◌∙◌, arith}
use Rattle.std.specs.Prelude.{is_some, unwrap_or}
use Rattle.std.specs.Option.{option_and_then, option_map_or}
use Rattle.std.specs.List.{list_all, AllByRecursion}
use Rattle.std.proofs.lemmas.Bool.{ltb-true, ltb-false, lt-ltb, le-ltb, and_parts}
use Rattle.std.proofs.lemmas.List.{append-nil, map-append}
use Rattle.std.proofs.lemmas.Grind.{common_steps}
use Rattle.ccsl_base.specs.Clocks.{is_ascending, are_below}
use Rattle.ccsl_base.specs.Names.{is_among}
use Rattle.ccsl_vcd.specs.Binding.{Bound}
use Rattle.ccsl_bind.specs.Codes.{number_of}
use Rattle.ccsl_bind.specs.Bindings.{Bindings, bound_to, code_number, is_bound_event, are_declared}
use Rattle.ccsl_vcd_read.specs.declared.marks.Mark.{Mark}
use Rattle.ccsl_vcd_read.specs.Marks.{mark_of}
use Rattle.ccsl_bind.proofs.Codes.{among-found}
use Rattle.ccsl_vcd.proofs.RowLaws.{not-eq, not-eq'}

abbrev pub clocks_of : List Bound → List ℕ
clocks_of bs = map (λ b. b.clock) bs

-- the bound clocks below a number
abbrev pub below : ℕ → List Bound → List Bound
below n bs = filter (λ b. nat_lt b.clock n) bs

abbrev AllAbove : ℕ → List Bound → Type 0
AllAbove n bs = AllByRecursion (λ b. n < b.clock) bs

all-above : (n : ℕ) (bs : List Bound) → list_all (nat_lt n) (clocks_of bs) ≡ true → AllAbove n bs
all-above n [] h = tt
all-above n (b ∷ bs) h = let q = and_parts (nat_lt n b.clock) (list_all (nat_lt n) (clocks_of bs)) h in (ltb-true n b.clock q.0, all-above n bs q.1)

none-below : (n m : ℕ) (bs : List Bound) → m ≤ n + 1 → AllAbove n bs → below m bs ≡ []
none-below n m [] h a = refl
none-below n m (b ∷ bs) h a = rw (le-ltb b.clock m (omega (arith, a.0))) (none-below n m bs h a.1)

none-there : (n m : ℕ) (bs : List Bound) → m ≤ n → AllAbove n bs → bound_to m bs ≡ None
none-there n m [] h a = refl
none-there n m (b ∷ bs) h a = rw (not-eq' m b.clock (omega (arith, a.0))) (none-there n m bs h a.1)

abbrev pub listed : Option Bound → List Bound
listed None = []
listed (Some b) = b ∷ []

-- one clock more
pub below-more : (n : ℕ) (bs : List Bound) → is_ascending (clocks_of bs) ≡ true → below (n + 1) bs ≡ below n bs ++ listed (bound_to n bs)
below-more n [] h = refl
below-more n (b ∷ bs) h =
    let q = and_parts (list_all (nat_lt b.clock) (clocks_of bs)) (is_ascending (clocks_of bs)) h in
    let a : AllAbove b.clock bs = all-above b.clock bs q.0 in
    (elim (nat_lt b.clock n) as (λ w. nat_lt b.clock n ≡ w → below (n + 1) (b ∷ bs) ≡ cond w (b ∷ below n bs) (below n bs) ++ listed (bound_to n (b ∷ bs))) [
      | true ↦ λ e.
          let l : b.clock < n = ltb-true b.clock n e in
          rw (lt-ltb b.clock (n + 1) (omega arith), not-eq b.clock n l) (ap (λ xs. b ∷ xs) (below-more n bs q.1))
      | false ↦ λ e. not-less (ltb-false b.clock n e) a
    ]) refl
  where
    not-less : n ≤ b.clock → AllAbove b.clock bs → below (n + 1) (b ∷ bs) ≡ below n bs ++ listed (bound_to n (b ∷ bs))
    not-less l a =
        (elim (nat_eq b.clock n) as (λ w. nat_eq b.clock n ≡ w → below (n + 1) (b ∷ bs) ≡ below n bs ++ listed (cond w (Some b) (bound_to n bs))) [
          | true ↦ λ e.
              let same : b.clock ≡ n = grind (arith, common_steps) in
              rw (lt-ltb b.clock (n + 1) (omega arith), none-below b.clock (n + 1) bs (omega arith) a, none-below b.clock n bs (omega arith) a) refl
          | false ↦ λ e.
              let more : n < b.clock = grind (arith, common_steps) in
              rw (
                le-ltb b.clock (n + 1) (omega arith),
                none-below b.clock (n + 1) bs (omega arith) a,
                none-below b.clock n bs (omega arith) a,
                none-there b.clock n bs l a,
              ) refl
        ]) refl

pub below-all : (n : ℕ) (bs : List Bound) → are_below n (clocks_of bs) ≡ true → below n bs ≡ bs
below-all n [] h = refl
below-all n (b ∷ bs) h = let q = and_parts (nat_lt b.clock n) (are_below n (clocks_of bs)) h in rw q.0 (ap (λ xs. b ∷ xs) (below-all n bs q.1))

pub below-none : (bs : List Bound) → below 0 bs ≡ []
below-none [] = refl
below-none (b ∷ bs) = rw (le-ltb b.clock 0 (omega arith)) (below-none bs)

all-filtered : (x n : ℕ) (bs : List Bound) → list_all (nat_lt x) (clocks_of bs) ≡ true → list_all (nat_lt x) (clocks_of (below n bs)) ≡ true
all-filtered x n [] h = refl
all-filtered x n (b ∷ bs) h =
    let q = and_parts (nat_lt x b.clock) (list_all (nat_lt x) (clocks_of bs)) h in
    elim (nat_lt b.clock n) as (λ w. list_all (nat_lt x) (clocks_of (cond w (b ∷ below n bs) (below n bs))) ≡ true) [
      | true ↦ rw q.0 (all-filtered x n bs q.1)
      | false ↦ all-filtered x n bs q.1
    ]

pub below-ascends : (n : ℕ) (bs : List Bound) → is_ascending (clocks_of bs) ≡ true → is_ascending (clocks_of (below n bs)) ≡ true
below-ascends n [] h = refl
below-ascends n (b ∷ bs) h =
    let q = and_parts (list_all (nat_lt b.clock) (clocks_of bs)) (is_ascending (clocks_of bs)) h in
    elim (nat_lt b.clock n) as (λ w. is_ascending (clocks_of (cond w (b ∷ below n bs) (below n bs))) ≡ true) [
      | true ↦ rw (all-filtered b.clock n bs q.0) (below-ascends n bs q.1)
      | false ↦ below-ascends n bs q.1
    ]

there-is : (n : ℕ) (bs : List Bound) (b : Bound) → bound_to n bs ≡ Some b → b.clock ≡ n
there-is n [] b e = absurd (cc)
there-is n (x ∷ xs) b e =
    (elim (nat_eq x.clock n) as (λ w. nat_eq x.clock n ≡ w → cond w (Some x) (bound_to n xs) ≡ Some b → b.clock ≡ n) [
      | true ↦ λ k f. let s : x ≡ b = cc in let m : x.clock ≡ n = grind (arith, common_steps) in ap (λ (y : Bound). y.clock) (sym s) ∙ m
      | false ↦ λ k f. there-is n xs b f
    ]) refl e

-- what the binding answers of a clock, and what it is
pub record Found (v : Bindings) (n code : ℕ) : Type 0 where
  pub bound : Bound
  pub there : bound_to n v.bound ≡ Some bound
  pub number : number_of bound.code v.codes ≡ Some code
  pub clock : bound.clock ≡ n

pub found : (v : Bindings) (n code : ℕ) → code_number v n ≡ Some code → Found v n code
found v n code e =
    (elim (bound_to n v.bound) as (λ o. bound_to n v.bound ≡ o → option_and_then (λ b. number_of b.code v.codes) o ≡ Some code → Found v n code) [
      | Some b ↦ λ k f. record { bound = b; there = k; number = f; clock = there-is n v.bound b k }
      | None ↦ λ k f. absurd (cc)
    ]) refl e

numbered : (v : Bindings) (bs : List Bound) (n : ℕ) (b : Bound) → list_all (λ x. is_among x.code v.codes) bs ≡ true → bound_to n bs ≡ Some b
    → is_some (number_of b.code v.codes) ≡ true
numbered v [] n b h e = absurd (cc)
numbered v (x ∷ xs) n b h e =
    let q = and_parts (is_among x.code v.codes) (list_all (λ y. is_among y.code v.codes) xs) h in
    (elim (nat_eq x.clock n) as (λ w. cond w (Some x) (bound_to n xs) ≡ Some b → is_some (number_of b.code v.codes) ≡ true) [
      | true ↦ λ f. let s : x ≡ b = cc in ap (λ (y : Bound). is_some (number_of y.code v.codes)) (sym s) ∙ sym (among-found x.code v.codes) ∙ q.0
      | false ↦ λ f. numbered v xs n b q.1 f
    ]) e

pub not-found : (v : Bindings) (n : ℕ) → are_declared v ≡ true → code_number v n ≡ None → bound_to n v.bound ≡ None
not-found v n h e =
    (elim (bound_to n v.bound) as (λ o. bound_to n v.bound ≡ o → option_and_then (λ b. number_of b.code v.codes) o ≡ None → o ≡ None) [
      | Some b ↦ λ k f. let s = numbered v v.bound n b h k in let g : is_some (number_of b.code v.codes) ≡ false = ap is_some f in absurd (cc)
      | None ↦ λ k f. refl
    ]) refl e

-- the mark of a clock before the first change
pub first-mark : (v : Bindings) (n code : ℕ) (f : Found v n code)
    → mark_of v.codes [] [] f.bound ≡ record {
      clock = n;
      code = code;
      event = is_bound_event v n;
      now = not (is_bound_event v n);
      before =
          not (is_bound_event v n);
    }
first-mark v n code f =
    let e : is_bound_event v n ≡ f.bound.event = ap (λ o. option_map_or (λ b. b.event) o false) f.there in
    let at : ℕ → ℕ → Bool → Bool → Bool → Mark = λ a b c d g. record { clock = a; code = b; event = c; now = d; before = g } in
    (elim f.bound.event as (λ w. at f.bound.clock (unwrap_or (number_of f.bound.code v.codes) 0) w (cond w false true) (cond w false true) ≡ at f.bound.clock
    (unwrap_or (number_of f.bound.code v.codes) 0) w (not w) (not w)) [ true ↦ refl | false ↦ refl ])
    ∙ ap (λ k. at k (unwrap_or (number_of f.bound.code v.codes) 0) f.bound.event (not f.bound.event) (not f.bound.event)) f.clock
    ∙ ap (λ o. at n (unwrap_or o 0) f.bound.event (not f.bound.event) (not f.bound.event)) f.number
    ∙ ap (λ w. at n code w (not w) (not w)) (sym e)

clocks-marks : (codes : List (List ℕ)) (bs : List Bound) → map (λ m. m.clock) (map (mark_of codes [] []) bs) ≡ clocks_of bs
clocks-marks codes [] = refl
clocks-marks codes (b ∷ bs) = ap (λ xs. b.clock ∷ xs) (clocks-marks codes bs)

-- one mark more
pub marks-more : (v : Bindings) (n code : ℕ) (m : Mark) (ms : List Mark) → is_ascending (clocks_of v.bound) ≡ true → Found v n code
    → m ≡ record { clock = n; code = code; event = is_bound_event v n; now = not (is_bound_event v n); before = not (is_bound_event v n) }
    → ms ≡ map (mark_of v.codes [] []) (below n v.bound) → ms ++ m ∷ [] ≡ map (mark_of v.codes [] []) (below (n + 1) v.bound)
marks-more v n code m ms asc f e h =
    ap (λ xs. xs ++ m ∷ []) h ∙ ap (λ x. map (mark_of v.codes [] []) (below n v.bound) ++ x ∷ []) (e ∙ sym (first-mark v n code f))
    ∙ sym (map-append (mark_of v.codes [] []) (below n v.bound) (f.bound ∷ []))
    ∙ ap (map (mark_of v.codes [] [])) (ap (λ o. below n v.bound ++ listed o) (sym f.there) ∙ sym (below-more n v.bound asc))

pub marks-none : (v : Bindings) (n : ℕ) (ms : List Mark) → is_ascending (clocks_of v.bound) ≡ true → are_declared v ≡ true → code_number v n ≡ None
    → ms ≡ map (mark_of v.codes [] []) (below n v.bound) → ms ≡ map (mark_of v.codes [] []) (below (n + 1) v.bound)
marks-none v n ms asc d e h =
    h ∙ ap (map (mark_of v.codes [] [])) (sym (append-nil (below n v.bound)) ∙ ap (λ o. below n v.bound ++ listed o) (sym (not-found v n d e))
    ∙ sym (below-more n v.bound asc))

pub marks-ascend : (v : Bindings) (n : ℕ) (ms : List Mark) → is_ascending (clocks_of v.bound) ≡ true → ms ≡ map (mark_of v.codes [] []) (below n v.bound)
    → is_ascending (map (λ m. m.clock) ms) ≡ true
marks-ascend v n ms asc h =
    ap (λ xs. is_ascending (map (λ (m : Mark). m.clock) xs)) h ∙ ap is_ascending (clocks-marks v.codes (below n v.bound)) ∙ below-ascends n v.bound asc
