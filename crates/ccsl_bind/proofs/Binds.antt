-- The binding, by what is kept of each name.
use Rattle.std.proofs.Common.{◌≡◌, ℕ, zero, suc, ◌+◌, ◌≤◌, ◌<◌, List, [], ◌∷◌, length, Bool, true, false, nat_lt, nat_eq, ◌&&◌, cond, Option, Some, None}
use Rattle.std.proofs.Common.{Result, Ok, Err, map, refl, sym, ap, ◌∙◌, subst, arith}
use Rattle.std.specs.Prelude.{unwrap_or, is_some, bytes_eq}
use Rattle.std.specs.Option.{option_and_then, option_map_or}
use Rattle.std.specs.List.{list_all, slice_get}
use Rattle.std.proofs.lemmas.Bool.{eq-eqb, and_parts}
use Rattle.std.proofs.lemmas.Grind.{common_steps}
use Rattle.ccsl_base.specs.Names.{is_among}
use Rattle.ccsl_base.proofs.Tables.{find_name-there}
use Rattle.ccsl_vcd.specs.declared.fault.VcdFault.{VcdFault}
use Rattle.ccsl_vcd.specs.declared.fault.VcdFault.TheVariants as faults
use Rattle.ccsl_vcd.specs.Binding.{Declaration, Wanted, Bound, candidates, is_event, bind_one, joined, bind_from, bind}
use Rattle.ccsl_bind.specs.declared.candidate.Candidates.{Candidates}
use Rattle.ccsl_bind.specs.declared.fault.BindFault.{BindFault}
use Rattle.ccsl_bind.specs.declared.fault.BindFault.TheVariants.{Unbound, Ambiguous}
use Rattle.ccsl_bind.specs.Codes.{number_of}
use Rattle.ccsl_bind.specs.Bindings.{bound_to, code_number, is_bound_event}
use Rattle.ccsl_bind.specs.Candidates.{Sums, SumsUp, AllSumUp}
use Rattle.ccsl_bind.specs.Gathered.{Refuses}
use Rattle.ccsl_bind.specs.Slots.{text_at, bound_from, is_numbered, are_numbered, behind, clocks_from, slot_of}
use Rattle.ccsl_bind.proofs.Codes.{among-found}
use Rattle.ccsl_vcd.proofs.RowLaws.{not-eq, not-eq'}

pub text-number : (table : List (List ℕ)) (x : List ℕ) (n : ℕ) → number_of x table ≡ Some n → text_at table n ≡ x
text-number table x n e = ap (λ o. unwrap_or o []) (find_name-there x table n e)

-- what is bound, and what is found
abbrev pub Agrees : ℕ → List (List ℕ) → List (Option Candidates) → Result (List ℕ) BindFault → Result (List Bound) VcdFault → Type 0
Agrees clock table os (Ok xs) (Ok bs) = (bs ≡ bound_from clock table os) × (xs ≡ map (λ b. b.clock) (bound_from clock table os))
Agrees clock table os (Err e) (Err f) = Refuses e (Err f)
Agrees clock table os (Ok xs) (Err f) = ⊥
Agrees clock table os (Err e) (Ok bs) = ⊥

none-agrees : (clock declared : ℕ) (table : List (List ℕ)) (os : List (Option Candidates)) (r : Result (List ℕ) BindFault) (b : Result (List Bound) VcdFault)
    → Agrees (clock + 1) table os r b
    → Agrees clock table (None ∷ os) (cond (nat_lt clock declared) (Err (Unbound clock)) r)
    (joined (cond (nat_lt clock declared) (Err (faults.Unbound clock)) (Ok [])) b)
none-agrees clock declared table os r b h = go (nat_lt clock declared) r b h
  where
    go : (w : Bool) (r : Result (List ℕ) BindFault) (b : Result (List Bound) VcdFault) → Agrees (clock + 1) table os r b
        → Agrees clock table (None ∷ os) (cond w (Err (Unbound clock)) r) (joined (cond w (Err (faults.Unbound clock)) (Ok [])) b)
    go true r b h = refl
    go false (Ok xs) (Ok bs) h = h
    go false (Err e) (Err f) h = h
    go false (Ok xs) (Err f) h = absurd h
    go false (Err e) (Ok bs) h = absurd h

some-agrees : (clock : ℕ) (table : List (List ℕ)) (os : List (Option Candidates)) (d : Declaration) (ds : List Declaration) (c : Candidates)
    (s : Sums table d ds c) (r : Result (List ℕ) BindFault) (b : Result (List Bound) VcdFault) → Agrees (clock + 1) table os r b
    → Agrees clock table (Some c ∷ os) (cond c.same (behind (clock ∷ []) r) (Err (Ambiguous clock)))
    (joined (cond (list_all (λ e. bytes_eq e.code d.code) ds) (Ok (record { clock = clock; code = d.code; event = is_event d } ∷ []))
    (Err (faults.Ambiguous clock))) b)
some-agrees clock table os d ds c s r b h = ap-same (list_all (λ e. bytes_eq e.code d.code) ds) s.same
  where
    one : Bound
    one = record { clock = clock; code = d.code; event = is_event d }

    seen : record { clock = clock; code = text_at table c.code; event = c.event } ≡ one
    seen = ap (λ x. record { clock = clock; code = x; event = c.event }) (text-number table d.code c.code s.code)
        ∙ ap (λ w. record { clock = clock; code = d.code; event = w }) s.event

    go : (w : Bool) (r : Result (List ℕ) BindFault) (b : Result (List Bound) VcdFault) → Agrees (clock + 1) table os r b
        → Agrees clock table (Some c ∷ os) (cond w (behind (clock ∷ []) r) (Err (Ambiguous clock)))
        (joined (cond w (Ok (one ∷ [])) (Err (faults.Ambiguous clock))) b)
    go false r b h = refl
    go true (Ok xs) (Ok bs) h =
        (ap (λ x. x ∷ bs) (sym seen) ∙ ap (λ ys. record { clock = clock; code = text_at table c.code; event = c.event } ∷ ys) h.0, ap (λ ys. clock ∷ ys) h.1)
    go true (Err e) (Err f) h = h
    go true (Ok xs) (Err f) h = absurd h
    go true (Err e) (Ok bs) h = absurd h

    ap-same : (w : Bool) → c.same ≡ w
        → Agrees clock table (Some c ∷ os) (cond c.same (behind (clock ∷ []) r) (Err (Ambiguous clock)))
        (joined (cond w (Ok (one ∷ [])) (Err (faults.Ambiguous clock))) b)
    ap-same w e = subst (λ v. Agrees clock table (Some c ∷ os) (cond v (behind (clock ∷ []) r) (Err (Ambiguous clock)))
        (joined (cond w (Ok (one ∷ [])) (Err (faults.Ambiguous clock))) b)) (sym e) (go w r b h)

pub agrees : (clock declared : ℕ) (table : List (List ℕ)) (ds : List Declaration) (names : List (List ℕ)) (os : List (Option Candidates))
    → AllSumUp table ds names os
    → Agrees clock table os (clocks_from clock declared os) (bind_from clock declared names ds)
agrees clock declared table ds [] [] s = (refl, refl)
agrees clock declared table ds [] (o ∷ os) s = absurd s
agrees clock declared table ds (name ∷ names) [] s = absurd s
agrees clock declared table ds (name ∷ names) (o ∷ os) s = by (candidates name ds) o s.0 (agrees (clock + 1) declared table ds names os s.1)
  where
    by : (cs : List Declaration) (p : Option Candidates) → SumsUp table cs p
        → Agrees (clock + 1) table os (clocks_from (clock + 1) declared os) (bind_from (clock + 1) declared names ds)
        → Agrees clock table (p ∷ os) (clocks_from clock declared (p ∷ os))
        (joined (bind_one clock (nat_lt clock declared) cs) (bind_from (clock + 1) declared names ds))
    by [] None q h = none-agrees clock declared table os (clocks_from (clock + 1) declared os) (bind_from (clock + 1) declared names ds) h
    by [] (Some c) q h = absurd q
    by (d ∷ es) None q h = absurd q
    by (d ∷ es) (Some c) q h = some-agrees clock table os d es c q (clocks_from (clock + 1) declared os) (bind_from (clock + 1) declared names ds) h

-- each code that is kept has its number
pub numbered : (table : List (List ℕ)) (ds : List Declaration) (names : List (List ℕ)) (os : List (Option Candidates)) → AllSumUp table ds names os
    → are_numbered table os ≡ true
numbered table ds [] [] s = refl
numbered table ds [] (o ∷ os) s = absurd s
numbered table ds (name ∷ names) [] s = absurd s
numbered table ds (name ∷ names) (o ∷ os) s = ap (λ w. w && are_numbered table os) (by (candidates name ds) o s.0) ∙ numbered table ds names os s.1
  where
    by : (cs : List Declaration) (p : Option Candidates) → SumsUp table cs p → is_numbered table p ≡ true
    by [] None q = refl
    by [] (Some c) q = absurd q
    by (d ∷ es) None q = absurd q
    by (d ∷ es) (Some c) q =
        eq-eqb _ c.code (ap (λ x. unwrap_or (number_of x table) (c.code + 1)) (text-number table d.code c.code q.code)
        ∙ ap (λ o. unwrap_or o (c.code + 1)) q.code)

-- Looking a clock up.

pub number-is : (table : List (List ℕ)) (c : Candidates) → is_numbered table (Some c) ≡ true → number_of (text_at table c.code) table ≡ Some c.code
number-is table c e = go (number_of (text_at table c.code) table) refl e
  where
    go : (o : Option ℕ) → number_of (text_at table c.code) table ≡ o → nat_eq (unwrap_or o (c.code + 1)) c.code ≡ true
        → number_of (text_at table c.code) table ≡ Some c.code
    go (Some n) h k = let s : n ≡ c.code = grind (arith, common_steps) in h ∙ ap (λ m. Some m) s
    go None h k = absurd (let s : c.code + 1 ≡ c.code = grind (arith, common_steps) in omega arith)

pub all-declared : (clock : ℕ) (table : List (List ℕ)) (os : List (Option Candidates)) → are_numbered table os ≡ true
    → list_all (λ b. is_among b.code table) (bound_from clock table os) ≡ true
all-declared clock table [] h = refl
all-declared clock table (None ∷ os) h = all-declared (clock + 1) table os h
all-declared clock table (Some c ∷ os) h =
    let q = and_parts (is_numbered table (Some c)) (are_numbered table os) h in
    ap (λ w. w && list_all (λ b. is_among b.code table) (bound_from (clock + 1) table os))
    (among-found (text_at table c.code) table ∙ ap is_some (number-is table c q.0)) ∙ all-declared (clock + 1) table os q.1

-- what stands at a clock's place
abbrev pub slot_bound : ℕ → List (List ℕ) → Option Candidates → Option Bound
slot_bound clock table None = None
slot_bound clock table (Some c) = Some (record { clock = clock; code = text_at table c.code; event = c.event })

none-later : (clock n : ℕ) (table : List (List ℕ)) (os : List (Option Candidates)) → n < clock → bound_to n (bound_from clock table os) ≡ None
none-later clock n table [] h = refl
none-later clock n table (None ∷ os) h = none-later (clock + 1) n table os (omega arith)
none-later clock n table (Some c ∷ os) h =
    ap (λ w. cond w (Some (record { clock = clock; code = text_at table c.code; event = c.event })) (bound_to n (bound_from (clock + 1) table os)))
    (not-eq' n clock h) ∙ none-later (clock + 1) n table os (omega arith)

pub slot-at : (clock i : ℕ) (table : List (List ℕ)) (os : List (Option Candidates)) (o : Option Candidates) → slice_get os i ≡ Some o
    → bound_to (clock + i) (bound_from clock table os) ≡ slot_bound (clock + i) table o
slot-at clock i table [] o e = absurd (cc)
slot-at clock zero table (None ∷ os) o e = let s : None ≡ o =
    cc in none-later (clock + 1) (clock + 0) table os (omega arith) ∙ ap (slot_bound (clock + 0) table) s
slot-at clock zero table (Some c ∷ os) o e =
    let s : Some c ≡ o = cc in
    let z : clock ≡ clock + 0 = omega arith in
    ap (λ w. cond w (Some (record { clock = clock; code = text_at table c.code; event = c.event })) (bound_to (clock + 0) (bound_from (clock + 1) table os)))
    (eq-eqb clock (clock + 0) z)
    ∙ ap (λ k. Some (record { clock = k; code = text_at table c.code; event = c.event })) z ∙ ap (slot_bound (clock + 0) table) s
slot-at clock (suc i) table (None ∷ os) o e =
    let k : clock + 1 + i ≡ clock + suc i = omega arith in
    subst (λ n. bound_to n (bound_from (clock + 1) table os) ≡ slot_bound n table o) k (slot-at (clock + 1) i table os o e)
slot-at clock (suc i) table (Some c ∷ os) o e =
    let k : clock + 1 + i ≡ clock + suc i = omega arith in
    ap (λ w. cond w (Some (record { clock = clock; code = text_at table c.code; event = c.event }))
    (bound_to (clock + suc i) (bound_from (clock + 1) table os))) (not-eq clock (clock + suc i) (omega arith))
    ∙ subst (λ n. bound_to n (bound_from (clock + 1) table os) ≡ slot_bound n table o) k (slot-at (clock + 1) i table os o e)

pub slot-past : (clock i : ℕ) (table : List (List ℕ)) (os : List (Option Candidates)) → length os ≤ i → bound_to (clock + i) (bound_from clock table os) ≡ None
slot-past clock i table [] h = refl
slot-past clock zero table (o ∷ os) h = absurd (omega arith)
slot-past clock (suc i) table (None ∷ os) h =
    let k : clock + 1 + i ≡ clock + suc i = omega arith in
    subst (λ n. bound_to n (bound_from (clock + 1) table os) ≡ None) k (slot-past (clock + 1) i table os (omega arith))
slot-past clock (suc i) table (Some c ∷ os) h =
    let k : clock + 1 + i ≡ clock + suc i = omega arith in
    ap (λ w. cond w (Some (record { clock = clock; code = text_at table c.code; event = c.event }))
    (bound_to (clock + suc i) (bound_from (clock + 1) table os))) (not-eq clock (clock + suc i) (omega arith))
    ∙ subst (λ n. bound_to n (bound_from (clock + 1) table os) ≡ None) k (slot-past (clock + 1) i table os (omega arith))

pub slot-numbered : (i : ℕ) (table : List (List ℕ)) (os : List (Option Candidates)) (c : Candidates) → are_numbered table os ≡ true
    → slice_get os i ≡ Some (Some c) → number_of (text_at table c.code) table ≡ Some c.code
slot-numbered i table [] c h e = absurd (cc)
slot-numbered zero table (o ∷ os) c h e = let s : o ≡ Some c =
    cc in number-is table c (ap (is_numbered table) (sym s) ∙ (and_parts (is_numbered table o) (are_numbered table os) h).0)
slot-numbered (suc i) table (o ∷ os) c h e = slot-numbered i table os c ((and_parts (is_numbered table o) (are_numbered table os) h).1) e

past : (xs : List (Option Candidates)) (i : ℕ) → slice_get xs i ≡ None → length xs ≤ i
past [] i e = omega arith
past (x ∷ xs) zero e = absurd (cc)
past (x ∷ xs) (suc i) e = let ih : length xs ≤ i = past xs i e in omega arith

pub lookup : (n : ℕ) (table : List (List ℕ)) (os : List (Option Candidates))
    → bound_to n (bound_from 0 table os) ≡ slot_bound n table (slot_of (slice_get os n))
lookup n table os = go (slice_get os n) refl
  where
    go : (o : Option (Option Candidates)) → slice_get os n ≡ o → bound_to n (bound_from 0 table os) ≡ slot_bound n table (slot_of o)
    go (Some p) e = let z : 0 + n ≡ n = omega arith in subst (λ k. bound_to k (bound_from 0 table os) ≡ slot_bound k table p) z (slot-at 0 n table os p e)
    go None e = let z : 0 + n ≡ n = omega arith in subst (λ k. bound_to k (bound_from 0 table os) ≡ None) z (slot-past 0 n table os (past os n e))

pub code-some : (n : ℕ) (table : List (List ℕ)) (os : List (Option Candidates)) (c : Candidates) → are_numbered table os ≡ true
    → slot_of (slice_get os n) ≡ Some c → code_number (record { codes = table; bound = bound_from 0 table os }) n ≡ Some c.code
code-some n table os c h e =
    ap (option_and_then (λ b. number_of b.code table)) (lookup n table os ∙ ap (slot_bound n table) e) ∙ slot-numbered n table os c h (there (slice_get os n) e)
  where
    there : (o : Option (Option Candidates)) → slot_of o ≡ Some c → o ≡ Some (Some c)
    there (Some p) k = ap (λ x. Some x) k
    there None k = absurd (cc)

pub code-none : (n : ℕ) (table : List (List ℕ)) (os : List (Option Candidates)) → slot_of (slice_get os n) ≡ None
    → code_number (record { codes = table; bound = bound_from 0 table os }) n ≡ None
code-none n table os e = ap (option_and_then (λ b. number_of b.code table)) (lookup n table os ∙ ap (slot_bound n table) e)

pub event-is : (n : ℕ) (table : List (List ℕ)) (os : List (Option Candidates)) (o : Option Candidates) → slot_of (slice_get os n) ≡ o
    → is_bound_event (record { codes = table; bound = bound_from 0 table os }) n ≡ option_map_or (λ c. c.event) o false
event-is n table os o e = ap (λ b. option_map_or (λ x. x.event) b false) (lookup n table os ∙ ap (slot_bound n table) e) ∙ by o
  where
    by : (p : Option Candidates) → option_map_or (λ x. x.event) (slot_bound n table p) false ≡ option_map_or (λ c. c.event) p false
    by None = refl
    by (Some c) = refl

-- What a binder that binds stands for.

pub all-bound : (w : Wanted) (table : List (List ℕ)) (ds : List Declaration) (os : List (Option Candidates)) (xs : List ℕ) → AllSumUp table ds w.names os
    → clocks_from 0 w.declared os ≡ Ok xs
    → (bind w ds ≡ Ok (bound_from 0 table os)) × (xs ≡ map (λ b. b.clock) (bound_from 0 table os))
unfolding bind
all-bound w table ds os xs s e =
    go (bind_from 0 w.declared w.names ds) refl
    (subst (λ r. Agrees 0 table os r (bind_from 0 w.declared w.names ds)) e (agrees 0 w.declared table ds w.names os s))
  where
    go : (b : Result (List Bound) VcdFault) → bind_from 0 w.declared w.names ds ≡ b → Agrees 0 table os (Ok xs) b
        → (bind_from 0 w.declared w.names ds ≡ Ok (bound_from 0 table os)) × (xs ≡ map (λ b. b.clock) (bound_from 0 table os))
    go (Ok bs) k h = (k ∙ ap (λ y. Ok y) h.0, h.1)
    go (Err f) k h = absurd h

pub all-refused : (w : Wanted) (table : List (List ℕ)) (ds : List Declaration) (os : List (Option Candidates)) (e : BindFault) → AllSumUp table ds w.names os
    → clocks_from 0 w.declared os ≡ Err e → Refuses e (bind w ds)
unfolding bind
all-refused w table ds os e s h =
    go (bind_from 0 w.declared w.names ds) refl
    (subst (λ r. Agrees 0 table os r (bind_from 0 w.declared w.names ds)) h (agrees 0 w.declared table ds w.names os s))
  where
    go : (b : Result (List Bound) VcdFault) → bind_from 0 w.declared w.names ds ≡ b → Agrees 0 table os (Err e) b
        → Refuses e (bind_from 0 w.declared w.names ds)
    go (Ok bs) k q = absurd q
    go (Err f) k q = subst (Refuses e) (sym k) q
