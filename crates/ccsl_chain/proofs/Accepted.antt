-- A chain is an accepted system.
use Rattle.std.proofs.Common.{◌≡◌, ℕ, zero, suc, ◌+◌, ◌-◌, ◌*◌, ◌<◌, ◌≤◌, List, [], ◌∷◌, ◌++◌, map, flat_map, length, length-append, get_or, Bool, true, nat_lt}
use Rattle.std.proofs.Common.{lt-ltb, le-ltb, refl, sym, ap, ◌∙◌, subst, ⊎_elim, arith, inr, Option, Some, None, if◌then◌else◌}
use Rattle.std.specs.Prelude.{All, IsTrue, codes, decimal}
use Rattle.std.specs.Fmt.{digits}
use Rattle.std.specs.List.{range_with_len, list_all}
use Rattle.std.proofs.Math.ListN.{get_or-append}
use Rattle.std.proofs.lemmas.Bool.{and_parts, cases_lt, cases_eq, cond-true, cond-false}
use Rattle.std.proofs.lemmas.List.{get_or-append_right}
use Rattle.std.proofs.lemmas.List.Elements.{All-nil, All-cons}
use Rattle.std.proofs.lemmas.List.FromFn.{length-map-range_with_len, get_or-map-range_with_len}
use Rattle.ccsl_base.specs.Name.{is_name}
use Rattle.ccsl_base.specs.declared.limits.TheConstants.{MAX_CALL_LEVELS}
use Rattle.ccsl_base.specs.declared.limits.TheConstants.{MAX_TRIAL_CLOCKS}
use Rattle.ccsl_kernel.specs.declared.constraint.Constraint.{Constraint}
use Rattle.ccsl_kernel.specs.Syntax.{System, Body, ENever, body_of}
use Rattle.ccsl_kernel.specs.Cells.{cells, groups_cells}
use Rattle.ccsl_kernel.specs.Accepted.{IsBody, IsDefinition, IsConstraint, Each, IsAccepted, is_hidden, group_levels}
use Rattle.ccsl_kernel.proofs.EachOne.{each_zero_from}
use Rattle.ccsl_accepts.proofs.HiddenNames.{decimal-seen, seen-append, hidden-is}
use Rattle.ccsl_library.specs.Members.{library_groups}
use Rattle.ccsl_chain.specs.Chain.{clock_name, hidden_name, all_but_first, precedes, alternation, chain}
use Rattle.ccsl_chain.proofs.Pieces.{length-two_each, cells-definitions}

-- ## Names

passes : (p : ℕ → Bool) (a m i : ℕ) → list_all p (range_with_len a m) ≡ true → a ≤ i → i < a + m → p i ≡ true
passes p a zero i h l u = absurd (omega arith)
passes p a (suc m) i h l u =
    let w = and_parts (p a) (list_all p (range_with_len (a + 1) m)) h in
    ⊎_elim (λ (e : a ≡ i). ap p (sym e) ∙ w.0) (λ (ne : a ≡ i → ⊥). passes p (a + 1) m i w.1 (let s : a ≤ i = l in further a i s ne) (omega arith))
    (cases_eq a i)
  where
    further : (a i : ℕ) → a ≤ i → (a ≡ i → ⊥) → a + 1 ≤ i
    further a i l ne = ⊎_elim (λ (s : a < i). let z : a + 1 ≤ i = omega arith in z) (λ (s : i ≤ a). absurd (ne (omega arith))) (cases_lt a i)

all_names : list_all (λ i. is_name (clock_name i)) (range_with_len 0 512) ≡ true
unfolding digits
all_names = refl

clock-is : (i : ℕ) → i < 512 → is_name (clock_name i) ≡ true
clock-is i l = passes (λ i. is_name (clock_name i)) 0 512 i all_names (omega arith) (omega arith)

hidden-so : (i : ℕ) → is_hidden (hidden_name i) ≡ true
hidden-so i =
    hidden-is (codes "alternates") (decimal (i + 1) ++ codes ".next") refl
    (seen-append (decimal (i + 1)) (codes ".next") (decimal-seen (i + 1)) refl)

abbrev names : ℕ → List (List ℕ)
names n = map clock_name (range_with_len 0 n) ++ map hidden_name (range_with_len 0 (n - 1))

pub length-names : (n : ℕ) → length (names n) ≡ n + (n - 1)
length-names n =
    length-append (map clock_name (range_with_len 0 n)) (map hidden_name (range_with_len 0 (n - 1)))
    ∙ (let a = length-map-range_with_len clock_name 0 n in let b = length-map-range_with_len hidden_name 0 (n - 1) in omega arith)

abbrev IsNamed : ℕ → ℕ → List ℕ → Type 0
IsNamed n i name = IsTrue (if nat_lt i n then is_name name else is_hidden name)

name-at : (n : ℕ) → n ≤ 512 → (k : ℕ) (d : List ℕ) → k < length (names n) → IsNamed n k (get_or (names n) k d)
name-at n few k d l = ⊎_elim declared hidden (cases_lt k n)
  where
    declared : k < n → IsNamed n k (get_or (names n) k d)
    declared h =
        let at : get_or (names n) k d ≡ clock_name k =
        get_or-append (map clock_name (range_with_len 0 n)) (map hidden_name (range_with_len 0 (n - 1))) d k (let many =
        length-map-range_with_len clock_name 0 n in omega arith)
        ∙ get_or-map-range_with_len clock_name 0 n k k d h (omega arith) in
        subst (IsNamed n k) (sym at) (cond-true (nat_lt k n) (is_name (clock_name k)) (is_hidden (clock_name k)) (lt-ltb k n h) ∙ clock-is k (omega arith))

    hidden : n ≤ k → IsNamed n k (get_or (names n) k d)
    hidden h =
        let at : get_or (names n) k d ≡ hidden_name (k - n) =
        get_or-append_right (map clock_name (range_with_len 0 n)) (map hidden_name (range_with_len 0 (n - 1))) n k d (length-map-range_with_len clock_name 0 n)
        h
        ∙ get_or-map-range_with_len hidden_name 0 (n - 1) (k - n) (k - n) d (let many = length-names n in omega arith) (omega arith) in
        subst (IsNamed n k) (sym at) (cond-false (nat_lt k n) (is_name (hidden_name (k - n))) (is_hidden (hidden_name (k - n))) (le-ltb k n h)
        ∙ hidden-so (k - n))

-- ## Groups

-- the member of each group
abbrev slice_body : ℕ → Body
slice_body g = body_or (body_of library_groups g 0)
  where
    body_or : Option Body → Body
    body_or None = record { params = []; root = ENever }
    body_or (Some b) = b

only : (K : System) (g : ℕ) (b : Body) → IsBody K g b → All (IsBody K g) (b ∷ [])
only K g b h = All-cons (IsBody K g) b [] h (All-nil (IsBody K g))

periodic_body : (n : ℕ) → IsBody (chain n) 0 (slice_body 0)
unfolding chain
periodic_body n = record {
  few = omega arith;
  calls = (tt, inr (refl, refl));
  known = ((refl, (refl, tt)), (_, refl, (refl, ((refl, tt), tt))));
  shallow = omega arith;
}

skip_body : (n : ℕ) → IsBody (chain n) 1 (slice_body 1)
unfolding chain
skip_body n = record {
  few = omega arith;
  calls = (tt, ((tt, tt), tt));
  known = (((refl, tt), (tt, tt)), refl, ((tt, (refl, (refl, tt))), refl));
  shallow = omega arith;
}

filter_by_body : (n : ℕ) → IsBody (chain n) 2 (slice_body 2)
unfolding chain
filter_by_body n = record {
  few = omega arith;
  calls = (tt, ((tt, inr (refl, refl)), ((tt, tt), inr (refl, refl))));
  known = (refl, tt, (refl, ((refl, (tt, tt)), (_, refl, (refl, (refl, tt)))), ((tt, refl), (_, refl, (refl, (refl, tt))))));
  shallow = omega arith;
}

bodies : (n : ℕ) → Each (λ g members. All (IsBody (chain n) g) members) 0 library_groups
bodies n = (
  only (chain n) 0 (slice_body 0) (periodic_body n),
  (only (chain n) 1 (slice_body 1) (skip_body n), (only (chain n) 2 (slice_body 2) (filter_by_body n), tt)),
)

abbrev IsLow : ℕ → Type 0
IsLow n = n ≤ MAX_CALL_LEVELS

levels : All IsLow (group_levels [] library_groups)
levels = All-cons IsLow 1 (1 ∷ 1 ∷ []) (omega arith) (All-cons IsLow 1 (1 ∷ []) (omega arith) (All-cons IsLow 1 [] (omega arith) (All-nil IsLow)))

-- ## Definitions and constraints

definitions : (n : ℕ) → Each (IsDefinition (chain n)) n (map all_but_first (range_with_len 0 (n - 1)))
unfolding chain
definitions n = each 0 (n - 1) n (omega arith) (omega arith)
  where
    each : (a m x : ℕ) → a + m ≤ n - 1 → n + a ≤ x → Each (IsDefinition (chain n)) x (map all_but_first (range_with_len a m))
    each a zero x l u = tt
    each a (suc m) x l u = (record { calls = tt; known = (omega arith, (tt, tt)); shallow = omega arith }, each (a + 1) m (suc x) (omega arith) (omega arith))

constraints : (n : ℕ) → All (IsConstraint (n + (n - 1))) (flat_map (alternation n) (range_with_len 0 (n - 1)))
constraints n = each 0 (n - 1) (omega arith)
  where
    Named : Constraint → Type 0
    Named = IsConstraint (n + (n - 1))

    each : (a m : ℕ) → a + m ≤ n - 1 → All Named (flat_map (alternation n) (range_with_len a m))
    each a zero l = All-nil Named
    each a (suc m) l =
        let rest = flat_map (alternation n) (range_with_len (a + 1) m) in
        let behind : All Named (precedes a (a + 1) (n + a) ∷ rest) =
        All-cons Named (precedes a (a + 1) (n + a)) rest (omega arith, omega arith, tt) (each (a + 1) m (omega arith)) in
        All-cons Named (precedes a a (a + 1)) (precedes a (a + 1) (n + a) ∷ rest) (omega arith, omega arith, tt) behind

length-constraints : (n : ℕ) → length (flat_map (alternation n) (range_with_len 0 (n - 1))) ≡ 2 * (n - 1)
length-constraints n = length-two_each _ _ 0 (n - 1)

pub cells-chain : (n : ℕ) → cells (chain n) ≡ 6 * (n - 1)
unfolding chain
cells-chain n = omega (arith, cells-definitions (groups_cells [] library_groups) 0 (n - 1), length-constraints n)

-- ## The whole

pub accepted : (n : ℕ) → n ≤ MAX_TRIAL_CLOCKS → IsAccepted (chain n)
unfolding chain
accepted n few = record {
  declared = omega arith;
  written = omega (arith, length-names n);
  few_clocks = omega (arith, length-names n);
  defined = omega (arith, length-names n, length-map-range_with_len all_but_first 0 (n - 1));
  names = each_zero_from (IsNamed n) (names n) (name-at n few);
  bodies = bodies n;
  definitions = definitions n;
  constraints = subst (λ clocks. All (IsConstraint clocks) (flat_map (alternation n) (range_with_len 0 (n - 1)))) (sym (length-names n)) (constraints n);
  levels = levels;
  few_constraints = omega (arith, length-constraints n);
  few_cells = omega (arith, cells-chain n);
}
