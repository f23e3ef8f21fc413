-- How long lines are.
use Rattle.std.proofs.Common.{◌≡◌, ℕ, zero, suc, ◌+◌, ◌-◌, ◌^◌, ◌<◌, ◌≤◌, List, [], ◌∷◌, Bool, true, false, length, max, map, nat_lt, if◌then◌else◌}
use Rattle.std.proofs.Common.{slice_index_or, slice_get, Some, None, drop, min, add-one, length-append, ap, ◌∙◌, arith, refl}
use Rattle.std.specs.Prelude.{codes, decimal}
use Rattle.std.proofs.lemmas.Fmt.{length-decimal-le}
use Rattle.ccsl_kernel.specs.declared.constraint.Constraint.{Constraint}
use Rattle.ccsl_kernel.specs.Syntax.{System}
use Rattle.ccsl_report.specs.Line.{line}
use Rattle.std.specs.List.{concat}
use Rattle.ccsl_report.specs.Room.{longest, full_room, room}
use Rattle.ccsl_report.specs.Texts.{clock_name, label_of, of_label, constraint_pieces, item_pieces, broken_text, run_yes_text, fault_at, time_back_text}
use Rattle.ccsl_report.specs.Texts.{clock_fault}

-- the lengths of pieces, added up
abbrev pub total : List (List ℕ) → ℕ
total [] = 0
total (p ∷ ps) = length p + total ps

joined_len : (ps : List (List ℕ)) → length (concat ps) ≡ total ps
joined_len [] = refl
joined_len (p ∷ ps) = length-append p (concat ps) ∙ ap (λ n. length p + n) (joined_len ps)

pub line_len : (ps : List (List ℕ)) → length (line ps) ≡ total ps + 1
line_len ps = length-append (concat ps) (10 ∷ []) ∙ ap (λ n. n + 1) (joined_len ps)

pub number_short : (n : ℕ) → n < 2 ^ 64 → length (decimal n) ≤ 20
number_short n h = let few : n < 10 ^ 20 = omega (arith, h) in let some : 0 < 20 = omega arith in length-decimal-le 20 n some few h

pub name_short : (names : List (List ℕ)) (x : ℕ) → length (slice_index_or names x []) ≤ longest names
name_short [] x = omega arith
name_short (n ∷ ns) zero = omega arith
name_short (n ∷ ns) (suc x) = omega (arith, name_short ns x)

pub label_short : (cs : List Constraint) (j : ℕ) → length (label_of cs j) ≤ longest (map (λ c. c.label) cs)
label_short [] j = omega arith
label_short (c ∷ cs) zero = omega arith
label_short (c ∷ cs) (suc j) = omega (arith, label_short cs j)

of_label_short : (label : List ℕ) → total (of_label label) ≤ 4 + length label
of_label_short [] = omega arith
of_label_short (b ∷ bs) = omega arith

-- the name of a definition, or the number of a constraint and its label
pub item_short : (K : System) (i : ℕ) → i < 2 ^ 32 → total (item_pieces K i) ≤ 40 + max (longest K.names) (longest (map (λ c. c.label) K.constraints))
item_short K i h = by_kind (nat_lt i (length K.definitions))
  where
    by_kind : (b : Bool) → total (if b then codes "definition " ∷ clock_name K (K.declared + i) ∷ [] else constraint_pieces K (i - length K.definitions)) ≤ 40
        + max (longest K.names) (longest (map (λ c. c.label) K.constraints))
    by_kind true = omega (arith, name_short K.names (K.declared + i))
    by_kind false =
        omega (
          arith,
          of_label_short (label_of K.constraints (i - length K.definitions)),
          label_short K.constraints (i - length K.definitions),
          number_short (i - length K.definitions) (omega (arith, h)),
        )

pub broken_short : (what : List ℕ) (step time item : ℕ) (K : System) → length what ≤ 16 → step < 2 ^ 64 → time < 2 ^ 64 → item < 2 ^ 32
    → length (broken_text what step time item K) ≤ full_room K
broken_short what step time item K w s t i =
    let whole = line_len (what ∷ codes "no, step " ∷ decimal step ∷ codes ", time " ∷ decimal time ∷ codes ", " ∷ item_pieces K item) in
    omega (arith, whole, w, number_short step s, number_short time t, item_short K item i)

pub run_short : (steps : ℕ) → steps < 2 ^ 64 → length (run_yes_text steps) ≤ 64
run_short steps h = let whole = line_len (codes "run: yes, " ∷ decimal steps ∷ codes " steps" ∷ []) in omega (arith, whole, number_short steps h)

pub at_byte_short : (kind : List ℕ) (at : ℕ) → length kind ≤ 40 → at < 2 ^ 64 → length (fault_at (codes "trace: ") kind at) ≤ 128
at_byte_short kind at k a =
    let whole = line_len (codes "trace: " ∷ kind ∷ codes " at byte " ∷ decimal at ∷ []) in omega (arith, whole, k, number_short at a)

pub time_back_short : (present time at : ℕ) → present < 2 ^ 64 → time < 2 ^ 64 → at < 2 ^ 64 → length (time_back_text present time at) ≤ 128
time_back_short present time at p t a =
    let whole = line_len (codes "trace: time goes back from " ∷ decimal present ∷ codes " to " ∷ decimal time ∷ codes " at byte " ∷ decimal at ∷ []) in
    omega (arith, whole, number_short present p, number_short time t, number_short at a)

pub clock_short : (kind : List ℕ) (K : System) (x : ℕ) → length kind ≤ 40 → length (clock_fault kind K x) ≤ full_room K
clock_short kind K x k =
    let whole = line_len (codes "trace: " ∷ kind ∷ clock_name K x ∷ []) in omega (arith, whole, k, name_short K.names x)

-- a text of at most the full room fits where the room is there
pub within_room : (K : System) (len cap text : ℕ) → len + room K ≤ cap → cap < 2 ^ 63 → text ≤ full_room K → len + text ≤ cap
within_room K len cap text there small short = within len cap text (full_room K) there small short
  where
    within : (len cap text full : ℕ) → len + min full 18446744073709551615 ≤ cap → cap < 2 ^ 63 → text ≤ full → len + text ≤ cap
    within len cap text full there small short = omega (arith, there, small, short)

longest_from : (names : List (List ℕ)) (i : ℕ) (name : List ℕ) → slice_get names i ≡ Some name
    → longest (drop i names) ≡ max (length name) (longest (drop (suc i) names))
longest_from [] i name e = absurd (cc e)
longest_from (n ∷ ns) zero name e = ap (λ m. max (length m) (longest ns)) (some_is n name e)
  where
    some_is : (n name : List ℕ) → Some n ≡ Some name → n ≡ name
    some_is n name e = cc e
longest_from (n ∷ ns) (suc i) name e = longest_from ns i name e

-- one more text was looked at
pub longest_step : (names : List (List ℕ)) (i : ℕ) (name : List ℕ) (a l b : ℕ) → slice_get names i ≡ Some name → l ≡ length name → b ≡ max a l
    → max a (longest (drop i names)) ≡ longest names → max b (longest (drop (i + 1) names)) ≡ longest names
longest_step names i name a l b at is next before =
    let from = longest_from names i name at in rw (add-one i) (omega (arith, from, is, next, before))

pub label_get : (cs : List Constraint) (i : ℕ) (c : Constraint) → slice_get cs i ≡ Some c → slice_get (map (λ c. c.label) cs) i ≡ Some c.label
label_get [] i c e = absurd (cc e)
label_get (d ∷ ds) zero c e = ap (λ o. elim o [ None ↦ None | Some d ↦ Some d.label ]) e
label_get (d ∷ ds) (suc i) c e = label_get ds i c e

pub label_at : (cs : List Constraint) (i : ℕ) (c : Constraint) → slice_get cs i ≡ Some c → label_of cs i ≡ c.label
label_at [] i c e = absurd (cc e)
label_at (d ∷ ds) zero c e = ap (λ o. elim o [ None ↦ d.label | Some d ↦ d.label ]) e
label_at (d ∷ ds) (suc i) c e = label_at ds i c e
