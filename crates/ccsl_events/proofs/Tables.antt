-- Codes in a table.
use Rattle.std.proofs.Common.{◌≡◌, ℕ, zero, suc, ◌+◌, ◌<◌, ◌≤◌, List, [], ◌∷◌, length, true, false, nat_lt, bytes_eq, replicate, Option, Some, None}
use Rattle.std.proofs.Common.{if◌then◌else◌, slice_get, slice_set, slice_index_or, refl, sym, ap, ◌∙◌, arith, lt-ltb, le-ltb, ⊎_elim, ◌⊎◌, inl, inr}
use Rattle.std.proofs.lemmas.List.{get_or-set_same, get_or-set_other, length-set}
use Rattle.std.proofs.lemmas.Bool.{cases_eq, cases_lt}
use Rattle.std.proofs.lemmas.Option.{slice_get_within, slice_get_past}
use Rattle.ccsl_base.specs.Names.{find_name, are_distinct}
use Rattle.ccsl_base.proofs.Tables.{find_name-there, bytes_eq-true, bytes_eq-refl, find-own}
use Rattle.ccsl_events.specs.declared.codes.Entry.{Entry}
use Rattle.ccsl_events.specs.declared.codes.Entry.TheVariants.{Undeclared}
use Rattle.ccsl_base.proofs.Sets.{by_case}
use Rattle.ccsl_vcd_lex.specs.ShortCodes.{SHORT, place_of}
use Rattle.ccsl_vcd_lex.proofs.ShortCodes.{same-code}
use Rattle.ccsl_events.specs.Places.{entry_in, entry_at, IsTable}

-- what is known of the first codes, and of no other
abbrev pub known_below : ℕ → List Entry → Option ℕ → Entry
known_below i entries None = Undeclared
known_below i entries (Some number) = if nat_lt number i then entry_in (slice_get entries number) else Undeclared

-- a table of the first codes
pub record IsFront (i : ℕ) (table : List Entry) (names : List (List ℕ)) (entries : List Entry) : Type 0 where
  pub len : length table ≡ SHORT
  pub at : (code : List ℕ) → place_of code < SHORT → slice_index_or table (place_of code) Undeclared ≡ known_below i entries (find_name code names)

-- a name is found at its place

-- the table is filled

undeclared : (k i : ℕ) → slice_index_or (replicate k Undeclared) i Undeclared ≡ Undeclared
undeclared zero i = refl
undeclared (suc k) zero = refl
undeclared (suc k) (suc i) = undeclared k i

below-none : (entries : List Entry) (o : Option ℕ) → Undeclared ≡ known_below 0 entries o
below-none entries None = refl
below-none entries (Some k) = rw (le-ltb k 0 (omega arith)) refl

pub front-none : (table : List Entry) (names : List (List ℕ)) (entries : List Entry) → ((i : ℕ) → slice_index_or table i Undeclared ≡ Undeclared)
    → length table ≡ SHORT → IsFront 0 table names entries
front-none table names entries e l = record { len = l; at = λ code low. e (place_of code) ∙ below-none entries (find_name code names) }

-- one number more is the same to a code that has another
below-more : (i : ℕ) (entries : List Entry) (o : Option ℕ) → ((k : ℕ) → o ≡ Some k → k ≡ i → ⊥) → known_below i entries o ≡ known_below (i + 1) entries o
below-more i entries None other = refl
below-more i entries (Some k) other =
    ⊎_elim
    (λ (l : k < i). rw (lt-ltb k i l, lt-ltb k (i + 1) (omega (arith, l))) refl)
    (λ (l : i ≤ k).
    let ne : k ≡ i → ⊥ = other k refl in
    rw (le-ltb k i l, le-ltb k (i + 1) (omega (arith, l, ne))) refl)
    (cases_lt k i)

-- a name of another place is another name
other-name : (names : List (List ℕ)) (i : ℕ) (name code : List ℕ) → slice_get names i ≡ Some name → (code ≡ name → ⊥) → (k : ℕ)
    → find_name code names ≡ Some k → k ≡ i → ⊥
other-name names i name code at ne k f e =
    let there : slice_get names i ≡ Some code = ap (slice_get names) (sym e) ∙ find_name-there code names k f in
    ne cc

pub front-more : (i p : ℕ) (table : List Entry) (names : List (List ℕ)) (entries : List Entry) (name : List ℕ) (e : Entry) → IsFront i table names entries →
    slice_get names i ≡ Some name → are_distinct names ≡ true → p ≡ place_of name → p < SHORT → slice_get entries i ≡ Some e → IsFront (i + 1)
    (slice_set table p e) names entries
front-more i p table names entries name e front at distinct place low known = record {
  len = length-set table p e ∙ front.len;
  at = λ code l. ⊎_elim (same code l) (apart code l) (cases_eq (place_of code) p);
}
  where
    same : (code : List ℕ) → place_of code < SHORT → place_of code ≡ p
        → slice_index_or (slice_set table p e) (place_of code) Undeclared ≡ known_below (i + 1) entries (find_name code names)
    same code l s =
        let text : code ≡ name = same-code code name l (s ∙ place) in
        ap (λ q. slice_index_or (slice_set table p e) q Undeclared) s
        ∙ get_or-set_same table p e Undeclared (omega (arith, low, front.len))
        ∙ sym (ap (λ c. known_below (i + 1) entries (find_name c names)) text
        ∙ ap (known_below (i + 1) entries) (find-own names i name distinct at)
        ∙ ap (λ b. if b then entry_in (slice_get entries i) else Undeclared) (lt-ltb i (i + 1) (omega arith))
        ∙ ap entry_in known)

    apart : (code : List ℕ) → place_of code < SHORT → (place_of code ≡ p → ⊥)
        → slice_index_or (slice_set table p e) (place_of code) Undeclared ≡ known_below (i + 1) entries (find_name code names)
    apart code l ne =
        get_or-set_other table p (place_of code) e Undeclared ne ∙ front.at code l
        ∙ below-more i entries (find_name code names) (other-name names i name code at (λ t. ne (ap place_of t ∙ sym place)))

pub front-past : (i p : ℕ) (table : List Entry) (names : List (List ℕ)) (entries : List Entry) (name : List ℕ) → IsFront i table names entries →
    slice_get names i ≡ Some name → are_distinct names ≡ true → p ≡ place_of name → (SHORT ≤ p) ⊎ (length entries ≤ i) → IsFront (i + 1) table names entries
front-past i p table names entries name front at distinct place past = record {
  len = front.len;
  at = λ code l. front.at code l ∙ by_case (bytes_eq code name) _ (λ e. same code l (bytes_eq-true code name e) past)
      (λ e. below-more i entries (find_name code names) (other-name names i name code at (λ t. differ code name e t)));
}
  where
    differ : (a b : List ℕ) → bytes_eq a b ≡ false → a ≡ b → ⊥
    differ a b e t = let yes : bytes_eq a b ≡ true = bytes_eq-refl a b t in cc

    same : (code : List ℕ) → place_of code < SHORT → code ≡ name → (SHORT ≤ p) ⊎ (length entries ≤ i)
        → known_below i entries (find_name code names) ≡ known_below (i + 1) entries (find_name code names)
    same code l t (inl far) = absurd (let s : place_of code ≡ p = ap place_of t ∙ sym place in omega (arith, s, l, far))
    same code l t (inr far) =
        ap (λ c. known_below i entries (find_name c names)) t
        ∙ ap (known_below i entries) found
        ∙ ap (λ b. if b then entry_in (slice_get entries i) else Undeclared) (le-ltb i i (omega arith))
        ∙ sym (ap (λ c. known_below (i + 1) entries (find_name c names)) t
        ∙ ap (known_below (i + 1) entries) found
        ∙ ap (λ b. if b then entry_in (slice_get entries i) else Undeclared) (lt-ltb i (i + 1) (omega arith))
        ∙ ap entry_in (slice_get_past entries i far))
      where
        found : find_name name names ≡ Some i
        found = find-own names i name distinct at

pub front-all : (n : ℕ) (table : List Entry) (names : List (List ℕ)) (entries : List Entry) → IsFront n table names entries → n ≡ length names
    → IsTable table (record { names = names; entries = entries })
front-all n table names entries front e code l = front.at code l ∙ by (find_name code names) refl
  where
    by : (o : Option ℕ) → find_name code names ≡ o → known_below n entries o ≡ entry_at entries o
    by None f = refl
    by (Some k) f =
        let within : k < length names = slice_get_within names k code (find_name-there code names k f) in rw (lt-ltb k n (omega (arith, within, e))) refl

-- what is read at a place of a list
pub got : (es : List Entry) (i : ℕ) (e : Entry) → i < length es → e ≡ slice_index_or es i e → slice_get es i ≡ Some e
got [] i e l g = absurd (omega (arith, l))
got (x ∷ es) zero e l g = ap (λ v. Some v) (sym g)
got (x ∷ es) (suc i) e l g = got es i e (omega (arith, l)) g
