-- The members that a test of clocks picks.
use Rattle.std.proofs.Common.{◌≡◌, ◌≢◌, ℕ, zero, suc, ◌+◌, ◌<◌, ◌≤◌, List, [], ◌∷◌, filter, length, Bool, true, false, cond, ◌||◌, ◌&&◌, refl, sym, ap, ◌∙◌}
use Rattle.std.proofs.Common.{⊎_elim, arith, nat_eq, nat_lt, not, ap₂, add-suc, suc-add, add-zero, zero-add}
use Rattle.std.specs.List.{list_all}
use Rattle.std.proofs.Math.Bool.{and-false, and-true}
use Rattle.std.proofs.lemmas.Bool.{cases_eq, eq-eqb, ne_eqb, lt-ltb, le-ltb}
use Rattle.ccsl_base.specs.Bits.{members_where}
use Rattle.ccsl_base.specs.Clocks.{ticks_in, with_clock, is_ascending, are_below}
use Rattle.ccsl_base.specs.Changes.{without_clock}

pub members-set : (p : ℕ → Bool) (first count : ℕ) → p first ≡ true → members_where p first (suc count) ≡ first ∷ members_where p (suc first) count
unfolding members_where
members-set p first count e = rw e refl

pub members-clear : (p : ℕ → Bool) (first count : ℕ) → p first ≡ false → members_where p first (suc count) ≡ members_where p (suc first) count
unfolding members_where
members-clear p first count e = rw e refl

pub members-none : (p : ℕ → Bool) (first : ℕ) → members_where p first zero ≡ []
unfolding members_where
members-none p first = refl

-- by the test of the first clock
pub by_test : (p : ℕ → Bool) (first : ℕ) (P : Type 0) → (p first ≡ true → P) → (p first ≡ false → P) → P
by_test p first P yes_ no_ = (elim (p first) as (λ b. p first ≡ b → P) [ true ↦ yes_ | false ↦ no_ ]) refl

pub ticks_in-earlier : (p : ℕ → Bool) (first count x : ℕ) → x < first → ticks_in x (members_where p first count) ≡ false
ticks_in-earlier p first zero x l = rw (members-none p first) refl
ticks_in-earlier p first (suc count) x l =
    let later : ticks_in x (members_where p (suc first) count) ≡ false = ticks_in-earlier p (suc first) count x (omega arith) in
    by_test p first _
    (λ e. rw (members-set p first count e) (ap (λ t. t || ticks_in x (members_where p (suc first) count)) (ne_eqb x first (λ q. omega arith)) ∙ later))
    (λ e. rw (members-clear p first count e) later)

pub ticks_in-past : (p : ℕ → Bool) (first count x : ℕ) → first + count ≤ x → ticks_in x (members_where p first count) ≡ false
ticks_in-past p first zero x l = rw (members-none p first) refl
ticks_in-past p first (suc count) x l =
    let later : ticks_in x (members_where p (suc first) count) ≡ false = ticks_in-past p (suc first) count x (omega arith) in
    by_test p first _
    (λ e. rw (members-set p first count e) (ap (λ t. t || ticks_in x (members_where p (suc first) count)) (ne_eqb x first (λ q. omega arith)) ∙ later))
    (λ e. rw (members-clear p first count e) later)

-- a clock is a member where it passes the test
pub ticks_in-members : (p : ℕ → Bool) (first count x : ℕ) → first ≤ x → x < first + count → ticks_in x (members_where p first count) ≡ p x
ticks_in-members p first zero x l m = let h : x < first = omega arith in absurd (omega arith)
ticks_in-members p first (suc count) x l m =
    ⊎_elim
    (λ same. by_test p first _
    (λ e. rw (members-set p first count e) (ap (λ t. t || ticks_in x (members_where p (suc first) count)) (eq-eqb x first same) ∙ sym (ap (λ y. p y) same ∙ e)))
    (λ e. rw (members-clear p first count e) (ticks_in-earlier p (suc first) count x (omega arith) ∙ sym (ap (λ y. p y) same ∙ e))))
    (λ other.
    let later : ticks_in x (members_where p (suc first) count) ≡ p x = ticks_in-members p (suc first) count x (omega arith) (omega arith) in
    by_test p first _
    (λ e. rw (members-set p first count e) (ap (λ t. t || ticks_in x (members_where p (suc first) count)) (ne_eqb x first other) ∙ later))
    (λ e. rw (members-clear p first count e) later))
    (cases_eq x first)

-- a clock before all of them goes to the front
pub with_clock-front : (p : ℕ → Bool) (first count c : ℕ) → c < first → with_clock c (members_where p first count) ≡ c ∷ members_where p first count
with_clock-front p first zero c l = rw (members-none p first) refl
with_clock-front p first (suc count) c l =
    by_test p first _
    (λ e. rw (members-set p first count e)
    (ap (λ t. cond t (c ∷ (first ∷ members_where p (suc first) count))
    (cond (nat_eq c first) (first ∷ members_where p (suc first) count) (first ∷ with_clock c (members_where p (suc first) count)))) (lt-ltb c first l)))
    (λ e. rw (members-clear p first count e) (with_clock-front p (suc first) count c (omega arith)))

-- tests that are the same from a place on have the same members there
pub members-same : (old new : ℕ → Bool) (first count : ℕ) → ((x : ℕ) → first ≤ x → x < first + count → new x ≡ old x)
    → members_where old first count ≡ members_where new first count
members-same old new first zero same = members-none old first ∙ sym (members-none new first)
members-same old new first (suc count) same =
    let later : members_where old (suc first) count ≡ members_where new (suc first) count =
    members-same old new (suc first) count (λ x l m. same x (omega arith) (omega arith)) in
    by_test old first _
    (λ e. members-set old first count e ∙ ap (λ xs. first ∷ xs) later ∙ sym (members-set new first count (same first (omega arith) (omega arith) ∙ e)))
    (λ e. members-clear old first count e ∙ later ∙ sym (members-clear new first count (same first (omega arith) (omega arith) ∙ e)))

-- a test that one clock more passes has one more member
pub with_clock-members : (old new : ℕ → Bool) (first count c : ℕ) → first ≤ c → c < first + count → new c ≡ true → ((x : ℕ) → x ≢ c → new x ≡ old x) →
    with_clock c (members_where old first count) ≡ members_where new first count
with_clock-members old new first zero c l m here same = let h : c < first = omega arith in absurd (omega arith)
with_clock-members old new first (suc count) c l m here same =
    ⊎_elim
    (λ e.
    let later : members_where old (suc first) count ≡ members_where new (suc first) count =
    members-same old new (suc first) count (λ x l m. same x (λ q. omega arith)) in
    let front : members_where new first (suc count) ≡ c ∷ members_where old (suc first) count =
    members-set new first count (ap (λ y. new y) (sym e) ∙ here) ∙ ap (λ y. y ∷ members_where new (suc first) count) (sym e) ∙ ap (λ xs. c ∷ xs) (sym later) in
    by_test old first _
    (λ s. rw (members-set old first count s, front)
    (ap (λ t. cond t (c ∷ (first ∷ members_where old (suc first) count))
    (cond (nat_eq c first) (first ∷ members_where old (suc first) count) (first ∷ with_clock c (members_where old (suc first) count))))
    (le-ltb c first (omega arith))
    ∙ ap (λ t. cond t (first ∷ members_where old (suc first) count) (first ∷ with_clock c (members_where old (suc first) count))) (eq-eqb c first e)
    ∙ ap (λ y. y ∷ members_where old (suc first) count) (sym e)))
    (λ s. rw (members-clear old first count s, front) (with_clock-front old (suc first) count c (omega arith))))
    (λ other.
    let later : with_clock c (members_where old (suc first) count) ≡ members_where new (suc first) count =
    with_clock-members old new (suc first) count c (omega arith) (omega arith) here same in
    by_test old first _
    (λ s. rw (members-set old first count s, members-set new first count (same first (λ q. other (sym q)) ∙ s))
    (ap (λ t. cond t (c ∷ (first ∷ members_where old (suc first) count))
    (cond (nat_eq c first) (first ∷ members_where old (suc first) count) (first ∷ with_clock c (members_where old (suc first) count)))) (le-ltb c first l)
    ∙ ap (λ t. cond t (first ∷ members_where old (suc first) count) (first ∷ with_clock c (members_where old (suc first) count))) (ne_eqb c first other)
    ∙ ap (λ xs. first ∷ xs) later))
    (λ s. rw (members-clear old first count s, members-clear new first count (same first (λ q. other (sym q)) ∙ s)) later))
    (cases_eq c first)

-- each member is past what stands before the first clock
pub members-past : (p : ℕ → Bool) (first count x : ℕ) → x < first → list_all (nat_lt x) (members_where p first count) ≡ true
members-past p first zero x l = rw (members-none p first) refl
members-past p first (suc count) x l =
    let later : list_all (nat_lt x) (members_where p (suc first) count) ≡ true = members-past p (suc first) count x (omega arith) in
    by_test p first _
    (λ e. rw (members-set p first count e) (ap (λ t. t && list_all (nat_lt x) (members_where p (suc first) count)) (lt-ltb x first l) ∙ later))
    (λ e. rw (members-clear p first count e) later)

pub members-ascending : (p : ℕ → Bool) (first count : ℕ) → is_ascending (members_where p first count) ≡ true
members-ascending p first zero = rw (members-none p first) refl
members-ascending p first (suc count) =
    by_test p first _
    (λ e. rw (members-set p first count e)
    (ap (λ t. t && is_ascending (members_where p (suc first) count)) (members-past p (suc first) count first (omega arith))
    ∙ members-ascending p (suc first) count))
    (λ e. rw (members-clear p first count e) (members-ascending p (suc first) count))

pub members-below : (p : ℕ → Bool) (first count bound : ℕ) → first + count ≤ bound → are_below bound (members_where p first count) ≡ true
members-below p first zero bound l = rw (members-none p first) refl
members-below p first (suc count) bound l =
    by_test p first _
    (λ e. rw (members-set p first count e) (ap (λ t. t && are_below bound (members_where p (suc first) count)) (lt-ltb first bound (omega arith))
    ∙ members-below p (suc first) count bound (omega arith)))
    (λ e. rw (members-clear p first count e) (members-below p (suc first) count bound (omega arith)))

-- the members that pass another test too
pub members-filter : (p q both : ℕ → Bool) (first count : ℕ) → ((x : ℕ) → first ≤ x → x < first + count → both x ≡ (p x && q x)) →
    filter q (members_where p first count) ≡ members_where both first count
members-filter p q both first zero same = rw (members-none p first, members-none both first) refl
members-filter p q both first (suc count) same =
    let later : filter q (members_where p (suc first) count) ≡ members_where both (suc first) count =
    members-filter p q both (suc first) count (λ x l m. same x (omega arith) (omega arith)) in
    let here : both first ≡ (p first && q first) = same first (omega arith) (omega arith) in
    let chosen : Bool → List ℕ = λ b. cond b (first ∷ filter q (members_where p (suc first) count)) (filter q (members_where p (suc first) count)) in
    by_test p first _
    (λ e. by_test q first _
    (λ f.
    rw (members-set p first count e, members-set both first count (here ∙ ap (λ b. b && q first) e ∙ f))
    (ap chosen f ∙ ap (λ xs. first ∷ xs) later))
    (λ f.
    rw (members-set p first count e, members-clear both first count (here ∙ ap (λ b. b && q first) e ∙ f))
    (ap chosen f ∙ later)))
    (λ e. rw (members-clear p first count e, members-clear both first count (here ∙ ap (λ b. b && q first) e)) later)

-- a test that one clock less passes has one member less
pub without_clock-members : (old new : ℕ → Bool) (first count c : ℕ) → new c ≡ false → ((x : ℕ) → first ≤ x → x < first + count → x ≢ c → new x ≡ old x) →
    without_clock c (members_where old first count) ≡ members_where new first count
without_clock-members old new first count c gone same =
    members-filter old (λ y. not (nat_eq c y)) new first count
    (λ x l m.
    ⊎_elim
    (λ e. ap new (sym e) ∙ gone ∙ sym (ap (λ b. old x && not b) (eq-eqb c x e) ∙ and-false (old x)))
    (λ other. same x l m (λ q. other (sym q)) ∙ sym (ap (λ b. old x && not b) (ne_eqb c x other) ∙ and-true (old x)))
    (cases_eq c x))

-- a test that no clock passes has no members
pub members-empty : (p : ℕ → Bool) (first count : ℕ) → ((x : ℕ) → first ≤ x → x < first + count → p x ≡ false) → members_where p first count ≡ []
members-empty p first zero clear = members-none p first
members-empty p first (suc count) clear =
    members-clear p first count (clear first (omega arith) (omega arith)) ∙ members-empty p (suc first) count (λ x l m. clear x (omega arith) (omega arith))

-- clocks at the front that don't pass are no members
pub members-skip : (p : ℕ → Bool) (first gap count : ℕ) → ((x : ℕ) → first ≤ x → x < first + gap → p x ≡ false) →
    members_where p first (gap + count) ≡ members_where p (first + gap) count
members-skip p first zero count clear = ap₂ (members_where p) (sym (add-zero first)) (zero-add count)
members-skip p first (suc gap) count clear =
    ap (members_where p first) (suc-add gap count)
    ∙ members-clear p first (gap + count) (clear first (omega arith) (omega arith))
    ∙ members-skip p (suc first) gap count (λ x l m. clear x (omega arith) (omega arith))
    ∙ ap (λ n. members_where p n count) (omega arith)

-- clocks at the end that don't pass are no members
pub members-cut : (p : ℕ → Bool) (first count gap : ℕ) → ((x : ℕ) → first + count ≤ x → p x ≡ false) →
    members_where p first (count + gap) ≡ members_where p first count
members-cut p first zero gap clear = members-empty p first (zero + gap) (λ x l m. clear x (omega arith)) ∙ sym (members-none p first)
members-cut p first (suc count) gap clear =
    let later : members_where p (suc first) (count + gap) ≡ members_where p (suc first) count =
    members-cut p (suc first) count gap (λ x l. clear x (omega arith)) in
    by_test p first _
    (λ e. ap (members_where p first) (suc-add count gap) ∙ members-set p first (count + gap) e ∙ ap (λ xs. first ∷ xs) later
    ∙ sym (members-set p first count e))
    (λ e. ap (members_where p first) (suc-add count gap) ∙ members-clear p first (count + gap) e ∙ later ∙ sym (members-clear p first count e))

-- the members are as many as those of the front and those behind it
pub length-split : (p : ℕ → Bool) (first front count : ℕ) →
    length (members_where p first (front + count)) ≡ length (members_where p first front) + length (members_where p (first + front) count)
length-split p first zero count =
    ap (λ n. length (members_where p first n)) (zero-add count) ∙ sym (zero-add _)
    ∙ ap₂ (λ xs n. length xs + length (members_where p n count)) (sym (members-none p first)) (sym (add-zero first))
length-split p first (suc front) count =
    let later = length-split p (suc first) front count in
    let place : suc first + front ≡ first + suc front = omega arith in
    let moved : length (members_where p (suc first + front) count) ≡ length (members_where p (first + suc front) count) =
    ap (λ n. length (members_where p n count)) place in
    let whole : length (members_where p first (suc front + count)) ≡ length (members_where p first (suc (front + count))) =
    ap (λ n. length (members_where p first n)) (suc-add front count) in
    by_test p first _
    (λ e.
    let here : length (members_where p first (suc (front + count))) ≡ suc (length (members_where p (suc first) (front + count))) =
    ap length (members-set p first (front + count) e) in
    let ahead : length (members_where p first (suc front)) ≡ suc (length (members_where p (suc first) front)) = ap length (members-set p first front e) in
    omega (arith, later, moved, whole, here, ahead))
    (λ e.
    let here : length (members_where p first (suc (front + count))) ≡ length (members_where p (suc first) (front + count)) =
    ap length (members-clear p first (front + count) e) in
    let ahead : length (members_where p first (suc front)) ≡ length (members_where p (suc first) front) = ap length (members-clear p first front e) in
    omega (arith, later, moved, whole, here, ahead))

-- clocks that are numbered from another place on are as many
pub length-moved : (p q : ℕ → Bool) (gap first count : ℕ) → ((x : ℕ) → p (gap + x) ≡ q x) →
    length (members_where p (gap + first) count) ≡ length (members_where q first count)
length-moved p q gap first zero same = ap length (members-none p (gap + first)) ∙ sym (ap length (members-none q first))
length-moved p q gap first (suc count) same =
    let later : length (members_where p (suc (gap + first)) count) ≡ length (members_where q (suc first) count) =
    ap (λ n. length (members_where p n count)) (sym (add-suc gap first)) ∙ length-moved p q gap (suc first) count same in
    by_test q first _
    (λ e. ap length (members-set p (gap + first) count (same first ∙ e)) ∙ ap suc later ∙ sym (ap length (members-set q first count e)))
    (λ e. ap length (members-clear p (gap + first) count (same first ∙ e)) ∙ later ∙ sym (ap length (members-clear q first count e)))

-- no more clocks are picked than are tested
pub length-most : (p : ℕ → Bool) (first count : ℕ) → length (members_where p first count) ≤ count
length-most p first zero =
    let none : length (members_where p first zero) ≡ 0 = ap length (members-none p first) in
    omega (arith, none)
length-most p first (suc count) =
    let later : length (members_where p (suc first) count) ≤ count = length-most p (suc first) count in
    by_test p first _
    (λ e.
    let here : length (members_where p first (suc count)) ≡ suc (length (members_where p (suc first) count)) = ap length (members-set p first count e) in
    omega (arith, later, here))
    (λ e.
    let here : length (members_where p first (suc count)) ≡ length (members_where p (suc first) count) = ap length (members-clear p first count e) in
    omega (arith, later, here))
