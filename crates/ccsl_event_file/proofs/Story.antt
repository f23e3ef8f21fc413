-- What the next token makes of a place.
use Rattle.std.proofs.Common.{◌≡◌, ℕ, List, [], ◌∷◌, Bool, false, Option, Some, None, Result, Ok, Err, refl, sym, ap, ◌∙◌, subst}
use Rattle.ccsl_event_file.specs.declared.fault.EventFault.{EventFault}
use Rattle.ccsl_event_file.specs.declared.fault.EventFault.TheVariants as faults
use Rattle.ccsl_event_file.specs.Tokens.{Token, Placed}
use Rattle.ccsl_event_file.specs.File.{Place, goes, syntax, expects, says, Reading, fault, ends, told, story}
use Rattle.ccsl_event_file.specs.Parsing.{place_of, next_is, next_value, TakesOne, ReadsOne, IsValueFault, IsFault, Reads}

-- a fault of what is the same reading
pub moved : (f : EventFault) (r s : Reading) → r ≡ s → IsFault f s → IsFault f r
moved f r s e h = subst (λ x. IsFault f x) (sym e) h

-- what is read behind is read from there on
pub reads_behind : {X : Type 0} (r : Result X EventFault) (len other : ℕ) (p q : Place) (old now : List Placed) (to : X → Place) (new : List Placed)
    → other ≡ len → story len p old ≡ story len q now → Reads r other q now to new → Reads r len p old to new
reads_behind (Ok x) len other p q old now to new same e h =
    e ∙ ap (λ n. story n q now) (sym same) ∙ h ∙ ap (λ n. story n (to x) new) same
reads_behind (Err f) len other p q old now to new same e h =
    moved f (story len p old) (story other q now) (e ∙ ap (λ n. story n q now) (sym same)) h

-- the token at the front leads to another place
pub taken : (len : ℕ) (p q : Place) (t : Placed) (old new : List Placed) → old ≡ t ∷ new → says p t ≡ goes q → story len p old ≡ story len q new
unfolding story
taken len p q t old new is e = ap (story len p) is ∙ ap (λ s. told s (λ q. story len q new)) e

-- no place but a statement's is the end of a file
abbrev pub NoEnd : Place → Type 0
NoEnd p = (len : ℕ) → ends len p ≡ fault (faults.Syntax len)

abbrev pub Refuses : Place → List Placed → Type 0
Refuses p [] = Unit {0}
Refuses p (t ∷ ts) = says p t ≡ syntax t

pub stops : (len : ℕ) (p : Place) (old : List Placed) → NoEnd p → Refuses p old → story len p old ≡ fault (faults.Syntax (place_of len old))
unfolding story
stops len p [] absent r = absent len
stops len p (t ∷ ts) absent r = ap (λ s. told s (λ q. story len q ts)) r

-- two places at which the next token says the same
pub same : (len : ℕ) (p q : Place) (ts : List Placed) → ends len p ≡ ends len q → ((t : Placed) (us : List Placed) → ts ≡ t ∷ us → says p t ≡ says q t)
    → story len p ts ≡ story len q ts
unfolding story
same len p q [] e h = e
same len p q (t ∷ ts) e h = ap (λ s. told s (λ q. story len q ts)) (h t ts refl)

-- ## A token that is expected

abbrev pub ExpectsAt : Place → (Token → Bool) → Place → Type 0
ExpectsAt p test q = (t : Placed) → says p t ≡ expects (test t.token) q t

pub expected : (len : ℕ) (p q : Place) (test : Token → Bool) (old new : List Placed) → ExpectsAt p test q → TakesOne test old new
    → story len p old ≡ story len q new
expected len p q test old new at one =
    taken len p q one.next old new one.is (at one.next ∙ ap (λ b. expects b q one.next) one.passes)

refuses : (p q : Place) (test : Token → Bool) (old : List Placed) → ExpectsAt p test q → next_is test old ≡ false → Refuses p old
refuses p q test [] at absent = tt
refuses p q test (t ∷ ts) at absent = at t ∙ ap (λ b. expects b q t) absent

pub unexpected : (f : EventFault) (len : ℕ) (p q : Place) (test : Token → Bool) (old : List Placed) → NoEnd p → ExpectsAt p test q
    → (next_is test old ≡ false) × (f ≡ faults.Syntax (place_of len old)) → IsFault f (story len p old)
unexpected f len p q test old absent at h =
    subst (λ g. IsFault g (story len p old)) (sym h.1) (stops len p old absent (refuses p q test old at h.0))

-- ## A token with a value

pub valued : {X : Type 0} (len : ℕ) (p : Place) (q : ℕ → Place) (of : Token → Option X) (x : X) (old new : List Placed)
    → ((t : Placed) → of t.token ≡ Some x → says p t ≡ goes (q t.at))
    → ReadsOne of x old new → story len p old ≡ story len (q (place_of len old)) new
valued len p q of x old new at one =
    taken len p (q one.next.at) one.next old new one.is (at one.next one.value)
    ∙ ap (λ n. story len (q n) new) (sym (ap (place_of len) one.is))

refuses_value : {X : Type 0} (p : Place) (of : Token → Option X) (old : List Placed) → ((t : Placed) → of t.token ≡ None → says p t ≡ syntax t)
    → next_value of old ≡ None → Refuses p old
refuses_value p of [] at absent = tt
refuses_value p of (t ∷ ts) at absent = at t absent

unvalued_at : {X : Type 0} (f : EventFault) (len : ℕ) (p : Place) (of : Token → Option X) (old : List Placed) → NoEnd p
    → ((t : Placed) → of t.token ≡ None → says p t ≡ syntax t)
    → (next_value of old ≡ None) × (f ≡ faults.Syntax (place_of len old)) → IsFault f (story len p old)
unvalued_at f len p of old absent at h =
    subst (λ g. IsFault g (story len p old)) (sym h.1) (stops len p old absent (refuses_value p of old at h.0))

pub unvalued : {Y : Type 0} (f : EventFault) (len : ℕ) (p : Place) (of : Token → Option Y) (old : List Placed) → NoEnd p
    → ((t : Placed) → of t.token ≡ None → says p t ≡ syntax t)
    → IsValueFault f of len old → IsFault f (story len p old)
unvalued faults.Memory len p of old absent at h = tt
unvalued f len p of old absent at h = unvalued_at f len p of old absent at h
