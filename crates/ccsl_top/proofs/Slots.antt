-- Slots by their places.
use Rattle.std.proofs.Common.{◌≡◌, ◌≢◌, ℕ, [], ◌∷◌, Bool, true, false, refl, sym, ap, ◌∙◌, subst, ⊎_elim, slice_index_or}
use Rattle.std.proofs.lemmas.Bool.{cases_eq, eq-eqb, ne_eqb, both_ways}
use Rattle.ccsl_edge.specs.declared.slot.Slot.{Slot}
use Rattle.ccsl_edge.specs.declared.slot.Slot.TheVariants.{Spec, Trace, Cert, Input, Report, TraceOut, CertOut}
use Rattle.ccsl_edge.specs.Order.{index_of}
use Rattle.ccsl_top.specs.Opening.{is_slot, is_output}

abbrev slot_at : ℕ → Slot
slot_at n = slice_index_or (Spec ∷ Trace ∷ Cert ∷ Input ∷ Report ∷ TraceOut ∷ CertOut ∷ []) n Spec

slot-again : (slot : Slot) → slot_at (index_of slot) ≡ slot
slot-again Spec = refl
slot-again Trace = refl
slot-again Cert = refl
slot-again Input = refl
slot-again Report = refl
slot-again TraceOut = refl
slot-again CertOut = refl

index-same : (a b : Slot) → index_of a ≡ index_of b → a ≡ b
index-same a b e = sym (slot-again a) ∙ ap slot_at e ∙ slot-again b

pub is_slot-same : (a b : Slot) → is_slot a b ≡ true → a ≡ b
is_slot-same a b e =
    ⊎_elim (λ same. index-same a b same) (λ other. absurd (both_ways (is_slot a b) (ne_eqb (index_of a) (index_of b) other) e))
    (cases_eq (index_of a) (index_of b))

pub is_slot-self : (a : Slot) → is_slot a a ≡ true
is_slot-self a = eq-eqb (index_of a) (index_of a) refl

pub is_slot-other : (a b : Slot) → b ≢ a → is_slot a b ≡ false
is_slot-other a b other =
    ⊎_elim (λ same. absurd (other (sym (index-same a b same)))) (λ n. ne_eqb (index_of a) (index_of b) n) (cases_eq (index_of a) (index_of b))

pub is_slot-differs : (a b : Slot) → is_slot a b ≡ false → b ≢ a
is_slot-differs a b e same = absurd (both_ways (is_slot a b) e (ap (is_slot a) same ∙ is_slot-self a))

-- a slot that is this one is no output, where this one is none
pub same-input : (a : Slot) → is_output a ≡ false → (slot : Slot) → is_slot a slot ≡ true → is_output slot ≡ false
same-input a out slot e = subst (λ x. is_output x ≡ false) (is_slot-same a slot e) out

-- an output slot of a file is not a slot that is none
pub output-differs : (a b : Slot) → is_output a ≡ false → is_output b ≡ true → b ≢ a
output-differs a b no_ yes_ same = absurd (both_ways (is_output b) (ap is_output same ∙ no_) yes_)
