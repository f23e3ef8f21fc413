-- The order of the slots.
use Rattle.std.proofs.Common.{◌≡◌, ◌≢◌, ◌⊎◌, ℕ, ◌<◌, zero, suc, refl, sym, ap, ◌∙◌, lit<, inl, inr}
use Rattle.std.proofs.lemmas.Bool.Decides.{eqb_tells}
use Rattle.ccsl_edge.specs.declared.slot.Slot.{Slot}
use Rattle.ccsl_edge.specs.declared.slot.Slot.TheVariants.{Spec, Trace, Cert, Input, Report, TraceOut, CertOut}
use Rattle.ccsl_edge.specs.Order.{index_of}

pub index_of-lt : (slot : Slot) → index_of slot < 7
index_of-lt Spec = lit< tt
index_of-lt Trace = lit< tt
index_of-lt Cert = lit< tt
index_of-lt Input = lit< tt
index_of-lt Report = lit< tt
index_of-lt TraceOut = lit< tt
index_of-lt CertOut = lit< tt

-- the slot at a place
abbrev slot_with : ℕ → Slot
slot_with zero = Spec
slot_with (suc zero) = Trace
slot_with (suc (suc zero)) = Cert
slot_with (suc (suc (suc zero))) = Input
slot_with (suc (suc (suc (suc zero)))) = Report
slot_with (suc (suc (suc (suc (suc zero))))) = TraceOut
slot_with (suc (suc (suc (suc (suc (suc n)))))) = CertOut

slot_with-index_of : (slot : Slot) → slot_with (index_of slot) ≡ slot
slot_with-index_of Spec = refl
slot_with-index_of Trace = refl
slot_with-index_of Cert = refl
slot_with-index_of Input = refl
slot_with-index_of Report = refl
slot_with-index_of TraceOut = refl
slot_with-index_of CertOut = refl

-- slots at one place are the same
pub same_slot : (a b : Slot) → index_of a ≡ index_of b → a ≡ b
same_slot a b same = sym (slot_with-index_of a) ∙ ap slot_with same ∙ slot_with-index_of b

pub slot_cases : (a b : Slot) → (a ≡ b) ⊎ (a ≢ b)
slot_cases a b =
    elim (eqb_tells (index_of a) (index_of b)) [
      | inl same ↦ inl (same_slot a b same.1)
      | inr apart ↦ inr (λ same. apart.1 (ap index_of same))
    ]
