-- How far a run with a status reaches, and which statuses come.
use Rattle.std.proofs.Common.{◌≡◌, ◌≢◌, ℕ, suc, List, [], ◌∷◌, Bool, true, false, not, ◌||◌, ◌&&◌, nat_eq, cond, Contains, Ok, refl, ap, ◌∙◌}
use Rattle.std.proofs.Common.{arith}
use Rattle.std.proofs.lemmas.Bool.{ne_eqb, and_from, or_left}
use Rattle.ccsl_edge.specs.declared.slot.Slot.{Slot}
use Rattle.ccsl_edge.specs.declared.slot.Slot.TheVariants.{Spec, Input}
use Rattle.ccsl_command.specs.declared.command.Command.{Command}
use Rattle.ccsl_command.specs.declared.command.Command.TheVariants.{Check, Simulate, Judge, Certify, Trial, Periodic, Explain, Session}
use Rattle.ccsl_command.specs.Meaning.{meaning}
use Rattle.ccsl_command.specs.Opened.{Opened, files_of, files_opened}
use Rattle.ccsl_top.specs.declared.reply.Status.{Status}
use Rattle.ccsl_top.specs.declared.reply.Status.TheVariants.{Done, No, WordsRefused, SpecRefused, FileRefused, Deadlock}
use Rattle.ccsl_top.specs.Statuses.{answers_of}
use Rattle.ccsl_top.specs.Opening.{opens, uses, is_slot, is_output, is_session, reaches, may_change}
use Rattle.ccsl_top.specs.Answered.{code_of, IsReadStatus}
use Rattle.ccsl_top.proofs.Slots.{is_slot-self}
use Rattle.ccsl_top.proofs.Effects.{by-test}

never-and : (b : Bool) → not (b && false) ≡ true
never-and true = refl
never-and false = refl

module _ (words : List (List ℕ)) (slot : Slot) where
  -- what is opened is used
  pub opened-used : opens (files_opened words) slot ≡ true → uses words slot ≡ true
  opened-used e = or_left (opens (files_opened words) slot) (is_session (meaning words) && is_slot slot Input) e

  module _ (status : ℕ) where
    behind-spec : status ≢ 3 → reaches status slot ≡ not ((nat_eq status 1 || nat_eq status 4) && is_output slot)
    behind-spec n = ap (λ b. cond b (is_slot Spec slot) (not ((nat_eq status 1 || nat_eq status 4) && is_output slot))) (ne_eqb status 3 n)

    -- every slot that is used, but behind a status of refusal
    pub reach-all : status ≢ 1 → status ≢ 3 → status ≢ 4 → uses words slot ≡ true → may_change words status slot ≡ true
    reach-all one three four u = and_from (uses words slot) (reaches status slot) u
        (behind-spec three ∙ ap (λ b. not ((b || nat_eq status 4) && is_output slot)) (ne_eqb status 1 one)
        ∙ ap (λ b. not ((false || b) && is_output slot)) (ne_eqb status 4 four))

    -- every slot that is read, but behind a refused specification
    pub reach-read : status ≢ 3 → is_output slot ≡ false → uses words slot ≡ true → may_change words status slot ≡ true
    reach-read three out u = and_from (uses words slot) (reaches status slot) u
        (behind-spec three ∙ ap (λ o. not ((nat_eq status 1 || nat_eq status 4) && o)) out ∙ never-and (nat_eq status 1 || nat_eq status 4))

-- the specification, behind every status
pub reach-spec : (words : List (List ℕ)) (status : ℕ) → opens (files_opened words) Spec ≡ true → may_change words status Spec ≡ true
reach-spec words status e = and_from (uses words Spec) (reaches status Spec) (opened-used words Spec e) (by-test (nat_eq status 3)
    (λ yes. ap (λ b. cond b (is_slot Spec Spec) (not ((nat_eq status 1 || nat_eq status 4) && is_output Spec))) yes ∙ is_slot-self Spec)
    (λ no. ap (λ b. cond b (is_slot Spec Spec) (not ((nat_eq status 1 || nat_eq status 4) && is_output Spec))) no
    ∙ never-and (nat_eq status 1 || nat_eq status 4)))

-- THE STATUSES

-- one of a list stands in every longer one
pub among-more : {a b : ℕ} (few : List ℕ) (status : ℕ) → Contains few status → Contains (a ∷ b ∷ few) status
among-more few status p = (suc (suc p.0), let l = p.1 in omega (arith, l), p.2)

-- a specification that is refused is an answer of each command that reads one
pub three-known : (c : Command) (spec : Opened) (others : List Opened) → files_of c ≡ spec ∷ others → Contains (answers_of (Ok c)) 3
three-known (Check _) spec others e = (1, omega arith, refl)
three-known (Simulate _ _ _ _ _ _) spec others e = (1, omega arith, refl)
three-known (Judge _ _ _) spec others e = (2, omega arith, refl)
three-known (Certify _ _ _) spec others e = (2, omega arith, refl)
three-known (Trial _ _ _ _) spec others e = absurd (cc)
three-known (Periodic _ _ _) spec others e = absurd (cc)
three-known (Explain _ _ _) spec others e = (2, omega arith, refl)
three-known (Session _ _ _) spec others e = (1, omega arith, refl)

pub read-known : (s : Status) → IsReadStatus (code_of s) → Contains (0 ∷ 1 ∷ 3 ∷ 4 ∷ []) (code_of s)
read-known Done n = (0, omega arith, refl)
read-known No n = (1, omega arith, refl)
read-known WordsRefused n = absurd (n.0 refl)
read-known SpecRefused n = absurd (n.1 refl)
read-known FileRefused n = (3, omega arith, refl)
read-known Deadlock n = absurd (n.2 refl)
