-- What a session leaves of a world: bytes read and bytes written, one behind another.
use Rattle.std.proofs.Common.{◌≡◌, inl, inr, ℕ, List, [], ◌++◌, IsTrue, append-nil, refl, sym, ap, ◌∙◌, subst, arith, append_assoc}
use Rattle.ccsl_edge.specs.declared.slot.Slot.TheVariants.{Input, Report}
use Rattle.ccsl_edge.specs.World.{State, SlotState, Told, Rose}
use Rattle.ccsl_edge.specs.Calls.{ChangesOnly, Reads, ReadsThenFails, Adds, AddsFront}
use Rattle.ccsl_kernel.specs.Syntax.{System}
use Rattle.ccsl_policy.specs.declared.policies.Policy.{Policy}
use Rattle.ccsl_session.specs.Leaving.{Says, SameCounts, Fails}

-- a slot that has changed in what is left of it and in its count alone, or in what is written and in its count
abbrev pub IsRead : SlotState → SlotState → Type 0
IsRead x y = y ≡ record x { left = y.left; faults = y.faults }

abbrev pub IsWritten : SlotState → SlotState → Type 0
IsWritten x y = y ≡ record x { written = y.written; faults = y.faults }

read-twice : (x y z : SlotState) → IsRead x y → IsRead y z → IsRead x z
read-twice x y z h g = g ∙ ap (λ (w : SlotState). record w { left = z.left; faults = z.faults }) h

written-twice : (x y z : SlotState) → IsWritten x y → IsWritten y z → IsWritten x z
written-twice x y z h g = g ∙ ap (λ (w : SlotState). record w { written = z.written; faults = z.faults }) h

read-only : (x y : SlotState) → y ≡ record x { left = y.left } → IsRead x y
read-only x y h = h ∙ ap (λ n. record x { left = y.left; faults = n }) (sym (ap (λ (w : SlotState). w.faults) h))

written-only : (x y : SlotState) → y ≡ record x { written = y.written } → IsWritten x y
written-only x y h = h ∙ ap (λ n. record x { written = y.written; faults = n }) (sym (ap (λ (w : SlotState). w.faults) h))

module _ (told : Told) (K : System) (policy : Policy) (seed limit : ℕ) (old : State) where
  abbrev SaysTo : State → List ℕ → Type 0
  SaysTo now text = Says told K policy seed limit old now text

  abbrev Counts : State → Type 0
  Counts now = SameCounts told K policy seed limit old now

  -- nothing was said before anything was done
  pub says-nothing : SaysTo old []
  says-nothing = record {
    files = refl;
    others = λ slot a b. refl;
    input = refl;
    report = refl;
    grows = λ t. sym (append-nil (old.slot_of Report).written);
  }

  pub counts-same : Counts old
  counts-same = record { input = refl; report = refl }

  module _ (now later : State) (text : List ℕ) (says : SaysTo now text) where
    -- BEHIND A READ
    pub says-read : ChangesOnly Input now later → IsRead (now.slot_of Input) (later.slot_of Input) → SaysTo later text
    says-read only here =
        let same : later.slot_of Report ≡ now.slot_of Report = only.others Report (λ e. cc) in
        record {
          files = only.files ∙ says.files;
          others = λ slot a b. only.others slot a ∙ says.others slot a b;
          input = read-twice (old.slot_of Input) (now.slot_of Input) (later.slot_of Input) says.input here;
          report = subst (λ (r : SlotState). IsWritten (old.slot_of Report) r) (sym same) says.report;
          grows = λ t. ap (λ (r : SlotState). r.written) same ∙ says.grows t;
        }

    -- BEHIND A WRITE
    pub says-write : (more : List ℕ) → ChangesOnly Report now later → IsWritten (now.slot_of Report) (later.slot_of Report) →
        (IsTrue told.written → (later.slot_of Report).written ≡ (now.slot_of Report).written ++ more) → SaysTo later (text ++ more)
    says-write more only here grows =
        let same : later.slot_of Input ≡ now.slot_of Input = only.others Input (λ e. cc) in
        record {
          files = only.files ∙ says.files;
          others = λ slot a b. only.others slot b ∙ says.others slot a b;
          input = subst (λ (r : SlotState). IsRead (old.slot_of Input) r) (sym same) says.input;
          report = written-twice (old.slot_of Report) (now.slot_of Report) (later.slot_of Report) says.report here;
          grows = λ t.
              grows t ∙ ap (λ bs. bs ++ more) (says.grows t) ∙ append_assoc (old.slot_of Report).written text more;
        }

  module _ (now later : State) (counts : Counts now) where
    pub counts-read : (bytes : List ℕ) → Reads told Input bytes now later → Counts later
    counts-read bytes r = record {
      input = ap (λ (s : SlotState). s.faults) r.here ∙ counts.input;
      report = ap (λ (s : SlotState). s.faults) (r.only.others Report (λ e. cc)) ∙ counts.report;
    }

    pub counts-write : (bytes : List ℕ) → Adds told Report bytes now later → Counts later
    counts-write bytes w = record {
      input = ap (λ (s : SlotState). s.faults) (w.only.others Input (λ e. cc)) ∙ counts.input;
      report = ap (λ (s : SlotState). s.faults) w.here ∙ counts.report;
    }

    -- A CALL FAILED
    pub read-fails : (bytes : List ℕ) → ReadsThenFails told Input bytes now later → Fails told K policy seed limit old later
    read-fails bytes r =
        let rose = subst (λ n. Rose n (later.slot_of Input).faults) counts.input r.rose in
        let same : (later.slot_of Report).faults ≡ (old.slot_of Report).faults =
        ap (λ (s : SlotState). s.faults) (r.only.others Report (λ e. cc)) ∙ counts.report in
        record { one = inl rose; input = rose.0; report = omega (arith, same) }

    pub write-fails : (bytes : List ℕ) → AddsFront told Report bytes now later → Fails told K policy seed limit old later
    write-fails bytes w =
        let rose = subst (λ n. Rose n (later.slot_of Report).faults) counts.report w.rose in
        let same : (later.slot_of Input).faults ≡ (old.slot_of Input).faults =
        ap (λ (s : SlotState). s.faults) (w.only.others Input (λ e. cc)) ∙ counts.input in
        record { one = inr rose; input = omega (arith, same); report = rose.0 }

pub reads-only : (told : Told) (bytes : List ℕ) (now later : State) → Reads told Input bytes now later → IsRead (now.slot_of Input) (later.slot_of Input)
reads-only told bytes now later r = read-only (now.slot_of Input) (later.slot_of Input) r.here

pub adds-only : (told : Told) (bytes : List ℕ) (now later : State) → Adds told Report bytes now later → IsWritten (now.slot_of Report) (later.slot_of Report)
adds-only told bytes now later w = written-only (now.slot_of Report) (later.slot_of Report) w.here
