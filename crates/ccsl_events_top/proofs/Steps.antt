-- What is next in a pass: what waits, what is read, and the line feed behind the last byte.
use Rattle.std.proofs.Common.{◌≡◌, ℕ, ◌⊎◌, inl, inr, List, [], ◌++◌, Err, refl, sym, ap, ◌∙◌, subst}
use Rattle.ccsl_edge.specs.World.{State, Told}
use Rattle.ccsl_vcd.specs.declared.fault.VcdFault.{VcdFault}
use Rattle.ccsl_vcd.specs.declared.fault.VcdFault.TheVariants as faults
use Rattle.ccsl_events.specs.Dump.{Plan}
use Rattle.ccsl_events_top.specs.declared.sink.Sink.{Sink}
use Rattle.ccsl_events_top.specs.declared.pass.Pass.{Pass}
use Rattle.ccsl_events_top.specs.declared.stop.Stop.{Stop}
use Rattle.ccsl_events_top.specs.declared.stop.Stop.TheVariants as stops
use Rattle.ccsl_events_top.specs.Stopping.{stop_of}
use Rattle.ccsl_events_top.specs.Passing.{Passes, Leaves, InHeader, IsUnopened, HeadsOn, InBody, IsBroken, BodyOn}
use Rattle.ccsl_events_top.specs.Passing.{StepsBody, Refills}
use Rattle.ccsl_events_top.proofs.Passing.{cut-header}
use Rattle.ccsl_events_top.proofs.Bodies.{cut-body}
use Rattle.ccsl_events_top.proofs.Fronts.{rows-so-far, starved}

-- it stops at the fault, or at want of memory
pub stop-cases : (f : VcdFault) → (f ≡ faults.Memory) ⊎ (stop_of f ≡ stops.Trace f)
stop-cases (faults.TokenTooLong at) = inr refl
stop-cases (faults.BadHeader at) = inr refl
stop-cases (faults.TooManyVars at) = inr refl
stop-cases (faults.TooDeep at) = inr refl
stop-cases (faults.BadTime at) = inr refl
stop-cases (faults.BadChange at) = inr refl
stop-cases (faults.UnknownCode at) = inr refl
stop-cases (faults.UnknownCommand at) = inr refl
stop-cases (faults.Gap at) = inr refl
stop-cases (faults.Truncated at) = inr refl
stop-cases (faults.TooLong at) = inr refl
stop-cases (faults.TimeBack at present time) = inr refl
stop-cases (faults.Unbound clock) = inr refl
stop-cases (faults.Ambiguous clock) = inr refl
stop-cases faults.Memory = inl refl

module _ (told : Told) (sink : Sink) (start now : State) where
  -- ## The header

  -- a piece was read
  unfoldable pub refilled-header : (before : State) (pass pass' : Pass) → (i : InHeader told sink start before pass)
      → pass' ≡ record pass { pending = pass'.pending; read = pass'.read } → Passes told sink start now pass' i.given [] → InHeader told sink start now pass'
  refilled-header before pass pass' i same p = record {
    given = i.given;
    among = i.among;
    heading = i.heading;
    passes = p;
    inside = rw (ap (λ (x : Pass). x.reader) same) i.inside;
    blank = ap (λ (x : Pass). x.block.items) same ∙ i.blank;
  }

  pub stopped-header : (before : ℕ) (pass : Pass) (f : VcdFault) (stop : Stop) → Leaves told sink start now []
      → HeadsOn told sink start now (Err f) before pass → stop ≡ stop_of f → IsUnopened told sink start now stop
  stopped-header before pass f stop l h e = go (stop-cases f) h
    where
      go : (f ≡ faults.Memory) ⊎ (stop_of f ≡ stops.Trace f) → (f ≡ faults.Memory) ⊎ IsUnopened told sink start now (stops.Trace f)
          → IsUnopened told sink start now stop
      go (inl m) h = subst (IsUnopened told sink start now) (sym (e ∙ ap stop_of m)) l
      go (inr t) (inl m) = subst (IsUnopened told sink start now) (sym (e ∙ ap stop_of m)) l
      go (inr t) (inr u) = subst (IsUnopened told sink start now) (sym (e ∙ t)) u

  pub unread-header : (before : State) (pass pass' : Pass) (stop : Stop) → (i : InHeader told sink start before pass)
      → Refills told sink start now (Err stop) pass' i.given [] → pass'.reader ≡ pass.reader → IsUnopened told sink start now stop
  unread-header before pass pass' (stops.Words fault) i r same = absurd r
  unread-header before pass pass' (stops.Events fault near) i r same = absurd r
  unread-header before pass pass' (stops.Trace f) i r same =
      rw r.0 (cut-header told sink start now i.given i.among i.heading pass.reader i.inside r.1)
  unread-header before pass pass' stops.Fault i r same = r
  unread-header before pass pass' stops.Memory i r same = absurd r

  -- ## The body

  unfoldable pub refilled-body : (before : State) (plan : Plan) (head text : List ℕ) (pass pass' : Pass)
      → (i : InBody told sink start before plan head text pass)
      → pass' ≡ record pass { pending = pass'.pending; read = pass'.read } → Passes told sink start now pass' (head ++ i.given) i.written
      → InBody told sink start now plan head text pass'
  refilled-body before plan head text pass pass' i same p = record {
    given = i.given;
    written = i.written;
    place = i.place;
    passes = p;
    taken = rw (ap (λ (x : Pass). x.reader) same) i.taken;
    rows = ap (λ (x : Pass). i.written ++ x.block.items) same ∙ i.rows;
  }

  pub stopped-body : (plan : Plan) (head text : List ℕ) (before : ℕ) (pass pass' : Pass) (f : VcdFault) (stop : Stop)
      → InBody told sink start now plan head text pass → BodyOn told sink start now (Err f) plan head text before pass' → stop ≡ stop_of f
      → StepsBody told sink start now (Err stop) plan head text before pass'
  stopped-body plan head text before pass pass' f stop i h e = go (stop-cases f) h
    where
      go : (f ≡ faults.Memory) ⊎ (stop_of f ≡ stops.Trace f) → (f ≡ faults.Memory) ⊎ IsBroken told sink start now plan head text f pass'.block.items
          → StepsBody told sink start now (Err stop) plan head text before pass'
      go (inl m) h =
          subst (λ (s : Stop). StepsBody told sink start now (Err s) plan head text before pass') (sym (e ∙ ap stop_of m))
          (starved told sink start now plan head text pass i)
      go (inr t) (inl m) =
          subst (λ (s : Stop). StepsBody told sink start now (Err s) plan head text before pass') (sym (e ∙ ap stop_of m))
          (starved told sink start now plan head text pass i)
      go (inr t) (inr b) = subst (λ (s : Stop). StepsBody told sink start now (Err s) plan head text before pass') (sym (e ∙ t)) b

  pub unread-body : (before : State) (plan : Plan) (head text : List ℕ) (less : ℕ) (pass pass' : Pass) (stop : Stop)
      → (i : InBody told sink start before plan head text pass) → pass' ≡ record pass { pending = pass'.pending; read = pass'.read }
      → Refills told sink start now (Err stop) pass' (head ++ i.given) i.written
      → StepsBody told sink start now (Err stop) plan head text less pass'
  unread-body before plan head text less pass pass' (stops.Words fault) i same r = absurd r
  unread-body before plan head text less pass pass' (stops.Events fault near) i same r = absurd r
  unread-body before plan head text less pass pass' (stops.Trace f) i same r =
      rw r.0
      (cut-body told sink start now plan head text pass' i.given i.written i.place (rw (ap (λ (x : Pass). x.reader) same) i.taken)
      (ap (λ (x : Pass). i.written ++ x.block.items) same ∙ i.rows) r.1)
  unread-body before plan head text less pass pass' stops.Fault i same r =
      let block : pass'.block.items ≡ pass.block.items = ap (λ (x : Pass). x.block.items) same in
      record {
        written = i.written;
        left = r;
        front = λ tells.
            let k = rows-so-far told sink start before plan head text pass i tells in
            (k.0, ap (λ (xs : List ℕ). (i.written ++ xs) ++ k.0) block ∙ k.1);
      }
  unread-body before plan head text less pass pass' stops.Memory i same r = absurd r
