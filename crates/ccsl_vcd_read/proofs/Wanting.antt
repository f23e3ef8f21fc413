-- Where memory is wanted the header has not ended: no row was pushed, and no clock is bound.
use Rattle.std.proofs.Common.{◌≡◌, ℕ, List, [], ◌∷◌, ◌++◌, take, true, false, None, refl, sym, ap, ◌∙◌, subst, map}
use Rattle.std.specs.Prelude.{filter}
use Rattle.std.proofs.lemmas.List.{append-nil}
use Rattle.ccsl_base.specs.declared.rows.Row.{Row}
use Rattle.ccsl_base.specs.Rows.{RowList}
use Rattle.ccsl_vcd.specs.declared.fault.VcdFault.{VcdFault}
use Rattle.ccsl_vcd.specs.declared.fault.VcdFault.TheVariants as faults
use Rattle.ccsl_vcd.specs.declared.limits.Limits.{Limits}
use Rattle.ccsl_vcd.specs.Binding.{Wanted}
use Rattle.ccsl_vcd.specs.Places as p
use Rattle.ccsl_vcd.specs.Reading.{Story, so_far}
use Rattle.ccsl_vcd.specs.Rows.{row_at, rows, times, has_ticks, bound_at}
use Rattle.ccsl_vcd.specs.Completed.{is_before, now_at, complete, done}
use Rattle.ccsl_vcd_read.specs.declared.stage.Stage.{Stage}
use Rattle.ccsl_vcd_read.specs.declared.stage.Stage.TheVariants as stage
use Rattle.ccsl_vcd_read.specs.Heading.{NotMemory}
use Rattle.ccsl_vcd_read.specs.Staging.{is_body, shown}
use Rattle.ccsl_vcd_read.specs.Reading.{Reading, StandsFor, Pushes, Takes, is_past, past_header}
use Rattle.ccsl_vcd_read.proofs.Taking.{running-of, runs-past}

pub in-header : (s : Stage) (f : VcdFault) → (is_body s ≡ true → NotMemory f) → f ≡ faults.Memory → is_body s ≡ false
in-header s f calm e =
    (elim (is_body s) as (λ b. is_body s ≡ b → b ≡ false) [
      | true ↦ λ k. absurd (subst NotMemory e (calm k))
      | false ↦ λ k. refl
    ]) refl

pub shown-none : (s : Stage) → is_body s ≡ false → shown s ≡ None
shown-none (stage.Header h) e = refl
shown-none stage.Unbound e = refl
shown-none (stage.Body b) e = absurd (cc)

pub no-rows : (cs : List p.Change) (ts : List ℕ) → filter has_ticks (map (row_at [] cs) ts) ≡ []
no-rows cs [] = refl
no-rows cs (t ∷ ts) = no-rows cs ts

place-none : (s : Story) → is_past s.place ≡ false → complete s ≡ []
unfolding rows
place-none s e = on s.place e
  where
    on : (v : p.Where) → is_past v ≡ false → filter (is_before (now_at v)) (rows (bound_at v) s.changes) ≡ []
    on (p.header h) k = ap (filter (is_before 0)) (no-rows s.changes (times s.changes))
    on (p.body b) k = absurd (cc)

done-none : (wanted : Wanted) (limits : Limits) (bytes : List ℕ) → past_header wanted limits bytes ≡ false → done wanted limits bytes ≡ []
unfolding done
done-none wanted limits bytes e = place-none (so_far wanted limits bytes) e

nothing-pushed : (a b x y : List Row) → Pushes a b x y → a ≡ [] → b ≡ [] → y ≡ x
nothing-pushed a b x y q e f =
    let none : q.pushed ≡ [] = sym (ap (λ rs. rs ++ q.pushed) e) ∙ sym q.rows ∙ f in
    q.block ∙ ap (λ rs. x ++ rs) none ∙ append-nil x

pub out-same : {start now : Reading} {before after : RowList} {piece : List ℕ} {i : ℕ} → Takes start now piece i false before after →
    (wanted : Wanted) (bytes : List ℕ) → StandsFor wanted start bytes → is_body now.stage ≡ false → after ≡ before
out-same {start} {now} {before} {after} {piece} {i} q wanted bytes s e =
    let t = q.took wanted bytes s in
    let more : List ℕ = bytes ++ take i piece in
    let past : past_header wanted start.limits more ≡ false =
    ap (λ (l : Limits). past_header wanted l more) (sym q.limits) ∙ runs-past wanted now more (running-of wanted now more q.runs t.stands) ∙ e in
    let same : after.rows ≡ before.rows =
    nothing-pushed _ _ before.rows after.rows t.pushes (done-none wanted start.limits bytes (sym t.header ∙ past)) (done-none wanted start.limits more past) in
    ap (λ rs. record { rows = rs; room = after.room }) same ∙ ap (λ n. record { rows = before.rows; room = n }) q.room
