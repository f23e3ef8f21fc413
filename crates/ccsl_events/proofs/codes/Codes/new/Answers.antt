use Rattle.std.proofs.Common.{◌+◌, ◌<◌, ◌≤◌, ◌⊎◌, inl, inr, length, sym, subst, arith}
use Rattle.std.specs.declared.vec.Vec.{Vec}
use Rattle.std.specs.declared.alloc.Global.{Global}
use Rattle.ccsl_events.specs.declared.codes.Entry.{Entry}
use Rattle.ccsl_vcd_lex.specs.ShortCodes.{SHORT}
use Rattle.ccsl_events.proofs.Tables.{IsFront, front-none, front-more, front-past, front-all, got}
use Rattle.ccsl_events.proofs.codes.Codes.new.Goals as goal
use Rattle.ccsl_events.proofs.codes.Codes.new.Goals.{then-place-len+then-i-len, else-place-len, else-place-len-via-then-place-len+else-i-len}
use Rattle.ccsl_events.proofs.codes.Codes.new.Goals.{else-place-len-via-else-place-len}

pub loop-i-init : goal.loop-i-init
loop-i-init c = front-none c.in_ok-short.short.items c.args.names c.args.entries.items c.in_ok-short.ensures.none c.in_ok-short.ensures.len

pub loop-i-preserved : goal.loop-i-preserved
loop-i-preserved c =
    let i = c.loop-i.i in
    let p = c.place_of-place.result in
    let table = c.loop-i.short.items in
    let names = c.args.names in
    let entries = c.args.entries.items in
    elim c.if-place-len.branch [
      | then-place-len+then-i-len w ↦
          let low : p < SHORT = omega (arith, w.if-place-len.true, c.len.ensures, c.loop-i.invariant.len) in
          subst (λ (v : Vec Entry Global). IsFront (i + 1) v.items names entries) (sym w.short-is)
          (front-more i p table names entries c.get.result.now _ c.loop-i.invariant c.get.ensures.name c.get.ensures.distinct c.place_of-place.ensures.value low
          (got entries i _ (omega (arith, w.if-i-len.true, w.len-then-place-len.ensures)) w.index.ensures))
      | else-place-len w ↦
          let past : (SHORT ≤ p) ⊎ (length entries ≤ i) = elim w.else-place-len.branch [
            | else-place-len-via-then-place-len+else-i-len u ↦ inr (omega (arith, u.if-i-len.false, u.len-then-place-len.ensures))
            | else-place-len-via-else-place-len u ↦ inl (omega (arith, u.if-place-len.false, c.len.ensures, c.loop-i.invariant.len))
          ] in
          subst (λ (v : Vec Entry Global). IsFront (i + 1) v.items names entries) (sym w.short-is)
          (front-past i p table names entries c.get.result.now c.loop-i.invariant c.get.ensures.name c.get.ensures.distinct c.place_of-place.ensures.value past)
    ]

pub invariant_of-result : goal.invariant_of-result
invariant_of-result c =
    front-all c.loop-i.i c.loop-i.short.items c.args.names c.args.entries.items c.loop-i.invariant
    (omega (arith, c.loop-i-test.false, c.loop-i.auto.i-end, c.len-i-end.ensures))
