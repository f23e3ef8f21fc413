use Rattle.std.proofs.Common.{◌≡◌, ℕ, ◌-◌, ◌<◌, List, length, Bool, Option, Some, None, sym, ap, ap₂, ◌∙◌, arith}
use Rattle.std.specs.Prelude.{Result, Ok, Err, OnOk}
use Rattle.std.proofs.lemmas.List.{length-map}
use Rattle.ccsl_triggers.specs.Held.{held}
use Rattle.ccsl_events.specs.Keeping.{Kept, kept, held_at, set_one, set_chain}
use Rattle.ccsl_events.proofs.Chains.{set_chain-none, set_chain-past, set_chain-one, set_one-length}
use Rattle.ccsl_events.proofs.values.Values.set.Goals as goal

-- a value of the first variable of a code, and then of those behind it
behind-first : (len number : ℕ) (letters : List ℕ) (dumped : Bool) (k mid : Kept) (next : Option ℕ) → len ≡ length k.all → number < len
    → mid ≡ set_one number letters dumped k → next ≡ (held_at k.all number).next
    → set_chain (len - 1) next letters dumped mid ≡ set_chain len (Some number) letters dumped k
behind-first len number letters dumped k mid next e l is on =
    ap₂ (λ o m. set_chain (len - 1) o letters dumped m) on is
    ∙ sym (set_chain-one len (len - 1) number letters dumped k (omega (arith, l)) (omega (arith, e, l)))

where-ok : {E : Type 0} (r : Result (Unit {0}) E) (P Q : Type 0) → (P → Q) → OnOk r P → OnOk r Q
where-ok (Ok u) P Q f p = f p
where-ok (Err e) P Q f p = tt

pub returns-then-number-len-clause-kept : goal.returns-then-number-len-clause-kept
returns-then-number-len-clause-kept c =
    let old = c.args.self.now in
    sym (set_chain-past (length old.signals.items) c.args.first c.args.letters.now c.args.is_dumped (kept old)
    (omega (arith, c.if-number-len.true, c.len.ensures, length-map old.signals.items held)))

pub returns-in-Some-clause-kept : goal.returns-in-Some-clause-kept
returns-in-Some-clause-kept c =
    let old = c.args.self.now in
    let mid = c.set_one.new.self in
    let len : ℕ = length old.signals.items in
    let letters = c.args.letters.now in
    let dumped = c.args.is_dumped in
    let one = c.in_ok-second.ensures.kept in
    let same : length mid.signals.items ≡ len =
    sym (length-map mid.signals.items held) ∙ ap (λ (k : Kept). length k.all) one ∙ set_one-length c.args.first letters dumped (kept old)
    ∙ length-map old.signals.items held in
    where-ok c.set_others.result
    (kept c.set_others.new.self ≡ set_chain (length mid.signals.items - 1) (Some c.in-Some.second) letters dumped (kept mid))
    (kept c.set_others.new.self ≡ set_chain len (Some c.args.first) letters dumped (kept old))
    (λ h.
    h ∙ ap (λ (n : ℕ). set_chain (n - 1) (Some c.in-Some.second) letters dumped (kept mid)) same
    ∙ behind-first len c.args.first letters dumped (kept old) (kept mid) (Some c.in-Some.second) (sym (length-map old.signals.items held))
    (omega (arith, c.if-number-len.false, c.len.ensures)) one (sym c.in-Some.is ∙ c.in_ok-second.ensures.next))
    c.set_others.ensures.kept

pub returns-in-None-clause-kept : goal.returns-in-None-clause-kept
returns-in-None-clause-kept c =
    let old = c.args.self.now in
    let mid = c.set_one.new.self in
    let len : ℕ = length old.signals.items in
    sym (set_chain-none (len - 1) c.args.letters.now c.args.is_dumped (kept mid))
    ∙ behind-first len c.args.first c.args.letters.now c.args.is_dumped (kept old) (kept mid) None (sym (length-map old.signals.items held))
    (omega (arith, c.if-number-len.false, c.len.ensures)) c.in_ok-second.ensures.kept (sym c.in-None.is ∙ c.in_ok-second.ensures.next)
