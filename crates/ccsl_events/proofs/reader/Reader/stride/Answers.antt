use Rattle.std.proofs.Common.{◌≡◌, ◌+◌, ◌<◌, ◌^◌, length, Some, refl, subst, arith}
use Rattle.std.proofs.lemmas.Grind.{common_steps}
use Rattle.std.proofs.lemmas.Result.{err_from_is_err_and}
use Rattle.ccsl_events.specs.declared.reader.Reader.{Reader}
use Rattle.ccsl_events.specs.Standing.{Stands}
use Rattle.ccsl_events.specs.Fed.{TakesPiece, Reaches}
use Rattle.ccsl_events.proofs.Feeding.{same-body, no-body, fresh-runs, fresh-breaks, closes, still-there, feeds-next}
use Rattle.ccsl_events.proofs.reader.Reader.stride.Goals as goal
use Rattle.ccsl_events.proofs.reader.Reader.stride.Goals.{then-is_empty+in-Some+in_ok-taken+else-taken-gt0, then-is_empty+in_default, else-is_empty}
use Rattle.ccsl_base.proofs.Cases.{no-items}

pub returns-in_err-taken : goal.returns-in_err-taken
returns-in_err-taken c =
    let q = err_from_is_err_and c.from_residual.result c.from_residual.ensures.1 in
    let none : length c.args.self.now.carry.items ≡ 0 = grind (arith, common_steps, c.if-is_empty.true, c.is_empty.ensures, c.args.self.now.carry.ok.0) in
    rw (q.1, q.2) (record {
      within = tt;
      feeds = λ plan start before p h fits.
          let s = subst (Stands plan p) (same-body h.body c.in-Some.body c.args.self.now h.has c.in-Some.is) h.stands in
          fresh-breaks plan start before c.args.bytes.now p c.args.self.now c.in_err-taken.field-0.0 p.written c.args.out.now.items c.run.new.out.items
          h none (c.in_err-taken.ensures.takes plan p s fits);
      heads = λ limits before among h i fits. absurd (no-body c.in-Some.body c.args.self.now c.in-Some.is i.reads.bodyless);
      counts = tt;
      clears = tt;
    })

pub returns-then-taken-gt0 : goal.returns-then-taken-gt0
returns-then-taken-gt0 c =
    let piece = c.args.bytes.now in
    let none : length c.args.self.now.carry.items ≡ 0 = grind (arith, common_steps, c.if-is_empty.true, c.is_empty.ensures, c.args.self.now.carry.ok.0) in
    let clear = no-items c.args.self.now.carry.items none in
    let within = c.in_ok-taken.ensures.within in
    let all : c.args.self.now.taken + length piece < 2 ^ 64 → c.saturating_add-self.result ≡ c.args.self.now.taken + c.in_ok-taken.taken =
    λ fits. omega (arith, fits, within, c.saturating_add-self.ensures) in
    record {
      within = (omega arith, within);
      feeds = λ plan start before p h fits.
          let s = subst (Stands plan p) (same-body h.body c.in-Some.body c.args.self.now h.has c.in-Some.is) h.stands in
          closes plan start before piece p c.args.self.now _ c.run.new.self c.in_ok-taken.taken c.args.out.now.items c.run.new.out.items h
          (fresh-runs plan start before _ p c.args.self.now c.run.new.self c.args.out.now.items c.run.new.out.items h none
          (c.in_ok-taken.ensures.takes plan p s fits))
          within refl clear (all fits) h.in_body;
      heads = λ limits before among h i fits. absurd (no-body c.in-Some.body c.args.self.now c.in-Some.is i.reads.bodyless);
      counts = all;
      clears = λ old over. clear;
    }

pub returns : goal.returns
returns c =
    let piece = c.args.bytes.now in
    elim c.if-is_empty.branch [
      | then-is_empty+in-Some+in_ok-taken+else-taken-gt0 w ↦
          let none : length c.args.self.now.carry.items ≡ 0 = grind (arith, common_steps, w.if-is_empty.true, c.is_empty.ensures, c.args.self.now.carry.ok.0)
          in
          let zero_ : w.in_ok-taken.taken ≡ 0 = omega (arith, w.if-taken-gt0.false) in
          let mid : Reader = record c.args.self.now { body = Some w.run.new.self } in
          let part : TakesPiece piece c.part.result mid c.part.new.self w.run.new.out.items c.part.new.out.items =
          rw (← w.self-is, ← w.out-is) c.part.ensures in
          record {
            within = part.within;
            feeds = λ plan start before p h fits.
                let s = subst (Stands plan p) (same-body h.body w.in-Some.body c.args.self.now h.has w.in-Some.is) h.stands in
                let a : Reaches plan start before p.written mid c.args.out.now.items w.run.new.out.items =
                still-there plan start before piece p.written mid w.in_ok-taken.taken c.args.out.now.items w.run.new.out.items zero_
                (closes plan start before piece p c.args.self.now mid w.run.new.self w.in_ok-taken.taken c.args.out.now.items w.run.new.out.items h
                (fresh-runs plan start before _ p c.args.self.now w.run.new.self c.args.out.now.items w.run.new.out.items h none
                (w.in_ok-taken.ensures.takes plan p s fits))
                w.in_ok-taken.ensures.within refl (no-items c.args.self.now.carry.items none) (omega (arith, zero_)) h.in_body) in
                feeds-next plan start before piece p c.part.result mid c.part.new.self c.args.out.now.items w.run.new.out.items c.part.new.out.items a
                (part.feeds plan start before a.place a.taken (omega (arith, fits, h.taken, a.taken.taken)));
            heads = λ limits before among h i fits. absurd (no-body w.in-Some.body c.args.self.now w.in-Some.is i.reads.bodyless);
            counts = part.counts;
            clears = part.clears;
          }
      | then-is_empty+in_default w ↦ rw (w.self-is, w.out-is) at c.part.ensures
      | else-is_empty w ↦ rw (w.self-is, w.out-is) at c.part.ensures
    ]
