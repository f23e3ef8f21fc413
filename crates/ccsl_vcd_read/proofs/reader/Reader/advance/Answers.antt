use Rattle.std.proofs.Common.{◌≡◌, ◌-◌, ◌++◌, take, None, refl, sym, ap, ◌∙◌, arith, rules}
use Rattle.ccsl_vcd_lex.specs.Tokens.{settled}
use Rattle.ccsl_vcd_lex.specs.Lexing.{named}
use Rattle.ccsl_vcd.specs.declared.fault.VcdFault.TheVariants as faults
use Rattle.ccsl_vcd.specs.Reading.{story}
use Rattle.ccsl_vcd_read.specs.Staging.{shown}
use Rattle.ccsl_vcd_read.specs.Reading.{Reading}
use Rattle.ccsl_vcd_read.proofs.HeadPictures.{weaken}
use Rattle.ccsl_vcd_read.proofs.StagePictures.{caused-map}
use Rattle.ccsl_vcd_read.proofs.Taking.{running-of, stands-of, quiet, quiet-pushes, quiet-past, word-runs, word-pushes, word-header}
use Rattle.ccsl_vcd_read.proofs.Filling.{quiet-room}
use Rattle.ccsl_vcd_read.proofs.Faults.{enter, taken, fed-of, before-last, room-for, rows-fit, cut-some}
use Rattle.ccsl_vcd_read.proofs.Faults.{breaks-in, breaks-whole, stops-of, over-breaks, long-breaks, refused-breaks}
use Rattle.ccsl_vcd_read.proofs.reader.Reader.advance.Goals as goal

pub overflow_sub-left : goal.overflow_sub-left
overflow_sub-left c =
    let s = enter _ _ _ _ c.self.view_is c.requires.ready.runs c.requires.ready.stands.2 in
    omega (arith, s.taken, s.within)

pub returns-then-left-eq0-clause-stops : goal.returns-then-left-eq0-clause-stops
returns-then-left-eq0-clause-stops c =
    let runs : c.self.inside.fault ≡ None = ap (λ (x : Reading). x.fault) c.self.view_is ∙ c.requires.ready.runs in
    let after = c.fail.ensures.after in
    rw (← c.self.view_is, c.fail.ensures.result) (stops-of
    (weaken (faults.TooLong c.self.inside.limits.bytes) (λ wanted bytes stands.
    breaks-whole (over-breaks wanted _ bytes c.args.piece.now c.args.out.now.rows (running-of wanted _ bytes runs stands) c.if-left-eq0.true c.requires.some)))
    (ap (λ (x : Reading). x.fault) after) (ap (λ (x : Reading). x.limits) after ∙ sym (ap (λ (x : Reading). x.limits) c.self.view_is))
    (ap (λ (x : Reading). shown x.stage) after ∙ sym (ap (λ (x : Reading). shown x.stage) c.self.view_is)) refl (λ _. tt))

pub feed_run-requires : goal.feed_run-requires
feed_run-requires c =
    let ready = c.requires.ready in
    let s = enter _ _ _ _ c.self.view_is ready.runs ready.stands.2 in
    (ready.stands.1, s.lexes, s.short, room-for c.args.piece.now s c.front-piece.ensures (omega arith))

pub hear_token-requires-clause-pictures : goal.hear_token-requires-clause-pictures
hear_token-requires-clause-pictures c =
    let ready = c.requires.ready in
    let s = enter _ _ _ _ c.self.view_is ready.runs ready.stands.2 in
    (ready.stands.0, story ready.stands.0 c.self.inside.limits (settled ready.stands.1), s.pictures)

pub hear_token-requires-clause-rows : goal.hear_token-requires-clause-rows
hear_token-requires-clause-rows c =
    let ready = c.requires.ready in
    rows-fit ready.stands.0 _ ready.stands.1 (enter _ _ _ _ c.self.view_is ready.runs ready.stands.2) (omega arith)

pub returns-in-None-clause-takes : goal.returns-in-None-clause-takes
returns-in-None-clause-takes c =
    let runs : c.self.inside.fault ≡ None = ap (λ (x : Reading). x.fault) c.self.view_is ∙ c.requires.ready.runs in
    let piece = c.args.piece.now in
    let k = c.in-Ok.fed.bytes in
    let lx = c.feed_run.new.self in
    let some = c.in-Ok.ensures.moves (cut-some piece c.front-piece.ensures (omega arith) c.requires.some) in
    let t = taken piece k c.front-piece.ensures c.in-Ok.ensures.within in
    rw (← c.self.view_is) (record {
      within = t.within;
      runs = runs;
      limits = refl;
      room = refl;
      took = λ wanted bytes stands.
          let s = running-of wanted _ bytes runs stands in
          let f = fed-of piece s t some (c.in-Ok.ensures.stands bytes s.lexes) (c.in-Ok.ensures.short bytes s.lexes)
          (c.in-Ok.ensures.settled bytes s.lexes ∙ ap (λ o. settled bytes ++ named o lx.inner.last) c.in-None.is) in
          let more = bytes ++ take k piece in
          record {
            stands = stands-of wanted _ more runs (quiet wanted _ lx bytes more k s f);
            pushes = quiet-pushes wanted _ lx bytes more k s f c.args.out.now.rows;
            header = quiet-past wanted _ lx bytes more k s f;
            filled = λ full. absurd (omega (arith, full, c.requires.ready.room));
          };
    })

pub returns-in-Ok-hear_token-clause-takes : goal.returns-in-Ok-hear_token-clause-takes
returns-in-Ok-hear_token-clause-takes c =
    let runs : c.self.inside.fault ≡ None = ap (λ (x : Reading). x.fault) c.self.view_is ∙ c.requires.ready.runs in
    let piece = c.args.piece.now in
    let k = c.in-Ok.fed.bytes in
    let lx = c.feed_run.new.self in
    let at = c.in-Some.span.at in
    let some = c.in-Ok.ensures.moves (cut-some piece c.front-piece.ensures (omega arith) c.requires.some) in
    let t = taken piece k c.front-piece.ensures c.in-Ok.ensures.within in
    let before = taken piece (k - 1) c.front-piece.ensures (omega (arith, c.in-Ok.ensures.within)) in
    let by_last = rw c.in-Some.is at c.in-Ok.ensures.by_last in
    let counts = c.in-Ok-hear_token.ensures.counts in
    let new_runs = ap (λ (x : Reading). x.fault) counts ∙ runs in
    rw (← c.self.view_is) (record {
      within = t.within;
      runs = new_runs;
      limits = ap (λ (x : Reading). x.limits) counts;
      room = c.in-Ok-hear_token.ensures.room;
      took = λ wanted bytes stands.
          let s = running-of wanted _ bytes runs stands in
          let f = fed-of piece s t some (c.in-Ok.ensures.stands bytes s.lexes) (c.in-Ok.ensures.short bytes s.lexes)
          (c.in-Ok.ensures.settled bytes s.lexes ∙ ap (λ o. settled bytes ++ named o lx.inner.last) c.in-Some.is) in
          let h = c.in-Ok-hear_token.ensures.heard wanted (story wanted c.self.inside.limits (settled bytes)) s.pictures in
          let same = ap (λ xs. settled (bytes ++ xs)) (sym before.same) ∙ by_last bytes s.lexes in
          let more = bytes ++ take k piece in
          record {
            stands = stands-of wanted c.hear_token.new.self more new_runs (rw counts (word-runs wanted _ lx bytes more k at lx.inner.last s f _ _ _ _ h));
            pushes = word-pushes wanted _ lx bytes more k at lx.inner.last s f _ _ _ _ h;
            header = word-header wanted _ lx bytes more k at lx.inner.last s f _ _ _ _ piece h refl (before-last piece s t) same;
            filled = λ _. quiet-room wanted _ bytes (take (k - 1) piece) c.args.out.now s (before-last piece s t) same c.requires.ready.room;
          };
    })

pub returns-in-Err-hear_token-clause-stops : goal.returns-in-Err-hear_token-clause-stops
returns-in-Err-hear_token-clause-stops c =
    let runs : c.self.inside.fault ≡ None = ap (λ (x : Reading). x.fault) c.self.view_is ∙ c.requires.ready.runs in
    let piece = c.args.piece.now in
    let k = c.in-Ok.fed.bytes in
    let lx = c.feed_run.new.self in
    let some = c.in-Ok.ensures.moves (cut-some piece c.front-piece.ensures (omega arith) c.requires.some) in
    let t = taken piece k c.front-piece.ensures c.in-Ok.ensures.within in
    let fault = c.in-Err-hear_token.fault in
    let stops = c.in-Err-hear_token.ensures.stops in
    let kept = c.in-Err-hear_token.ensures.kept in
    rw (← c.self.view_is) (stops-of
    (caused-map fault (λ r. λ wanted bytes stands.
    let s = running-of wanted _ bytes runs stands in
    let f = fed-of piece s t some (c.in-Ok.ensures.stands bytes s.lexes) (c.in-Ok.ensures.short bytes s.lexes)
    (c.in-Ok.ensures.settled bytes s.lexes ∙ ap (λ o. settled bytes ++ named o lx.inner.last) c.in-Some.is) in
    breaks-in piece k (refused-breaks wanted _ lx bytes piece k c.in-Some.span.at lx.inner.last s f fault c.args.out.now.rows
    (r wanted (story wanted c.self.inside.limits (settled bytes)) s.pictures)))
    c.in-Err-hear_token.ensures.refuses)
    (ap (λ (x : Reading). x.fault) stops) (ap (λ (x : Reading). x.limits) stops) kept.1 kept.0 c.in-Err-hear_token.ensures.calm)

pub returns-in-Err-clause-stops : goal.returns-in-Err-clause-stops
returns-in-Err-clause-stops c =
    let runs : c.self.inside.fault ≡ None = ap (λ (x : Reading). x.fault) c.self.view_is ∙ c.requires.ready.runs in
    let after = c.fail-in-Err.ensures.after in
    rw (← c.self.view_is, c.fail-in-Err.ensures.result) (stops-of
    (weaken (faults.TokenTooLong c.in-Err.long.at) (λ wanted bytes stands.
    let s = running-of wanted _ bytes runs stands in
    breaks-in c.args.piece.now _ (long-breaks wanted _ bytes c.args.piece.now c.front-piece.result.now c.in-Err.long.at c.args.out.now.rows s
    c.front-piece.ensures (c.in-Err.ensures.broke bytes s.lexes s.short))))
    (ap (λ (x : Reading). x.fault) after) (ap (λ (x : Reading). x.limits) after) (ap (λ (x : Reading). shown x.stage) after) refl (λ _. tt))

pub returns-in-Ok-hear_token-clause-moves : goal.returns-in-Ok-hear_token-clause-moves
returns-in-Ok-hear_token-clause-moves c = search rules

pub returns-in-None-clause-moves : goal.returns-in-None-clause-moves
returns-in-None-clause-moves c = search rules
