use Rattle.std.proofs.Common.{◌≡◌, ℕ, ◌++◌, ◌-◌, ◌≤◌, length, take, ap, ◌∙◌, subst, arith, length-drop}
use Rattle.std.proofs.lemmas.Result.{err_from_is_err_and}
use Rattle.ccsl_events.specs.Fed.{Hears, Reaches}
use Rattle.ccsl_events.proofs.Opening.{header-more, header-rest, still-inside, inside-fits}
use Rattle.ccsl_events.proofs.Run.{rest-none, rest-more}
use Rattle.ccsl_events.proofs.Feeding.{feed-more, feed-breaks, rest-fits}
use Rattle.ccsl_events.proofs.reader.Reader.feed.Goals as goal
use Rattle.ccsl_base.proofs.Cases.{rest-is, rest_at}

pub strides-init : goal.strides-init
strides-init c =
    let piece = c.args.piece.now in
    let first = c.in_ok-first.first in
    let here = rest-is first piece in
    let len : length (rest_at first piece) ≡ length piece - first = ap length here ∙ length-drop first piece in
    let within : first ≤ length piece = c.in_ok-first.ensures.within.1 in
    record {
      some = omega (arith, len, c.in_ok-first.ensures.within.0, within);
      rest = rest-more first piece piece _ (rest-none piece) within here;
      counts = λ fits. omega (arith, len, within, c.in_ok-first.ensures.counts fits);
      clears = c.in_ok-first.ensures.clears;
      hears = λ limits before among h i fits.
          let a = c.in_ok-first.ensures.heads limits before among h i fits in
          (subst (λ (n : ℕ). Hears limits (before ++ take n piece) c.stride.new.self) (omega (arith, len, within)) a.0, a.1);
      reaches = λ plan start before p h fits.
          subst (λ (i : ℕ). Reaches plan start (before ++ take i piece) p.written c.stride.new.self c.args.out.now.items c.stride.new.out.items)
          (omega (arith, len, within))
          (c.in_ok-first.ensures.feeds plan start before p h fits);
    }

pub strides-preserved : goal.strides-preserved
strides-preserved c =
    let piece = c.args.piece.now in
    let rest = c.strides.rest.now in
    let so = c.strides.invariant.rest in
    let taken = c.in_ok-taken.taken in
    let here = rest-is taken rest in
    let len : length (rest_at taken rest) ≡ length rest - taken = ap length here ∙ length-drop taken rest in
    let within : taken ≤ length rest = c.in_ok-taken.ensures.within.1 in
    record {
      some = omega (arith, len, c.strides.invariant.some);
      rest = rest-more taken piece rest _ so within here;
      counts = λ fits.
          let before = c.strides.invariant.counts fits in
          omega (arith, so.fits, len, within, before, c.in_ok-taken.ensures.counts (omega (arith, so.fits, fits, before)));
      clears = λ old. c.in_ok-taken.ensures.clears c.if-not-self.true;
      hears = λ limits before among h i fits.
          let a = c.strides.invariant.hears limits before among h i fits in
          let s = still-inside limits (before ++ take (length piece - length rest) piece) c.strides.self c.if-not-self.true a.0 in
          let b = c.in_ok-taken.ensures.heads limits (before ++ take (length piece - length rest) piece) s.among s.heading s.inside
          (inside-fits limits before piece rest among h s.among s.heading c.args.self.now c.strides.self so i s.inside fits) in (
            subst (λ (n : ℕ). Hears limits (before ++ take n piece) c.stride-in-strides.new.self) (omega (arith, so.fits, len, within))
                (header-more limits before piece rest taken c.stride-in-strides.new.self so b.0),
            b.1 ∙ a.1,
          );
      reaches = λ plan start before p h fits.
          let a = c.strides.invariant.reaches plan start before p h fits in
          subst (λ (i : ℕ). Reaches plan start (before ++ take i piece) p.written c.stride-in-strides.new.self c.args.out.now.items
          c.stride-in-strides.new.out.items) (omega (arith, so.fits, len, within))
          (feed-more plan start before piece rest p.written taken c.strides.self c.stride-in-strides.new.self c.args.out.now.items c.strides.out.items
          c.stride-in-strides.new.out.items so a
          (c.in_ok-taken.ensures.feeds plan start (before ++ take (length piece - length rest) piece) a.place a.taken
          (rest-fits plan start before piece rest p.written p c.args.self.now c.strides.self c.args.out.now.items c.strides.out.items h so a fits)));
    }

pub returns-in_err-taken-clause-takes : goal.returns-in_err-taken-clause-takes
returns-in_err-taken-clause-takes c =
    let q = err_from_is_err_and c.from_residual-in_err-taken.result c.from_residual-in_err-taken.ensures.1 in
    let piece = c.args.piece.now in
    let rest = c.strides.rest.now in
    let so = c.strides.invariant.rest in
    rw (q.1, q.2) (record {
      within = tt;
      feeds = λ plan start before p h fits.
          let a = c.strides.invariant.reaches plan start before p h fits in
          feed-breaks plan start before piece rest p.written c.strides.self c.in_err-taken.field-0.0
          c.args.out.now.items c.strides.out.items c.stride-in-strides.new.out.items so a
          (c.in_err-taken.ensures.feeds plan start (before ++ take (length piece - length rest) piece) a.place a.taken
          (rest-fits plan start before piece rest p.written p c.args.self.now c.strides.self c.args.out.now.items c.strides.out.items h so a fits));
      heads = λ limits before among h i fits.
          let a = c.strides.invariant.hears limits before among h i fits in
          let s = still-inside limits (before ++ take (length piece - length rest) piece) c.strides.self c.if-not-self.true a.0 in
          header-rest limits before piece rest c.in_err-taken.field-0.0 so
          (c.in_err-taken.ensures.heads limits (before ++ take (length piece - length rest) piece) s.among s.heading s.inside
          (inside-fits limits before piece rest among h s.among s.heading c.args.self.now c.strides.self so i s.inside fits));
      counts = tt;
      clears = tt;
    })

pub returns-in_err-first-clause-takes : goal.returns-in_err-first-clause-takes
returns-in_err-first-clause-takes c =
    let q = err_from_is_err_and c.from_residual.result c.from_residual.ensures.1 in
    rw (q.1, q.2) c.in_err-first.ensures
