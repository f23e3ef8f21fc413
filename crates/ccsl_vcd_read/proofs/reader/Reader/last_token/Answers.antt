use Rattle.std.proofs.Common.{◌<◌, ◌^◌, ℕ, List, refl, sym, ap, subst, arith}
use Rattle.ccsl_vcd_lex.specs.Tokens.{settled}
use Rattle.ccsl_vcd.specs.Binding.{Wanted}
use Rattle.ccsl_vcd.specs.Reading.{story}
use Rattle.ccsl_vcd_read.specs.Reading.{Reading, StandsFor}
use Rattle.ccsl_vcd_read.proofs.StagePictures.{caused-map}
use Rattle.ccsl_vcd_read.proofs.Faults.{enter}
use Rattle.ccsl_vcd_read.proofs.Ending.{quiet-end, word-end, word-refused}
use Rattle.ccsl_vcd_read.proofs.reader.Reader.last_token.Goals as goal

pub finish-requires : goal.finish-requires
finish-requires c =
    let s = enter _ _ _ _ c.self.view_is c.requires.ready.runs c.requires.ready.stands.2 in
    let fits : c.self.inside.taken < 2 ^ 64 = subst (λ (x : Reading). x.taken < 2 ^ 64) (sym c.self.view_is) c.requires.fits in
    (c.requires.ready.stands.1, s.lexes, s.short, omega (arith, s.taken, fits))

pub hear_token-requires-clause-pictures : goal.hear_token-requires-clause-pictures
hear_token-requires-clause-pictures c =
    let s = enter _ _ _ _ c.self.view_is c.requires.ready.runs c.requires.ready.stands.2 in
    (c.requires.ready.stands.0, story c.requires.ready.stands.0 c.self.inside.limits (settled c.requires.ready.stands.1), s.pictures)

pub returns-in-Ok-clause-ends : goal.returns-in-Ok-clause-ends
returns-in-Ok-clause-ends c = λ wanted bytes t.
    let s = enter wanted _ _ bytes c.self.view_is c.requires.ready.runs t in
    let e = c.in-Some.ensures.all bytes s.lexes in
    let h = c.in-Ok.ensures.heard wanted (story wanted c.self.inside.limits (settled bytes)) s.pictures in
    rw (← c.self.view_is)
    (word-end wanted _ bytes c.in-Some.span.at c.finish.new.self.inner.last s e c.hear_token.new.self.stage _ _ _ c.hear_token.new.self h refl
    (ap (λ (x : Reading). x.rows) c.in-Ok.ensures.counts))

pub returns-in-Err-clause-refuses : goal.returns-in-Err-clause-refuses
returns-in-Err-clause-refuses c =
    caused-map c.in-Err.fault (λ r. λ (wanted : Wanted) (bytes : List ℕ) (t : StandsFor wanted c.args.self.now bytes).
    let s = enter wanted _ _ bytes c.self.view_is c.requires.ready.runs t in
    rw (← c.self.view_is)
    (word-refused wanted _ bytes c.in-Some.span.at c.finish.new.self.inner.last s (c.in-Some.ensures.all bytes s.lexes) c.in-Err.fault
    (r wanted (story wanted c.self.inside.limits (settled bytes)) s.pictures)))
    c.in-Err.ensures.refuses

pub returns-in-None-clause-ends : goal.returns-in-None-clause-ends
returns-in-None-clause-ends c = λ wanted bytes t.
    let s = enter wanted _ _ bytes c.self.view_is c.requires.ready.runs t in
    rw (← c.self.view_is) (quiet-end wanted _ _ bytes c.args.out.now.rows s (c.in-None.ensures.all bytes s.lexes) refl refl)
