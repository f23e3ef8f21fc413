use Rattle.std.proofs.Common.{◌≡◌, ◌-◌, ◌≤◌, ◌<◌, [], length, take, None, refl, sym, ap, ◌∙◌, arith, length-take}
use Rattle.ccsl_vcd_read.specs.Reading.{Reading}
use Rattle.ccsl_vcd_read.proofs.Faults.{enter, taken}
use Rattle.ccsl_vcd_read.proofs.Taking.{running-of, stands-of}
use Rattle.ccsl_vcd_read.proofs.Filling.{race-filled}
use Rattle.ccsl_vcd_read.proofs.Racing.{raced, few-pushed, rows-less}
use Rattle.ccsl_vcd_read.proofs.reader.Reader.race.Goals as goal

pub overflow_sub-self-inside : goal.overflow_sub-self-inside
overflow_sub-self-inside c =
    let s = enter _ _ _ _ c.self.view_is c.requires.ready.runs c.requires.ready.stands.2 in
    omega (arith, s.taken, s.within)

pub run-count-requires-clause-fits : goal.run-count-requires-clause-fits
run-count-requires-clause-fits c =
    let s = enter _ _ _ _ c.self.view_is c.requires.ready.runs c.requires.ready.stands.2 in
    let n = ap length c.front-piece.ensures ∙ length-take _ c.args.piece.now in
    omega (arith, s.within, s.taken, n)

pub pass-requires-clause-fits : goal.pass-requires-clause-fits
pass-requires-clause-fits c =
    let s = enter _ _ _ _ c.self.view_is c.requires.ready.runs c.requires.ready.stands.2 in
    let k = taken c.args.piece.now c.run-count.result c.front-piece.ensures c.run-count.ensures.within in
    let few : c.run-count.result ≤ c.self.inside.limits.bytes - c.self.inside.taken = k.few in
    (c.requires.ready.stands.1, s.lexes, omega (arith, s.taken, s.within, few))

pub overflow_add-self : goal.overflow_add-self
overflow_add-self c =
    let s = enter _ _ _ _ c.self.view_is c.requires.ready.runs c.requires.ready.stands.2 in
    let k = taken c.args.piece.now c.run-count.result c.front-piece.ensures c.run-count.ensures.within in
    let few : c.run-count.result ≤ c.self.inside.limits.bytes - c.self.inside.taken = k.few in
    omega (arith, s.taken, s.within, few)

pub overflow_sub-self : goal.overflow_sub-self
overflow_sub-self c =
    let pushed = few-pushed _ _ _ _ _ _ c.run-count.ensures.runs in
    omega (arith, pushed.0, c.len.ensures, c.len-before.ensures)

pub overflow_add-self-2 : goal.overflow_add-self-2
overflow_add-self-2 c =
    let ready = c.requires.ready in
    let s = enter _ _ _ _ c.self.view_is ready.runs ready.stands.2 in
    let k = taken c.args.piece.now c.run-count.result c.front-piece.ensures c.run-count.ensures.within in
    let few : c.run-count.result ≤ c.self.inside.limits.bytes - c.self.inside.taken = k.few in
    let size : length (take c.run-count.result c.front-piece.result.now) ≡ c.run-count.result = k.size in
    let pushed = few-pushed _ _ _ _ _ _ c.run-count.ensures.runs in
    let less : c.self.inside.rows < c.self.inside.taken = rows-less ready.stands.0 _ ready.stands.1 s (sym c.is_body.ensures ∙ c.if-not-is_body.false) in
    omega (arith, s.taken, s.within, few, size, pushed.0, pushed.1, less, c.len.ensures, c.len-before.ensures)

pub returns : goal.returns
returns c =
    let runs : c.self.inside.fault ≡ None = ap (λ (x : Reading). x.fault) c.self.view_is ∙ c.requires.ready.runs in
    let open_text : c.self.inside.lexer.inner.open_text ≡ [] = ap (λ (x : Reading). x.lexing.inner.open_text) c.self.view_is ∙ c.requires.nothing_open in
    let k = taken c.args.piece.now c.run-count.result c.front-piece.ensures c.run-count.ensures.within in
    rw (← c.self.view_is) (record {
      within = k.within;
      runs = runs;
      limits = refl;
      room = c.run-count.ensures.room;
      took = λ wanted bytes t.
          let s = running-of wanted _ bytes runs t in
          let r = raced wanted _ c.pass.new.self bytes c.args.piece.now c.front-piece.result.now c.run-count.new.stage c.run-count.result
          c.len.result c.len-before.result c.args.out.now.rows c.run-count.new.out.rows s k c.run-count.ensures.runs open_text c.pass.ensures
          c.len.ensures c.len-before.ensures in
          record {
            stands = stands-of wanted _ _ runs r.runs;
            pushes = r.pushes;
            header = r.past;
            filled = λ full. race-filled wanted _ bytes c.args.piece.now c.front-piece.result.now c.run-count.result c.args.out.now
                s k (c.run-count.ensures.full full) open_text;
          };
    })
