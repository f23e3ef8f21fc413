use Rattle.ccsl_top.proofs.Certifying.{certified-item, certify-replies}
use Rattle.ccsl_top.proofs.certify.certify.Goals as goal

pub reply_on-requires : goal.reply_on-requires
reply_on-requires g c = record {
  item = certified-item g.W.World.told c.args.system.now (g.W.World.state c.open_in-2.new.self) (g.W.World.state c.certify-certified.new.world)
      c.certify-certified.result c.certify-certified.ensures.certified;
}

pub returns-clause-answers : goal.returns-clause-answers
returns-clause-answers g c =
    (certify-replies c.first_bad_line_is_first.ensures.certificate g.W.World.told c.args.system.now c.args.trace.now c.args.cert.now
    (g.W.World.state c.args.world.now) (g.W.World.state c.open_in.new.self) c.in_ok-open_in.ensures.ok (g.W.World.state c.open_in-2.new.self)
    c.in_ok-open_in-2.ensures.ok
    (g.W.World.state c.certify-certified.new.world) c.reply_on.result c.certify-certified.result c.certify-certified.ensures.certified
    c.certify-certified.ensures.uncertified c.reply_on.ensures).0

pub returns-clause-stop : goal.returns-clause-stop
returns-clause-stop g c =
    (certify-replies c.first_bad_line_is_first.ensures.certificate g.W.World.told c.args.system.now c.args.trace.now c.args.cert.now
    (g.W.World.state c.args.world.now) (g.W.World.state c.open_in.new.self) c.in_ok-open_in.ensures.ok (g.W.World.state c.open_in-2.new.self)
    c.in_ok-open_in-2.ensures.ok
    (g.W.World.state c.certify-certified.new.world) c.reply_on.result c.certify-certified.result c.certify-certified.ensures.certified
    c.certify-certified.ensures.uncertified c.reply_on.ensures).1
