use Rattle.std.proofs.Common.{◌≡◌, ◌∙◌, ◌+◌, ap, min, length, take, drop, arith}
use Rattle.ccsl_scopes.specs.References.{reference_of}
use Rattle.ccsl_scopes.proofs.HoldLaws.{declares-all}
use Rattle.ccsl_scopes.proofs.reader.HeaderReader.declare.Goals as goal

pub returns : goal.returns
returns c limits h head words s n =
    let cut : c.min-first.result ≡ min c.args.self.now.first (length c.args.self.now.reference.items) = cc in
    let split : c.split-reference.result
    ≡ reference_of (take c.min-first.result c.args.self.now.reference.items) (drop c.min-first.result c.args.self.now.reference.items) = cc in
    let sum : c.saturating_add.result ≡ min (length c.args.self.now.scopes.items + c.split-reference.result.bare) 18446744073709551615 =
    c.saturating_add.ensures ∙ ap (λ k. min (k + c.split-reference.result.bare) 18446744073709551615) (c.len-3.ensures ∙ c.args.self.now.scopes.ok.0) in
    declares-all limits h head c.args.at words c.args.self.now c.min-first.result c.saturating_add.result c.in_ok-path.path c.split-reference.result
    c.put.new.self
    s n (omega (arith, c.if-self-lt4.false)) cut c.in_ok-path.ensures split sum c.in_ok-put.ensures.variables c.put.ensures.codes c.put.ensures.timescale
