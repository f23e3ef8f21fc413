use Rattle.std.proofs.Common.{◌<◌, ◌++◌, ℕ, [], ap, subst}
use Rattle.std.proofs.lemmas.Result.{err_from_is_err_and}
use Rattle.ccsl_events_top.specs.declared.pass.Pass.{Pass}
use Rattle.ccsl_events_top.specs.Passing.{GoesOn, InBody}
use Rattle.ccsl_events_top.proofs.Passing.{leaves}
use Rattle.ccsl_events_top.proofs.Steps.{refilled-header, stopped-header, unread-header, refilled-body, stopped-body, unread-body}
use Rattle.ccsl_events_top.proofs.pass.Pass.step.Goals as goal

-- What waits.

pub returns-in_err-feed-clause-body : goal.returns-in_err-feed-clause-body
returns-in_err-feed-clause-body g c =
    let q = err_from_is_err_and c.from_residual.result c.from_residual.ensures.1 in
    rw q.1 (λ sink start plan head text i.
    stopped-body g.W.World.told sink start _ plan head text c.args.self.now.reader.taken c.args.self.now c.feed.new.self c.in_err-feed.field-0.0 q.0 i
    (c.in_err-feed.ensures.body g.W.World.told sink start _ plan head text i) q.2)

pub returns-then-not-is_empty-clause-header : goal.returns-then-not-is_empty-clause-header
returns-then-not-is_empty-clause-header g c sink start i = c.in_ok-feed.ensures.header g.W.World.told sink start _ i

pub returns-then-not-is_empty-clause-body : goal.returns-then-not-is_empty-clause-body
returns-then-not-is_empty-clause-body g c sink start plan head text i = c.in_ok-feed.ensures.body g.W.World.told sink start _ plan head text i

-- What is read.

pub returns-in_err-refill-clause-header : goal.returns-in_err-refill-clause-header
returns-in_err-refill-clause-header g c =
    let q = err_from_is_err_and c.from_residual-in_err-refill.result c.from_residual-in_err-refill.ensures.1 in
    rw (q.1, q.2) (λ sink start i.
    unread-header g.W.World.told sink start _ _ c.args.self.now c.refill.new.self c.in_err-refill.field-0.0 i
    (c.in_err-refill.ensures.reads sink start i.given [] i.passes) (ap (λ (x : Pass). x.reader) c.refill.ensures.kept))

pub returns-in_err-refill-clause-body : goal.returns-in_err-refill-clause-body
returns-in_err-refill-clause-body g c =
    let q = err_from_is_err_and c.from_residual-in_err-refill.result c.from_residual-in_err-refill.ensures.1 in
    rw (q.1, q.2) (λ sink start plan head text i.
    unread-body g.W.World.told sink start _ _ plan head text c.args.self.now.reader.taken c.args.self.now c.refill.new.self c.in_err-refill.field-0.0 i
    c.refill.ensures.kept (c.in_err-refill.ensures.reads sink start (head ++ i.given) i.written i.passes))

pub returns-in_err-feed-2-clause-header : goal.returns-in_err-feed-2-clause-header
returns-in_err-feed-2-clause-header g c =
    let q = err_from_is_err_and c.from_residual-in_err-feed-2.result c.from_residual-in_err-feed-2.ensures.1 in
    rw q.1 (λ sink start i.
    let p = rw c.if-branch.true at (c.in_ok-refill.ensures.reads sink start i.given [] i.passes) in
    let j = refilled-header g.W.World.told sink start (g.W.World.state c.refill.new.world) _ c.args.self.now c.refill.new.self i c.refill.ensures.kept p in
    stopped-header g.W.World.told sink start _ 0 c.feed-then-branch.new.self c.in_err-feed-2.field-0.0 q.0
    (leaves g.W.World.told sink start _ c.refill.new.self i.given [] p) (c.in_err-feed-2.ensures.header g.W.World.told sink start _ j) q.2)

pub returns-in_err-feed-2-clause-body : goal.returns-in_err-feed-2-clause-body
returns-in_err-feed-2-clause-body g c =
    let q = err_from_is_err_and c.from_residual-in_err-feed-2.result c.from_residual-in_err-feed-2.ensures.1 in
    rw q.1 (λ sink start plan head text i.
    let p = rw c.if-branch.true at (c.in_ok-refill.ensures.reads sink start (head ++ i.given) i.written i.passes) in
    let j = refilled-body g.W.World.told sink start (g.W.World.state c.refill.new.world) _ plan head text c.args.self.now c.refill.new.self i
    c.refill.ensures.kept p in
    stopped-body g.W.World.told sink start _ plan head text c.args.self.now.reader.taken c.refill.new.self c.feed-then-branch.new.self
    c.in_err-feed-2.field-0.0 q.0 j (c.in_err-feed-2.ensures.body g.W.World.told sink start _ plan head text j) q.2)

pub returns-then-branch-clause-header : goal.returns-then-branch-clause-header
returns-then-branch-clause-header g c sink start i =
    let p = rw c.if-branch.true at (c.in_ok-refill.ensures.reads sink start i.given [] i.passes) in
    let j = refilled-header g.W.World.told sink start (g.W.World.state c.refill.new.world) _ c.args.self.now c.refill.new.self i c.refill.ensures.kept p in
    subst (λ (n : ℕ). GoesOn g.W.World.told sink start (g.W.World.state c.refill.new.world) n c.feed-then-branch.new.self)
    (ap (λ (x : Pass). x.reader.taken) c.refill.ensures.kept) (c.in_ok-feed-2.ensures.header g.W.World.told sink start _ j)

pub returns-then-branch-clause-body : goal.returns-then-branch-clause-body
returns-then-branch-clause-body g c sink start plan head text i =
    let p = rw c.if-branch.true at (c.in_ok-refill.ensures.reads sink start (head ++ i.given) i.written i.passes) in
    let j = refilled-body g.W.World.told sink start (g.W.World.state c.refill.new.world) _ plan head text c.args.self.now c.refill.new.self i
    c.refill.ensures.kept p in
    subst (λ (n : ℕ). InBody g.W.World.told sink start (g.W.World.state c.refill.new.world) plan head text c.feed-then-branch.new.self
    × (n < c.feed-then-branch.new.self.reader.taken))
    (ap (λ (x : Pass). x.reader.taken) c.refill.ensures.kept) (c.in_ok-feed-2.ensures.body g.W.World.told sink start _ plan head text j)

-- The end.

pub returns-in_err-end_token-clause-header : goal.returns-in_err-end_token-clause-header
unfolding refilled-header
returns-in_err-end_token-clause-header g c =
    let q = err_from_is_err_and c.from_residual-in_err-end_token.result c.from_residual-in_err-end_token.ensures.1 in
    rw q.1 (λ sink start i.
    let a = rw c.if-branch.false at (c.in_ok-refill.ensures.reads sink start i.given [] i.passes) in
    let j = refilled-header g.W.World.told sink start (g.W.World.state c.refill.new.world) _ c.args.self.now c.refill.new.self i c.refill.ensures.kept
    a.passes in
    stopped-header g.W.World.told sink start _ 0 c.end_token.new.self c.in_err-end_token.field-0.0 q.0
    (leaves g.W.World.told sink start _ c.refill.new.self i.given [] a.passes) (c.in_err-end_token.ensures.header g.W.World.told sink start _ j a) q.2)

pub returns-in_err-end_token-clause-body : goal.returns-in_err-end_token-clause-body
unfolding refilled-body
returns-in_err-end_token-clause-body g c =
    let q = err_from_is_err_and c.from_residual-in_err-end_token.result c.from_residual-in_err-end_token.ensures.1 in
    rw q.1 (λ sink start plan head text i.
    let a = rw c.if-branch.false at (c.in_ok-refill.ensures.reads sink start (head ++ i.given) i.written i.passes) in
    let j = refilled-body g.W.World.told sink start (g.W.World.state c.refill.new.world) _ plan head text c.args.self.now c.refill.new.self i
    c.refill.ensures.kept a.passes in
    stopped-body g.W.World.told sink start _ plan head text c.args.self.now.reader.taken c.refill.new.self c.end_token.new.self
    c.in_err-end_token.field-0.0 q.0 j (c.in_err-end_token.ensures.body g.W.World.told sink start _ plan head text j a) q.2)

pub returns-clause-header : goal.returns-clause-header
unfolding refilled-header
returns-clause-header g c sink start i =
    let a = rw c.if-branch.false at (c.in_ok-refill.ensures.reads sink start i.given [] i.passes) in
    let j = refilled-header g.W.World.told sink start (g.W.World.state c.refill.new.world) _ c.args.self.now c.refill.new.self i c.refill.ensures.kept
    a.passes in
    subst (λ (n : ℕ). GoesOn g.W.World.told sink start (g.W.World.state c.refill.new.world) n c.end_token.new.self)
    (ap (λ (x : Pass). x.reader.taken) c.refill.ensures.kept) (c.in_ok-end_token.ensures.header g.W.World.told sink start _ j a)

pub returns-clause-body : goal.returns-clause-body
unfolding refilled-body
returns-clause-body g c sink start plan head text i =
    let a = rw c.if-branch.false at (c.in_ok-refill.ensures.reads sink start (head ++ i.given) i.written i.passes) in
    let j = refilled-body g.W.World.told sink start (g.W.World.state c.refill.new.world) _ plan head text c.args.self.now c.refill.new.self i
    c.refill.ensures.kept a.passes in
    subst (λ (n : ℕ). InBody g.W.World.told sink start (g.W.World.state c.refill.new.world) plan head text c.end_token.new.self
    × (n < c.end_token.new.self.reader.taken))
    (ap (λ (x : Pass). x.reader.taken) c.refill.ensures.kept) (c.in_ok-end_token.ensures.body g.W.World.told sink start _ plan head text j a)
