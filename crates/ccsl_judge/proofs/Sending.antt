-- A share may go to another thread, and threads may share its monitor: they may share its system, and the rest of it is plain data.
-- Each fact is named, since a search that goes down through all types at once runs out of steps.
use denote.Ref.{NamedLft}
use denote.RattleType.{RattleType}
use denote.Param.Send.{IsSend, IsSync, sendable}
use Rattle.std.proofs.Crossing.{crosses}
use Rattle.std.specs.declared.hash.BuildHasher as BuildHasher
use Rattle.std.specs.declared.hash.Hasher as Hasher
use Rattle.ccsl_base.specs.contracts.clock_set.ClockSet as set
use Rattle.ccsl_base.specs.contracts.names.Names as names
use Rattle.ccsl_words.specs.contracts.word.Word as word
use Rattle.ccsl_kernel.specs.contracts.constraint.Constraint as constraint
use Rattle.ccsl_kernel.specs.contracts.expr.Place as place
use Rattle.ccsl_kernel.specs.contracts.expr.NumTerm as term
use Rattle.ccsl_kernel.specs.contracts.expr.WordPlace as word_place
use Rattle.ccsl_kernel.specs.contracts.expr.Value as value
use Rattle.ccsl_kernel.specs.contracts.expr.ExprTest as test
use Rattle.ccsl_kernel.specs.contracts.expr.ExprOp as op
use Rattle.ccsl_kernel.specs.contracts.expr.Expr as expr
use Rattle.ccsl_kernel.specs.contracts.group.Body as body
use Rattle.ccsl_kernel.specs.contracts.group.Group as group
use Rattle.ccsl_kernel.specs.contracts.parts.Parts as parts
use Rattle.ccsl_kernel.specs.contracts.system.System as system
use Rattle.ccsl_kernel.proofs.expr.Expr.TheLaws.TheKnot as knot
use Rattle.ccsl_state.specs.contracts.readers.Readers as clock_readers
use Rattle.ccsl_state.specs.contracts.follow.Passage as passage
use Rattle.ccsl_state.specs.contracts.part.Part as part
use Rattle.ccsl_relate.specs.contracts.violation.Violation as violation
use Rattle.ccsl_relate.specs.contracts.watched.Watched as watched
use Rattle.ccsl_relate.specs.contracts.readers.Group as places
use Rattle.ccsl_relate.specs.contracts.readers.Readers as readers
use Rattle.ccsl_relate.specs.contracts.monitor.Monitor as monitor
use Rattle.ccsl_judge.specs.contracts.share.Share as share

-- whatever their hasher
names_sync : (S H : RattleType) (b : BuildHasher.Ghosts S.Denot H.Denot) (h : Hasher.Ghosts H.Denot) → IsSync S → IsSync (names.the_field S H b h).row
names_sync S H b h s = search (sendable, crosses) depth 40

word_sync : IsSync (word.the_field).row
word_sync = search (sendable, crosses) depth 40

constraint_sync : IsSync (constraint.the_field).row
constraint_sync = search (sendable, crosses) depth 40

place_sync : IsSync (place.the_field).row
place_sync = search (sendable, crosses) depth 40

term_sync : IsSync (term.the_field).row
term_sync = search (sendable, crosses) depth 40

word_place_sync : IsSync (word_place.the_field).row
word_place_sync = search (sendable, crosses) depth 40

value_sync : IsSync (value.the_field).row
value_sync =
    let p = place_sync in
    let n = term_sync in
    let w = word_place_sync in
    search (sendable, crosses) depth 40

test_sync : IsSync (test.the_field).row
test_sync =
    let n = term_sync in
    let w = word_place_sync in
    search (sendable, crosses) depth 40

op_sync : IsSync (op.the_field).row
op_sync = search (sendable, crosses) depth 40

expr_sync : IsSync (expr.the_field).row
expr_sync =
    let p = place_sync in
    let n = term_sync in
    let w = word_place_sync in
    let v = value_sync in
    let t = test_sync in
    let o = op_sync in
    search (sendable, crosses, knot.crosses) depth 60 fits 20000

body_sync : IsSync (body.the_field).row
body_sync = let e = expr_sync in search (sendable, crosses) depth 40

group_sync : IsSync (group.the_field).row
group_sync = let b = body_sync in search (sendable, crosses) depth 40

parts_sync : IsSync (parts.the_field).row
parts_sync =
    let g = group_sync in
    let w = word_sync in
    let e = expr_sync in
    let c = constraint_sync in
    search (sendable, crosses, names_sync) depth 40

system_sync : IsSync (system.the_field).row
system_sync = let p = parts_sync in search (sendable, crosses) depth 40

set_send : IsSend (set.the_field).row
set_send = search (sendable, crosses) depth 40

watched_send : IsSend (watched.the_field).row
watched_send = search (sendable, crosses) depth 40

violation_send : IsSend (violation.the_field).row
violation_send = search (sendable, crosses) depth 40

places_send : IsSend (places.the_field).row
places_send = let s = set_send in search (sendable, crosses) depth 40

readers_send : IsSend (readers.the_field).row
readers_send = let p = places_send in search (sendable, crosses) depth 40

clock_readers_send : IsSend (clock_readers.the_field).row
clock_readers_send = let s = set_send in search (sendable, crosses) depth 40

passage_send : IsSend (passage.the_field).row
passage_send = let s = set_send in search (sendable, crosses) depth 40

part_send : (ℓ : NamedLft) → IsSend (part.the_field ℓ).row
part_send ℓ =
    let y = system_sync in
    let r = clock_readers_send in
    let p = passage_send in
    search (sendable, crosses) depth 40

pub monitor_send : (ℓ : NamedLft) → IsSend (monitor.the_field ℓ).row
monitor_send ℓ =
    let y = system_sync in
    let s = set_send in
    let w = watched_send in
    let v = violation_send in
    let r = readers_send in
    let h = part_send ℓ in
    search (sendable, crosses) depth 40

pub share_send : (ℓ : NamedLft) → IsSend (share.the_row ℓ)
share_send ℓ = let m = monitor_send ℓ in search (sendable, crosses) depth 40

set_sync : IsSync (set.the_field).row
set_sync = search (sendable, crosses) depth 40

watched_sync : IsSync (watched.the_field).row
watched_sync = search (sendable, crosses) depth 40

violation_sync : IsSync (violation.the_field).row
violation_sync = search (sendable, crosses) depth 40

places_sync : IsSync (places.the_field).row
places_sync = let s = set_sync in search (sendable, crosses) depth 40

readers_sync : IsSync (readers.the_field).row
readers_sync = let p = places_sync in search (sendable, crosses) depth 40

clock_readers_sync : IsSync (clock_readers.the_field).row
clock_readers_sync = let s = set_sync in search (sendable, crosses) depth 40

passage_sync : IsSync (passage.the_field).row
passage_sync = let s = set_sync in search (sendable, crosses) depth 40

part_sync : (ℓ : NamedLft) → IsSync (part.the_field ℓ).row
part_sync ℓ =
    let y = system_sync in
    let r = clock_readers_sync in
    let p = passage_sync in
    search (sendable, crosses) depth 40

pub monitor_sync : (ℓ : NamedLft) → IsSync (monitor.the_field ℓ).row
monitor_sync ℓ =
    let y = system_sync in
    let s = set_sync in
    let w = watched_sync in
    let v = violation_sync in
    let r = readers_sync in
    let h = part_sync ℓ in
    search (sendable, crosses) depth 40
