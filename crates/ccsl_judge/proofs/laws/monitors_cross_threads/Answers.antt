use denote.Param.Send.{sendable}
use Rattle.ccsl_judge.proofs.Sending.{monitor_send, monitor_sync}
use Rattle.ccsl_judge.proofs.laws.monitors_cross_threads.Goals as goal

pub crosses_threads-requires-send-T : goal.crosses_threads-requires-send-T
crosses_threads-requires-send-T c = λ κs. search (sendable, monitor_send) depth 40

pub crosses_threads-requires-sync-T : goal.crosses_threads-requires-sync-T
crosses_threads-requires-sync-T c = λ κs. search (sendable, monitor_sync) depth 40
