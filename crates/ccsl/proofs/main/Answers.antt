use Rattle.ccsl_command.specs.Opened.{files_opened}
use Rattle.ccsl.proofs.Allowed.{all-allowed}
use Rattle.ccsl.proofs.main.Goals as goal

pub run-status-requires-after_bounds : goal.run-status-requires-after_bounds
run-status-requires-after_bounds g c = λ κs. all-allowed (files_opened c.as_slice.result.now)
