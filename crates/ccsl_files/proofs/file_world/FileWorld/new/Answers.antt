use Rattle.std.proofs.Common.{rules}
use Rattle.ccsl_files.proofs.file_world.FileWorld.new.Goals as goal

pub returns : goal.returns
returns g c = search rules
