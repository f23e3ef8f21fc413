-- A feed that has handed out something, and not the end, may be asked for more.
use Rattle.std.proofs.Common.{ℕ, List, [], ◌++◌, Option}
use Rattle.ccsl_base.specs.declared.rows.Row.{Row}
use Rattle.ccsl_edge.specs.World.{State, Told}
use Rattle.ccsl_vcd.specs.declared.limits.Limits.{Limits}
use Rattle.ccsl_vcd.specs.Binding.{Wanted}
use Rattle.ccsl_trace.specs.Feeding.{Feeding, GivesBound, GivesRows}
use Rattle.ccsl_follow.specs.Fed.{IsFed}

module _ (told : Told) (wanted : Wanted) (limits : Limits) (start now : State) (before : Option (List ℕ)) (feed : Feeding) (rows : List Row) where
  pub fed-bound : GivesBound told wanted limits start now before feed rows → IsFed told now feed
  fed-bound g = record { wanted = wanted; limits = limits; start = start; rows = []; feeds = g.feeds }

  pub fed-rows : GivesRows told wanted limits start now before feed rows → IsFed told now feed
  fed-rows g = record { wanted = wanted; limits = limits; start = start; rows = rows ++ feed.block.rows; feeds = g.feeds }
