-- One answer of a session: its text, and the stack that it leaves.
use Rattle.std.specs.Prelude.{◌≡◌, List}
use Rattle.ccsl_kernel.specs.Syntax.{System}
use Rattle.ccsl_kernel.specs.Lives.{Step}
use Rattle.ccsl_session.specs.declared.answers.Session.{Session}
use Rattle.ccsl_session.specs.Asked.{Asked}
use Rattle.ccsl_session.specs.Answers.{answer, after}
use Rattle.ccsl_session.specs.Stack.{Stands}

abbrev pub system_of : Session → System
system_of session = session.stack.system.now

-- the declared sets of its run
abbrev pub sets_of : Session → List Step
sets_of session = session.stack.sets.items

-- it answers of the same system, by the same policy and seed
pub record SameTask (old new : Session) : Type 0 where
  pub system : new.stack.system ≡ old.stack.system
  pub policy : new.policy ≡ old.policy
  pub seed : new.seed ≡ old.seed

-- its text answers what was asked, and its stack is the one behind that
pub record Answers (asked : Asked) (old new : Session) : Type 0 where
  pub text : new.text.items ≡ answer (system_of old) old.policy old.seed (sets_of old) asked
  pub sets : sets_of new ≡ after (system_of old) old.policy old.seed (sets_of old) asked
  pub stands : Stands new.stack
