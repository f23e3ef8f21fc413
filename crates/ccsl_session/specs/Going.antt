-- A session under way: what was read, answered and written so far, and what its next turn does.
use Rattle.std.specs.Prelude.{◌≡◌, ℕ, List, [], ◌++◌, true, false, Bool, Option, Some, None, IsTrue, if◌then◌else◌}
use Rattle.std.specs.List.{list_any}
use Rattle.ccsl_edge.specs.declared.slot.Slot.TheVariants.{Input, Report}
use Rattle.ccsl_edge.specs.World.{State, Told}
use Rattle.ccsl_edge.specs.Calls.{Adds, AddsFront}
use Rattle.ccsl_kernel.specs.Syntax.{System}
use Rattle.ccsl_kernel.specs.Lives.{Step}
use Rattle.ccsl_policy.specs.declared.policies.Policy.{Policy}
use Rattle.ccsl_lines.specs.declared.reader.Next.{Next}
use Rattle.ccsl_lines.specs.declared.reader.Next.TheVariants as next
use Rattle.ccsl_lines.specs.Lines as lines
use Rattle.ccsl_lines.specs.Held.{Held, StandsFor}
use Rattle.ccsl_lines.specs.Given.{Gives}
use Rattle.ccsl_session.specs.declared.answer.Ended.{Ended}
use Rattle.ccsl_session.specs.declared.answer.Ended.TheVariants as ended
use Rattle.ccsl_edge.specs.declared.stop.Stop.{Stop}
use Rattle.ccsl_edge.specs.declared.stop.Stop.TheVariants.{Fault, Memory}
use Rattle.ccsl_session.specs.declared.answers.Session.{Session}
use Rattle.ccsl_session.specs.declared.world.Heard.{Heard}
use Rattle.ccsl_session.specs.declared.world.Heard.TheVariants.{Asks, Ends}
use Rattle.ccsl_session.specs.Asked.{Asked, asked, is_quit}
use Rattle.ccsl_session.specs.Reading.{plain}
use Rattle.ccsl_session.specs.Answers.{answer, answers, answers_over, after}
use Rattle.ccsl_session.specs.Rest.{IsAskedFor}
use Rattle.ccsl_session.specs.Leaving.{Says, SameCounts, HasEnded}
use Rattle.ccsl_session.specs.Stack.{Stands}
use Rattle.ccsl_session.specs.Answering.{system_of, sets_of}

module _ (told : Told) (K : System) (policy : Policy) (seed limit : ℕ) (old : State) where
  abbrev pub quits_at : lines.Line → Bool
  quits_at line = is_quit (asked K line)

  -- of the lines that were handed out some were answered, none of them by `bye`, and the others wait; R are the sets of the run
  pub record Goes (now : State) (held : Held) (R : List Step) (waiting : List lines.Line) : Type 0 where
    pub bytes : List ℕ
    pub given : List lines.Line
    pub text : List ℕ
    pub says : Says told K policy seed limit old now text
    pub counts : SameCounts told K policy seed limit old now
    pub limit_is : held.limit ≡ limit
    pub left : IsTrue told.left → (old.slot_of Input).left ≡ bytes ++ (now.slot_of Input).left
    pub ended : held.ended ≡ true → IsTrue told.left → (now.slot_of Input).left ≡ []
    pub stands : StandsFor held bytes (given ++ waiting)
    pub answered : (more : List lines.Line) → answers K policy seed (given ++ more) ≡ text ++ answers_over K policy seed R more
    pub unended : list_any quits_at given ≡ false
    pub asked_for : IsTrue told.left → IsAskedFor limit bytes

  -- the session goes on, or it has ended
  abbrev pub Turns : State → Held → List Step → Option Ended → Type 0
  Turns now held R None = Goes now held R []
  Turns now held R (Some e) = HasEnded told K policy seed limit old now e

-- what a line asks, or how the input ends
abbrev pub IsHeard : System → Held → Next → Heard → Type 0
IsHeard K held next.Line (Asks found) = plain found ≡ asked K (lines.Whole held.line)
IsHeard K held next.Long (Asks found) = plain found ≡ asked K lines.Long
IsHeard K held next.Ended (Ends e) = e ≡ ended.EndOfInput
IsHeard K held next.TooLong (Ends e) = e ≡ ended.TooLong
IsHeard _ _ _ _ = ⊥

-- whether a line was heard
abbrev pub is_line : Heard → Bool
is_line (Asks found) = true
is_line (Ends e) = false

pub record Hears (told : Told) (K : System) (old new : State) (before after : Held) (heard : Heard) : Type 0 where
  pub found : Next
  pub gives : Gives told old new before after found
  pub is : IsHeard K after found heard

-- the answer to what was asked is written
pub record Replies (told : Told) (asked : Asked) (session later : Session) (old new : State) (end : Option Ended) : Type 0 where
  pub adds : Adds told Report (answer (system_of session) session.policy session.seed (sets_of session) asked) old new
  pub sets : sets_of later ≡ after (system_of session) session.policy session.seed (sets_of session) asked
  pub stands : Stands later.stack
  pub ends : end ≡ (if is_quit asked then Some ended.Quit else None)

-- a front of it is, or nothing
abbrev pub NotWritten : Told → List ℕ → State → State → Stop → Type 0
NotWritten told text old new Fault = AddsFront told Report text old new
NotWritten told text old new Memory = new ≡ old

abbrev pub RepliesNot : Told → Asked → Session → State → State → Stop → Type 0
RepliesNot told asked session = NotWritten told (answer (system_of session) session.policy session.seed (sets_of session) asked)
