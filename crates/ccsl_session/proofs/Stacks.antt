-- What the stack of a session is: a run, from which every line goes on to a stack.
use Rattle.std.proofs.Common.{◌≡◌, ◌≢◌, ℕ, ◌-◌, List, [], ◌∷◌, ◌++◌, length, take, codes, Bool, true, false, ◌&&◌, Option, Some, None, if◌then◌else◌, refl, sym}
use Rattle.std.proofs.Common.{ap, ◌∙◌, subst, arith, length-append}
use Rattle.std.specs.Str.{bytes_eq}
use Rattle.std.proofs.lemmas.Bool.{and_parts}
use Rattle.std.proofs.lemmas.List.{take_all, take-append-le}
use Rattle.ccsl_kernel.specs.Syntax.{System}
use Rattle.ccsl_kernel.specs.Lives.{Step}
use Rattle.ccsl_kernel.specs.Accepted.{IsAccepted}
use Rattle.ccsl_kernel.specs.Runs.{IsAdmissible, full_step, completed, is_declared}
use Rattle.ccsl_kernel.proofs.Completion.{completed-append}
use Rattle.ccsl_items.specs.Laws.{IsNamedRun}
use Rattle.ccsl_items.proofs.Solutions.{admissible_solution, solution_full, solution_run}
use Rattle.ccsl_policy.specs.declared.policies.Policy.{Policy}
use Rattle.ccsl_lines.specs.Lines.{Line, Whole, Long as TooLong}
use Rattle.ccsl_simulate.specs.Simulation.{words_of_step}
use Rattle.ccsl_simulate.proofs.Choosing.{chosen-best}
use Rattle.ccsl_possible.specs.Possible.{first_failing}
use Rattle.ccsl_possible.specs.Laws.{UnforbiddenSetsAreAdmissible}
use Rattle.ccsl_session.specs.Asked.{Asked, Nothing, Fire, Next, Back, Allowed, Trace, Quit, Long, Unknown, tokens, are_clocks, set_of, asked_alone, asked_with}
use Rattle.ccsl_session.specs.Asked.{asked_words, asked}
use Rattle.ccsl_session.specs.Answers.{is_full, fired, next_set, stepped, after}
use Rattle.ccsl_session.specs.Laws.{IsStack, empty, pushed}
use Rattle.ccsl_session.proofs.NamedSets.{set_of-declared, set_of-some}
use Rattle.ccsl_base.proofs.Sets.{by_case}

-- ONE SET MORE
pub completed-snoc : (K : System) (R : List Step) (s : Step) → completed K (R ++ s ∷ []) ≡ completed K R ++ full_step K (completed K R) s ∷ []
completed-snoc K R s = completed-append K R (s ∷ []) []

run_more : (K : System) → IsAccepted K → (T : List Step) → IsNamedRun K T → (s : Step) → IsAdmissible K T s → IsNamedRun K (T ++ full_step K T s ∷ [])
run_more K ok T run s a =
    let q = admissible_solution K ok T run s a in
    let f = solution_full K ok T run q.0 q.1 in
    subst (λ u. IsNamedRun K (T ++ u ∷ [])) (sym (ap (full_step K T) (sym q.2) ∙ f.declared)) (solution_run K ok T run q.0 q.1)

-- WHAT A STACK COMPLETES TO IS A RUN
pub stack-runs : (K : System) → IsAccepted K → (R : List Step) → IsStack K R → IsNamedRun K (completed K R)
stack-runs K ok _ empty = record { run = λ n i l j. let z : ⊥ = omega arith in absurd z; named = refl }
stack-runs K ok _ (pushed R s below a) =
    subst (IsNamedRun K) (sym (completed-snoc K R s)) (run_more K ok (completed K R) (stack-runs K ok R below) s a)

-- one set less
take-snoc : (R : List Step) (s : Step) → take (length (R ++ s ∷ []) - 1) (R ++ s ∷ []) ≡ R
take-snoc R s =
    let one : length (R ++ s ∷ []) - 1 ≡ length R = omega (arith, length-append R (s ∷ [])) in
    ap (λ k. take k (R ++ s ∷ [])) one ∙ take-append-le (length R) R (s ∷ []) (omega arith) ∙ take_all (length R) R (omega arith)

pub stack-less : (K : System) (R : List Step) → IsStack K R → IsStack K (take (length R - 1) R)
stack-less K _ empty = empty
stack-less K _ (pushed R s below a) = subst (IsStack K) (sym (take-snoc R s)) below

-- WHAT A LINE MAY ASK: a nonempty set of declared clocks
abbrev IsAskable : System → Asked → Type 0
IsAskable K Nothing = Unit {0}
IsAskable K (Fire s) = (s ≢ []) × (is_declared K s ≡ true)
IsAskable K Next = Unit {0}
IsAskable K Back = Unit {0}
IsAskable K Allowed = Unit {0}
IsAskable K Trace = Unit {0}
IsAskable K Quit = Unit {0}
IsAskable K Long = Unit {0}
IsAskable K Unknown = Unit {0}

module _ (K : System) where
  either : (b : Bool) (x y : Asked) → IsAskable K x → IsAskable K y → IsAskable K (if b then x else y)
  either true x y h g = h
  either false x y h g = g

  alone-askable : (word : List ℕ) → IsAskable K (asked_alone word)
  alone-askable word =
      either (bytes_eq word (codes "step")) Next _ tt
      (either (bytes_eq word (codes "back")) Back _ tt
      (either (bytes_eq word (codes "allowed")) Allowed _ tt
      (either (bytes_eq word (codes "trace")) Trace _ tt
      (either (bytes_eq word (codes "quit")) Quit Unknown tt tt))))

  with-askable : (word name : List ℕ) (names : List (List ℕ)) → IsAskable K (asked_with K word (name ∷ names))
  with-askable word name names =
      by_case (bytes_eq word (codes "fire") && are_clocks K (name ∷ names)) _
      (λ t.
      subst (λ (b : Bool). IsAskable K (if b then Fire (set_of K (name ∷ names)) else Unknown)) (sym t)
      (set_of-some K name names (and_parts (bytes_eq word (codes "fire")) (are_clocks K (name ∷ names)) t).1, set_of-declared K (name ∷ names)))
      (λ t. subst (λ (b : Bool). IsAskable K (if b then Fire (set_of K (name ∷ names)) else Unknown)) (sym t) tt)

  words-askable : (words : List (List ℕ)) → IsAskable K (asked_words K words)
  words-askable [] = tt
  words-askable (word ∷ []) = alone-askable word
  words-askable (word ∷ name ∷ names) = with-askable word name names

  askable : (line : Line) → IsAskable K (asked K line)
  askable (Whole bytes) = words-askable (tokens bytes)
  askable TooLong = tt

  -- EVERY LINE LEAVES A STACK
  module _ (ok : IsAccepted K) (unforbidden : UnforbiddenSetsAreAdmissible K) (policy : Policy) (seed : ℕ) where
    fired-stack : (R : List Step) (s : Step) → IsStack K R → s ≢ [] → is_declared K s ≡ true →
        (o : Option ℕ) → first_failing K (completed K R) s ≡ o → IsStack K (fired K policy seed R s o)
    fired-stack R s stack some declared None e = pushed R s stack ((unforbidden (completed K R) (stack-runs K ok R stack) s some declared).0 e)
    fired-stack R s stack some declared (Some j) e = stack

    stepped-stack : (R : List Step) → IsStack K R → (o : Option Step) → next_set K policy seed R ≡ o → IsStack K (stepped K policy seed R o)
    stepped-stack R stack None e = stack
    stepped-stack R stack (Some s) e =
        pushed R s stack (chosen-best K (completed K R) policy (words_of_step K seed (length (completed K R))) s e).admissible

    unless-full : (R S : List Step) → IsStack K R → IsStack K S → IsStack K (if is_full K policy seed R then R else S)
    unless-full R S r s = elim (is_full K policy seed R) as (λ b. IsStack K (if b then R else S)) [ true ↦ r | false ↦ s ]

    pub stack-after : (R : List Step) → IsStack K R → (asked : Asked) → IsAskable K asked → IsStack K (after K policy seed R asked)
    stack-after R stack Nothing h = stack
    stack-after R stack (Fire s) h = unless-full R _ stack (fired-stack R s stack h.0 h.1 (first_failing K (completed K R) s) refl)
    stack-after R stack Next h = unless-full R _ stack (stepped-stack R stack (next_set K policy seed R) refl)
    stack-after R stack Back h = stack-less K R stack
    stack-after R stack Allowed h = stack
    stack-after R stack Trace h = stack
    stack-after R stack Quit h = stack
    stack-after R stack Long h = stack
    stack-after R stack Unknown h = stack

    pub line-leaves : (R : List Step) → IsStack K R → (line : Line) → IsStack K (after K policy seed R (asked K line))
    line-leaves R stack line = stack-after R stack (asked K line) (askable line)
