-- The whole dump is read.
use Rattle.std.proofs.Common.{◌≡◌, ◌≤◌, ℕ, ◌+◌, List, [], ◌∷◌, ◌++◌, length, drop, map, Bool, true, cond, refl, sym, ap, ◌∙◌, arith}
use Rattle.std.proofs.lemmas.Bool.{le-ltb, cases_lt}
use Rattle.ccsl_base.proofs.Cases.{no-items}
use Rattle.std.proofs.Common.{◌<◌, ◌⊎◌, inl, inr, length-drop, length-append}
use Rattle.std.proofs.lemmas.List.{drop-append-le}
use Rattle.ccsl_base.specs.declared.limits.TheConstants.{MAX_FILE_BYTES}
use Rattle.ccsl_vcd.specs.declared.fault.VcdFault.TheVariants as faults
use Rattle.ccsl_vcd_lex.specs.Tokens.{is_white, hear, tokens_from}
use Rattle.ccsl_vcd_lex.specs.Runs.{fresh_after}
use Rattle.ccsl_vcd_lex.proofs.Cuts.{all-kept, ends-before, fresh-behind, from-behind}
use Rattle.ccsl_events.specs.Dump.{Plan, Place, Story, begin, refused, ends_at, ended, story}
use Rattle.ccsl_events.specs.Run.{settled_from, story_from}
use Rattle.ccsl_events.specs.Opening.{opening}
use Rattle.ccsl_vcd.specs.declared.limits.TheConstants.{LIMITS}
use Rattle.ccsl_events_top.specs.Reading.{body_ends, story_behind}
use Rattle.ccsl_events_top.proofs.Passing.{read-short}
use Rattle.ccsl_events_top.specs.WholeDump.{HeaderIsRead, BodyIsRead}
use Rattle.std.proofs.Common.{Option, Some, None}
use Rattle.ccsl_vcd.specs.declared.fault.VcdFault.{VcdFault}

-- with a line feed behind them, bytes settle all their tokens
settled-all : (at : ℕ) (bytes : List ℕ) → settled_from at (bytes ++ 10 ∷ []) ≡ map hear (tokens_from true at bytes)
unfolding is_white
settled-all at bytes =
    let p : List ℕ = bytes ++ 10 ∷ [] in
    let fresh : fresh_after true p ≡ true = fresh-behind true bytes (10 ∷ []) (refl, tt) (omega arith) in
    ap (map hear) (all-kept (at + length p) (tokens_from true at p) (ends-before true at p fresh) ∙ from-behind true at bytes (10 ∷ []) (refl, tt))

pub header-is-read : HeaderIsRead
header-is-read dump few = ap (λ (xs : List ℕ). opening LIMITS (settled_from 0 xs)) (read-short dump few) ∙ ap (opening LIMITS) (settled-all 0 dump)

none-settled : (at : ℕ) → settled_from at [] ≡ map hear (tokens_from true at [])
unfolding tokens_from
none-settled at = refl

-- and so they do from any place on, which may be their end
settled-behind : (start : ℕ) (dump : List ℕ) → settled_from start (drop start (dump ++ 10 ∷ [])) ≡ map hear (tokens_from true start (drop start dump))
settled-behind start dump = go (cases_lt (length dump) start)
  where
    go : (length dump < start) ⊎ (start ≤ length dump)
        → settled_from start (drop start (dump ++ 10 ∷ [])) ≡ map hear (tokens_from true start (drop start dump))
    go (inl l) =
        ap (settled_from start) (no-items (drop start (dump ++ 10 ∷ [])) (omega (arith, l, length-drop start (dump ++ 10 ∷ []), length-append dump (10 ∷ []))))
        ∙ none-settled start
        ∙ ap (λ (xs : List ℕ). map hear (tokens_from true start xs)) (sym (no-items (drop start dump) (omega (arith, l, length-drop start dump))))
    go (inr l) = ap (settled_from start) (drop-append-le start dump (10 ∷ []) l) ∙ settled-all start (drop start dump)

told-all : (plan : Plan) (start : ℕ) (dump : List ℕ) → length dump ≤ MAX_FILE_BYTES
    → story_behind plan start dump ≡ story plan (map hear (tokens_from true start (drop start dump)))
unfolding story
told-all plan start dump few =
    ap (λ (xs : List ℕ). story_from plan begin (settled_from start (drop start xs))) (read-short dump few)
    ∙ ap (story_from plan begin) (settled-behind start dump)

ends-all : (plan : Plan) (dump : List ℕ) (p : Place) (f : Option VcdFault) → length dump ≤ MAX_FILE_BYTES
    → body_ends plan dump p f ≡ ended plan (length dump) p f
ends-all plan dump p None few =
    ap (λ (w : Bool). cond w (refused (faults.TooLong MAX_FILE_BYTES)) (ends_at plan (length dump) p)) (le-ltb MAX_FILE_BYTES (length dump) few)
ends-all plan dump p (Some f) few = refl

pub body-is-read : BodyIsRead
body-is-read plan start dump few =
    ap (λ (s : Story). body_ends plan dump s.place s.fault) (told-all plan start dump few)
    ∙ ends-all plan dump (story plan (map hear (tokens_from true start (drop start dump)))).place
    (story plan (map hear (tokens_from true start (drop start dump)))).fault few
