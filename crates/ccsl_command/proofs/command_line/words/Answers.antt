use Rattle.std.proofs.Common.{◌≡◌, ◌<◌, ◌-◌, ℕ, List, [], ◌∷◌, length, get_or, take, drop, Bool, true, false, cond, Option, Some, None, Ok, Err, sym, ap, ap₂, rules}
use Rattle.std.proofs.Common.{◌∙◌, refl, arith}
use Rattle.std.proofs.lemmas.List.{take_all}
use Rattle.ccsl_command.specs.declared.table.CommandName.{CommandName}
use Rattle.ccsl_command.specs.declared.table.Key.{Key}
use Rattle.ccsl_command.specs.declared.usage.Usage.{Usage}
use Rattle.ccsl_command.specs.declared.usage.Usage.TheVariants as usage
use Rattle.ccsl_command.specs.Meaning.{meaning, named_meaning, pairs_meaning, command_named, command_of, first_fault, first_missing, has_same_name}
use Rattle.ccsl_command.proofs.command_line.words.Goals as goal
use Rattle.ccsl_command.proofs.command_line.words.Goals.{In-Some}

-- the first word and the words behind it
parts : (words : List (List ℕ)) (word : List ℕ) → 0 < length words → word ≡ get_or words 0 word → words ≡ word ∷ take (length words - 1) (drop 1 words)
parts [] word l e = absurd (omega arith)
parts (w ∷ ws) word l e = ap₂ ◌∷◌ (sym e) (sym (take_all (length (w ∷ ws) - 1) ws (omega arith)))

meant : (words : List (List ℕ)) (word : List ℕ) (pairs : List (List ℕ)) (name : CommandName) (fault : Option Usage) (missing : Option Key)
    → words ≡ word ∷ pairs → command_named word ≡ Some name → first_fault name [] 1 pairs ≡ fault → first_missing name pairs ≡ missing
    → meaning words ≡ pairs_meaning name pairs fault missing
meant words word pairs name fault missing e n f m =
    ap meaning e ∙ ap (λ o. named_meaning o pairs) n ∙ ap₂ (pairs_meaning name pairs) f m

-- where no word is at fault and no key is missing
right : (words : List (List ℕ)) (word : List ℕ) (pairs : List (List ℕ)) (name : CommandName) (same : Bool) → words ≡ word ∷ pairs
    → command_named word ≡ Some name → first_fault name [] 1 pairs ≡ None → first_missing name pairs ≡ None → has_same_name pairs ≡ same
    → meaning words ≡ cond same (Err usage.SameName) (Ok (command_of name pairs))
right words word pairs name same e n f m h =
    meant words word pairs name None None e n f m ∙ ap (λ b. cond b (Err usage.SameName) (Ok (command_of name pairs))) h

split : (c : In-Some) → c.args.list.now ≡ c.first-item.result ∷ take (length c.args.list.now - 1) (drop 1 c.args.list.now)
split c = parts c.args.list.now c.first-item.result (omega arith) c.first-item.is

named : (c : In-Some) → command_named c.first-item.result ≡ Some c.in-Some.name
named c = ap command_named (sym c.as_str.ensures) ∙ sym c.command_named.ensures ∙ c.in-Some.is

pub returns-in-Ok-Some-clause-refused : goal.returns-in-Ok-Some-clause-refused
returns-in-Ok-Some-clause-refused c =
    let s = (goal.at.returns-in-Ok-Some-clause-refused c).In-Some in
    λ _. meant _ _ _ _ (Some c.in-Ok-Some.fault) _ (split s) (named s) (sym c.in-Ok-Some.ensures ∙ c.in-Ok-Some.field-0-is) refl

pub returns-in-Some-first_missing-clause-refused : goal.returns-in-Some-first_missing-clause-refused
returns-in-Some-first_missing-clause-refused c =
    let s = (goal.at.returns-in-Some-first_missing-clause-refused c).In-Some in
    λ _. meant _ _ _ _ None (Some c.in-Some-first_missing.key) (split s) (named s) (sym c.in-Ok-None.ensures ∙ c.in-Ok-None.field-0-is)
    (sym c.first_missing.ensures ∙ c.in-Some-first_missing.is)

pub returns-then-has_same_name-clause-refused : goal.returns-then-has_same_name-clause-refused
returns-then-has_same_name-clause-refused c =
    let s = (goal.at.returns-then-has_same_name-clause-refused c).In-Some in
    λ _. right _ _ _ _ true (split s) (named s) (sym c.in-Ok-None.ensures ∙ c.in-Ok-None.field-0-is)
    (sym c.first_missing.ensures ∙ c.in_default-first_missing.is) (sym c.has_same_name.ensures ∙ c.if-has_same_name.true)

pub returns-in-Ok-clause-meant : goal.returns-in-Ok-clause-meant
returns-in-Ok-clause-meant c =
    let s = (goal.at.returns-in-Ok-clause-meant c).In-Some in
    right _ _ _ _ false (split s) (named s) (sym c.in-Ok-None.ensures ∙ c.in-Ok-None.field-0-is)
    (sym c.first_missing.ensures ∙ c.in_default-first_missing.is) (sym c.has_same_name.ensures ∙ c.if-has_same_name.false)
    ∙ ap Ok (sym c.in-Ok.ensures.command)

pub returns-in-Ok-clause-refused : goal.returns-in-Ok-clause-refused
returns-in-Ok-clause-refused c = search rules
