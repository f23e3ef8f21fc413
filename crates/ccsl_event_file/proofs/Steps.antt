-- How a statement and a path lead on, from one state of the parser to the next.
use Rattle.std.proofs.Common.{◌≡◌, ℕ, List, [], sym, ap, ◌∙◌, subst}
use Rattle.ccsl_event_file.specs.declared.parser.Parser.{Parser}
use Rattle.ccsl_event_file.specs.Tokens.{Placed}
use Rattle.ccsl_event_file.specs.File.{Condition, Trigger, Event, event, Draft, draft, condition_of, statement, sign, kind, behind, first_part, behind_part}
use Rattle.ccsl_event_file.specs.File.{Place, is_word, is_mark, joint, story}
use Rattle.ccsl_event_file.specs.Parsing.{ahead, place_of, TakesOne, PutsPart}
use Rattle.ccsl_event_file.proofs.Statements.{signs, joins}
use Rattle.ccsl_event_file.proofs.Paths.{puts_first}

-- the tokens that a parser has left
abbrev pub left : Parser → List Placed
left p = ahead p.len p.rest.now

-- what is read behind goes on from there
goes_on : (p q r : Parser) (from mid to : Place) → story p.len from (left p) ≡ story q.len mid (left q)
    → story q.len mid (left q) ≡ story q.len to (left r) → r.len ≡ q.len → story p.len from (left p) ≡ story r.len to (left r)
goes_on p q r from mid to before next len = before ∙ next ∙ ap (λ n. story n to (left r)) (sym len)

-- ## A statement, from its name to its end

module _ (es : List Event) (name : List ℕ) (p q r : Parser) (names : story p.len (statement es) (left p) ≡ story p.len (sign es name) (left q))
    (one : TakesOne (is_mark 61) (left q) (left r)) (len : r.len ≡ p.len) where
  pub to_kind : story p.len (statement es) (left p) ≡ story r.len (kind es name) (left r)
  to_kind = names ∙ signs es name p.len (left q) (left r) one ∙ ap (λ n. story n (kind es name) (left r)) (sym len)

  module _ (made : Trigger) (s : Parser) (makes : story r.len (kind es name) (left r) ≡ story r.len (behind es (event name made [])) (left s))
      (same : s.len ≡ r.len) where
    pub to_conditions : story p.len (statement es) (left p) ≡ story s.len (behind es (event name made [])) (left s)
    to_conditions = goes_on p r s (statement es) (kind es name) (behind es (event name made [])) to_kind makes same

    pub to_end : (cs : List Condition) (t : Parser)
        → story s.len (behind es (event name made [])) (left s) ≡ story s.len (behind es (event name made cs)) (left t) → t.len ≡ s.len
        → story p.len (statement es) (left p) ≡ story t.len (behind es (event name made cs)) (left t)
    to_end cs t = goes_on p s t (statement es) (behind es (event name made [])) (behind es (event name made cs)) to_conditions

-- to a further condition, whose word was taken
pub to_condition : (es : List Event) (name : List ℕ) (t : Trigger) (cs : List Condition) (word : List ℕ) (p q r : Parser)
    → story p.len (behind es (event name t [])) (left p) ≡ story p.len (behind es (event name t cs)) (ahead p.len q.rest.now) → q.len ≡ p.len
    → word ≡ joint cs → TakesOne (is_word word) (left q) (left r) → r.len ≡ q.len
    → story p.len (behind es (event name t [])) (left p) ≡ story r.len (first_part (draft es name (condition_of t cs))) (left r)
to_condition es name t cs word p q r before len is one same =
    before
    ∙ ap (λ n. story p.len (behind es (event name t cs)) (ahead n q.rest.now)) (sym len)
    ∙ joins es name t cs p.len (left q) (left r) (subst (λ w. TakesOne (is_word w) (left q) (left r)) is one)
    ∙ ap (λ n. story n (first_part (draft es name (condition_of t cs))) (left r)) (sym (same ∙ len))

-- ## A path, from its first part to its bits

module _ (d : Draft) (p q : Parser) (none parts : List ℕ) (is : none ≡ []) (put : PutsPart none parts (left p) (left q)) (len : q.len ≡ p.len) where
  pub to_parts : story p.len (first_part d) (left p) ≡ story q.len (behind_part d (place_of p.len (left p)) parts) (left q)
  to_parts =
      puts_first d p.len parts (left p) (left q) (subst (λ x. PutsPart x parts (left p) (left q)) is put)
      ∙ ap (λ n. story n (behind_part d (place_of p.len (left p)) parts) (left q)) (sym len)

  pub to_select : (more : List ℕ) (r : Parser)
      → story q.len (behind_part d (place_of p.len (left p)) parts) (left q) ≡ story q.len (behind_part d (place_of p.len (left p)) more) (left r)
      → r.len ≡ q.len → story p.len (first_part d) (left p) ≡ story r.len (behind_part d (place_of p.len (left p)) more) (left r)
  to_select more r =
      goes_on p q r (first_part d) (behind_part d (place_of p.len (left p)) parts) (behind_part d (place_of p.len (left p)) more) to_parts
