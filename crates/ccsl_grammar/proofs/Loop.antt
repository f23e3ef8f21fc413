-- The steps of a loop that reads the same thing again and again.
use Rattle.std.proofs.Common.{◌≡◌, ℕ, ◌<◌, Bool, true, false, List, [], ◌∷◌, ◌++◌, length, Option, refl, sym, ap, ◌∙◌, append_assoc, arith}
use Rattle.std.proofs.lemmas.List.{append-nil}
use Rattle.ccsl_ast.specs.declared.term.Argument.TheVariants as arg
use Rattle.ccsl_grammar.specs.Terminals.{Terminal}
use Rattle.ccsl_grammar.specs.Kinds.{is_symbol}
use Rattle.ccsl_grammar.specs.Reader.{Fault, Reply, took, stopped, Reader, followed, given, begins, many}
use Rattle.ccsl_grammar.specs.Loop.{prefixed}
use Rattle.ccsl_grammar.specs.Deep.{rline_deep, sline_deep, member_deep, definition_deep}
use Rattle.ccsl_grammar.specs.Places.{shallow}
use Rattle.ccsl_grammar.specs.Grammar.{further_spelled, signed_spelled, arg_spelled, param_spelled, clock_spelled, rline_spelled, rline_tree, sline_spelled}
use Rattle.ccsl_grammar.specs.Grammar.{sline_tree, further_member, member_tree, definition_spelled, definition_tree}
use Rattle.ccsl_grammar.specs.Parser.{name_at, further_at, signed_at, arg_at, param_at, rline_at, sline_at, further_member_at, definition_at}
use Rattle.ccsl_grammar.proofs.Parts.{Reads, Self}
use Rattle.ccsl_grammar.proofs.Many.{step, item_falls}
use Rattle.ccsl_grammar.proofs.Leaves.{some_spot, signed_reads, further_reads, arg_reads, param_reads, clock_reads}
use Rattle.ccsl_grammar.proofs.Lines.{rline_reads, rline_nonempty, sline_reads, sline_nonempty}
use Rattle.ccsl_grammar.proofs.Definitions.{some_param, further_member_reads, definition_reads, definition_nonempty}

-- the reader takes at least one terminal
pub record Falls {A : Type 0} (f : Reader A) : Type 0 where
  pub at : (ts : List Terminal) (v : A) (rest : List Terminal) → f ts ≡ took v rest → length rest < length ts

module _ {A : Type 0} (test : Terminal → Bool) (f : Reader A) (falls : Falls f) where
  prefixed_one : (front : List A) (v : A) (r : Reply (List A)) → prefixed (front ++ v ∷ []) r ≡ prefixed front (followed r (λ vs. given (v ∷ vs)))
  prefixed_one front v (took vs rest) = ap (λ q. took q rest) (append_assoc front (v ∷ []) vs)
  prefixed_one front v (stopped k rest) = refl

  -- one more turn
  pub goes_on : (front : List A) (v : A) (ts rest : List Terminal) (r : Reply (List A)) → begins test ts ≡ true → f ts ≡ took v rest
      → prefixed front (many test f ts) ≡ r → prefixed (front ++ v ∷ []) (many test f rest) ≡ r
  goes_on front v ts rest r b e h = prefixed_one front v (many test f rest) ∙ ap (prefixed front) (sym (step test f falls.at ts ∙ rw (b, e) refl)) ∙ h

  -- a turn that fails
  pub stops : (front : List A) (k : Fault) (ts rest : List Terminal) (r : Reply (List A)) → begins test ts ≡ true → f ts ≡ stopped k rest
      → prefixed front (many test f ts) ≡ r → r ≡ stopped k rest
  stops front k ts rest r b e h =
      let s : many test f ts ≡ stopped k rest = step test f falls.at ts ∙ rw (b, e) refl in
      sym h ∙ ap (prefixed front) s

  -- no further turn
  pub is_done : (front : List A) (ts : List Terminal) (r : Reply (List A)) → begins test ts ≡ false → prefixed front (many test f ts) ≡ r → r ≡ took front ts
  is_done front ts r b h =
      let s : many test f ts ≡ took [] ts = step test f falls.at ts ∙ rw b refl in
      sym h ∙ ap (prefixed front) s ∙ ap (λ q. took q ts) (append-nil front)

-- ---- the loops of the grammar

reads_fall : {C T : Type 0} (spelled : C → List Terminal) (deep : C → List Terminal → Option (List Terminal)) (tree : C → T) (f : Reader T)
    → ((c : C) → 0 < length (spelled c)) → Reads spelled deep tree f → Falls f
reads_fall spelled deep tree f nonempty reads = record { at = item_falls spelled deep tree (is_symbol 0) f nonempty reads }

pub signed_falls : Falls signed_at
signed_falls = reads_fall signed_spelled shallow (λ c. c) signed_at (λ c. omega arith) signed_reads

further_falls : {C : Type 0} (spelled : C → List Terminal) (item : Reader C) (some : C) → Self spelled item → Falls (further_at item)
further_falls spelled item some reads =
    reads_fall (further_spelled spelled) shallow (λ c. c) (further_at item) (λ c. omega arith) (further_reads spelled item some reads)

pub further_arg_falls : Falls (further_at arg_at)
further_arg_falls = further_falls arg_spelled arg_at (arg.Tail some_spot) arg_reads

pub further_param_falls : Falls (further_at param_at)
further_param_falls = further_falls param_spelled param_at some_param param_reads

pub further_clock_falls : Falls (further_at name_at)
further_clock_falls = further_falls clock_spelled name_at some_spot clock_reads

pub rline_falls : (two : Bool) (room : ℕ) → Falls (rline_at two room)
rline_falls two room = reads_fall (rline_spelled {two = two}) (rline_deep room) rline_tree (rline_at two room) rline_nonempty (rline_reads two room)

pub sline_falls : (two : Bool) (room : ℕ) → Falls (sline_at two room)
sline_falls two room = reads_fall (sline_spelled {two = two}) (sline_deep room) sline_tree (sline_at two room) sline_nonempty (sline_reads two room)

pub further_member_falls : (two : Bool) (room : ℕ) → Falls (further_member_at two room)
further_member_falls two room =
    reads_fall (further_member {two = two}) (member_deep room) member_tree (further_member_at two room) (λ m. omega arith) (further_member_reads two room)

pub definition_falls : (two : Bool) (room : ℕ) → Falls (definition_at two room)
definition_falls two room =
    reads_fall (definition_spelled {two = two}) (definition_deep room) definition_tree (definition_at two room) definition_nonempty (definition_reads two room)
