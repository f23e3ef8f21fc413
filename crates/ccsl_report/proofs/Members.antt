-- The names of clocks, appended one by one to the pieces of a line.
use Rattle.std.proofs.Common.{◌≡◌, ℕ, ◌<◌, List, [], ◌∷◌, ◌++◌, Bool, true, false, ◌||◌, length, nat_eq, slice_get, Some, refl, sym, ap, ◌∙◌, append_assoc}
use Rattle.std.proofs.Common.{append-nil}
use Rattle.std.specs.Prelude.{codes}
use Rattle.std.proofs.lemmas.Bool.{eq-eqb}
use Rattle.std.proofs.lemmas.Option.{get_or_from_slice_get}
use Rattle.ccsl_base.specs.Clocks.{ticks_in}
use Rattle.ccsl_kernel.specs.Syntax.{System}
use Rattle.ccsl_report.specs.declared.line.Part.{Part}
use Rattle.ccsl_report.specs.Line.{line}
use Rattle.std.specs.List.{concat}
use Rattle.std.proofs.Math.Bool.{or-true}
use Rattle.ccsl_report.specs.Parts.{part_text, part_texts}
use Rattle.ccsl_report.specs.Texts.{item_pieces, behind_blanks, parted, explain_member_text}

-- one piece more
joined_push : (parts : List Part) (p : Part) → concat (part_texts (parts ++ p ∷ [])) ≡ concat (part_texts parts) ++ part_text p
joined_push [] p = append-nil (part_text p)
joined_push (q ∷ parts) p =
    ap (λ t. part_text q ++ t) (joined_push parts p) ∙ sym (append_assoc (part_text q) (concat (part_texts parts)) (part_text p))

-- the pieces of two lists, one behind the other
joined_append : (ps qs : List (List ℕ)) → concat (ps ++ qs) ≡ concat ps ++ concat qs
joined_append [] qs = refl
joined_append (p ∷ ps) qs = ap (λ t. p ++ t) (joined_append ps qs) ∙ sym (append_assoc p (concat ps) (concat qs))

-- every member has a name
abbrev pub AllNamed : System → List ℕ → Type 0
AllNamed K set = (x : ℕ) → ticks_in x set ≡ true → x < length K.names

pub first_named : (K : System) (set rest : List ℕ) (x : ℕ) → set ≡ x ∷ rest → AllNamed K set → x < length K.names
first_named K set rest x e named = named x (ap (ticks_in x) e ∙ ap (λ b. b || ticks_in x rest) (eq-eqb x x refl))

rest_named : (K : System) (set rest : List ℕ) (x : ℕ) → set ≡ x ∷ rest → AllNamed K set → AllNamed K rest
rest_named K set rest x e named = λ y t. named y (ap (ticks_in y) e ∙ ap (λ b. nat_eq y x || b) t ∙ or-true (nat_eq y x))

-- the pieces that stand, and the names that are left, each behind a blank, are the whole
pub record IsNaming (K : System) (whole : List ℕ) (done : List Part) (rest : List ℕ) : Type 0 where
  pub text : concat (part_texts done) ++ concat (behind_blanks K rest) ≡ whole
  pub named : AllNamed K rest

-- the first name was appended
pub naming_first : (K : System) (old new : List Part) (name : Part) (set rest : List ℕ) (x : ℕ) → set ≡ x ∷ rest → new ≡ old ++ name ∷ []
    → slice_get K.names x ≡ Some (part_text name) → AllNamed K set → IsNaming K (concat (part_texts old) ++ concat (parted K set)) new rest
naming_first K old new name set rest x e appended is named =
    let behind = concat (behind_blanks K rest) in
    record {
      text =
          ap (λ ps. concat (part_texts ps) ++ behind) appended ∙ ap (λ t. t ++ behind) (joined_push old name)
          ∙ append_assoc (concat (part_texts old)) (part_text name) behind
          ∙ ap (λ n. concat (part_texts old) ++ (n ++ behind)) (sym (get_or_from_slice_get K.names x (part_text name) [] is))
          ∙ ap (λ s. concat (part_texts old) ++ concat (parted K s)) (sym e);
      named = rest_named K set rest x e named;
    }

-- a blank and another name were appended
pub naming_more : (K : System) (whole : List ℕ) (done mid new : List Part) (blank name : Part) (left rest : List ℕ) (x : ℕ) → left ≡ x ∷ rest
    → mid ≡ done ++ blank ∷ [] → part_text blank ≡ codes " " → new ≡ mid ++ name ∷ [] → slice_get K.names x ≡ Some (part_text name)
    → IsNaming K whole done left → IsNaming K whole new rest
naming_more K whole done mid new blank name left rest x e parted_by is_blank appended is n =
    let behind = concat (behind_blanks K rest) in
    let before : concat (part_texts mid) ≡ concat (part_texts done) ++ codes " " =
    ap (λ ps. concat (part_texts ps)) parted_by ∙ joined_push done blank ∙ ap (λ t. concat (part_texts done) ++ t) is_blank in
    record {
      text =
          ap (λ ps. concat (part_texts ps) ++ behind) appended ∙ ap (λ t. t ++ behind) (joined_push mid name)
          ∙ ap (λ t. (t ++ part_text name) ++ behind) before
          ∙ append_assoc (concat (part_texts done) ++ codes " ") (part_text name) behind
          ∙ append_assoc (concat (part_texts done)) (codes " ") (part_text name ++ behind)
          ∙ ap (λ m. concat (part_texts done) ++ (codes " " ++ (m ++ behind))) (sym (get_or_from_slice_get K.names x (part_text name) [] is))
          ∙ ap (λ s. concat (part_texts done) ++ concat (behind_blanks K s)) (sym e) ∙ n.text;
      named = rest_named K left rest x e n.named;
    }

-- the item, a colon and the names are the line
pub member_line : (K : System) (item : ℕ) (set : List ℕ) (item_parts mid whole : List Part) (colon : Part)
    → concat (part_texts item_parts) ≡ concat (item_pieces K item)
    → mid ≡ item_parts ++ colon ∷ [] → part_text colon ≡ codes ": " → concat (part_texts whole) ≡ concat (part_texts mid) ++ concat (parted K set)
    → line (part_texts whole) ≡ explain_member_text item set K
member_line K item set item_parts mid whole colon is_item appended is_colon named =
    let pieces = item_pieces K item in
    let names = concat (parted K set) in
    let before : concat (part_texts mid) ≡ concat pieces ++ codes ": " =
    ap (λ ps. concat (part_texts ps)) appended ∙ joined_push item_parts colon ∙ ap (λ t. t ++ part_text colon) is_item
    ∙ ap (λ t. concat pieces ++ t) is_colon in
    ap (λ t. t ++ 10 ∷ []) (
    named ∙ ap (λ t. t ++ names) before ∙ append_assoc (concat pieces) (codes ": ") names
    ∙ sym (joined_append pieces (codes ": " ∷ parted K set))
    )
