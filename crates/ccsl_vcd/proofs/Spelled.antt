-- What is spelled by the grammar is read so.
use Rattle.std.proofs.Common.{◌≡◌, ℕ, List, [], ◌∷◌, ◌++◌, Bool, true, false, None, refl, sym, ap, ◌∙◌, append_assoc, map}
use Rattle.std.specs.Prelude.{fold}
use Rattle.std.specs.List.{AllByRecursion}
use Rattle.std.proofs.lemmas.List.{append-nil, map-append}
use Rattle.std.proofs.lemmas.Bool.{le-ltb}
use Rattle.std.proofs.lemmas.Grind.{fold-append}
use Rattle.ccsl_vcd_lex.specs.Tokens.{Token, word}
use Rattle.ccsl_vcd.specs.Binding.{Declaration, Wanted, Bound}
use Rattle.ccsl_vcd.specs.declared.limits.Limits.{Limits}
use Rattle.ccsl_vcd.specs.Places.{Change, Where, body, changes, remark as in_remark}
use Rattle.ccsl_vcd.specs.Reading.{Story, next, says}
use Rattle.ccsl_vcd.specs.Grammar.{Part, instant, change, wide, passed, remark, Item, plain, block, part_tokens, parts_tokens, items_tokens, after, made}
use Rattle.ccsl_vcd.specs.Grammar.{is_end, IsPart, AreParts, after_all, made_by_all, IsBody, changes_of, time_after}

-- a change's place in a body
abbrev pub scene : List Declaration → List Bound → Bool → ℕ → Where
scene ds bs dumping now = body (record { amid = changes; dumping = dumping; now = now; declared = ds; bound = bs })

abbrev pub tale : List Change → Where → Story
tale cs w = record { changes = cs; place = w; fault = None }

module _ (w : Wanted) (l : Limits) (ds : List Declaration) (bs : List Bound) where
  abbrev goes : Story → List Token → Story
  goes s ts = fold (next w l) s (map word ts)

  goes-both : (s : Story) (xs ys : List Token) → goes s (xs ++ ys) ≡ goes (goes s xs) ys
  goes-both s xs ys = ap (fold (next w l) s) (map-append word xs ys) ∙ fold-append (next w l) s (map word xs) (map word ys)

  abbrev silent : List Change → Bool → ℕ → Story
  silent cs dumping now = tale cs (body (record { amid = in_remark; dumping = dumping; now = now; declared = ds; bound = bs }))

  skips : (cs : List Change) (dumping : Bool) (now : ℕ) (ts : List Token) (e : Token) → AllByRecursion (λ u. is_end u ≡ false) ts → is_end e ≡ true
      → goes (silent cs dumping now) (ts ++ e ∷ []) ≡ tale cs (scene ds bs dumping now)
  unfolding says
  skips cs dumping now [] e h k = rw k (ap (λ (xs : List Change). tale xs (scene ds bs dumping now)) (append-nil cs))
  skips cs dumping now (t ∷ ts) e h k =
      let a : next w l (silent cs dumping now) (word t) ≡ silent cs dumping now = rw h.0 (ap (λ (xs : List Change). silent xs dumping now) (append-nil cs)) in
      ap (λ (s : Story). goes s (ts ++ e ∷ [])) a ∙ skips cs dumping now ts e h.1 k

  part-read : (cs : List Change) (dumping : Bool) (now : ℕ) (p : Part) → IsPart ds now p
      → goes (tale cs (scene ds bs dumping now)) (part_tokens p) ≡ tale (cs ++ made dumping now p) (scene ds bs dumping (after now p))
  unfolding says
  part-read cs dumping now (instant t n) h = rw (h.0, le-ltb n now h.1) refl
  part-read cs dumping now (change t one code) h = rw (h.0, h.1) refl
  part-read cs dumping now (wide t one c) h = rw (h.0, h.1) (ap (λ (xs : List Change). tale (xs ++ _) (scene ds bs dumping now)) (append-nil cs))
  part-read cs dumping now (passed t c) h = rw (h.0, h.1) (ap (λ (xs : List Change). tale (xs ++ []) (scene ds bs dumping now)) (append-nil cs))
  part-read cs dumping now (remark t ts e) h =
      let a : next w l (tale cs (scene ds bs dumping now)) (word t) ≡ silent cs dumping now =
      rw h.0 (ap (λ (xs : List Change). silent xs dumping now) (append-nil cs)) in
      ap (λ (s : Story). goes s (ts ++ e ∷ [])) a ∙ skips cs dumping now ts e h.1 h.2
      ∙ ap (λ (xs : List Change). tale xs (scene ds bs dumping now)) (sym (append-nil cs))

  parts-read : (cs : List Change) (dumping : Bool) (now : ℕ) (ps : List Part) → AreParts ds now ps
      → goes (tale cs (scene ds bs dumping now)) (parts_tokens ps) ≡ tale (cs ++ made_by_all dumping now ps) (scene ds bs dumping (after_all now ps))
  parts-read cs dumping now [] h = ap (λ (xs : List Change). tale xs (scene ds bs dumping now)) (sym (append-nil cs))
  parts-read cs dumping now (p ∷ ps) h =
      goes-both (tale cs (scene ds bs dumping now)) (part_tokens p) (parts_tokens ps)
      ∙ ap (λ (s : Story). goes s (parts_tokens ps)) (part-read cs dumping now p h.0)
      ∙ parts-read (cs ++ made dumping now p) dumping (after now p) ps h.1
      ∙ ap (λ (xs : List Change). tale xs (scene ds bs dumping (after_all (after now p) ps)))
      (append_assoc cs (made dumping now p) (made_by_all dumping (after now p) ps))

  one-token : (s : Story) (t : Token) (ts : List Token) → goes s (t ∷ ts) ≡ goes (next w l s (word t)) ts
  one-token s t ts = refl

  -- Whatever is spelled by items is read without a fault, with the changes that the items make.
  pub body-read : (cs : List Change) (now : ℕ) (is : List Item) → IsBody ds now is
      → goes (tale cs (scene ds bs false now)) (items_tokens is) ≡ tale (cs ++ changes_of now is) (scene ds bs false (time_after now is))
  unfolding says
  body-read cs now [] h = ap (λ (xs : List Change). tale xs (scene ds bs false now)) (sym (append-nil cs))
  body-read cs now (plain p ∷ is) h =
      goes-both (tale cs (scene ds bs false now)) (part_tokens p) (items_tokens is)
      ∙ ap (λ (s : Story). goes s (items_tokens is)) (part-read cs false now p h.0)
      ∙ body-read (cs ++ made false now p) (after now p) is h.1
      ∙ ap (λ (xs : List Change). tale xs (scene ds bs false (time_after (after now p) is))) (append_assoc cs (made false now p) (changes_of (after now p) is))
  body-read cs now (block t ps e ∷ is) h =
      let a : next w l (tale cs (scene ds bs false now)) (word t) ≡ tale cs (scene ds bs true now) =
      rw h.0 (ap (λ (xs : List Change). tale xs (scene ds bs true now)) (append-nil cs)) in
      let cs' : List Change = cs ++ made_by_all true now ps in
      let b : next w l (tale cs' (scene ds bs true (after_all now ps))) (word e) ≡ tale cs' (scene ds bs false (after_all now ps)) =
      rw h.2 (ap (λ (xs : List Change). tale xs (scene ds bs false (after_all now ps))) (append-nil cs')) in
      ap (λ (s : Story). goes s (parts_tokens ps ++ e ∷ items_tokens is)) a
      ∙ goes-both (tale cs (scene ds bs true now)) (parts_tokens ps) (e ∷ items_tokens is)
      ∙ ap (λ (s : Story). goes s (e ∷ items_tokens is)) (parts-read cs true now ps h.1)
      ∙ ap (λ (s : Story). goes s (items_tokens is)) b
      ∙ body-read cs' (after_all now ps) is h.3
      ∙ ap (λ (xs : List Change). tale xs (scene ds bs false (time_after (after_all now ps) is)))
      (append_assoc cs (made_by_all true now ps) (changes_of (after_all now ps) is))
