-- What is read without a fault is spelled by the grammar.
use Rattle.std.proofs.Common.{◌≡◌, ℕ, List, [], ◌∷◌, ◌++◌, Bool, true, false, Some, None, nat_lt, cond, refl, sym, ap, ◌∙◌, append_assoc, map, subst}
use Rattle.std.specs.Prelude.{fold}
use Rattle.std.specs.List.{AllByRecursion}
use Rattle.std.proofs.lemmas.Bool.{ltb-false}
use Rattle.ccsl_vcd_lex.specs.Tokens.{Token, word}
use Rattle.ccsl_vcd.specs.declared.fault.VcdFault.{VcdFault}
use Rattle.ccsl_vcd.specs.declared.fault.VcdFault.TheVariants as faults
use Rattle.ccsl_vcd.specs.Words as w
use Rattle.ccsl_vcd.specs.Binding.{Declaration, Wanted, Bound}
use Rattle.ccsl_vcd.specs.declared.limits.Limits.{Limits}
use Rattle.ccsl_vcd.specs.Places.{Change, Where, Body, body, Amid, changes, remark as in_remark, code_of, code_skipped, goes as on, refused}
use Rattle.ccsl_vcd.specs.Body.{change_says, is_declared}
use Rattle.ccsl_vcd.specs.Reading.{Story, next, says, told, may_end}
use Rattle.ccsl_vcd.specs.Grammar.{Part, instant, change, wide, passed, remark, Item, plain, block, part_tokens, parts_tokens, items_tokens, after, is_end}
use Rattle.ccsl_vcd.specs.Grammar.{IsPart, AreParts, after_all, IsBody}
use Rattle.ccsl_vcd.proofs.Decided.{sticks}

-- tokens in a body, or behind the beginning of a dump block
abbrev pub Parsed : List Declaration → Bool → ℕ → List Token → Type 0
Parsed ds false now ts = (is : List Item) × IsBody ds now is × (ts ≡ items_tokens is)
Parsed ds true now ts = (ps : List Part) × (e : Token) × (is : List Item) × AreParts ds now ps × (w.word_of e.text ≡ w.close) × IsBody ds (after_all now ps) is
    × (ts ≡ parts_tokens ps ++ e ∷ items_tokens is)

add-part : (ds : List Declaration) (d : Bool) (now : ℕ) (p : Part) (ts : List Token) → IsPart ds now p → Parsed ds d (after now p) ts
    → Parsed ds d now (part_tokens p ++ ts)
add-part ds false now p ts h q = (plain p ∷ q.0, (h, q.1), ap (λ (xs : List Token). part_tokens p ++ xs) q.2)
add-part ds true now p ts h q = (
  p ∷ q.0,
  q.1,
  q.2,
  (h, q.3),
  q.4,
  q.5,
  ap (λ (xs : List Token). part_tokens p ++ xs) q.6
      ∙ sym (append_assoc (part_tokens p) (parts_tokens q.0) (q.1 ∷ items_tokens q.2)),
)

opens-block : (ds : List Declaration) (now : ℕ) (t : Token) (ts : List Token) → w.word_of t.text ≡ w.dump → Parsed ds true now ts → Parsed ds false now (t ∷ ts)
opens-block ds now t ts h q = (block t q.0 q.1 ∷ q.2, (h, q.3, q.4, q.5), ap (λ (xs : List Token). t ∷ xs) q.6)

closes-block : (ds : List Declaration) (now : ℕ) (e : Token) (ts : List Token) → w.word_of e.text ≡ w.close → Parsed ds false now ts
    → Parsed ds true now (e ∷ ts)
closes-block ds now e ts h q = ([], e, q.0, tt, h, q.1, ap (λ (xs : List Token). e ∷ xs) q.2)

-- what has to follow where a token stands
abbrev At : List Declaration → Amid → Bool → ℕ → List Token → Type 0
At ds changes d now ts = Parsed ds d now ts
At ds in_remark d now ts =
    (us : List Token) × (e : Token) × (rest : List Token) × AllByRecursion (λ u. is_end u ≡ false) us × (is_end e ≡ true) × (ts ≡ us ++ e ∷ rest)
    × Parsed ds d now rest
At ds (code_of one) d now ts = (c : Token) × (rest : List Token) × (is_declared ds c.text ≡ true) × (ts ≡ c ∷ rest) × Parsed ds d now rest
At ds code_skipped d now ts = (c : Token) × (rest : List Token) × (is_declared ds c.text ≡ true) × (ts ≡ c ∷ rest) × Parsed ds d now rest

-- a story that ends well
abbrev pub Good : Story → Type 0
Good s = (s.fault ≡ None) × (may_end s.place ≡ true)

module _ (wanted : Wanted) (l : Limits) (ds : List Declaration) (bs : List Bound) where
  abbrev place : Amid → Bool → ℕ → Body
  place a d now = record { amid = a; dumping = d; now = now; declared = ds; bound = bs }

  abbrev tale : List Change → Where → Story
  tale cs p = record { changes = cs; place = p; fault = None }

  abbrev goes : Story → List Token → Story
  goes s ts = fold (next wanted l) s (map word ts)

  -- no good end behind a fault
  spoilt : {X : Type 0} (s : Story) (f : VcdFault) (ts : List Token) → s.fault ≡ Some f → Good (goes s ts) → X
  spoilt s f ts e g =
      let x : None ≡ Some f = sym g.0 ∙ ap (λ (t : Story). t.fault) (sticks wanted l s f (map word ts) e) ∙ e in
      absurd (cc)

  refuses : {X : Type 0} (cs : List Change) (p : Where) (f : VcdFault) (ts : List Token) → Good (goes (told cs p (refused f)) ts) → X
  refuses cs p f ts g = spoilt (told cs p (refused f)) f ts refl g

  -- what is known of the rest, for each place
  abbrev Rest : List Token → Type 0
  Rest ts = (cs : List Change) (a : Amid) (d : Bool) (now : ℕ) → Good (goes (tale cs (body (place a d now))) ts) → At ds a d now ts

  on-change : (ts : List Token) → Rest ts → (cs : List Change) (d : Bool) (now : ℕ) (t : Token) (x : w.Word) → w.word_of t.text ≡ x
      → Good (goes (told cs (body (place changes d now)) (change_says (place changes d now) t x)) ts) → Parsed ds d now (t ∷ ts)
  on-change ts ih cs d now t (w.time n) e g =
      (elim (nat_lt n now) as (λ b. nat_lt n now ≡ b
      → Good (goes (told cs (body (place changes d now)) (cond b (refused (faults.TimeBack t.at now n)) (on (body (place changes d n)) []))) ts)
      → Parsed ds d now (t ∷ ts)) [
        | true ↦ λ k h. refuses cs _ _ ts h
        | false ↦ λ k h. add-part ds d now (instant t n) ts (e, ltb-false n now k) (ih _ changes d n h)
      ]) refl g
  on-change ts ih cs d now t (w.scalar one code) e g =
      (elim (is_declared ds code) as (λ b. is_declared ds code ≡ b
      → Good (goes (told cs (body (place changes d now))
      (cond b (on (body (place changes d now)) (record { time = now; code = code; one = one; dumped = d } ∷ [])) (refused (faults.UnknownCode t.at))))
      ts) → Parsed ds d now (t ∷ ts)) [
        | true ↦ λ k h. add-part ds d now (change t one code) ts (e, k) (ih _ changes d now h)
        | false ↦ λ k h. refuses cs _ _ ts h
      ]) refl g
  on-change ts ih cs d now t (w.vector one) e g =
      let q = ih _ (code_of one) d now g in
      subst (λ (xs : List Token). Parsed ds d now (t ∷ xs)) (sym q.3) (add-part ds d now (wide t one q.0) q.1 (e, q.2) q.4)
  on-change ts ih cs d now t w.skipped e g =
      let q = ih _ code_skipped d now g in
      subst (λ (xs : List Token). Parsed ds d now (t ∷ xs)) (sym q.3) (add-part ds d now (passed t q.0) q.1 (e, q.2) q.4)
  on-change ts ih cs d now t w.comment e g =
      let q = ih _ in_remark d now g in
      subst (λ (xs : List Token). Parsed ds d now (t ∷ xs)) (append_assoc q.0 (q.1 ∷ []) q.2 ∙ sym q.5)
      (add-part ds d now (remark t q.0 q.1) q.2 (e, q.3, q.4) q.6)
  on-change ts ih cs true now t w.dump e g = refuses cs _ _ ts g
  on-change ts ih cs false now t w.dump e g = opens-block ds now t ts e (ih _ changes true now g)
  on-change ts ih cs true now t w.gap e g = refuses cs _ _ ts g
  on-change ts ih cs false now t w.gap e g = refuses cs _ _ ts g
  on-change ts ih cs true now t w.close e g = closes-block ds now t ts e (ih _ changes false now g)
  on-change ts ih cs false now t w.close e g = refuses cs _ _ ts g
  on-change ts ih cs d now t w.bad_time e g = refuses cs _ _ ts g
  on-change ts ih cs d now t w.bad_change e g = refuses cs _ _ ts g
  on-change ts ih cs d now t w.unknown e g = refuses cs _ _ ts g

  at-each : (ts : List Token) → Rest ts
  unfolding says
  at-each [] cs changes false now g = ([], tt, refl)
  at-each [] cs changes true now g = absurd (let x = g.1 in cc)
  at-each [] cs in_remark d now g = absurd (let x = g.1 in cc)
  at-each [] cs (code_of one) d now g = absurd (let x = g.1 in cc)
  at-each [] cs code_skipped d now g = absurd (let x = g.1 in cc)
  at-each (t ∷ ts) cs changes d now g = on-change ts (at-each ts) cs d now t (w.word_of t.text) refl g
  at-each (t ∷ ts) cs in_remark d now g =
      (elim (is_end t) as (λ b. is_end t ≡ b
      → Good (goes (told cs (body (place in_remark d now)) (cond b (on (body (place changes d now)) []) (on (body (place in_remark d now)) []))) ts)
      → At ds in_remark d now (t ∷ ts)) [
        | true ↦ λ k h. ([], t, ts, tt, k, refl, at-each ts _ changes d now h)
        | false ↦ λ k h. let q = at-each ts _ in_remark d now h in (t ∷ q.0, q.1, q.2, (k, q.3), q.4, ap (λ (xs : List Token). t ∷ xs) q.5, q.6)
      ]) refl g
  at-each (t ∷ ts) cs (code_of one) d now g =
      (elim (is_declared ds t.text) as (λ b. is_declared ds t.text ≡ b
      → Good (goes (told cs (body (place (code_of one) d now))
      (cond b (on (body (place changes d now)) (record { time = now; code = t.text; one = one; dumped = d } ∷ [])) (refused (faults.UnknownCode t.at))))
      ts) → At ds (code_of one) d now (t ∷ ts)) [
        | true ↦ λ k h. (t, ts, k, refl, at-each ts _ changes d now h)
        | false ↦ λ k h. refuses cs _ _ ts h
      ]) refl g
  at-each (t ∷ ts) cs code_skipped d now g =
      (elim (is_declared ds t.text) as (λ b. is_declared ds t.text ≡ b
      → Good (goes (told cs (body (place code_skipped d now)) (cond b (on (body (place changes d now)) []) (refused (faults.UnknownCode t.at)))) ts)
      → At ds code_skipped d now (t ∷ ts)) [
        | true ↦ λ k h. (t, ts, k, refl, at-each ts _ changes d now h)
        | false ↦ λ k h. refuses cs _ _ ts h
      ]) refl g

  -- Tokens that are read without a fault, up to a place where a file may end, are spelled by items.
  pub body-spelled : (ts : List Token) (cs : List Change) (now : ℕ) → Good (goes (tale cs (body (place changes false now))) ts)
      → (is : List Item) × IsBody ds now is × (ts ≡ items_tokens is)
  body-spelled ts cs now g = at-each ts cs changes false now g
