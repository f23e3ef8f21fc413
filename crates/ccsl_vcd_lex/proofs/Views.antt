-- The changes of a tokenizer's fields as steps.
use Rattle.std.proofs.Common.{◌≡◌, ℕ, ◌+◌, ◌≤◌, ◌<◌, List, [], ◌∷◌, ◌++◌, length, take, Bool, true, false, refl, sym, ap, ◌∙◌, arith}
use Rattle.std.proofs.lemmas.List.{length-take-le}
use Rattle.ccsl_vcd_lex.specs.Tokens.{is_white, token, word}
use Rattle.ccsl_vcd_lex.specs.Lexing.{Dark, Lexing}
use Rattle.ccsl_vcd_lex.proofs.Cuts.{White}
use Rattle.ccsl_vcd_lex.proofs.Steps.{Grows, Ends, Breaks}

-- what the fields say
pub record Seen (v : Lexing) (at n : ℕ) (stopped : Bool) : Type 0 where
  pub begin : v.begin ≡ at
  pub count : length v.open_text ≡ n
  pub failed : v.failed ≡ stopped

pub seen : (v : Lexing) (begin n : ℕ) (buf last : List ℕ) (failed : Bool) → record { begin = begin; open_text = take n buf; last = last; failed = failed } ≡ v
    → length buf ≡ 65552 → n ≤ 65536 → Seen v begin n failed
seen v begin n buf last failed e room le =
    let text : v.open_text ≡ take n buf = ap (λ (x : Lexing). x.open_text) (sym e) in
    record {
      begin = ap (λ (x : Lexing). x.begin) (sym e);
      count = ap length text ∙ length-take-le n buf (omega arith);
      failed = ap (λ (x : Lexing). x.failed) (sym e);
    }

pub nothing-open : (v : Lexing) (at n : ℕ) (stopped : Bool) → Seen v at n stopped → n ≡ 0 → v.open_text ≡ []
nothing-open v at n stopped s none = empty v.open_text (s.count ∙ none)
  where
    empty : (xs : List ℕ) → length xs ≡ 0 → xs ≡ []
    empty [] e = refl
    empty (x ∷ xs) e = absurd (omega (arith, e))

pub pushed : (old new : Lexing) (xs : List ℕ) → new ≡ record old { open_text = old.open_text ++ xs } → old.failed ≡ false → Dark xs
    → length old.open_text + length xs ≤ 65536 → Grows old new xs
pushed old new xs e f d room = record {
  begin = ap (λ (v : Lexing). v.begin) e;
  text = ap (λ (v : Lexing). v.open_text) e;
  old_runs = f;
  new_runs = ap (λ (v : Lexing). v.failed) e ∙ f;
  dark = d;
  room = room;
}

pub skipped : (old new : Lexing) (ws : List ℕ) → new ≡ record old { begin = old.begin + length ws } → old.failed ≡ false → old.open_text ≡ []
    → White ws → 0 < length ws → Ends old new ws
skipped old new ws e f none w some = record {
  begin = ap (λ (v : Lexing). v.begin) e ∙ (let n : length old.open_text ≡ 0 = ap length none in omega arith);
  text = ap (λ (v : Lexing). v.open_text) e ∙ none;
  old_runs = f;
  new_runs = ap (λ (v : Lexing). v.failed) e ∙ f;
  white = w;
  some = some;
}

pub ended : (old new : Lexing) (b : ℕ) → new ≡ record old { begin = old.begin + length old.open_text + 1; open_text = []; last = old.open_text }
    → old.failed ≡ false
    → is_white b ≡ true → Ends old new (b ∷ [])
ended old new b e f w = record {
  begin = ap (λ (v : Lexing). v.begin) e;
  text = ap (λ (v : Lexing). v.open_text) e;
  old_runs = f;
  new_runs = ap (λ (v : Lexing). v.failed) e ∙ f;
  white = (w, tt);
  some = omega arith;
}

pub refused : (old new : Lexing) (xs : List ℕ) → new ≡ record old { failed = true } → old.failed ≡ false → Dark xs
    → 65536 < length old.open_text + length xs → Breaks old new xs
refused old new xs e f d long = record {
  begin = ap (λ (v : Lexing). v.begin) e;
  text = ap (λ (v : Lexing). v.open_text) e;
  old_runs = f;
  new_failed = ap (λ (v : Lexing). v.failed) e;
  dark = d;
  long = long;
}

-- the token that ends is the one that was open
pub same-word : (at begin : ℕ) (text last : List ℕ) → at ≡ begin → last ≡ text → word (token begin text) ∷ [] ≡ word (token at last) ∷ []
same-word at begin text last a t = ap (λ (k : ℕ). word (token k text) ∷ []) (sym a) ∙ ap (λ (xs : List ℕ). word (token at xs) ∷ []) (sym t)
