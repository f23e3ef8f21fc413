use Rattle.std.proofs.Common.{◌≡◌, ℕ, ◌+◌, ◌<◌, ◌≤◌, [], ◌∷◌, length, Some, true, false, refl, arith, sym, ap, ◌∙◌, subst}
use Rattle.ccsl_vcd_lex.specs.Lexing.{Lexing}
use Rattle.ccsl_vcd_lex.proofs.Steps.{long-now}
use Rattle.ccsl_vcd_lex.proofs.Views.{seen, nothing-open, pushed, skipped, ended, refused, same-word}
use Rattle.ccsl_vcd_lex.proofs.Told.{Told, Refused, goes-on, ends-one, ends-none, goes-past, stays-refused, none-long}
use Rattle.ccsl_vcd_lex.proofs.tokenizer.Tokenizer.feed.Goals as goal

-- a token was too long before
pub returns-then-self : goal.returns-then-self
returns-then-self c =
    let old = c.args.self.now in
    let v = seen old _ _ _ _ _ c.self.view_is (omega (arith, c.self.inside.current.ok.0)) (omega arith) in
    let f : old.failed ≡ true = v.failed ∙ c.if-self.true in
    let r = subst (Refused old old (c.args.byte ∷ [])) v.begin (stays-refused old (c.args.byte ∷ []) f) in
    record {
      stands = r.stands;
      settled = tt;
      span = tt;
      keeps = refl;
      short = tt;
      long = r.long;
      broke = r.broke;
      again = λ bytes at s e. let p : Some at ≡ Some c.self.inside.begin = sym e ∙ long-now old bytes s f ∙ ap (λ (k : ℕ). Some k) v.begin in cc;
    }

-- white space where no token is open
pub returns-then-self-eq0 : goal.returns-then-self-eq0
returns-then-self-eq0 c =
    let old = c.args.self.now in
    let v = seen old _ _ _ _ _ c.self.view_is (omega (arith, c.self.inside.current.ok.0)) (omega arith) in
    let f : old.failed ≡ false = v.failed ∙ c.if-self.false in
    let none = nothing-open old _ _ _ v c.if-self-eq0.true in
    let r = ends-none old c.skip.new.self (c.args.byte ∷ [])
    (skipped old c.skip.new.self (c.args.byte ∷ []) c.skip.ensures f none (sym c.is_space.ensures ∙ c.if-is_space.true, tt) (omega arith)) none in
    record {
      stands = r.stands;
      settled = r.settles;
      span = tt;
      keeps = ap (λ (v : Lexing). v.last) c.skip.ensures;
      short = r.short;
      long = tt;
      broke = tt;
      again = λ bytes at s e. absurd (none-long old f bytes at s e);
    }

-- white space behind a token
pub returns-then-is_space : goal.returns-then-is_space
returns-then-is_space c =
    let old = c.args.self.now in
    let new = c.end_token.new.self in
    let v = seen old _ _ _ _ _ c.self.view_is (omega (arith, c.self.inside.current.ok.0)) (omega arith) in
    let f : old.failed ≡ false = v.failed ∙ c.if-self.false in
    let some : 0 < length old.open_text = omega (arith, v.count) in
    let fits : length old.open_text ≤ 65536 = omega (arith, v.count) in
    let last = ap (λ (v : Lexing). v.last) c.end_token.ensures.after in
    let word = same-word _ old.begin old.open_text new.last (ap (λ s. s.at) c.end_token.ensures.span) last in
    let r = subst (Told old new (c.args.byte ∷ [])) word
    (ends-one old new (c.args.byte ∷ []) (ended old new c.args.byte c.end_token.ensures.after f (sym c.is_space.ensures ∙ c.if-is_space.true)) some fits) in
    record {
      stands = r.stands;
      settled = r.settles;
      span = (ap (λ s. s.len) c.end_token.ensures.span ∙ ap length (sym last), rw last fits);
      keeps = tt;
      short = r.short;
      long = tt;
      broke = tt;
      again = λ bytes at s e. absurd (none-long old f bytes at s e);
    }

-- byte 65,537 of a token
pub returns-then-self-eq-MAX_TOKEN_BYTES : goal.returns-then-self-eq-MAX_TOKEN_BYTES
returns-then-self-eq-MAX_TOKEN_BYTES c =
    let old = c.args.self.now in
    let new = c.refuse.new.self in
    let v = seen old _ _ _ _ _ c.self.view_is (omega (arith, c.self.inside.current.ok.0)) (omega arith) in
    let f : old.failed ≡ false = v.failed ∙ c.if-self.false in
    let long : 65536 < length old.open_text + length (c.args.byte ∷ []) = omega (arith, v.count) in
    let g = refused old new (c.args.byte ∷ []) c.refuse.ensures.after f (sym c.is_space.ensures ∙ c.if-is_space.false, tt) long in
    let r = subst (Refused old new (c.args.byte ∷ [])) (sym (ap (λ t. t.at) c.refuse.ensures.at)) (goes-past old new (c.args.byte ∷ []) g) in
    record {
      stands = r.stands;
      settled = tt;
      span = tt;
      keeps = ap (λ (v : Lexing). v.last) c.refuse.ensures.after;
      short = tt;
      long = r.long;
      broke = r.broke;
      again = λ bytes at s e. absurd (none-long old f bytes at s e);
    }

-- one more byte of a token
pub returns : goal.returns
returns c =
    let old = c.args.self.now in
    let new = c.push.new.self in
    let v = seen old _ _ _ _ _ c.self.view_is (omega (arith, c.self.inside.current.ok.0)) (omega arith) in
    let f : old.failed ≡ false = v.failed ∙ c.if-self.false in
    let room : length old.open_text + length (c.args.byte ∷ []) ≤ 65536 = omega (arith, v.count) in
    let r = goes-on old new (c.args.byte ∷ []) (pushed old new (c.args.byte ∷ []) c.push.ensures f (sym c.is_space.ensures ∙ c.if-is_space.false, tt) room) in
    record {
      stands = r.stands;
      settled = r.settles;
      span = tt;
      keeps = ap (λ (v : Lexing). v.last) c.push.ensures;
      short = r.short;
      long = tt;
      broke = tt;
      again = λ bytes at s e. absurd (none-long old f bytes at s e);
    }
