use Rattle.std.proofs.Common.{◌≡◌, ℕ, ◌+◌, ◌-◌, ◌<◌, ◌≤◌, ◌++◌, length, take, Some, true, false, refl, arith, sym, ap, ◌∙◌, subst}
use Rattle.std.proofs.lemmas.List.{append-nil}
use Rattle.ccsl_vcd_lex.specs.Tokens.{settled}
use Rattle.ccsl_vcd_lex.specs.Lexing.{Lexing}
use Rattle.ccsl_vcd_lex.proofs.Steps.{long-now}
use Rattle.ccsl_vcd_lex.proofs.Views.{seen, same-word}
use Rattle.ccsl_vcd_lex.proofs.Told.{Told, none-long}
use Rattle.ccsl_vcd_lex.proofs.Pieces.{RefusedPiece, refused-before, found, length-run, runs-to, ends-run, breaks-run}
use Rattle.ccsl_vcd_lex.proofs.tokenizer.Tokenizer.feed_run.Goals as goal

-- a token was too long before
pub returns-then-self : goal.returns-then-self
returns-then-self c =
    let old = c.args.self.now in
    let v = seen old _ _ _ _ _ c.self.view_is (omega (arith, c.self.inside.current.ok.0)) (omega arith) in
    let f : old.failed ≡ true = v.failed ∙ c.if-self.true in
    let r = subst (RefusedPiece old old c.args.piece.now) v.begin (refused-before old c.args.piece.now f) in
    record {
      within = tt;
      moves = tt;
      stops = tt;
      stands = tt;
      settled = tt;
      by_last = tt;
      span = tt;
      keeps = refl;
      short = tt;
      still = r.still;
      long = r.long;
      broke = r.broke;
      again = λ bytes at s e. let p : Some at ≡ Some c.self.inside.begin = sym e ∙ long-now old bytes s f ∙ ap (λ (k : ℕ). Some k) v.begin in cc;
    }

-- the run makes the open token too long
pub returns-then-end-start : goal.returns-then-end-start
returns-then-end-start c =
    let old = c.args.self.now in
    let a = c.skip_front-start.new.self in
    let piece = c.args.piece.now in
    let front = c.skip_front-start.ensures in
    let k = found old a piece c.skip_front-start.result c.run_end-end.result _ _ _ _ _ _
    (seen old _ _ _ _ _ c.self.view_is (omega (arith, c.self.inside.current.ok.0)) (omega arith)) c.if-self.false
    (seen a _ _ _ _ _ c.self-2.view_is (omega (arith, c.self-2.inside.current.ok.0)) (omega arith)) front.after front.within front.open front.none
    c.run_end-end.ensures.value in
    let r = subst (RefusedPiece old c.refuse.new.self piece) (sym (ap (λ t. t.at) c.refuse.ensures.at))
    (breaks-run old a c.refuse.new.self piece _ _ _ k c.refuse.ensures.after (omega arith) (omega arith)) in
    record {
      within = tt;
      moves = tt;
      stops = tt;
      stands = tt;
      settled = tt;
      by_last = tt;
      span = tt;
      keeps = ap (λ (x : Lexing). x.last) c.refuse.ensures.after ∙ ap (λ (x : Lexing). x.last) front.after;
      short = tt;
      still = r.still;
      long = r.long;
      broke = r.broke;
      again = λ bytes at s e. absurd (none-long old k.old_runs bytes at s e);
    }

-- no token ends in the piece
pub returns-then-end-piece : goal.returns-then-end-piece
returns-then-end-piece c =
    let old = c.args.self.now in
    let a = c.skip_front-start.new.self in
    let piece = c.args.piece.now in
    let front = c.skip_front-start.ensures in
    let k = found old a piece c.skip_front-start.result c.run_end-end.result _ _ _ _ _ _
    (seen old _ _ _ _ _ c.self.view_is (omega (arith, c.self.inside.current.ok.0)) (omega arith)) c.if-self.false
    (seen a _ _ _ _ _ c.self-2.view_is (omega (arith, c.self-2.inside.current.ok.0)) (omega arith)) front.after front.within front.open front.none
    c.run_end-end.ensures.value in
    let r = runs-to old a c.append.new.self piece _ _ _ k c.append.ensures (omega arith) in
    record {
      within = c.run_end-end.ensures.within;
      moves = λ some. omega arith;
      stops = λ less. absurd (omega arith);
      stands = r.stands;
      settled = r.settles;
      by_last = tt;
      span = tt;
      keeps = ap (λ (x : Lexing). x.last) c.append.ensures ∙ ap (λ (x : Lexing). x.last) front.after;
      short = r.short;
      still = tt;
      long = tt;
      broke = tt;
      again = λ bytes at s e. absurd (none-long old k.old_runs bytes at s e);
    }

-- the byte behind the run ends the token
pub returns : goal.returns
returns c =
    let old = c.args.self.now in
    let a = c.skip_front-start.new.self in
    let b = c.append.new.self in
    let new = c.end_token.new.self in
    let end = c.run_end-end.result in
    let piece = c.args.piece.now in
    let front = c.skip_front-start.ensures in
    let k = found old a piece c.skip_front-start.result c.run_end-end.result _ _ _ _ _ _
    (seen old _ _ _ _ _ c.self.view_is (omega (arith, c.self.inside.current.ok.0)) (omega arith)) c.if-self.false
    (seen a _ _ _ _ _ c.self-2.view_is (omega (arith, c.self-2.inside.current.ok.0)) (omega arith)) front.after front.within front.open front.none
    c.run_end-end.ensures.value in
    let ran = runs-to old a b piece _ _ _ k c.append.ensures (omega arith) in
    let less : end < length piece = omega (arith, c.run_end-end.ensures.within) in
    let runs : b.failed ≡ false = ap (λ (x : Lexing). x.failed) c.append.ensures ∙ k.runs in
    let text = length-run old a b piece _ _ _ k c.append.ensures in
    let some : 0 < length b.open_text = omega (arith, k.parts.some less, k.count, text) in
    let fits : length b.open_text ≤ 65536 = omega (arith, text) in
    let last = ap (λ (x : Lexing). x.last) c.end_token.ensures.after in
    let named = same-word _ b.begin b.open_text new.last (ap (λ t. t.at) c.end_token.ensures.span) last in
    let r = subst (Told old new (take (end + 1) piece)) named
    (ends-run old b new piece end ran c.end_token.ensures.after runs (k.parts.stops less) less some fits) in
    record {
      within = omega arith;
      moves = λ _. omega arith;
      stops = λ _. refl;
      stands = r.stands;
      settled = r.settles;
      by_last = λ bytes s. ap (λ (k : ℕ). settled (bytes ++ take k piece)) (let e : end + 1 - 1 ≡ end = omega arith in e) ∙ ran.settles bytes s
          ∙ append-nil (settled bytes);
      span = (ap (λ t. t.len) c.end_token.ensures.span ∙ ap length (sym last), rw last fits);
      keeps = tt;
      short = r.short;
      still = tt;
      long = tt;
      broke = tt;
      again = λ bytes at s e. absurd (none-long old k.old_runs bytes at s e);
    }
