use Rattle.std.proofs.Common.{map, ap, inl, inr, arith}
use Rattle.std.proofs.lemmas.Grind.{common_steps}
use Rattle.std.specs.Prelude.{Err}
use Rattle.std.proofs.lemmas.Result.{err_from_is_err_and}
use Rattle.std.proofs.lemmas.List.{map_push}
use Rattle.ccsl_lex.specs.Tokens.{plain_token}
use Rattle.ccsl_lex.proofs.Cutting.{lexed_none, lexed_token, lexed_nothing, lexed_all, first_fault}
use Rattle.ccsl_lex.proofs.Unique.{one_tokens, not_both, fault_tokens, fault_fault}
use Rattle.ccsl_lex.proofs.lexer.tokens.Goals as goal
use Rattle.ccsl_base.proofs.Cases.{rest-is}

pub pieces-init : goal.pieces-init
pieces-init c = rw c.new-found.ensures.items (lexed_none c.args.text.now)

pub pieces-preserved-in_ok-push-in-Some : goal.pieces-preserved-in_ok-push-in-Some
pieces-preserved-in_ok-push-in-Some c =
    rw (c.in_ok-push-in-Some.ensures.items, map_push plain_token c.pieces.found.items _)
    (lexed_token c.args.text.now c.pieces.at c.in_ok-len.field-0.len c.in-Some.kind c.in_ok-len.field-0.kind (map plain_token c.pieces.found.items) c.in-Some.is
    c.pieces.invariant (rw (rest-is c.pieces.at c.args.text.now) at c.in_ok-len.ensures.found))

pub pieces-preserved : goal.pieces-preserved
pieces-preserved c = lexed_nothing c.args.text.now c.pieces.at c.in_ok-len.field-0.len c.in_ok-len.field-0.kind (map plain_token c.pieces.found.items)
    c.in-None.is c.pieces.invariant (rw (rest-is c.pieces.at c.args.text.now) at c.in_ok-len.ensures.found)

pub returns-clause-each_tokens : goal.returns-clause-each_tokens
returns-clause-each_tokens c =
    let text = c.args.text.now in
    λ ts a. inl (one_tokens text (map plain_token c.pieces.found.items) ts
    (lexed_all text c.pieces.at (map plain_token c.pieces.found.items) c.pieces.invariant c.pieces-test.false) a)

pub returns-clause-each_fault : goal.returns-clause-each_fault
returns-clause-each_fault c =
    let text = c.args.text.now in
    λ e f. absurd (not_both text (map plain_token c.pieces.found.items) e
    (lexed_all text c.pieces.at (map plain_token c.pieces.found.items) c.pieces.invariant c.pieces-test.false) f)

pub returns-in_err-len-clause-each_tokens : goal.returns-in_err-len-clause-each_tokens
returns-in_err-len-clause-each_tokens c =
    let text = c.args.text.now in
    let e = c.in_err-len.field-0.0 in
    let f = first_fault text c.pieces.at e c.pieces.invariant.cut (rw (rest-is c.pieces.at text) at c.in_err-len.ensures.fault) in
    let p = err_from_is_err_and c.from_residual.result c.from_residual.ensures.1 in
    λ ts a. inr (rw (p.1, p.2) (ap Err (fault_tokens text e f ts a)))

pub returns-in_err-len-clause-each_fault : goal.returns-in_err-len-clause-each_fault
returns-in_err-len-clause-each_fault c =
    let text = c.args.text.now in
    let e = c.in_err-len.field-0.0 in
    let f = first_fault text c.pieces.at e c.pieces.invariant.cut (rw (rest-is c.pieces.at text) at c.in_err-len.ensures.fault) in
    let p = err_from_is_err_and c.from_residual.result c.from_residual.ensures.1 in
    λ x h. elim (fault_fault text e f x h) [ inl i ↦ inl (rw (p.1, p.2) (ap Err i)) | inr i ↦ inr (rw (p.1, p.2) (ap Err i)) ]

pub returns-clause-tokens : goal.returns-clause-tokens
returns-clause-tokens c = grind (arith, common_steps)
