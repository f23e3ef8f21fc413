use Rattle.std.proofs.Common.{sym, ◌∙◌, arith}
use Rattle.ccsl_event_file.proofs.Lexing.{in_remark, at_slash, at_white, stops, ends, shorter}
use Rattle.ccsl_event_file.proofs.token.skip_blank.Goals as goal

pub blank-preserved-then-is_remark : goal.blank-preserved-then-is_remark
blank-preserved-then-is_remark c = record {
  same = in_remark c.args.text.now c.blank.rest.now c.cut.result.1.now (sym c.is_empty.ensures ∙ c.blank-test.true) c.cut.ensures.behind c.blank.is_remark
      c.if-is_remark.true c.blank.invariant.same;
  shorter = omega (arith, shorter c.blank.rest.now c.cut.result.1.now c.cut.ensures.behind, c.blank.invariant.shorter);
}

pub blank-preserved-then-begins_remark : goal.blank-preserved-then-begins_remark
blank-preserved-then-begins_remark c = record {
  same = at_slash c.args.text.now c.blank.rest.now c.cut.result.1.now (sym c.is_empty.ensures ∙ c.blank-test.true) c.cut.ensures.behind c.blank.is_remark
      c.if-is_remark.false
      (sym c.begins_remark.ensures ∙ c.if-begins_remark.true) c.blank.invariant.same;
  shorter = omega (arith, shorter c.blank.rest.now c.cut.result.1.now c.cut.ensures.behind, c.blank.invariant.shorter);
}

pub blank-preserved : goal.blank-preserved
blank-preserved c = record {
  same = at_white c.args.text.now c.blank.rest.now c.cut.result.1.now (sym c.is_empty.ensures ∙ c.blank-test.true) c.cut.ensures.behind c.blank.is_remark
      c.if-is_remark.false
      (sym c.begins_remark.ensures ∙ c.if-begins_remark.false) (sym c.is_white.ensures ∙ c.if-not-is_white.false) c.blank.invariant.same;
  shorter = omega (arith, shorter c.blank.rest.now c.cut.result.1.now c.cut.ensures.behind, c.blank.invariant.shorter);
}

pub returns-then-not-is_white : goal.returns-then-not-is_white
returns-then-not-is_white c =
    stops c.args.text.now c.blank.rest.now c.cut.result.1.now c.blank.is_remark c.cut.ensures.behind c.if-is_remark.false
    (sym c.begins_remark.ensures ∙ c.if-begins_remark.false) (sym c.is_white.ensures ∙ c.if-not-is_white.true) c.blank.invariant.same c.blank.invariant.shorter

pub returns : goal.returns
returns c = ends c.args.text.now c.blank.rest.now c.blank.is_remark (sym c.is_empty.ensures ∙ c.blank-test.false) c.blank.invariant.same
    c.blank.invariant.shorter
