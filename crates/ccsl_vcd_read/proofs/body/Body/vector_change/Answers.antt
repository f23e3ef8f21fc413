use Rattle.std.proofs.Common.{◌≡◌, ℕ, ◌+◌, ◌-◌, ◌<◌, List, length, take, drop, map, nat_eq, true, sym, ap, ◌∙◌, subst, arith, length-drop}
use Rattle.std.specs.List.{list_all}
use Rattle.ccsl_vcd_read.specs.declared.marks.Mark.{Mark}
use Rattle.ccsl_vcd.specs.Words.{last_of}
use Rattle.ccsl_vcd_read.specs.Letters.{is_bit}
use Rattle.ccsl_vcd_read.specs.Marks.{put}
use Rattle.ccsl_vcd_read.specs.Run.{Made}
use Rattle.ccsl_vcd_read.proofs.ShortChanges.{none-made, vector-made}
use Rattle.ccsl_vcd_read.proofs.body.Body.vector_change.Goals as goal
use Rattle.ccsl_base.proofs.Cases.{rest-is}

pub returns : goal.returns
returns c =
    let bytes : List ℕ = c.args.bytes.now in
    let k : ℕ = c.bits_at_front-end.result in
    let code = c.in-Some.code in
    let here = c.in-Some.ensures in
    let sum : (k + 2) + (code.len + 1) ≡ ((k + 1) + code.len) + 2 = omega arith in
    let back : (k + 1) - 1 ≡ k = omega arith in
    let two : (k + 1) + 1 ≡ k + 2 = omega arith in
    let last = c.last_of-one.ensures ∙ ap (λ (i : ℕ). last_of 98 (take i (drop 1 bytes))) back in
    let rest = rest-is 1 bytes in
    let some : 0 < k = omega (arith, c.if-end-eq1.false) in
    let inside : k + 1 < length bytes = omega (arith, c.if-end-bytes.false, c.bits_at_front-end.ensures.within, length-drop 1 bytes, ap length rest) in
    subst (Made c.args.self.now _ bytes) sum
    (vector-made c.args.self.now _ k code.len code.place c.in-Some-known.number bytes _ (sym c.is_changes.ensures ∙ c.if-not-is_changes.false)
    c.if-bytes-ne98.false some
    (subst (λ (xs : List ℕ). list_all is_bit (take k xs) ≡ true) rest c.bits_at_front-end.ensures.are) inside c.if-end-gt-MAX_TOKEN_BYTES.false
    (sym c.is_space.ensures ∙ c.if-not-is_space.false) (rest-is ((k + 1) + 1) bytes ∙ ap (λ (i : ℕ). drop i bytes) two) here
    (c.in-Some-known.ensures.number _ here.at)
    (ap (λ (ms : List Mark). record c.args.self.now { marks = ms })
    (c.change.ensures ∙ ap (λ (v : ℕ). map (put c.in-Some-known.number (nat_eq v 49) c.args.self.now.dumping) c.args.self.now.marks) last)))

pub returns-then-end-eq1 : goal.returns-then-end-eq1
returns-then-end-eq1 c = none-made c.args.self.now c.args.bytes.now

pub returns-then-is_empty : goal.returns-then-is_empty
returns-then-is_empty c = none-made c.args.self.now c.args.bytes.now

pub returns-in_default : goal.returns-in_default
returns-in_default c = none-made c.args.self.now c.args.bytes.now

pub returns-in_default-known : goal.returns-in_default-known
returns-in_default-known c = none-made c.args.self.now c.args.bytes.now
