use Rattle.std.proofs.Common.{◌∙◌, ℕ, ap, subst, Ok, Err, ◌≡◌, ◌≤◌, ◌<◌, ◌+◌, ◌-◌, ◌^◌, length, take, zero-add, refl, arith, length-append, length-take-le}
use Rattle.std.specs.List.{prefix_len}
use Rattle.std.proofs.lemmas.Grind.{common_steps}
use Rattle.std.proofs.lemmas.Result.{err_from_is_err_and}
use Rattle.ccsl_base.proofs.Cases.{no-items}
use Rattle.ccsl_vcd_lex.specs.Lexing.{is_dark}
use Rattle.ccsl_scopes.specs.Headings.{heading_says}
use Rattle.ccsl_scopes.specs.Standing as header
use Rattle.ccsl_events.specs.declared.reader.Reader.{Reader}
use Rattle.ccsl_events.proofs.Feeding.{closes, goes-on, open-to, kept-long, kept-breaks, kept-said, end-breaks, end-word, end-white, ends-in}
use Rattle.ccsl_events.proofs.Opening.{reads-still, kept-token, header-ends-in, header-long, header-grows, header-white, header-word, header-breaks}
use Rattle.ccsl_events.proofs.reader.Reader.part.Goals as goal
use Rattle.ccsl_events.proofs.reader.Reader.part.Goals.{then-not-is_empty+in_ok-hear, else-not-is_empty}

pub returns-then-end-min : goal.returns-then-end-min
returns-then-end-min c =
    let carry = c.args.self.now.carry in
    let piece = c.args.bytes.now in
    let end = c.run_end-end.result in
    let ends : end ≡ prefix_len is_dark piece = c.run_end-end.ensures.value ∙ zero-add _ in
    let long : length carry.items ≤ 65536 → 65536 < length carry.items + end =
    λ few. omega (arith, few, c.if-end-min.true, c.min.ensures, c.len.ensures, carry.ok.0) in
    let at : c.saturating_sub-at.result ≡ c.args.self.now.taken - length carry.items =
    omega (arith, c.saturating_sub-at.ensures, c.len-then-end-min.ensures, carry.ok.0) in
    record {
      within = tt;
      feeds = λ plan start before p h fits.
          kept-long plan start before piece p c.args.self.now c.saturating_sub-at.result end c.args.out.now.items h
          ends c.run_end-end.ensures.within (long h.few) at;
      heads = λ limits before among h i fits.
          header-long limits before piece among h c.args.self.now i c.saturating_sub-at.result end ends c.run_end-end.ensures.within (long i.few) at;
      counts = tt;
      clears = tt;
    }

pub returns-then-end-bytes : goal.returns-then-end-bytes
returns-then-end-bytes c =
    let carry = c.args.self.now.carry in
    let piece = c.args.bytes.now in
    let end = c.run_end-end.result in
    let front = open-to piece end (c.run_end-end.ensures.value ∙ zero-add _) in
    let short : length carry.items ≤ 65536 → length carry.items + end ≤ 65536 =
    λ few. omega (arith, few, c.if-end-min.false, c.min.ensures, c.len.ensures, carry.ok.0) in
    let taken : c.args.self.now.taken + length piece < 2 ^ 64 → c.saturating_add-self.result ≡ c.args.self.now.taken + end =
    λ fits. omega (arith, fits, c.saturating_add-self.ensures, c.run_end-end.ensures.within) in
    record {
      within = (omega arith, c.run_end-end.ensures.within);
      feeds = λ plan start before p h fits.
          goes-on plan start before piece p c.args.self.now _ end c.args.out.now.items h front c.run_end-end.ensures.within
          (short h.few) refl c.in_ok-extend_from_slice.ensures.items (taken fits) h.in_body;
      heads = λ limits before among h i fits. (
        header-grows limits before piece among h c.args.self.now i _ end front c.run_end-end.ensures.within (short i.few)
            (reads-still limits among h c.args.self.now _ i.reads refl refl refl) c.in_ok-extend_from_slice.ensures.items (taken fits),
        refl,
      );
      counts = taken;
      clears = λ old over. absurd (cc (old, over));
    }

pub returns-in_err-hear : goal.returns-in_err-hear
returns-in_err-hear c =
    let q = err_from_is_err_and c.from_residual-in_err-hear.result c.from_residual-in_err-hear.ensures.1 in
    let f = c.in_err-hear.field-0.0 in
    let carry = c.args.self.now.carry in
    let piece = c.args.bytes.now in
    let end = c.run_end-end.result in
    let within = c.run_end-end.ensures.within in
    let ends : end ≡ prefix_len is_dark piece = c.run_end-end.ensures.value ∙ zero-add _ in
    let inside : end < length piece = omega (arith, within, c.if-end-bytes.false) in
    let short : length carry.items ≤ 65536 → length carry.items + end ≤ 65536 =
    λ few. omega (arith, few, c.if-end-min.false, c.min.ensures, c.len.ensures, carry.ok.0) in
    let taken : c.args.self.now.taken + length piece < 2 ^ 64 → c.saturating_add-self.result ≡ c.args.self.now.taken + end =
    λ fits. omega (arith, fits, c.saturating_add-self.ensures, within) in
    let kept = c.in_ok-extend_from_slice.ensures.items in
    let size : length c.extend_from_slice.new.self.items ≡ length carry.items + end =
    ap length kept ∙ length-append carry.items (take end piece) ∙ ap (λ (k : ℕ). length carry.items + k) (length-take-le end piece within) in
    let some : 0 < length carry.items + end =
    grind (arith, common_steps, size, c.if-not-is_empty.true, c.is_empty.ensures, c.extend_from_slice.new.self.ok.0) in
    rw (q.1, q.2) (record {
      within = tt;
      feeds = λ plan start before p h fits.
          let said = c.in_err-hear.ensures.says plan p h.body h.has h.stands in
          kept-breaks plan start before piece p c.args.self.now f p.written c.args.out.now.items c.hear.new.out.items h
          (end-breaks plan p (start + length h.whole) end carry.items piece f said.body c.args.out.now.items c.hear.new.out.items
          (ends-in plan start before piece p c.args.self.now end h ends inside (short h.few)) some
          (kept-said plan start before piece p c.args.self.now end c.saturating_add-self.result c.extend_from_slice.new.self.items
          (Err f) said.body c.args.out.now.items c.hear.new.out.items h within (taken fits) kept said.answers));
      heads = λ limits before among h i fits.
          let said = (c.in_err-hear.ensures.heads limits among h (reads-still limits among h c.args.self.now _ i.reads refl refl refl)).0 in
          header-breaks limits before piece among h c.args.self.now i end f said.reader
          (header-ends-in limits before piece among h c.args.self.now i end ends inside (short i.few)) some
          (subst (λ t. header.Answers limits (heading_says limits h t among) (Err f) said.reader)
          (kept-token limits before piece among h c.args.self.now i end c.saturating_add-self.result c.extend_from_slice.new.self.items within
          (taken fits) kept) said.answers);
      counts = tt;
      clears = tt;
    })

pub returns : goal.returns
returns c =
    let carry = c.args.self.now.carry in
    let piece = c.args.bytes.now in
    let end = c.run_end-end.result in
    let within = c.run_end-end.ensures.within in
    let ends : end ≡ prefix_len is_dark piece = c.run_end-end.ensures.value ∙ zero-add _ in
    let inside : end < length piece = omega (arith, within, c.if-end-bytes.false) in
    let behind : end + 1 ≤ length piece = omega (arith, inside) in
    let short : length carry.items ≤ 65536 → length carry.items + end ≤ 65536 =
    λ few. omega (arith, few, c.if-end-min.false, c.min.ensures, c.len.ensures, carry.ok.0) in
    let taken : c.args.self.now.taken + length piece < 2 ^ 64 → c.saturating_add-self.result ≡ c.args.self.now.taken + end =
    λ fits. omega (arith, fits, c.saturating_add-self.ensures, within) in
    let kept = c.in_ok-extend_from_slice.ensures.items in
    let size : length c.extend_from_slice.new.self.items ≡ length carry.items + end =
    ap length kept ∙ length-append carry.items (take end piece) ∙ ap (λ (k : ℕ). length carry.items + k) (length-take-le end piece within) in
    elim c.if-not-is_empty.branch [
      | then-not-is_empty+in_ok-hear w ↦
          let some : 0 < length carry.items + end =
          grind (arith, common_steps, size, w.if-not-is_empty.true, c.is_empty.ensures, c.extend_from_slice.new.self.ok.0) in
          let all : c.args.self.now.taken + length piece < 2 ^ 64 → c.saturating_add-self-2.result ≡ c.args.self.now.taken + (end + 1) =
          λ fits. omega (
            arith,
            inside,
            taken fits,
            fits,
            c.saturating_add-self-2.ensures,
            ap (λ (r : Reader). r.taken) w.self-is,
            w.in_ok-hear.ensures.place,
          ) in
          rw (w.self-is, w.out-is) (record {
            within = (omega arith, behind);
            feeds = λ plan start before p h fits.
                let said = w.in_ok-hear.ensures.says plan p h.body h.has h.stands in
                closes plan start before piece p c.args.self.now _ said.body (end + 1) c.args.out.now.items w.hear.new.out.items h
                (end-word plan p (start + length h.whole) end carry.items piece said.body c.args.out.now.items w.hear.new.out.items
                (ends-in plan start before piece p c.args.self.now end h ends inside (short h.few)) some
                (kept-said plan start before piece p c.args.self.now end c.saturating_add-self.result c.extend_from_slice.new.self.items
                (Ok tt) said.body c.args.out.now.items w.hear.new.out.items h within (taken fits) kept said.answers))
                behind said.has w.in_ok-hear.ensures.clears (all fits) (w.in_ok-hear.ensures.header h.body h.has ∙ h.in_body);
            heads = λ limits before among h i fits.
                let heads = w.in_ok-hear.ensures.heads limits among h (reads-still limits among h c.args.self.now _ i.reads refl refl refl) in
                let said = heads.0 in (
                  header-word limits before piece among h c.args.self.now i _ end said.reader
                      (header-ends-in limits before piece among h c.args.self.now i end ends inside (short i.few)) some said.has said.bodyless
                      w.in_ok-hear.ensures.clears (all fits)
                      (subst (λ t. header.Answers limits (heading_says limits h t among) (Ok w.hear.new.self.is_header_over) said.reader)
                      (kept-token limits before piece among h c.args.self.now i end c.saturating_add-self.result c.extend_from_slice.new.self.items
                      within (taken fits) kept) said.answers),
                  heads.1,
                );
            counts = all;
            clears = λ old over. w.in_ok-hear.ensures.clears;
          })
      | else-not-is_empty w ↦
          let none : length c.extend_from_slice.new.self.items ≡ 0 =
          grind (arith, common_steps, w.if-not-is_empty.false, c.is_empty.ensures, c.extend_from_slice.new.self.ok.0) in
          let all : c.args.self.now.taken + length piece < 2 ^ 64 → c.saturating_add-self-2.result ≡ c.args.self.now.taken + (end + 1) =
          λ fits. omega (arith, inside, taken fits, fits, c.saturating_add-self-2.ensures, ap (λ (r : Reader). r.taken) w.self-is) in
          rw (w.self-is, w.out-is) (record {
            within = (omega arith, behind);
            feeds = λ plan start before p h fits.
                closes plan start before piece p c.args.self.now _ h.body (end + 1) c.args.out.now.items c.args.out.now.items h
                (end-white plan p (start + length h.whole) end carry.items piece h.body c.args.out.now.items
                (ends-in plan start before piece p c.args.self.now end h ends inside (short h.few)) (omega (arith, none, size)) h.stands)
                behind h.has (no-items _ none) (all fits) h.in_body;
            heads = λ limits before among h i fits. (
              header-white limits before piece among h c.args.self.now i _ end
                  (header-ends-in limits before piece among h c.args.self.now i end ends inside (short i.few)) (omega (arith, none, size))
                  (reads-still limits among h c.args.self.now _ i.reads refl refl refl) (no-items _ none) (all fits),
              refl,
            );
            counts = all;
            clears = λ old over. no-items _ none;
          })
    ]
