-- What is kept of a trace, token by token.
use Rattle.std.proofs.Common.{◌≡◌, ℕ, ◌+◌, ◌≤◌, List, [], ◌∷◌, length, Bool, true, false, not, ◌&&◌, nat_lt, cond, Some, None, Result, Ok, Err, filter, map}
use Rattle.std.proofs.Common.{refl, sym, ap, ◌∙◌, subst, arith, length-append}
use Rattle.std.specs.Prelude.{bytes_eq, codes}
use Rattle.std.proofs.lemmas.List.{append-nil}
use Rattle.ccsl_base.specs.declared.rows.Row.{Row}
use Rattle.ccsl_vcd_lex.specs.Tokens.{token, word}
use Rattle.ccsl_vcd.specs.declared.fault.VcdFault.{VcdFault}
use Rattle.ccsl_vcd.specs.declared.fault.VcdFault.TheVariants as faults
use Rattle.ccsl_vcd.specs.declared.limits.Limits.{Limits}
use Rattle.ccsl_vcd.specs.Words as w
use Rattle.ccsl_vcd.specs.Binding.{Wanted}
use Rattle.ccsl_vcd.specs.Places as p
use Rattle.ccsl_vcd.specs.Header as d
use Rattle.ccsl_vcd.specs.Reading.{Story, next, told}
use Rattle.ccsl_vcd.specs.Rows.{rows, has_ticks}
use Rattle.ccsl_vcd.specs.Completed.{complete}
use Rattle.ccsl_bind.specs.Codes.{number_of}
use Rattle.ccsl_vcd_read.specs.declared.amid.Amid.{Amid}
use Rattle.ccsl_vcd_read.specs.declared.amid.Amid.TheVariants.{Changes, Remark, Code, CodeSkipped}
use Rattle.ccsl_vcd_read.specs.declared.marks.Mark.{Mark}
use Rattle.ccsl_vcd_read.specs.declared.body.Body.{Body}
use Rattle.ccsl_vcd_read.specs.declared.heading.Heading.{Heading}
use Rattle.ccsl_vcd_read.specs.declared.stage.Stage.{Stage}
use Rattle.ccsl_vcd_read.specs.declared.stage.Stage.TheVariants as stage
use Rattle.ccsl_vcd_read.specs.Meant.{amid_of}
use Rattle.ccsl_vcd_read.specs.Marks.{put, aged, is_ticking, ticking}
use Rattle.ccsl_vcd_read.specs.Step.{row_of, time_says, changed_says, put_number, skipped_says, pass_number, word_says, hear_at, hear_of, Says}
use Rattle.ccsl_vcd_read.specs.Picture.{place_of, Shows}
use Rattle.ccsl_vcd_read.specs.Heading.{Closes, Refuses, Caused}
use Rattle.ccsl_vcd_read.specs.Opening.{IsOpened}
use Rattle.ccsl_vcd_read.specs.Staging.{Heard, Begins}
use Rattle.ccsl_vcd_read.proofs.BodyPictures.{Hears, hears, at_time}

-- One row at most.

pub row-short : (b : Body) → length (row_of b) ≤ 1
row-short b =
    let r : Row = record { time = b.present; ticks = ticking b.marks } in
    let short : (v : Bool) → length (cond v (r ∷ []) []) ≤ 1 =
    λ v. elim v as (λ u. length (cond u (r ∷ []) []) ≤ 1) [ true ↦ omega arith | false ↦ omega arith ] in
    short (has_ticks r)

never-both : (e n : Bool) → ((not e && n) && not (not e && n)) ≡ false
never-both true n = refl
never-both false true = refl
never-both false false = refl

aged-silent : (ms : List Mark) → ticking (map aged ms) ≡ []
aged-silent [] = refl
aged-silent (m ∷ ms) = ap (λ v. map (λ x. x.clock) (cond v (aged m ∷ filter is_ticking (map aged ms)) (filter is_ticking (map aged ms))))
    (never-both m.event m.now) ∙ aged-silent ms

abbrev Left : Result (Body × List Row) VcdFault → Type 0
Left (Ok q) = length q.1 + length (row_of q.0) ≤ 1
Left (Err f) = Unit {0}

still-left : (b : Body) → Left (Ok (b, []))
still-left b = let h : length (row_of b) ≤ 1 = row-short b in omega arith

left-time : (b : Body) (at n : ℕ) → Left (time_says b at n)
left-time b at n =
    elim (nat_lt n b.present) as (λ v. Left
    (cond v (Err (faults.TimeBack at b.present n)) (cond (nat_lt b.present n) (Ok (at_time b n, row_of b)) (Ok (b, []))))) [
      | true ↦ tt
      | false ↦ elim (nat_lt b.present n) as (λ v. Left (cond v (Ok (at_time b n, row_of b)) (Ok (b, [])))) [
        | true ↦
            let none : length (row_of (at_time b n)) ≡ 0 = ap (λ ts. length (filter has_ticks (record { time = n; ticks = ts } ∷ []))) (aged-silent b.marks) in
            let h : length (row_of b) ≤ 1 = row-short b in
            omega arith
        | false ↦ still-left b
      ]
    ]

left-changed : (b : Body) (at : ℕ) (code : List ℕ) (one : Bool) → Left (changed_says b at code one)
left-changed b at code one =
    elim (number_of code b.binding.codes) as (λ o. Left (put_number b at one o)) [
      | Some n ↦ still-left
          (record b { amid = Changes; marks = map (put n one b.dumping) b.marks })
      | None ↦ tt
    ]

left-skipped : (b : Body) (at : ℕ) (code : List ℕ) → Left (skipped_says b at code)
left-skipped b at code =
    elim (number_of code b.binding.codes) as (λ o. Left (pass_number b at o)) [ Some n ↦ still-left (record b { amid = Changes }) | None ↦ tt ]

left-word : (b : Body) (at : ℕ) (x : w.Word) → Left (word_says b at x)
left-word b at (w.time n) = left-time b at n
left-word b at (w.scalar one code) = left-changed b at code one
left-word b at (w.vector one) = still-left (record b { amid = Code one })
left-word b at w.skipped = still-left (record b { amid = CodeSkipped })
left-word b at w.comment = still-left (record b { amid = Remark })
left-word b at w.dump = elim b.dumping as (λ v. Left (cond v (Err (faults.UnknownCommand at)) (Ok (record b { dumping = true }, [])))) [
  | true ↦ tt
  | false ↦ still-left (record b { dumping = true })
]
left-word b at w.gap = elim b.dumping as (λ v. Left (cond v (Err (faults.UnknownCommand at)) (Err (faults.Gap at)))) [ true ↦ tt | false ↦ tt ]
left-word b at w.close =
    elim b.dumping as (λ v. Left (cond v (Ok (record b { dumping = false }, [])) (Err (faults.UnknownCommand at)))) [
      | true ↦ still-left
          (record b { dumping = false })
      | false ↦ tt
    ]
left-word b at w.bad_time = tt
left-word b at w.bad_change = tt
left-word b at w.unknown = tt

left-at : (b : Body) (at : ℕ) (text : List ℕ) (a : Amid) → Left (hear_at b at text a)
left-at b at text Changes = left-word b at (w.word_of text)
left-at b at text Remark =
    elim (bytes_eq text (codes "$end")) as (λ v. Left (cond v (Ok (record b { amid = Changes }, [])) (Ok (b, [])))) [
      | true ↦ still-left
          (record b { amid = Changes })
      | false ↦ still-left b
    ]
left-at b at text (Code one) = left-changed b at text one
left-at b at text CodeSkipped = left-skipped b at text

pub room-left : (b c : Body) (at : ℕ) (text : List ℕ) (old new : List Row) → Says (hear_of b at text) (Ok tt) b c old new
    → length new + length (row_of c) ≤ length old + 1
room-left b c at text old new h = go (hear_of b at text) (left-at b at text b.amid) h
  where
    go : (r : Result (Body × List Row) VcdFault) → Left r → Says r (Ok tt) b c old new → length new + length (row_of c) ≤ length old + 1
    go (Ok q) l e = rw (e.0, e.1) (omega (arith, length-append old q.1, l))
    go (Err f) l e = absurd e

-- A token of the body.

pub body-heard : (wanted : Wanted) (limits : Limits) (b c : Body) (st : Story) (at : ℕ) (text : List ℕ) (old new : List Row)
    → Says (hear_of b at text) (Ok tt) b c old new → Shows b st
    → Heard wanted limits (stage.Body b) (stage.Body c) false st (next wanted limits st (word (token at text))) old new
body-heard wanted limits b c st at text old new h s = go (hear_of b at text) (left-at b at text b.amid) (hears wanted limits b st s at text) h
  where
    go : (r : Result (Body × List Row) VcdFault) → Left r → Hears st (next wanted limits st (word (token at text))) r → Says r (Ok tt) b c old new
        → Heard wanted limits (stage.Body b) (stage.Body c) false st (next wanted limits st (word (token at text))) old new
    go (Ok q) l x e = record {
      pictures = subst (λ y. Shows y (next wanted limits st (word (token at text)))) (sym e.0) x.0;
      pushed = q.1;
      rows = x.1;
      block = e.1;
      few = omega (arith, l);
      none = λ e. absurd (cc);
      stays = λ _. refl;
      ends = refl;
    }
    go (Err f) l x e = absurd e

pub body-refused : (wanted : Wanted) (limits : Limits) (b c : Body) (st : Story) (at : ℕ) (text : List ℕ) (f : VcdFault) (old new : List Row)
    → Says (hear_of b at text) (Err f) b c old new → Shows b st
    → Refuses f st (next wanted limits st (word (token at text)))
body-refused wanted limits b c st at text f old new h s = go (hear_of b at text) (hears wanted limits b st s at text) h
  where
    go : (r : Result (Body × List Row) VcdFault) → Hears st (next wanted limits st (word (token at text))) r → Says r (Err f) b c old new
        → Refuses f st (next wanted limits st (word (token at text)))
    go (Ok q) x e = absurd e
    go (Err g) x e = record { fault = x.0 ∙ ap (λ y. Some y) (sym e.0); place = x.1; rows = x.2 }

-- A token of the header.

-- The end of the header.

opened-told : (wanted : Wanted) (h : Heading) (st next : Story) (c : Closes wanted h st next) (b : Body) → IsOpened wanted c.declared b
    → next ≡ record { changes = []; place = p.body (place_of b c.declared); fault = None }
opened-told wanted h st next c b o =
    let at : p.Amid → Bool → ℕ → Story =
    λ a v n. record {
      changes = [];
      place = p.body (record { amid = a; dumping = v; now = n; declared = c.declared; bound = b.binding.bound });
      fault =
          None;
    } in
    c.ends ∙ ap (λ r. told [] (p.header c.before) (d.opens c.declared r)) o.binds
    ∙ ap (λ a. at (amid_of a) false 0) (sym o.begins.amid) ∙ ap (λ v. at (amid_of b.amid) v 0) (sym o.begins.dumping)
    ∙ ap (at (amid_of b.amid) b.dumping) (sym o.begins.present)

pub begins : (wanted : Wanted) (h : Heading) (st next : Story) (c : Closes wanted h st next) (b : Body) → IsOpened wanted c.declared b
    → Begins (stage.Body b) st next
unfolding rows
begins wanted h st next c b o = record {
  is_body = refl;
  pictures = λ wanted' limits. record {
    declared = c.declared;
    old = [];
    cur = [];
    told = opened-told wanted h st next c b o;
    earlier = tt;
    current = tt;
    codes = o.codes;
    bound = o.begins.declared;
    marks = o.begins.marks;
  };
  rows = ap complete (opened-told wanted h st next c b o) ∙ sym (ap complete c.told);
}

-- the body began at a token
pub begun : (wanted : Wanted) (limits : Limits) (h : Heading) (s : Stage) (st next : Story) (rows : List Row) → Begins s st next
    → Heard wanted limits (stage.Header h) s true st next rows rows
begun wanted limits h s st next rows b = record {
  pictures = b.pictures wanted limits;
  pushed = [];
  rows = b.rows ∙ sym (append-nil (complete st));
  block = sym (append-nil rows);
  few = omega arith;
  none = λ _. refl;
  stays = λ e. absurd (cc);
  ends = sym b.is_body;
}

pub caused-map : {P Q : Type 0} (f : VcdFault) → (P → Q) → Caused f P → Caused f Q
caused-map faults.Memory g x = tt
caused-map (faults.TokenTooLong a) g x = g x
caused-map (faults.BadHeader a) g x = g x
caused-map (faults.TooManyVars a) g x = g x
caused-map (faults.TooDeep a) g x = g x
caused-map (faults.BadTime a) g x = g x
caused-map (faults.BadChange a) g x = g x
caused-map (faults.UnknownCode a) g x = g x
caused-map (faults.UnknownCommand a) g x = g x
caused-map (faults.Gap a) g x = g x
caused-map (faults.Truncated a) g x = g x
caused-map (faults.TooLong a) g x = g x
caused-map (faults.TimeBack a b c) g x = g x
caused-map (faults.Unbound a) g x = g x
caused-map (faults.Ambiguous a) g x = g x
