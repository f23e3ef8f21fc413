-- What is kept of a body, token by token.
use Rattle.std.proofs.Common.{◌≡◌, ℕ, ◌≤◌, ◌<◌, List, [], ◌∷◌, ◌++◌, Bool, true, false, Some, None, Result, Ok, Err, nat_lt, cond, refl, sym, ap, ◌∙◌}
use Rattle.std.proofs.Common.{append_assoc, arith, map, subst, filter}
use Rattle.std.specs.Prelude.{bytes_eq, codes, is_some}
use Rattle.std.proofs.lemmas.List.{append-nil}
use Rattle.std.proofs.lemmas.Bool.{ltb-true, ltb-false}
use Rattle.ccsl_base.specs.declared.rows.Row.{Row}
use Rattle.ccsl_vcd_lex.specs.Tokens.{token, word}
use Rattle.ccsl_vcd.specs.declared.fault.VcdFault.{VcdFault}
use Rattle.ccsl_vcd.specs.declared.fault.VcdFault.TheVariants as faults
use Rattle.ccsl_vcd.specs.declared.limits.Limits.{Limits}
use Rattle.ccsl_vcd.specs.Words as w
use Rattle.ccsl_vcd.specs.Binding.{Declaration, Wanted}
use Rattle.ccsl_vcd.specs.Places as p
use Rattle.ccsl_vcd.specs.Body.{is_declared, change_says, body_says}
use Rattle.ccsl_vcd.specs.Reading.{Story, next, says, told}
use Rattle.ccsl_vcd.specs.Rows.{rows, has_ticks, row}
use Rattle.ccsl_vcd.specs.Completed.{complete}
use Rattle.ccsl_vcd.proofs.RowLaws.{Earlier, Now, rows-all, rows-done, row_now}
use Rattle.ccsl_bind.specs.Codes.{number_of}
use Rattle.ccsl_vcd_read.specs.declared.amid.Amid.{Amid}
use Rattle.ccsl_vcd_read.specs.declared.amid.Amid.TheVariants.{Changes, Remark, Code, CodeSkipped}
use Rattle.ccsl_vcd_read.specs.declared.body.Body.{Body}
use Rattle.ccsl_vcd_read.specs.Meant.{amid_of}
use Rattle.ccsl_vcd_read.specs.Marks.{put, aged, ticking}
use Rattle.ccsl_vcd_read.specs.Step.{row_of, time_says, changed_says, put_number, skipped_says, pass_number, remark_says, word_says, hear_at, hear_of}
use Rattle.ccsl_vcd_read.specs.Picture.{place_of, Shows}
use Rattle.ccsl_bind.proofs.Codes.{declared-number}
use Rattle.ccsl_vcd_read.proofs.MarkLaws.{ticking-marks, marks-aged, marks-put}

abbrev pub tale : List p.Change → Body → List Declaration → Story
tale cs b ds = record { changes = cs; place = p.body (place_of b ds); fault = None }

-- what a token makes of what is kept, and of the rows that are complete
abbrev pub Hears : Story → Story → Result (Body × List Row) VcdFault → Type 0
Hears st next (Ok q) = Shows q.0 next × (complete next ≡ complete st ++ q.1)
Hears st next (Err f) = (next.fault ≡ Some f) × (next.place ≡ st.place) × (complete next ≡ complete st)

pub complete-is : (b : Body) (st : Story) (s : Shows b st) → complete st ≡ rows b.binding.bound s.old
complete-is b st s = ap complete s.told ∙ rows-done b.binding.bound b.present s.old s.cur s.earlier s.current

-- the row of the present time is the one that is given out
pub row-given : (b : Body) (st : Story) (s : Shows b st) → row_now b.binding.bound b.present s.cur s.old ≡ row_of b
row-given b st s =
    let e : map (λ x. x.clock) (filter (Rattle.ccsl_vcd.specs.Rows.ticks s.cur s.old) b.binding.bound) ≡ ticking b.marks =
    ticking-marks b.binding.codes s.old s.cur b.binding.bound ∙ ap ticking (sym s.marks) in
    ap (λ (ts : List ℕ). filter has_ticks (record { time = b.present; ticks = ts } ∷ [])) e

now-more : (now : ℕ) (cur : List p.Change) (c : p.Change) → Now now cur → c.time ≡ now → Now now (cur ++ c ∷ [])
now-more now [] c n e = (e, tt)
now-more now (d ∷ cur) c n e = (n.0, now-more now cur c n.1 e)

now-earlier : (now n : ℕ) (cur : List p.Change) → now < n → Now now cur → Earlier n cur
now-earlier now n [] h k = tt
now-earlier now n (c ∷ cur) h k = (omega (arith, k.0), now-earlier now n cur h k.1)

earlier-more : (now n : ℕ) (old cur : List p.Change) → now < n → Earlier now old → Now now cur → Earlier n (old ++ cur)
earlier-more now n [] cur h e k = now-earlier now n cur h k
earlier-more now n (c ∷ old) cur h e k = (omega (arith, e.0), earlier-more now n old cur h e.1 k)

abbrev pub at_time : Body → ℕ → Body
at_time b n = record b { marks = map aged b.marks; present = n }

module _ (b : Body) (st : Story) (s : Shows b st) where
  abbrev place : p.Body
  place = place_of b s.declared

  -- the story behind a token
  abbrev behind : p.Said → Story
  behind said = told (s.old ++ s.cur) (p.body place) said

  abbrev Said : p.Said → Result (Body × List Row) VcdFault → Type 0
  Said said made = Hears st (behind said) made

  -- a refusal
  refuses : (f : VcdFault) → Said (p.refused f) (Err f)
  refuses f = (refl, ap (λ (t : Story). t.place) (sym s.told), ap complete (sym s.told))

  same-rows : (c : Body) (next : Story) (t : Shows c next) → c.binding ≡ b.binding → t.old ≡ s.old → complete next ≡ complete st ++ []
  same-rows c next t e f =
      complete-is c next t ∙ ap (λ v. rows v.bound t.old) e ∙ ap (rows b.binding.bound) f ∙ sym (complete-is b st s) ∙ sym (append-nil (complete st))

  -- a token without a change, at the same time
  quiet : (a : Amid) (d : Bool)
      → Shows (record b { amid = a; dumping = d }) (behind (p.goes (p.body (place_of (record b { amid = a; dumping = d }) s.declared)) []))
  quiet a d = record {
    declared = s.declared;
    old = s.old;
    cur = s.cur;
    told = ap (λ cs. tale cs (record b { amid = a; dumping = d }) s.declared) (append-nil (s.old ++ s.cur));
    earlier = s.earlier;
    current = s.current;
    codes = s.codes;
    bound = s.bound;
    marks = s.marks;
  }

  goes-quiet : (a : Amid) (d : Bool)
      → Said (p.goes (p.body (place_of (record b { amid = a; dumping = d }) s.declared)) []) (Ok (record b { amid = a; dumping = d }, []))
  unfolding quiet
  goes-quiet a d = (quiet a d, same-rows _ _ (quiet a d) refl refl)

  -- a change of a code that is declared
  abbrev change_at : List ℕ → Bool → p.Change
  change_at code one = record { time = b.present; code = code; one = one; dumped = b.dumping }

  abbrev after_change : ℕ → Bool → Body
  after_change n one = record b { amid = Changes; marks = map (put n one b.dumping) b.marks }

  change : (code : List ℕ) (one : Bool) (n : ℕ) → number_of code b.binding.codes ≡ Some n
      → Shows (after_change n one) (behind (p.goes (p.body (record place { amid = p.changes })) (change_at code one ∷ [])))
  change code one n e = record {
    declared = s.declared;
    old = s.old;
    cur = s.cur ++ change_at code one ∷ [];
    told = ap (λ cs. tale cs (after_change n one) s.declared) (append_assoc s.old s.cur (change_at code one ∷ []));
    earlier = s.earlier;
    current = now-more b.present s.cur (change_at code one) s.current refl;
    codes = s.codes;
    bound = s.bound;
    marks = ap (map (put n one b.dumping)) s.marks ∙ marks-put b.binding.codes s.old s.cur (change_at code one) n b.binding.bound e s.bound;
  }

  -- whether a code is declared, by its number
  declared-so : (code : List ℕ) → is_declared s.declared code ≡ is_some (number_of code b.binding.codes)
  declared-so code = declared-number s.declared code ∙ ap (λ cs. is_some (number_of code cs)) (sym s.codes)

  changed : (at : ℕ) (text code : List ℕ) (one : Bool) → Said (Rattle.ccsl_vcd.specs.Body.changed place (token at text) code one) (changed_says b at code one)
  unfolding change
  changed at text code one =
      (elim (number_of code b.binding.codes) as (λ o. number_of code b.binding.codes ≡ o
      → Said (Rattle.ccsl_vcd.specs.Body.changed place (token at text) code one) (put_number b at one o)) [
        | Some n ↦ λ e. rw (declared-so code ∙ ap is_some e) (some n e)
        | None ↦ λ e. rw (declared-so code ∙ ap is_some e) (refuses (faults.UnknownCode at))
      ]) refl
    where
      some : (n : ℕ) → number_of code b.binding.codes ≡ Some n
          → Said (p.goes (p.body (record place { amid = p.changes })) (change_at code one ∷ [])) (Ok (after_change n one, []))
      some n e = (change code one n e, same-rows _ _ (change code one n e) refl refl)

  skipped : (at : ℕ) (code : List ℕ) → Said (body_says place (token at code) p.code_skipped) (skipped_says b at code)
  skipped at code =
      (elim (number_of code b.binding.codes) as (λ o. number_of code b.binding.codes ≡ o
      → Said (body_says place (token at code) p.code_skipped) (pass_number b at o)) [
        | Some n ↦ λ e. rw (declared-so code ∙ ap is_some e) (goes-quiet Changes b.dumping)
        | None ↦ λ e. rw (declared-so code ∙ ap is_some e) (refuses (faults.UnknownCode at))
      ]) refl

  -- a greater time
  later : (n : ℕ) → b.present < n → Shows (at_time b n) (behind (p.goes (p.body (record place { now = n })) []))
  later n h = record {
    declared = s.declared;
    old = s.old ++ s.cur;
    cur = [];
    told = refl;
    earlier = earlier-more b.present n s.old s.cur h s.earlier s.current;
    current = tt;
    codes = s.codes;
    bound = s.bound;
    marks = ap (map aged) s.marks ∙ marks-aged b.binding.codes s.old s.cur b.binding.bound;
  }

  later-rows : (n : ℕ) → b.present < n → complete (behind (p.goes (p.body (record place { now = n })) [])) ≡ complete st ++ row_of b
  unfolding later
  later-rows n h =
      complete-is (at_time b n) _ (later n h) ∙ rows-all b.binding.bound b.present s.old s.cur s.earlier s.current
      ∙ ap (λ rs. rows b.binding.bound s.old ++ rs) (row-given b st s) ∙ ap (λ rs. rs ++ row_of b) (sym (complete-is b st s))

  -- the present time once more
  again : (n : ℕ) → n ≡ b.present → Shows b (behind (p.goes (p.body (record place { now = n })) []))
  again n e = record {
    declared = s.declared;
    old = s.old;
    cur = s.cur;
    told = ap (λ cs. record { changes = cs; place = p.body (record place { now = n }); fault = None }) (append-nil (s.old ++ s.cur))
        ∙ ap (λ m. record { changes = s.old ++ s.cur; place = p.body (record place { now = m }); fault = None }) e;
    earlier = s.earlier;
    current = s.current;
    codes = s.codes;
    bound = s.bound;
    marks = s.marks;
  }

  timed : (at : ℕ) (text : List ℕ) (n : ℕ) → Said (change_says place (token at text) (w.time n)) (time_says b at n)
  unfolding again
  timed at text n =
      (elim (nat_lt n b.present) as (λ v. nat_lt n b.present ≡ v
      → Said (cond v (p.refused (faults.TimeBack at b.present n)) (p.goes (p.body (record place { now = n })) []))
      (cond v (Err (faults.TimeBack at b.present n)) (cond (nat_lt b.present n) (Ok (at_time b n, row_of b)) (Ok (b, []))))) [
        | true ↦ λ _. refuses (faults.TimeBack at b.present n)
        | false ↦ λ e. onward e
      ]) refl
    where
      same : n ≡ b.present → Said (p.goes (p.body (record place { now = n })) []) (Ok (b, []))
      same e = (again n e, same-rows _ _ (again n e) refl refl)

      onward : nat_lt n b.present ≡ false
          → Said (p.goes (p.body (record place { now = n })) []) (cond (nat_lt b.present n) (Ok (at_time b n, row_of b)) (Ok (b, [])))
      onward e =
          (elim (nat_lt b.present n) as (λ v. nat_lt b.present n ≡ v
          → Said (p.goes (p.body (record place { now = n })) []) (cond v (Ok (at_time b n, row_of b)) (Ok (b, [])))) [
            | true ↦ λ g. (later n (ltb-true _ _ g), later-rows n (ltb-true _ _ g))
            | false ↦ λ g.
                let above : b.present ≤ n = ltb-false n b.present e in
                let below : n ≤ b.present = ltb-false b.present n g in
                let eq : n ≡ b.present = omega arith in
                same eq
          ]) refl

  -- a dump block opens or closes
  opened : (at : ℕ) (text : List ℕ) → Said (change_says place (token at text) w.dump) (word_says b at w.dump)
  opened at text =
      elim b.dumping as (λ d. Said (cond d (p.refused (faults.UnknownCommand at)) (p.goes (p.body (record place { dumping = true })) []))
      (cond d (Err (faults.UnknownCommand at)) (Ok (record b { dumping = true }, [])))) [
        | true ↦ refuses (faults.UnknownCommand at)
        | false ↦ goes-quiet b.amid true
      ]

  closed : (at : ℕ) (text : List ℕ) → Said (change_says place (token at text) w.close) (word_says b at w.close)
  closed at text =
      elim b.dumping as (λ d. Said (cond d (p.goes (p.body (record place { dumping = false })) []) (p.refused (faults.UnknownCommand at)))
      (cond d (Ok (record b { dumping = false }, [])) (Err (faults.UnknownCommand at)))) [
        | true ↦ goes-quiet b.amid false
        | false ↦ refuses (faults.UnknownCommand at)
      ]

  gap : (at : ℕ) (text : List ℕ) → Said (change_says place (token at text) w.gap) (word_says b at w.gap)
  gap at text =
      elim b.dumping as (λ d. Said (cond d (p.refused (faults.UnknownCommand at)) (p.refused (faults.Gap at)))
      (cond d (Err (faults.UnknownCommand at)) (Err (faults.Gap at)))) [
        | true ↦ refuses (faults.UnknownCommand at)
        | false ↦ refuses (faults.Gap at)
      ]

  says-word : (at : ℕ) (text : List ℕ) (x : w.Word) → Said (change_says place (token at text) x) (word_says b at x)
  says-word at text (w.time n) = timed at text n
  says-word at text (w.scalar one code) = changed at text code one
  says-word at text (w.vector one) = goes-quiet (Code one) b.dumping
  says-word at text w.skipped = goes-quiet CodeSkipped b.dumping
  says-word at text w.comment = goes-quiet Remark b.dumping
  says-word at text w.dump = opened at text
  says-word at text w.gap = gap at text
  says-word at text w.close = closed at text
  says-word at text w.bad_time = refuses (faults.BadTime at)
  says-word at text w.bad_change = refuses (faults.BadChange at)
  says-word at text w.unknown = refuses (faults.UnknownCommand at)

  says-remark : (text : List ℕ)
      → Said (cond (bytes_eq text (codes "$end")) (p.goes (p.body (record place { amid = p.changes })) []) (p.goes (p.body place) [])) (remark_says b text)
  says-remark text =
      elim (bytes_eq text (codes "$end")) as (λ v. Said (cond v (p.goes (p.body (record place { amid = p.changes })) []) (p.goes (p.body place) []))
      (cond v (Ok (record b { amid = Changes }, [])) (Ok (b, [])))) [
        | true ↦ goes-quiet Changes b.dumping
        | false ↦ goes-quiet b.amid b.dumping
      ]

  hears-amid : (at : ℕ) (text : List ℕ) (a : Amid) → Said (body_says place (token at text) (amid_of a)) (hear_at b at text a)
  hears-amid at text Changes = says-word at text (w.word_of text)
  hears-amid at text Remark = says-remark text
  hears-amid at text (Code one) = changed at text text one
  hears-amid at text CodeSkipped = skipped at text

-- Each token makes of what is kept what it makes of the story.
pub hears : (wanted : Wanted) (limits : Limits) (b : Body) (st : Story) (s : Shows b st) (at : ℕ) (text : List ℕ)
    → Hears st (next wanted limits st (word (token at text))) (hear_of b at text)
unfolding says
hears wanted limits b st s at text =
    subst (λ (x : Story). Hears st (next wanted limits x (word (token at text))) (hear_of b at text)) (sym s.told) (hears-amid b st s at text b.amid)
