-- The rows of a body are one, however the letters of its plan lie in memory.
use Rattle.std.proofs.Common.{◌≡◌, ℕ, ◌+◌, List, [], ◌∷◌, ◌++◌, length, drop, filter, fold, Bool, true, false, not, ◌&&◌, cond, nat_lt, Option, Some, None}
use Rattle.std.proofs.Common.{slice_get}
use Rattle.std.proofs.Common.{refl, sym, ap, ◌∙◌, bytes_eq, decimal}
use Rattle.std.specs.List.{list_all, range_with_len}
use Rattle.std.proofs.lemmas.List.{length-map}
use Rattle.std.proofs.lemmas.Option.{slice_get-map}
use Rattle.std.specs.Option.{option_map}
use Rattle.ccsl_base.specs.declared.limits.TheConstants.{MAX_FILE_BYTES}
use Rattle.ccsl_vcd_lex.specs.Tokens.{Token, Heard, word, too_long}
use Rattle.ccsl_vcd.specs.declared.fault.VcdFault.{VcdFault}
use Rattle.ccsl_vcd.specs.declared.fault.VcdFault.TheVariants as faults
use Rattle.ccsl_vcd.specs.Words as w
use Rattle.ccsl_vcd.specs.Words.{Word, word_of}
use Rattle.ccsl_triggers.specs.declared.watch.Goal as code
use Rattle.ccsl_triggers.specs.declared.watch.Trigger as codes
use Rattle.ccsl_triggers.specs.declared.watch.Trigger.TheVariants as t
use Rattle.ccsl_triggers.specs.declared.watch.Watch.{Watch}
use Rattle.ccsl_triggers.specs.Views.{View, at_rest}
use Rattle.ccsl_triggers.specs.Triggers.{part, rises, falls, differs, of_view, of_part, happens, sets_off, held_before, met_by}
use Rattle.ccsl_triggers.specs.Output.{row_text}
use Rattle.ccsl_events.specs.Binding as seen
use Rattle.ccsl_events.specs.Binds.{seen_goal, seen_goals, seen_trigger, seen_watch, seen_watches, seen_plan}
use Rattle.ccsl_events.specs.Dump.{Plan, Variable, Place, Amid, changes, remark, code_of, code_skipped, goes, refused, Story, says, told, next, next_from}
use Rattle.ccsl_events.specs.Dump.{begin}
use Rattle.ccsl_events.specs.Dump.{happens_in, names_at, passed, token_says, word_says, may_end}
use Rattle.ccsl_events.specs.Run.{settled_from}
use Rattle.ccsl_events_top.specs.Reading.{read_of, is_too_long, body_ends, story_behind, body_said, rows_at, rows_of}

-- ## By what is seen of an event

abbrev met : seen.Goal ℕ → List ℕ → Bool
met g letters = cond g.is_equal (bytes_eq (part g.part.bits letters) g.letters) (not (bytes_eq (part g.part.bits letters) g.letters))

abbrev met_before : seen.Goal ℕ → Option (List ℕ) → Bool
met_before g None = false
met_before g (Some before) = met g before

abbrev set_off : seen.Trigger ℕ → (ℕ → View) → Bool
set_off (seen.rise p) v = of_view (of_part rises p.bits) (v p.variable)
set_off (seen.fall p) v = of_view (of_part falls p.bits) (v p.variable)
set_off (seen.change p) v = of_view (of_part differs p.bits) (v p.variable)
set_off (seen.becomes g) v = of_view (λ before after. met g after && not (met g before)) (v g.part.variable)
set_off (seen.record_of n) v = (v n).heard

all_met : List (seen.Goal ℕ) → (ℕ → View) → Bool
all_met [] v = true
all_met (g ∷ gs) v = met_before g (v g.part.variable).before && all_met gs v

abbrev happened : Option (seen.Watch ℕ) → (ℕ → View) → Bool
happened None v = false
happened (Some x) v = set_off x.trigger v && all_met x.conditions v

same-met : (g : code.Goal) (o : Option (List ℕ)) → met_by g o ≡ met_before (seen_goal g) o
same-met g None = refl
same-met g (Some before) = refl

same-all : (gs : List code.Goal) (v : ℕ → View) → list_all (held_before v) gs ≡ all_met (seen_goals gs) v
unfolding all_met
same-all [] v = refl
same-all (g ∷ gs) v =
    ap (λ (b : Bool). b && list_all (held_before v) gs) (same-met g (v g.part.signal).before)
    ∙ ap (λ (b : Bool). met_before (seen_goal g) (v g.part.signal).before && b) (same-all gs v)

same-trigger : (x : codes.Trigger) (v : ℕ → View) → sets_off x v ≡ set_off (seen_trigger x) v
same-trigger (t.Rise p) v = refl
same-trigger (t.Fall p) v = refl
same-trigger (t.Change p) v = refl
same-trigger (t.Becomes g) v = refl
same-trigger (t.Record n) v = refl

same-watch : (x : Watch) (v : ℕ → View) → happens x v ≡ happened (Some (seen_watch x)) v
same-watch x v =
    ap (λ (b : Bool). b && list_all (held_before v) x.conditions.items) (same-trigger x.trigger v)
    ∙ ap (λ (b : Bool). set_off (seen_trigger x.trigger) v && b) (same-all x.conditions.items v)

same-option : (o : Option Watch) (v : ℕ → View) → happens_in o v ≡ happened (option_map seen_watch o) v
same-option None v = refl
same-option (Some x) v = same-watch x v

same-at : (ws : List Watch) (n : ℕ) (v : ℕ → View) → happens_in (slice_get ws n) v ≡ happened (slice_get (seen_watches ws) n) v
same-at ws n v = same-option (slice_get ws n) v ∙ ap (λ (o : Option (seen.Watch ℕ)). happened o v) (sym (slice_get-map seen_watch ws n))

-- ## Names

same-filter : (f g : ℕ → Bool) (xs : List ℕ) → ((n : ℕ) → f n ≡ g n) → filter f xs ≡ filter g xs
same-filter f g [] same = refl
same-filter f g (n ∷ ns) same =
    ap (λ (b : Bool). cond b (n ∷ filter f ns) (filter f ns)) (same n)
    ∙ ap (λ (ms : List ℕ). cond (g n) (n ∷ ms) ms) (same-filter f g ns same)

abbrev names_seen : List (seen.Watch ℕ) → (ℕ → View) → List ℕ
names_seen ws v = filter (λ n. happened (slice_get ws n) v) (range_with_len 0 (length ws))

by-seen : (ws : List Watch) (v : ℕ → View) → names_at ws v ≡ names_seen (seen_watches ws) v
by-seen ws v =
    same-filter (λ n. happens_in (slice_get ws n) v) (λ n. happened (slice_get (seen_watches ws) n) v) (range_with_len 0 (length ws))
    (λ n. same-at ws n v)
    ∙ ap (λ (k : ℕ). filter (λ n. happened (slice_get (seen_watches ws) n) v) (range_with_len 0 k)) (sym (length-map ws seen_watch))

-- ## Plans that differ in their events alone, which are seen as the same

module _ (known : List (List ℕ)) (variables : List Variable) (skips : Bool) (ws xs : List Watch) (e : seen_watches ws ≡ seen_watches xs) where
  abbrev one : Plan
  one = record { codes = known; variables = variables; watches = ws; skips = skips }

  abbrev other : Plan
  other = record { codes = known; variables = variables; watches = xs; skips = skips }

  same-names : (v : ℕ → View) → names_at ws v ≡ names_at xs v
  same-names v = by-seen ws v ∙ ap (λ (ys : List (seen.Watch ℕ)). names_seen ys v) e ∙ sym (by-seen xs v)

  same-passed : (p : Place) → passed one p ≡ passed other p
  same-passed p =
      ap (λ (ns : List ℕ). record p {
        views = λ n. at_rest (p.views n);
        written = p.written ++ row_text (decimal p.now) ns;
        times = p.times + cond (nat_lt 0 (length ns)) 1 0;
      }) (same-names p.views)

  same-word : (p : Place) (x : Token) (k : Word) → word_says one p x k ≡ word_says other p x k
  same-word p x (w.time n) =
      ap (λ (q : Place). cond (nat_lt n p.now) (refused (faults.TimeBack x.at p.now n)) (cond (nat_lt p.now n) (goes (record q { now = n })) (goes p)))
      (same-passed p)
  same-word p x (w.scalar first text) = refl
  same-word p x (w.vector first) = refl
  same-word p x w.skipped = refl
  same-word p x w.comment = refl
  same-word p x w.dump = refl
  same-word p x w.gap = refl
  same-word p x w.close = refl
  same-word p x w.bad_time = refl
  same-word p x w.bad_change = refl
  same-word p x w.unknown = refl

  same-token : (p : Place) (x : Token) (amid : Amid) → token_says one p x amid ≡ token_says other p x amid
  same-token p x changes = same-word p x (word_of x.text)
  same-token p x remark = refl
  same-token p x (code_of letters) = refl
  same-token p x code_skipped = refl

  same-says : (p : Place) (h : Heard) → says one p h ≡ says other p h
  unfolding says
  same-says p (too_long at) = refl
  same-says p (word x) = same-token p x p.amid

  same-next : (p : Place) (f : Option VcdFault) (h : Heard) → next_from one p f h ≡ next_from other p f h
  same-next p None h = ap (told p) (same-says p h)
  same-next p (Some f) h = refl

  same-fold : (s : Story) (hs : List Heard) → fold (next one) s hs ≡ fold (next other) s hs
  same-fold s [] = refl
  same-fold s (h ∷ hs) =
      ap (λ (r : Story). fold (next one) r hs) (same-next s.place s.fault h) ∙ same-fold (next other s h) hs

  same-story : (start : ℕ) (dump : List ℕ) → story_behind one start dump ≡ story_behind other start dump
  same-story start dump = same-fold (record { place = begin; fault = None }) (settled_from start (drop start (read_of dump)))

  same-end : (dump : List ℕ) (p : Place) (f : Option VcdFault) → body_ends one dump p f ≡ body_ends other dump p f
  same-end dump p None =
      ap (λ (q : Place). cond (is_too_long dump) (refused (faults.TooLong MAX_FILE_BYTES))
      (cond (may_end p) (goes q) (refused (faults.Truncated (length dump)))))
      (same-passed p)
  same-end dump p (Some f) = refl

  same-said : (start : ℕ) (dump : List ℕ) → body_said one start dump ≡ body_said other start dump
  same-said start dump =
      ap (λ (s : Story). body_ends one dump s.place s.fault) (same-story start dump)
      ∙ same-end dump (story_behind other start dump).place (story_behind other start dump).fault

  same-rows : (start : ℕ) (dump : List ℕ) → rows_of one start dump ≡ rows_of other start dump
  same-rows start dump =
      ap (λ (s : Story). rows_at s.place (body_said one start dump)) (same-story start dump)
      ∙ ap (rows_at (story_behind other start dump).place) (same-said start dump)

-- ## Plans that are seen as the same

module _ (p q : Plan) (e : seen_plan p ≡ seen_plan q) (start : ℕ) (dump : List ℕ) where
  abbrev between : Plan
  between = record { codes = q.codes; variables = q.variables; watches = p.watches; skips = q.skips }

  replaced : p ≡ between
  replaced =
      ap (λ (known : List (List ℕ)). record p { codes = known }) (ap (λ (b : seen.Bound). b.codes) e)
      ∙ ap (λ (vs : List Variable). record p { codes = q.codes; variables = vs }) (ap (λ (b : seen.Bound). b.variables) e)
      ∙ ap (λ (s : Bool). record p { codes = q.codes; variables = q.variables; skips = s }) (ap (λ (b : seen.Bound). b.skips) e)

  watches-same : seen_watches p.watches ≡ seen_watches q.watches
  watches-same = ap (λ (b : seen.Bound). b.watches) e

  pub one-said : body_said p start dump ≡ body_said q start dump
  one-said =
      ap (λ (x : Plan). body_said x start dump) replaced
      ∙ same-said q.codes q.variables q.skips p.watches q.watches watches-same start dump

  pub one-rows : rows_of p start dump ≡ rows_of q start dump
  one-rows =
      ap (λ (x : Plan). rows_of x start dump) replaced
      ∙ same-rows q.codes q.variables q.skips p.watches q.watches watches-same start dump
