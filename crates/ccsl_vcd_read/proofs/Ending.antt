-- The end of a trace.
use Rattle.std.proofs.Common.{◌≡◌, ℕ, ◌+◌, ◌-◌, ◌≤◌, List, [], ◌∷◌, ◌++◌, length, Bool, true, false, cond, Option, Some, None, refl, sym, ap, ◌∙◌, subst}
use Rattle.std.proofs.Common.{append_assoc, arith, length-append}
use Rattle.std.specs.Prelude.{IfNone, IfSome}
use Rattle.std.proofs.lemmas.List.{append-nil}
use Rattle.std.proofs.lemmas.Bool.{le-ltb}
use Rattle.std.specs.Option.{option_or}
use Rattle.ccsl_base.specs.declared.rows.Row.{Row}
use Rattle.ccsl_vcd_lex.specs.Tokens.{token, word, settled, heard}
use Rattle.ccsl_vcd.specs.declared.fault.VcdFault.{VcdFault}
use Rattle.ccsl_vcd.specs.declared.fault.VcdFault.TheVariants as faults
use Rattle.ccsl_vcd.specs.declared.limits.Limits.{Limits}
use Rattle.ccsl_vcd.specs.Binding.{Wanted}
use Rattle.ccsl_vcd.specs.Reading.{Story, next, story, so_far, reading, ends_at, at_end, may_end}
use Rattle.ccsl_vcd.specs.Rows.{recorded, rows, rows_of}
use Rattle.ccsl_vcd.specs.Completed.{complete, done}
use Rattle.ccsl_vcd.proofs.Decided.{story-more, decided-first}
use Rattle.ccsl_vcd.proofs.RowLaws.{rows-all}
use Rattle.ccsl_vcd_read.specs.declared.stage.Stage.{Stage}
use Rattle.ccsl_vcd_read.specs.declared.stage.Stage.TheVariants as stage
use Rattle.ccsl_vcd_read.specs.Heading.{Caused, Refuses}
use Rattle.ccsl_vcd_read.specs.Staging.{Pictures, Heard, row_left, ends_well, shown, shown_at}
use Rattle.ccsl_vcd_read.specs.Reading.{Reading, Running, Stopped, StandsFor, Pushes, AtEnd, Refused, AreCounts}
use Rattle.ccsl_vcd_read.proofs.BodyPictures.{complete-is, row-given}
use Rattle.ccsl_vcd_read.proofs.StagePictures.{caused-map}
use Rattle.ccsl_vcd_read.proofs.Taking.{stopped-is, done-within, no-fault, same-shown, so_far-within}

pub reading-within : (wanted : Wanted) (limits : Limits) (bytes : List ℕ) → length bytes ≤ limits.bytes
    → reading wanted limits bytes ≡ ends_at (length bytes) (story wanted limits (heard bytes))
unfolding reading
reading-within wanted limits bytes h = rw (le-ltb limits.bytes (length bytes) h) refl

pub end-shown : {wanted : Wanted} {v new : Reading} {bytes : List ℕ} {old rows : List Row} → AtEnd wanted v new bytes old rows
    → shown new.stage ≡ shown_at (reading wanted v.limits bytes).place
end-shown {wanted} {v} {new} {bytes} a =
    same-shown wanted v.limits new.stage (story wanted v.limits (heard bytes)) a.pictures
    ∙ sym (ap (λ (x : Story). shown_at x.place) (reading-within wanted v.limits bytes a.within))

-- No token was open.
pub quiet-end : (wanted : Wanted) (v new : Reading) (bytes : List ℕ) (rows : List Row) → Running wanted v bytes → heard bytes ≡ settled bytes ++ []
    → new.stage ≡ v.stage → new.rows ≡ v.rows → AtEnd wanted v new bytes rows rows
quiet-end wanted v new bytes rows s e t r =
    let same : story wanted v.limits (heard bytes) ≡ story wanted v.limits (settled bytes) = ap (story wanted v.limits) (e ∙ append-nil (settled bytes)) in
    record {
      pictures = subst (λ x. Pictures wanted v.limits x (story wanted v.limits (heard bytes))) (sym t)
          (subst (λ x. Pictures wanted v.limits v.stage x) (sym same) s.pictures);
      pushes = record {
        pushed = [];
        rows = ap complete same ∙ sym (done-within wanted v.limits bytes s.within) ∙ sym (append-nil (done wanted v.limits bytes));
        block = sym (append-nil rows);
      };
      rows = r ∙ s.rows ∙ ap (λ x. length (complete x)) (sym same);
      taken = s.taken;
      within = s.within;
    }

-- The last token.
module _ (wanted : Wanted) (v : Reading) (bytes : List ℕ) (at : ℕ) (text : List ℕ) (s : Running wanted v bytes)
    (e : heard bytes ≡ settled bytes ++ word (token at text) ∷ []) where
  last-told : story wanted v.limits (heard bytes) ≡ next wanted v.limits (story wanted v.limits (settled bytes)) (word (token at text))
  last-told = ap (story wanted v.limits) e ∙ story-more wanted v.limits (settled bytes) (word (token at text) ∷ [])

  pub word-end : (t : Stage) (ended : Bool) (old new : List Row) (w : Reading)
      → Heard wanted v.limits v.stage t ended (story wanted v.limits (settled bytes))
      (next wanted v.limits (story wanted v.limits (settled bytes)) (word (token at text))) old new
      → w.stage ≡ t → w.rows ≡ v.rows + (length new - length old) → AtEnd wanted v w bytes old new
  word-end t ended old new w h a b =
      let total : complete (story wanted v.limits (heard bytes)) ≡ complete (story wanted v.limits (settled bytes)) ++ h.pushed =
      ap complete last-told ∙ h.rows in
      let len : length new ≡ length old + length h.pushed = ap length h.block ∙ length-append old h.pushed in
      let more : length new - length old ≡ length h.pushed = omega arith in
      record {
        pictures = subst (λ x. Pictures wanted v.limits x (story wanted v.limits (heard bytes))) (sym a)
            (subst (λ x. Pictures wanted v.limits t x) (sym last-told) h.pictures);
        pushes = record { pushed = h.pushed; rows = total ∙ ap (λ rs. rs ++ h.pushed) (sym (done-within wanted v.limits bytes s.within)); block = h.block };
        rows = b ∙ ap (λ k. v.rows + k) more ∙ ap (λ k. k + length h.pushed) s.rows
            ∙ sym (length-append (complete (story wanted v.limits (settled bytes))) h.pushed) ∙ ap length (sym total);
        taken = s.taken;
        within = s.within;
      }

  pub word-refused : (g : VcdFault)
      → Refuses g (story wanted v.limits (settled bytes)) (next wanted v.limits (story wanted v.limits (settled bytes)) (word (token at text)))
      → Refused wanted v bytes g
  word-refused g r =
      let whole : reading wanted v.limits bytes ≡ ends_at (length bytes) (next wanted v.limits (story wanted v.limits (settled bytes)) (word (token at text))) =
      reading-within wanted v.limits bytes s.within ∙ ap (ends_at (length bytes)) last-told in
      record {
        fault = ap (λ (x : Story). x.fault) whole
            ∙ ap (λ (o : Option VcdFault). option_or o
            (at_end (length bytes) (next wanted v.limits (story wanted v.limits (settled bytes)) (word (token at text))).place)) r.fault;
        rows = ap complete whole ∙ r.rows ∙ sym (done-within wanted v.limits bytes s.within);
      }

pub block-grows : {wanted : Wanted} {limits : Limits} {a b : Stage} {ended : Bool} {st nx : Story} {old new : List Row}
    → Heard wanted limits a b ended st nx old new → length old ≤ length new
block-grows h = let e = ap length h.block ∙ length-append _ h.pushed in omega (arith, e)

-- Where a trace may end.

pub same-end : (wanted : Wanted) (limits : Limits) (s : Stage) (st : Story) → Pictures wanted limits s st → may_end st.place ≡ ends_well s
same-end wanted limits (stage.Header h) st x = ap (λ (y : Story). may_end y.place) x.told
same-end wanted limits (stage.Body b) st x = ap (λ (y : Story). may_end y.place) x.told
same-end wanted limits stage.Unbound st x = absurd x

rows-left : (wanted : Wanted) (limits : Limits) (s : Stage) (st : Story) → Pictures wanted limits s st → rows_of st ≡ complete st ++ row_left s
unfolding rows
rows-left wanted limits (stage.Header h) st x = ap rows_of x.told ∙ sym (ap (λ y. complete y ++ []) x.told)
rows-left wanted limits (stage.Body b) st x =
    ap rows_of x.told ∙ rows-all b.binding.bound b.present x.old x.cur x.earlier x.current ∙ ap (λ rs. rows b.binding.bound x.old ++ rs) (row-given b st x)
    ∙ ap (λ rs. rs ++ row_left (stage.Body b)) (sym (complete-is b st x))
rows-left wanted limits stage.Unbound st x = absurd x

module _ {wanted : Wanted} {v w : Reading} {bytes : List ℕ} {old mid : List Row} (a : AtEnd wanted v w bytes old mid) where
  whole-told : reading wanted v.limits bytes ≡ ends_at (length bytes) (story wanted v.limits (heard bytes))
  whole-told = reading-within wanted v.limits bytes a.within

  pub truncated : ends_well w.stage ≡ false → (reading wanted v.limits bytes).fault ≡ Some (faults.Truncated (length bytes))
  truncated e =
      ap (λ (x : Story). x.fault) whole-told
      ∙ ap (λ (o : Option VcdFault). option_or o (at_end (length bytes) (story wanted v.limits (heard bytes)).place))
      (no-fault wanted v.limits w.stage (story wanted v.limits (heard bytes)) a.pictures)
      ∙ ap (λ v'. cond v' None (Some (faults.Truncated (length bytes)))) (same-end wanted v.limits w.stage (story wanted v.limits (heard bytes)) a.pictures ∙ e)

  pub cut-pushes : Pushes (done wanted v.limits bytes) (complete (reading wanted v.limits bytes)) old mid
  cut-pushes = subst (λ rs. Pushes (done wanted v.limits bytes) rs old mid) (sym (ap complete whole-told)) a.pushes

  pub accepted : ends_well w.stage ≡ true → (reading wanted v.limits bytes).fault ≡ None
  accepted e =
      ap (λ (x : Story). x.fault) whole-told
      ∙ ap (λ (o : Option VcdFault). option_or o (at_end (length bytes) (story wanted v.limits (heard bytes)).place))
      (no-fault wanted v.limits w.stage (story wanted v.limits (heard bytes)) a.pictures)
      ∙ ap (λ v'. cond v' None (Some (faults.Truncated (length bytes)))) (same-end wanted v.limits w.stage (story wanted v.limits (heard bytes)) a.pictures ∙ e)

  all-rows : recorded wanted v.limits bytes ≡ complete (story wanted v.limits (heard bytes)) ++ row_left w.stage
  unfolding recorded
  all-rows = ap rows_of whole-told ∙ rows-left wanted v.limits w.stage (story wanted v.limits (heard bytes)) a.pictures

  pub end-pushes : (new : List Row) → new ≡ mid ++ row_left w.stage → Pushes (done wanted v.limits bytes) (recorded wanted v.limits bytes) old new
  end-pushes new e = record {
    pushed = a.pushes.pushed ++ row_left w.stage;
    rows = all-rows ∙ ap (λ rs. rs ++ row_left w.stage) a.pushes.rows ∙ append_assoc (done wanted v.limits bytes) a.pushes.pushed (row_left w.stage);
    block = e ∙ ap (λ rs. rs ++ row_left w.stage) a.pushes.block ∙ append_assoc old a.pushes.pushed (row_left w.stage);
  }

  pub end-counts : (new : List Row) (n taken : ℕ) → new ≡ mid ++ row_left w.stage → n ≡ w.rows + (length new - length mid) → taken ≡ v.taken
      → AreCounts wanted v.limits bytes n taken
  end-counts new n taken e k t =
      let len : length new ≡ length mid + length (row_left w.stage) = ap length e ∙ length-append mid (row_left w.stage) in
      let more : length new - length mid ≡ length (row_left w.stage) = omega arith in
      record {
        rows_are = k ∙ ap (λ j. w.rows + j) more ∙ ap (λ j. j + length (row_left w.stage)) a.rows
            ∙ sym (length-append (complete (story wanted v.limits (heard bytes))) (row_left w.stage)) ∙ ap length (sym all-rows);
        bytes_are = t ∙ a.taken;
      }

-- a fault's cause, of all bytes
pub caused-all : (P : Wanted → List ℕ → Type 0) (v : Reading) (f : VcdFault)
    → ((wanted : Wanted) (bytes : List ℕ) → StandsFor wanted v bytes → Caused f (P wanted bytes))
    → Caused f ((wanted : Wanted) (bytes : List ℕ) → StandsFor wanted v bytes → P wanted bytes)
caused-all P v faults.Memory h = tt
caused-all P v (faults.TokenTooLong a) h = h
caused-all P v (faults.BadHeader a) h = h
caused-all P v (faults.TooManyVars a) h = h
caused-all P v (faults.TooDeep a) h = h
caused-all P v (faults.BadTime a) h = h
caused-all P v (faults.BadChange a) h = h
caused-all P v (faults.UnknownCode a) h = h
caused-all P v (faults.UnknownCommand a) h = h
caused-all P v (faults.Gap a) h = h
caused-all P v (faults.Truncated a) h = h
caused-all P v (faults.TooLong a) h = h
caused-all P v (faults.TimeBack a b c) h = h
caused-all P v (faults.Unbound a) h = h
caused-all P v (faults.Ambiguous a) h = h

-- a reader that has stopped
stopped-whole : (wanted : Wanted) (v : Reading) (f : VcdFault) (bytes : List ℕ) → Stopped wanted v f bytes → (reading wanted v.limits bytes).fault ≡ Some f
stopped-whole wanted v f bytes s = ap (λ xs. (reading wanted v.limits xs).fault) (sym (append-nil bytes)) ∙ decided-first wanted v.limits bytes [] f s.fault

pub stopped-refuses : (v : Reading) (f : VcdFault) → v.fault ≡ Some f
    → Caused f ((wanted : Wanted) (bytes : List ℕ) → StandsFor wanted v bytes → (reading wanted v.limits bytes).fault ≡ Some f)
stopped-refuses v f e = caused-all (λ wanted bytes. (reading wanted v.limits bytes).fault ≡ Some f) v f
    (λ wanted bytes s. caused-map f (stopped-whole wanted v f bytes) (stopped-is wanted v f bytes e s))

pub stopped-shown : (v : Reading) (f : VcdFault) → v.fault ≡ Some f
    → Caused f ((wanted : Wanted) (bytes : List ℕ) → StandsFor wanted v bytes → shown v.stage ≡ shown_at (so_far wanted v.limits bytes).place)
stopped-shown v f e = caused-all (λ wanted bytes. shown v.stage ≡ shown_at (so_far wanted v.limits bytes).place) v f
    (λ wanted bytes s. caused-map f (λ x. x.shown) (stopped-is wanted v f bytes e s))

pub running-shown : (wanted : Wanted) (v : Reading) (bytes : List ℕ) → Running wanted v bytes → shown v.stage ≡ shown_at (so_far wanted v.limits bytes).place
running-shown wanted v bytes s =
    same-shown wanted v.limits v.stage (story wanted v.limits (settled bytes)) s.pictures
    ∙ sym (ap (λ (x : Story). shown_at x.place) (so_far-within wanted v.limits bytes s.within))

pub when-none : {P : Type 0} (o : Option VcdFault) → (o ≡ None → P) → IfNone o P
when-none None h = h refl
when-none (Some f) h = tt

pub when-some : (o : Option VcdFault) (P : VcdFault → Type 0) → ((f : VcdFault) → o ≡ Some f → P f) → IfSome o P
when-some None P h = tt
when-some (Some f) P h = h f refl

pub refused-pushes : (wanted : Wanted) (v : Reading) (bytes : List ℕ) (f : VcdFault) (old new : List Row) → new ≡ old → Refused wanted v bytes f
    → Pushes (done wanted v.limits bytes) (complete (reading wanted v.limits bytes)) old new
refused-pushes wanted v bytes f old new e r = record {
  pushed = [];
  rows = r.rows ∙ sym (append-nil (done wanted v.limits bytes));
  block = e ∙ sym (append-nil old);
}
