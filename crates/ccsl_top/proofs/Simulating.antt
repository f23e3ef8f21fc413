-- A simulation that is written between the opening of its files and their closing.
use Rattle.std.proofs.Common.{◌≡◌, ℕ, List, [], ◌++◌, length, take, true, false, IsTrue, ⊎_elim, inl, inr, refl, sym, ap, ◌∙◌, take_all}
use Rattle.std.proofs.Common.{le_refl}
use Rattle.ccsl_edge.specs.declared.slot.Slot.{Slot}
use Rattle.ccsl_edge.specs.declared.slot.Slot.TheVariants.{TraceOut, CertOut}
use Rattle.ccsl_edge.specs.World.{State, Told, file_at}
use Rattle.ccsl_edge.specs.Stored.{Stores}
use Rattle.ccsl_edge.specs.Calls.{Fails, OpensOut, Adds, AddsFront, Closes}
use Rattle.ccsl_kernel.specs.Syntax.{System}
use Rattle.ccsl_policy.specs.declared.policies.Policy.{Policy}
use Rattle.ccsl_refute.specs.Writing.{lines_text}
use Rattle.ccsl_vcd_write.specs.Text.{vcd_text}
use Rattle.ccsl_simulate.specs.declared.answer.Done.{Done}
use Rattle.ccsl_simulate.specs.declared.answer.Done.TheVariants.{Full, Deadlock}
use Rattle.ccsl_edge.specs.declared.stop.Stop.{Stop}
use Rattle.ccsl_edge.specs.declared.stop.Stop.TheVariants as stop
use Rattle.ccsl_simulate.specs.Outcome.{IsDone, IsUndone}
use Rattle.ccsl_top.specs.Outcome.{Output}
use Rattle.ccsl_top.specs.Opening.{is_output}
use Rattle.ccsl_top.specs.Simulate.{run, IsCertificate, none, lines, IsOutput, of_trace, of_certificate, trace_output, cert_output}
use Rattle.ccsl_top.specs.Changes.{WritesAlone}
use Rattle.ccsl_top.specs.Headline.{IsKeptOrWhole, kept, whole, IsFrontOn, untouched, part}
use Rattle.ccsl_top.specs.Simulating.{IsEnd, WritesSome, WritesBoth, WriteBreaks, WriteStarves, IsWriteStop}
use Rattle.ccsl_top.proofs.Effects.{alone-then}
use Rattle.ccsl_top.proofs.Outputs.{whole-moves, front-moves}
use Rattle.ccsl_top.proofs.Writing.{cert-apart, trace-apart, on-output, by-name, Keeps, keeps-then, fails-alone, fails-written, opens-keeps, adds-keeps}
use Rattle.ccsl_top.proofs.Writing.{part-alone, closes-alone, closes-counts, closes-written}

-- a certificate of a simulation that is written under two names: nothing written is a front of it
pub record Ending (told : Told) (K : System) (p : Policy) (seed steps : ℕ) (trace cert : List ℕ) : Type 0 where
  pub bytes : List ℕ
  pub valid : IsCertificate K p seed steps bytes

module _ {told : Told} {K : System} {p : Policy} {seed steps : ℕ} {trace cert : List ℕ} (ending : Ending told K p seed steps trace cert) where
  text : List ℕ
  text = vcd_text K (run K p seed steps)

  P : Output → Type 0
  P o = IsOutput K p seed steps trace cert o

  abbrev LeavesSome : State → State → Type 0
  LeavesSome s t = WritesSome told K p seed steps trace cert s t

  abbrev Breaks : State → State → Type 0
  Breaks s t = WriteBreaks told K p seed steps trace cert s t

  trace-part : {s t : State} (count : ℕ) → (t.slot_of TraceOut).written ≡ take count text → IsFrontOn P s t TraceOut
  unfolding text P
  trace-part count is = part (trace_output K p seed steps trace cert) (of_trace refl) refl count is

  trace-whole : {s t : State} → (t.slot_of TraceOut).written ≡ text → IsFrontOn P s t TraceOut
  trace-whole is = trace-part (length text) (is ∙ sym (take_all (length text) text (le_refl (length text))))

  cert-part : {bytes : List ℕ} → IsCertificate K p seed steps bytes → {s t : State} (count : ℕ) → (t.slot_of CertOut).written ≡ take count bytes
      → IsFrontOn P s t CertOut
  unfolding P
  cert-part {bytes} valid count is = part (cert_output K p seed steps trace cert bytes) (of_certificate bytes valid refl) refl count is

  cert-whole : {bytes : List ℕ} → IsCertificate K p seed steps bytes → {s t : State} → (t.slot_of CertOut).written ≡ bytes → IsFrontOn P s t CertOut
  cert-whole {bytes} valid is = cert-part valid (length bytes) (is ∙ sym (take_all (length bytes) bytes (le_refl (length bytes))))

  -- no file was closed yet
  unclosed : {s t : State} → WritesAlone s t → t.files ≡ s.files → (IsTrue told.written → IsFrontOn P s t TraceOut)
      → (IsTrue told.written → IsFrontOn P s t CertOut) → LeavesSome s t
  unfolding P
  unclosed {s} {t} alone files a b = record {
    alone = alone;
    others = λ _ _ name _ _. ap (λ fs. file_at fs name) files;
    whole = λ _ _ name. kept (ap (λ fs. file_at fs name) files);
    fronts = λ w slot out. on-output (IsFrontOn (λ o. IsOutput K p seed steps trace cert o) s t) (a w) (b w) slot out;
  }

  module _ {s t : State} (some : LeavesSome s t) (counts : (slot : Slot) → (t.slot_of slot).faults ≡ (s.slot_of slot).faults) {u : State} where
    fails-some : {slot : Slot} → Fails slot t u → is_output slot ≡ true → LeavesSome s u
    unfolding P
    fails-some f is = record {
      alone = alone-then s t u some.alone (fails-alone f is);
      others = λ a w name x y. ap (λ fs. file_at fs name) f.only.files ∙ some.others a w name x y;
      whole = λ a w name. whole-moves P P (λ o x. x) s s t u name refl (ap (λ fs. file_at fs name) f.only.files) (some.whole a w name);
      fronts = λ w slot out. front-moves P P (λ o x. x) s s t u slot refl (fails-written f slot) (some.fronts w slot out);
    }

    -- a call on the slot of the trace failed, or one on that of the certificate
    trace-fails : Fails TraceOut t u → Breaks s u
    trace-fails f = record { some = fails-some f refl; rose = inl (rw (counts TraceOut) at f.rose) }

    cert-fails : Fails CertOut t u → Breaks s u
    cert-fails f = record { some = fails-some f refl; rose = inr (rw (counts CertOut) at f.rose) }

  -- THE FIRST FILE was opened
  module _ {s a : State} (open_trace : OpensOut told TraceOut trace s a) where
    -- the second was not
    pub unopened-fails : {b : State} → Fails CertOut a b → Breaks s b
    unopened-fails =
        let keeps = opens-keeps open_trace refl in
        cert-fails
        (unclosed keeps.alone keeps.files (λ w. trace-part 0 (open_trace.empty w))
        (λ _. untouched (ap (λ x. x.written) (open_trace.only.others CertOut cert-apart)))) keeps.counts

    -- AND THE SECOND
    module _ {b : State} (open_cert : OpensOut told CertOut cert a b) where
      trace-stays : b.slot_of TraceOut ≡ a.slot_of TraceOut
      trace-stays = open_cert.only.others TraceOut trace-apart

      trace-empty : IsTrue told.written → (b.slot_of TraceOut).written ≡ []
      trace-empty w = ap (λ x. x.written) trace-stays ∙ open_trace.empty w

      both : Keeps s b
      both = keeps-then (opens-keeps open_trace refl) (opens-keeps open_cert refl)

      -- a front of the trace was written, or nothing
      module _ (c : State) where
        trace-only : (count : ℕ) → WritesAlone b c → c.files ≡ b.files
            → (IsTrue told.written → (c.slot_of TraceOut).written ≡ (b.slot_of TraceOut).written ++ take count text) →
            c.slot_of CertOut ≡ b.slot_of CertOut → LeavesSome s c
        trace-only count alone files written same = unclosed (alone-then s b c both.alone alone) (files ∙ both.files)
            (λ w. trace-part count (written w ∙ ap (λ bytes. bytes ++ take count text) (trace-empty w)))
            (λ w. cert-part ending.valid 0 (ap (λ x. x.written) same ∙ open_cert.empty w))

        front-stops : AddsFront told TraceOut text b c → Breaks s c
        front-stops f = record {
          some = trace-only f.count (part-alone f refl) f.only.files f.front (f.only.others CertOut cert-apart);
          rose = inl (rw (both.counts TraceOut) at f.rose);
        }

        cut-starves : (count : ℕ) → Adds told TraceOut (take count text) b c → WriteStarves told K p seed steps trace cert s c
        cut-starves count f =
            let keeps = adds-keeps f refl in
            record {
              some = trace-only count keeps.alone keeps.files f.end (f.only.others CertOut cert-apart);
              counts = (keeps-then both keeps).counts;
            }

        -- the certificate follows the trace
        cert-stops : {bytes : List ℕ} → IsCertificate K p seed steps bytes → {w : State} → Adds told TraceOut text b w → AddsFront told CertOut bytes w c
            → Breaks s c
        cert-stops {bytes} valid {w} adds f =
            let keeps = keeps-then both (adds-keeps adds refl) in
            record {
              some = unclosed (alone-then s w c keeps.alone (part-alone f refl)) (f.only.files ∙ keeps.files)
                  (λ t. trace-whole (ap (λ x. x.written) (f.only.others TraceOut trace-apart) ∙ adds.end t ∙ ap (λ front. front ++ text) (trace-empty t)))
                  (λ t. cert-part valid f.count (f.front t ∙ ap (λ front. front ++ take f.count bytes)
                  (ap (λ x. x.written) (adds.only.others CertOut cert-apart) ∙ open_cert.empty t)));
              rose = inr (rw (keeps.counts CertOut) at f.rose);
            }

        -- a simulation that was not written
        pub undone-stops : (fault : Stop) → IsUndone told K p seed steps b c fault → IsWriteStop told K p seed steps trace cert s c fault
        unfolding text
        undone-stops stop.Fault u = ⊎_elim front-stops
            (λ f. cert-stops (lines f.lines (rw f.blocked.count f.blocked.short) f.blocked.certificate refl) f.blocked.trace f.text) u
        undone-stops stop.Memory u = cut-starves u.count u.trace

        -- BOTH TEXTS were written
        record Texts (done : Done) : Type 0 where
          pub bytes : List ℕ
          pub valid : IsCertificate K p seed steps bytes
          pub ends : IsEnd (length (run K p seed steps)) steps done
          pub keeps : Keeps s c
          pub trace_is : IsTrue told.written → (c.slot_of TraceOut).written ≡ text
          pub trace_name : IsTrue told.written → (c.slot_of TraceOut).name ≡ trace
          pub cert_is : IsTrue told.written → (c.slot_of CertOut).written ≡ bytes
          pub cert_name : IsTrue told.written → (c.slot_of CertOut).name ≡ cert

        texts-written : (done : Done) → IsDone told K p seed steps b c done → Texts done
        unfolding text
        texts-written Full d =
            let adds = d.trace in
            record {
              bytes = [];
              valid = none d.count refl;
              ends = d.count;
              keeps = keeps-then both (adds-keeps adds refl);
              trace_is = λ w. adds.end w ∙ ap (λ front. front ++ text) (trace-empty w);
              trace_name = λ w. ap (λ x. x.name) adds.here ∙ ap (λ x. x.name) trace-stays ∙ open_trace.named w;
              cert_is = λ w. ap (λ x. x.written) (adds.only.others CertOut cert-apart) ∙ open_cert.empty w;
              cert_name = λ w. ap (λ x. x.name) (adds.only.others CertOut cert-apart) ∙ open_cert.named w;
            }
        texts-written (Deadlock at) d =
            let adds = d.blocked.trace in
            let more = d.text in
            let bytes = lines_text K.names d.lines in
            record {
              bytes = bytes;
              valid = lines d.lines (rw d.blocked.count d.blocked.short) d.blocked.certificate refl;
              ends = (d.blocked.count, rw d.blocked.count d.blocked.short);
              keeps = keeps-then both (keeps-then (adds-keeps adds refl) (adds-keeps more refl));
              trace_is = λ t. ap (λ x. x.written) (more.only.others TraceOut trace-apart) ∙ adds.end t ∙ ap (λ front. front ++ text) (trace-empty t);
              trace_name = λ t. ap (λ x. x.name) (more.only.others TraceOut trace-apart) ∙ ap (λ x. x.name) adds.here ∙ ap (λ x. x.name) trace-stays
                  ∙ open_trace.named t;
              cert_is = λ t. more.end t ∙ ap (λ front. front ++ bytes)
                  (ap (λ x. x.written) (adds.only.others CertOut cert-apart) ∙ open_cert.empty t);
              cert_name = λ t. ap (λ x. x.name) more.here ∙ ap (λ x. x.name) (adds.only.others CertOut cert-apart) ∙ open_cert.named t;
            }

        module _ (done : Done) (written : IsDone told K p seed steps b c done) where
          x : Texts done
          x = texts-written done written

          -- a file was not closed
          pub unclosed-fails : {d : State} → Fails TraceOut c d → Breaks s d
          unclosed-fails = trace-fails (unclosed x.keeps.alone x.keeps.files (λ w. trace-whole (x.trace_is w)) (λ w. cert-whole x.valid (x.cert_is w)))
              x.keeps.counts

          -- THE FIRST FILE was closed
          module _ {d : State} (close_trace : Closes told TraceOut c d) where
            stores-trace : IsTrue told.files → IsTrue told.written → Stores trace text s.files d.files
            unfolding text
            stores-trace f w = rw (x.trace_name w, x.trace_is w, x.keeps.files) at close_trace.file f w

            cert-kept : d.slot_of CertOut ≡ c.slot_of CertOut
            cert-kept = close_trace.others CertOut cert-apart

            half-alone : WritesAlone s d
            half-alone = alone-then s c d x.keeps.alone (closes-alone close_trace refl)

            half-counts : (slot : Slot) → (d.slot_of slot).faults ≡ (s.slot_of slot).faults
            half-counts slot = closes-counts close_trace refl slot ∙ x.keeps.counts slot

            half-whole : (u : State) (name : List ℕ) → (file_at u.files name ≡ file_at d.files name) → IsTrue told.files → IsTrue told.written
                → IsKeptOrWhole P s u name
            unfolding text P
            half-whole u name same f w = by-name (IsKeptOrWhole P s u name) name trace
                (λ is. whole (trace_output K p seed steps trace cert) (of_trace refl) (sym is) (same ∙ ap (file_at d.files) is ∙ (stores-trace f w).file))
                (λ n. kept (same ∙ (stores-trace f w).others name n))

            half-some : LeavesSome s d
            unfolding P
            half-some = record {
              alone = half-alone;
              others = λ f w name a _. (stores-trace f w).others name a;
              whole = λ f w name. half-whole d name refl f w;
              fronts = λ w slot out. on-output (IsFrontOn P s d) (trace-whole (closes-written close_trace ∙ x.trace_is w))
                  (cert-whole x.valid (ap (λ y. y.written) cert-kept ∙ x.cert_is w)) slot out;
            }

            -- the second was not
            pub half-closed-fails : {e : State} → Fails CertOut d e → Breaks s e
            half-closed-fails = cert-fails half-some half-counts

            -- AND THE SECOND
            module _ {e : State} (close_cert : Closes told CertOut d e) where
              stores-cert : IsTrue told.files → IsTrue told.written → Stores cert x.bytes d.files e.files
              stores-cert f w = rw (cert-kept, x.cert_name w, x.cert_is w) at close_cert.file f w

              end-some : LeavesSome s e
              unfolding P
              end-some = record {
                alone = alone-then s d e half-alone (closes-alone close_cert refl);
                others = λ f w name a b. (stores-cert f w).others name b ∙ (stores-trace f w).others name a;
                whole = λ f w name. by-name (IsKeptOrWhole P s e name) name cert
                    (λ is. whole (cert_output K p seed steps trace cert x.bytes) (of_certificate x.bytes x.valid refl) (sym is)
                    (ap (file_at e.files) is ∙ (stores-cert f w).file))
                    (λ n. half-whole e name ((stores-cert f w).others name n) f w);
                fronts = λ w slot out. on-output (IsFrontOn P s e)
                    (trace-whole (ap (λ y. y.written) (close_cert.others TraceOut trace-apart) ∙ closes-written close_trace ∙ x.trace_is w))
                    (cert-whole x.valid (closes-written close_cert ∙ ap (λ y. y.written) cert-kept ∙ x.cert_is w)) slot out;
              }

              pub both-written : WritesBoth told K p seed steps trace cert s e done
              unfolding text
              both-written = record {
                some = end-some;
                closed = λ slot out. on-output (λ x. (e.slot_of x).is_open ≡ false)
                    (ap (λ y. y.is_open) (close_cert.others TraceOut trace-apart) ∙ ap (λ y. y.is_open) close_trace.here)
                    (ap (λ y. y.is_open) close_cert.here) slot out;
                counts = λ slot. closes-counts close_cert refl slot ∙ half-counts slot;
                ends = x.ends;
                text = x.bytes;
                valid = x.valid;
                trace_holds = λ n f w. (stores-cert f w).others trace n ∙ (stores-trace f w).file;
                cert_holds = λ f w. (stores-cert f w).file;
              }
