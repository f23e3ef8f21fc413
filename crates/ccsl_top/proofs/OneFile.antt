-- A certificate that is opened, written and closed.
use Rattle.std.proofs.Common.{◌≡◌, ◌≢◌, ℕ, ◌≤◌, List, ◌++◌, length, take, IsTrue, refl, sym, ap, ◌∙◌, arith, take_all, le_refl}
use Rattle.ccsl_edge.specs.declared.slot.Slot.{Slot}
use Rattle.ccsl_edge.specs.declared.slot.Slot.TheVariants.{CertOut}
use Rattle.ccsl_edge.specs.World.{State, Told, file_at}
use Rattle.ccsl_edge.specs.Stored.{Stores}
use Rattle.ccsl_edge.specs.Calls.{Fails, OpensOut, Adds, AddsFront, Closes}
use Rattle.ccsl_top.specs.Headline.{IsKeptOrWhole, kept, whole, IsFrontOn, part}
use Rattle.ccsl_top.specs.Explaining.{file_of, WritesSome, WritesWhole, WritesBreak}
use Rattle.ccsl_top.proofs.Writing.{by-name}

module _ {cert bytes : List ℕ} {s t : State} where
  front-of : (count : ℕ) → (t.slot_of CertOut).written ≡ take count bytes → IsFrontOn (λ o. o ≡ file_of cert bytes) s t CertOut
  front-of count is = part (file_of cert bytes) refl refl count is

  whole-of : (t.slot_of CertOut).written ≡ bytes → IsFrontOn (λ o. o ≡ file_of cert bytes) s t CertOut
  whole-of is = front-of (length bytes) (is ∙ sym (take_all (length bytes) bytes (le_refl (length bytes))))

  module _ {told : Told} where
    -- the file was not closed yet
    unclosed : ((slot : Slot) → slot ≢ CertOut → t.slot_of slot ≡ s.slot_of slot) → (s.slot_of CertOut).faults ≤ (t.slot_of CertOut).faults →
        t.files ≡ s.files → (IsTrue told.written → IsFrontOn (λ o. o ≡ file_of cert bytes) s t CertOut) → WritesSome told (file_of cert bytes) s t
    unclosed others rises files front = record {
      others = others;
      rises = rises;
      files = λ _ _ name _. ap (λ fs. file_at fs name) files;
      whole = λ _ _ name. kept (ap (λ fs. file_at fs name) files);
      front = front;
    }

-- IT WAS OPENED
module _ {told : Told} {cert : List ℕ} {s a : State} (opens : OpensOut told CertOut cert s a) where
  opened-counts : (a.slot_of CertOut).faults ≡ (s.slot_of CertOut).faults
  opened-counts = ap (λ x. x.faults) opens.here

  pub unwritten-breaks : {bytes : List ℕ} {b : State} → AddsFront told CertOut bytes a b → WritesBreak told (file_of cert bytes) s b
  unwritten-breaks {bytes} {b} f = record {
    some = unclosed
        (λ slot n. f.only.others slot n ∙ opens.only.others slot n)
        (let e = opened-counts in let r = f.rose.0 in omega (arith, e, r))
        (f.only.files ∙ opens.only.files)
        (λ w. front-of f.count (f.front w ∙ ap (λ front. front ++ take f.count bytes) (opens.empty w)));
    rose = rw opened-counts at f.rose;
  }

  -- AND WRITTEN
  module _ {bytes : List ℕ} {b : State} (adds : Adds told CertOut bytes a b) where
    added-counts : (b.slot_of CertOut).faults ≡ (s.slot_of CertOut).faults
    added-counts = ap (λ x. x.faults) adds.here ∙ opened-counts

    added-others : (slot : Slot) → slot ≢ CertOut → b.slot_of slot ≡ s.slot_of slot
    added-others slot n = adds.only.others slot n ∙ opens.only.others slot n

    added-files : b.files ≡ s.files
    added-files = adds.only.files ∙ opens.only.files

    added-written : IsTrue told.written → (b.slot_of CertOut).written ≡ bytes
    added-written w = adds.end w ∙ ap (λ front. front ++ bytes) (opens.empty w)

    added-name : IsTrue told.written → (b.slot_of CertOut).name ≡ cert
    added-name w = ap (λ x. x.name) adds.here ∙ opens.named w

    pub unclosed-breaks : {c : State} → Fails CertOut b c → WritesBreak told (file_of cert bytes) s c
    unclosed-breaks f = record {
      some = unclosed
          (λ slot n. f.only.others slot n ∙ added-others slot n)
          (let e = added-counts in let r = f.rose.0 in omega (arith, e, r))
          (f.only.files ∙ added-files)
          (λ w. whole-of (ap (λ x. x.written) f.here ∙ added-written w));
      rose = rw added-counts at f.rose;
    }

    -- AND CLOSED
    module _ {c : State} (closes : Closes told CertOut b c) where
      stores : IsTrue told.files → IsTrue told.written → Stores cert bytes b.files c.files
      stores f w = rw (added-name w, added-written w) at closes.file f w

      same-file : (name : List ℕ) → file_at b.files name ≡ file_at s.files name
      same-file name = ap (λ fs. file_at fs name) added-files

      closed-counts : (c.slot_of CertOut).faults ≡ (s.slot_of CertOut).faults
      closed-counts = ap (λ x. x.faults) closes.here ∙ added-counts

      pub closed-whole : WritesWhole told (file_of cert bytes) s c
      closed-whole = record {
        some = record {
          others = λ slot n. closes.others slot n ∙ added-others slot n;
          rises = let e = closed-counts in omega (arith, e);
          files = λ f w name n. (stores f w).others name n ∙ same-file name;
          whole = λ f w name. by-name (IsKeptOrWhole (λ o. o ≡ file_of cert bytes) s c name) name cert
              (λ is. whole (file_of cert bytes) refl (sym is) (ap (file_at c.files) is ∙ (stores f w).file))
              (λ n. kept ((stores f w).others name n ∙ same-file name));
          front = λ w. whole-of (ap (λ x. x.written) closes.here ∙ added-written w);
        };
        closed = ap (λ x. x.is_open) closes.here;
        counts = closed-counts;
        holds = λ f w. (stores f w).file;
      }
