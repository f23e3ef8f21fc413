-- What stands for a place, and what follows it.
use Rattle.std.proofs.Common.{◌≡◌, inl, inr, ℕ, ◌+◌, ◌-◌, ◌^◌, min, List, [], ◌++◌, Bool, true, false, Result, Ok, Err, if◌then◌else◌, refl, sym, ap, subst}
use Rattle.std.proofs.Common.{◌∙◌, arith}
use Rattle.std.proofs.lemmas.List.{append-nil}
use Rattle.ccsl_vcd.specs.declared.fault.VcdFault.{VcdFault}
use Rattle.ccsl_vcd.specs.declared.fault.VcdFault.TheVariants as faults
use Rattle.ccsl_triggers.specs.Views.{no_view}
use Rattle.ccsl_events.specs.declared.body.Body.{Body}
use Rattle.ccsl_events.specs.Dump.{Plan, Place, Said, goes, refused, block_says, gap_says}
use Rattle.ccsl_events.specs.Standing.{are_skipped, counted, Stands, Follows, Answers}

-- nothing is written on the way
pub follows-still : (plan : Plan) (q : Place) (b : Body) (xs : List ℕ) → Stands plan q b → Follows plan q.written q b xs xs
follows-still plan q b xs s = record { stands = s; more = []; out = sym (append-nil xs); written = sym (append-nil q.written) }

pub answers-still : (plan : Plan) (before : List ℕ) (s : Said) (r : Result (Unit {0}) VcdFault) (b : Body) (xs : List ℕ) →
    Answers plan before s r b [] [] → Answers plan before s r b xs xs
answers-still plan before (goes q) (Ok u) b xs a = record {
  stands = a.stands;
  more = [];
  out = sym (append-nil xs);
  written = a.written ∙ ap (λ m. before ++ m) (sym a.out);
}
answers-still plan before (goes q) (Err f) b xs a = a
answers-still plan before (refused g) (Ok u) b xs a = a
answers-still plan before (refused g) (Err f) b xs (inl is) = inl (is.0, refl)
answers-still plan before (refused g) (Err f) b xs (inr m) = inr m

-- so many more are counted
pub counted-more : (n more : ℕ) → min (counted n + more) (2 ^ 64 - 1) ≡ counted (n + more)
counted-more n more = omega arith

-- values are recorded from here on, if a test holds
pub stands-on : (plan : Plan) (p : Place) (b b' : Body) (t : Bool) → Stands plan p b → b' ≡ record b { is_on = if t then true else b.is_on } →
    Stands plan (record p { recording = if t then true else p.recording }) b'
stands-on plan p b b' t s is =
    subst (Stands plan (record p { recording = if t then true else p.recording })) (sym is) (record {
      keeps = s.keeps;
      amid = s.amid;
      dumping = s.dumping;
      recording = ap (λ r. if t then true else r) s.recording;
      now = s.now;
      skips = s.skips;
      times = s.times;
    })

-- a gap begins where a block may, and gaps are skipped
pub gap-goes : (plan : Plan) (p : Place) (at : ℕ) (b c : Body) → Answers plan p.written (block_says p at) (Ok tt) b [] [] → are_skipped b.gaps ≡ true →
    ((q : Place) → Stands plan q b → Stands plan (record q { recording = false; views = λ n. no_view }) c)
    → Answers plan p.written (gap_says plan p at) (Ok tt) c [] []
gap-goes plan p at b c a skip on = by p.dumping refl
  where
    block : Place
    block = record p { dumping = true }

    gap : Place
    gap = record p { dumping = true; recording = false; views = λ n. no_view }

    begun : (d : Bool) → p.dumping ≡ d → Answers plan p.written (if d then refused (faults.UnknownCommand at) else goes block) (Ok tt) b [] []
    begun d e = subst (λ (t : Bool). Answers plan p.written (if t then refused (faults.UnknownCommand at) else goes block) (Ok tt) b [] []) e a

    goes-on : Follows plan p.written block b [] [] → p.dumping ≡ false → Answers plan p.written (gap_says plan p at) (Ok tt) c [] []
    goes-on f e =
        let said : gap_says plan p at ≡ goes gap =
        ap (λ (t : Bool). if t then refused (faults.UnknownCommand at) else (if plan.skips then goes gap else refused (faults.Gap at))) e
        ∙ ap (λ (t : Bool). if t then goes gap else refused (faults.Gap at)) (sym f.stands.skips ∙ skip) in
        let follows : Follows plan p.written gap c [] [] = record { stands = on block f.stands; more = f.more; out = f.out; written = f.written } in
        subst (λ (s : Said). Answers plan p.written s (Ok tt) c [] []) (sym said) follows

    by : (d : Bool) → p.dumping ≡ d → Answers plan p.written (gap_says plan p at) (Ok tt) c [] []
    by true e = absurd (begun true e)
    by false e = goes-on (begun false e) e
