-- Whether a pass has its header behind a step.
use Rattle.std.proofs.Common.{◌≡◌, ℕ, ◌<◌, inl, inr, List, length, Option, Some, None, IsSomeAnd, refl, sym, ◌∙◌, subst}
use Rattle.ccsl_edge.specs.World.{State, Told}
use Rattle.ccsl_vcd.specs.declared.limits.Limits.{Limits}
use Rattle.ccsl_vcd.specs.Places.{Among}
use Rattle.ccsl_scopes.specs.declared.header.Header.{Header}
use Rattle.ccsl_scopes.specs.Headings.{Heading}
use Rattle.ccsl_scopes.specs.Standing.{IsHeaderOf}
use Rattle.ccsl_events.specs.declared.reader.Reader.{Reader}
use Rattle.ccsl_events.specs.Fed.{IsInHeader, IsBehindHeader, MayBegin}
use Rattle.ccsl_events_top.specs.declared.sink.Sink.{Sink}
use Rattle.ccsl_events_top.specs.declared.pass.Pass.{Pass}
use Rattle.ccsl_vcd.specs.declared.limits.TheConstants.{LIMITS}
use Rattle.ccsl_events_top.specs.Passing.{InHeader, HasHeader, GoesOn}
use Rattle.ccsl_events_top.proofs.Passing.{takes-header}

-- what a reader answers that is asked for its header
pub record Asked (result : Option Header) (old new : Reader) : Type 0 where
  pub behind : (limits : Limits) (bytes : List ℕ) (h : Heading) → IsBehindHeader limits bytes h old
      → IsSomeAnd result (λ header. IsHeaderOf h header) × MayBegin (length bytes) new
  pub inside : (limits : Limits) (bytes : List ℕ) (among : Among) (h : Heading) → IsInHeader limits bytes among h old → (result ≡ None) × (new ≡ old)

module _ (told : Told) (sink : Sink) (start now : State) (before : ℕ) (pass : Pass) (new : Reader) where
  pub header-taken : (result : Option Header) (header : Header) → Asked result pass.reader new → result ≡ Some header
      → GoesOn told sink start now before pass
      → (h : Heading) × IsHeaderOf h header × HasHeader told sink start now h (record pass { reader = new })
  header-taken result header a e (inl i, more) =
      let n : Some header ≡ None = sym e ∙ (a.inside LIMITS i.given i.among i.heading i.inside).0 in
      absurd (cc)
  header-taken result header a e (inr (h, b), more) =
      let k = a.behind LIMITS b.given h b.behind in (
        h,
        subst (λ (r : Option Header). IsSomeAnd r (λ header. IsHeaderOf h header)) e k.0,
        takes-header told sink start now pass (record pass { reader = new }) h b refl refl refl refl k.1,
      )

  pub header-waits : (result : Option Header) → Asked result pass.reader new → result ≡ None → GoesOn told sink start now before pass
      → InHeader told sink start now (record pass { reader = new }) × (before < new.taken)
  header-waits result a e (inl i, more) =
      let same : new ≡ pass.reader = (a.inside LIMITS i.given i.among i.heading i.inside).1 in (
        record {
          given = i.given;
          among = i.among;
          heading = i.heading;
          passes = record {
            bytes = i.passes.bytes;
            streams = i.passes.streams;
            counts = i.passes.counts;
            read = i.passes.read;
            within = i.passes.within;
            given_are = i.passes.given_are;
            ended = λ e. i.passes.ended e;
          };
          inside = rw same i.inside;
          blank = i.blank;
        },
        rw same more,
      )
  header-waits result a e (inr (h, b), more) =
      absurd (subst (λ (r : Option Header). IsSomeAnd r (λ header. IsHeaderOf h header)) e (a.behind LIMITS b.given h b.behind).0)
