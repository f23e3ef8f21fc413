use Rattle.std.proofs.Common.{◌<◌, ◌+◌, ◌*◌, ◌∙◌, not, sym, ap, arith, Result, Ok, Err, OnOk, rules}
use Rattle.ccsl_formula.specs.Known.{known}
use Rattle.ccsl_solve.specs.Under.{open_count}
use Rattle.ccsl_solve.proofs.Tests.{open-test, not-open-test}
use Rattle.ccsl_solve.proofs.Lines.{line-within}
use Rattle.ccsl_solve.proofs.Clauses.{clause-more}
use Rattle.ccsl_solve.proofs.Conflicts.{without-value}
use Rattle.ccsl_solve.proofs.Best.{first-best, second-best}
use Rattle.ccsl_solve.proofs.Guided.{valid-named}
use Rattle.ccsl_solve.proofs.Searching.{back-of, adds-more, sound-after, forced-after, onward}
use Rattle.ccsl_solve.proofs.search.+search.Goals as goal

where-ok : {X E : Type 0} (r : Result X E) {P Q : Type 0} → (P → Q) → OnOk r P → OnOk r Q
where-ok (Ok x) f h = f h
where-ok (Err e) f h = h

-- ## The search

pub search-broken-requires-clause-sound : goal.search-broken-requires-clause-sound
search-broken-requires-clause-sound t c = rw c.in_ok-reason.ensures.same c.requires.sound

pub search-completed-requires-clause-sound : goal.search-completed-requires-clause-sound
search-completed-requires-clause-sound t c = rw c.in_ok-reason.ensures.same c.requires.sound

pub search-completed-requires-clause-total : goal.search-completed-requires-clause-total
search-completed-requires-clause-total t c = rw (c.in_ok-reason.ensures.same) (rw c.in-Complete.is at c.in_ok-reason.ensures.plan)

pub search-search_both-requires : goal.search-search_both-requires
search-search_both-requires t c =
    let q = c.args.problem.now in
    let same = c.in_ok-reason.ensures.same in
    let down : 4 * open_count q.scope.named (known c.planned.new.part) + 2 < t = omega (arith, ap (open_count q.scope.named) same, c.decreases) in
    let first = rw c.in-Try.is at c.in_ok-reason.ensures.plan in
    (down, (rw same c.requires.sound, (rw (same, ← c.deref.ensures.value) first, c.in_ok-reason.ensures.fits)))

-- ## The search with a literal first

pub search_both-returns-in_default-clause-finds : goal.search_both-returns-in_default-clause-finds
search_both-returns-in_default-clause-finds t c =
    first-best c.requires.sound.valid c.requires.first (rw c.in_default.is at c.in_ok-first.ensures.finds)

pub search_both-against-requires-clause-sound : goal.search_both-against-requires-clause-sound
search_both-against-requires-clause-sound t c =
    sound-after c.in_ok-first.ensures.lines (rw c.in-Some.is at c.in_ok-first.ensures.finds).0 c.requires.sound

pub search_both-against-requires-clause-free : goal.search_both-against-requires-clause-free
search_both-against-requires-clause-free t c = rw (rw c.in-Some.is at c.in_ok-first.ensures.finds).0 c.requires.first.free

pub search_both-against-requires-clause-forced : goal.search_both-against-requires-clause-forced
search_both-against-requires-clause-forced t c =
    let same = (rw c.in-Some.is at c.in_ok-first.ensures.finds).0 in
    forced-after c.args.lit c.in-Some-by.reason c.in_ok-first.ensures.lines same (rw c.in-Some-by.is at c.requires.first.cause)

pub search_both-search_against-requires : goal.search_both-search_against-requires
search_both-search_against-requires t c =
    let first = c.requires.first in
    let found = rw c.in-Some.is at c.in_ok-first.ensures.finds in
    let named = c.args.problem.now.scope.named in
    let down : 4 * open_count named (known c.search_with.new.part) + 1 < t = omega (arith, ap (open_count named) found.0, c.decreases) in
    let sound = sound-after c.in_ok-first.ensures.lines found.0 c.requires.sound in
    let uses = not-open-test (known c.in-Some.first.part.value c.args.lit.clock) (sym c.if-is_free_of.ensures) in (
      down,
      (
        sound,
        (
          rw found.0 first.settled,
          (
            first.named,
            (
              rw found.0 first.free,
              (record { conflict = rw found.0 found.1; uses = uses }, c.in_ok-first.ensures.fits),
            ),
          ),
        ),
      ),
    )

-- ## The search with the negation

pub search_against-flipped-requires-clause-lines : goal.search_against-flipped-requires-clause-lines
search_against-flipped-requires-clause-lines t c =
    rw c.deref.ensures.value (valid-named c.args.problem.now c.learned.new.lines.items c.in_ok-line.ensures.lines.valid)

pub search_against-flipped-requires-clause-line : goal.search_against-flipped-requires-clause-line
search_against-flipped-requires-clause-line t c =
    let clause = c.in_ok-line.ensures.clause in
    rw c.deref.ensures.value (line-within c.learned.new.lines.items c.in_ok-line.line clause.line clause.found)

pub search_against-returns-in_default-clause-finds : goal.search_against-returns-in_default-clause-finds
search_against-returns-in_default-clause-finds t c =
    second-best c.requires.sound.valid c.requires.free c.requires.conflict (rw c.in_default.is at c.in_ok-second.ensures.finds)

pub search_against-returns-then-is_free_of-clause-finds : goal.search_against-returns-then-is_free_of-clause-finds
search_against-returns-then-is_free_of-clause-finds t c =
    let lit = c.args.lit in
    let found = rw c.in-Some.is at c.in_ok-second.ensures.finds in
    let free = open-test (known c.in-Some.second.part.value lit.clock) (sym c.if-is_free_of.ensures) in
    (found.0, without-value lit.clock (not lit.positive) c.requires.free found.1 free)

pub search_against-resolved-requires-clause-first : goal.search_against-resolved-requires-clause-first
search_against-resolved-requires-clause-first t c =
    let found = rw c.in-Some.is at c.in_ok-second.ensures.finds in
    rw (c.into_clash-clash.ensures.part, found.0) c.requires.conflict.conflict.within

pub search_against-resolved-requires-clause-first_uses : goal.search_against-resolved-requires-clause-first_uses
search_against-resolved-requires-clause-first_uses t c = rw c.into_clash-clash.ensures.part c.requires.conflict.uses

pub search_against-resolved-requires-clause-clause : goal.search_against-resolved-requires-clause-clause
search_against-resolved-requires-clause-clause t c =
    rw (c.deref-2.ensures.value, c.into_clash-clash.ensures.line, c.into_clash-clash.ensures.part)
    (clause-more c.in_ok-second.ensures.lines.extends c.in_ok-line.ensures.clause)

pub search_against-resolved-requires-clause-free : goal.search_against-resolved-requires-clause-free
search_against-resolved-requires-clause-free t c = rw (rw c.in-Some.is at c.in_ok-second.ensures.finds).0 c.requires.free

-- ## The search with a literal

pub search_with-search-requires : goal.search_with-search-requires
search_with-search-requires t c =
    let named = c.args.problem.now.scope.named in
    let on = onward c.args.lit c.args.from c.set.ensures c.requires.named c.requires.free c.requires.sound c.requires.settled in
    let down : 4 * open_count named (known c.set.new.self) + 3 < t = omega (arith, on.0, c.decreases) in
    (down, (on.1, (on.2, c.requires.fits)))

pub search_with-returns-clause-finds : goal.search_with-returns-clause-finds
search_with-returns-clause-finds t c =
    let found = rw c.in-Some.is at c.in_ok-conflict.ensures.finds in
    (back-of c.args.lit (found.0 ∙ c.set.ensures) c.forget.ensures c.requires.free, rw c.set.ensures at found.1)

pub search_against-returns-clause-lines : goal.search_against-returns-clause-lines
search_against-returns-clause-lines t c = adds-more c.in_ok-line.ensures.lines c.in_ok-second.ensures.lines

pub search_both-returns-in-Some-by-clause-lines : goal.search_both-returns-in-Some-by-clause-lines
search_both-returns-in-Some-by-clause-lines t c = adds-more c.in_ok-first.ensures.lines c.in_ok-conflict.ensures.lines

pub search_both-returns-clause-lines : goal.search_both-returns-clause-lines
search_both-returns-clause-lines t c = where-ok c.search_against.result (adds-more c.in_ok-first.ensures.lines) c.search_against.ensures.lines

pub search_against-resolved-requires-clause-second : goal.search_against-resolved-requires-clause-second
search_against-resolved-requires-clause-second t c = search rules
