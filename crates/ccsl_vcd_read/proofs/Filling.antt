-- Where a block is full, the last byte that was taken filled it.
use Rattle.std.proofs.Common.{◌≡◌, ℕ, ◌+◌, ◌-◌, ◌≤◌, ◌<◌, List, [], ◌∷◌, ◌++◌, length, take, Bool, true, false, Some, None, if◌then◌else◌, refl, sym, ap, ◌∙◌}
use Rattle.std.proofs.Common.{subst, append_assoc, arith, length-append, length-take-le, filter, map}
use Rattle.std.proofs.lemmas.List.{append-nil, map-append, take-take}
use Rattle.std.proofs.Math.Seq.{take-append-add}
use Rattle.ccsl_base.specs.declared.rows.Row.{Row}
use Rattle.ccsl_base.specs.Rows.{RowList}
use Rattle.ccsl_vcd_lex.specs.Tokens.{Token, token, tokens, Heard, hear, too_long, settled, is_long}
use Rattle.ccsl_vcd_lex.specs.Runs.{fresh_after}
use Rattle.ccsl_vcd_lex.specs.Lexing.{Dark}
use Rattle.ccsl_vcd_lex.proofs.Cuts.{one, closed-parts, fresh-append}
use Rattle.ccsl_vcd.specs.declared.limits.Limits.{Limits}
use Rattle.ccsl_vcd.specs.Binding.{Wanted}
use Rattle.ccsl_vcd.specs.Reading.{Story, says, next, next_from, story}
use Rattle.ccsl_vcd.specs.Completed.{complete, done}
use Rattle.ccsl_vcd.proofs.Decided.{story-more}
use Rattle.ccsl_vcd_read.specs.declared.body.Body.{Body}
use Rattle.ccsl_vcd_read.specs.declared.stage.Stage.{Stage}
use Rattle.ccsl_vcd_read.specs.declared.stage.Stage.TheVariants as stage
use Rattle.ccsl_vcd_read.specs.Run.{Runs, Fills}
use Rattle.ccsl_vcd_read.specs.Staging.{FillsIn}
use Rattle.ccsl_vcd_read.specs.Reading.{Reading, Running, HadRoom}
use Rattle.ccsl_vcd_read.proofs.Passing.{fresh-open}
use Rattle.ccsl_vcd_read.proofs.Taking.{done-within}
use Rattle.ccsl_vcd_read.proofs.Faults.{Taken}
use Rattle.ccsl_vcd_read.proofs.Racing.{part-rows}

-- bytes that settle nothing
pub quiet-room : (wanted : Wanted) (v : Reading) (bytes more : List ℕ) (out : RowList) → Running wanted v bytes → length (bytes ++ more) ≤ v.limits.bytes
    → settled (bytes ++ more) ≡ settled bytes
    → length out.rows < out.room → HadRoom wanted v.limits bytes more out
quiet-room wanted v bytes more out s w e r =
    let same : done wanted v.limits (bytes ++ more) ≡ done wanted v.limits bytes =
    done-within wanted v.limits (bytes ++ more) w ∙ ap (λ hs. complete (story wanted v.limits hs)) e ∙ sym (done-within wanted v.limits bytes s.within) in
    omega (arith, r, ap length same)

-- A token that is too long completes nothing.
long-same : (wanted : Wanted) (limits : Limits) (s : Story) (at : ℕ) → complete (next wanted limits s (too_long at)) ≡ complete s
unfolding says
long-same wanted limits s at =
    elim s.fault as (λ o. complete (next_from wanted limits s.changes s.place o (too_long at)) ≡ complete s) [ None ↦ refl | Some f ↦ refl ]

-- the bytes of one token, of which the end is not seen, complete nothing
dark-same : (wanted : Wanted) (limits : Limits) (front dark : List ℕ) → fresh_after true front ≡ true → Dark dark
    → complete (story wanted limits (settled (front ++ dark))) ≡ complete (story wanted limits (settled front))
dark-same wanted limits front dark f d =
    let before : settled front ≡ map hear (tokens front) =
    ap settled (sym (append-nil front)) ∙ ap (map hear) (closed-parts front [] [] f tt refl ∙ append-nil (tokens front)) in
    ap (λ ts. complete (story wanted limits (map hear ts))) (closed-parts front dark _ f d refl) ∙ last (length front) dark (tokens front)
    ∙ ap (λ hs. complete (story wanted limits hs)) (sym before)
  where
    none : (ts : List Token) → complete (story wanted limits (map hear (ts ++ []))) ≡ complete (story wanted limits (map hear ts))
    none ts = ap (λ us. complete (story wanted limits (map hear us))) (append-nil ts)

    long : (t : Token) (ts : List Token) → is_long t ≡ true
        → complete (story wanted limits (map hear (ts ++ t ∷ []))) ≡ complete (story wanted limits (map hear ts))
    long t ts e =
        ap (λ hs. complete (story wanted limits hs)) (map-append hear ts (t ∷ [])
        ∙ ap (λ (b : Bool). map hear ts ++ (if b then too_long t.at else Rattle.ccsl_vcd_lex.specs.Tokens.word t) ∷ []) e)
        ∙ ap complete (story-more wanted limits (map hear ts) (too_long t.at ∷ []))
        ∙ long-same wanted limits (story wanted limits (map hear ts)) t.at

    last : (n : ℕ) (text : List ℕ) (ts : List Token)
        → complete (story wanted limits (map hear (ts ++ filter is_long (one n text)))) ≡ complete (story wanted limits (map hear ts))
    last n [] ts = none ts
    last n (b ∷ xs) ts =
        (elim (is_long (token n (b ∷ xs))) as (λ x. is_long (token n (b ∷ xs)) ≡ x
        → complete (story wanted limits (map hear (ts ++ (if x then token n (b ∷ xs) ∷ [] else [])))) ≡ complete (story wanted limits (map hear ts))) [
          | true ↦ λ e. long (token n (b ∷ xs)) ts e
          | false ↦ λ e. none ts
        ]) refl

record Filling (s : Stage) (at : ℕ) (part : List ℕ) (x : List Row) (room : ℕ) : Type 0 where
  pub b : Body
  pub is : s ≡ stage.Body b
  pub fills : Fills b at part x room

filling : (s : Stage) (at : ℕ) (part : List ℕ) (x : List Row) (room : ℕ) → FillsIn s at part x room → Filling s at part x room
filling (stage.Body b) at part x room f = record { b = b; is = refl; fills = f }
filling (stage.Header h) at part x room f = absurd f
filling stage.Unbound at part x room f = absurd f

-- the tokens of a body that lie whole in a piece
pub race-filled : (wanted : Wanted) (v : Reading) (bytes piece cut : List ℕ) (count : ℕ) (out : RowList) → Running wanted v bytes →
    Taken (v.limits.bytes - v.taken) piece cut count → FillsIn v.stage v.taken (take count cut) out.rows out.room → v.lexing.inner.open_text ≡ [] →
    HadRoom wanted v.limits bytes (take (count - 1) piece) out
race-filled wanted v bytes piece cut count out s k h o =
    let g = filling v.stage v.taken (take count cut) out.rows out.room h in
    let q : Fills g.b v.taken (take count cut) out.rows out.room = g.fills in
    let r : Runs g.b q.mid (length bytes) q.front out.rows q.rows = subst (λ i. Runs g.b q.mid i q.front out.rows q.rows) s.taken q.runs in
    let fresh : fresh_after true bytes ≡ true = fresh-open v.lexing bytes s.lexes s.short o in
    let dark : List ℕ = take (length q.last - 1) q.last in
    let sizes : length q.front + length q.last ≡ count = sym (length-append q.front q.last) ∙ ap length (sym q.is) ∙ k.size in
    let some : 0 < length q.last = q.some in
    let at : count - 1 ≡ length q.front + (length q.last - 1) = omega (arith, sizes, some) in
    let cut-off : take (count - 1) piece ≡ q.front ++ dark =
    sym (take-take (count - 1) count piece (omega arith)) ∙ ap (take (count - 1)) (sym k.same ∙ q.is) ∙ ap (λ i. take i (q.front ++ q.last)) at
    ∙ take-append-add q.front q.last (length q.last - 1) in
    let few : count ≤ v.limits.bytes - v.taken = k.few in
    let size : length (take (count - 1) piece) ≡ count - 1 = length-take-le (count - 1) piece (omega (arith, k.within)) in
    let within : length (bytes ++ take (count - 1) piece) ≤ v.limits.bytes =
    omega (arith, length-append bytes (take (count - 1) piece), size, few, s.taken, s.within) in
    let front-fresh : fresh_after true (bytes ++ q.front) ≡ true = fresh-append true bytes q.front ∙ ap (λ x. fresh_after x q.front) fresh ∙ r.fresh in
    let all : done wanted v.limits (bytes ++ take (count - 1) piece) ≡ complete (story wanted v.limits (settled bytes)) ++ r.pushed =
    done-within wanted v.limits (bytes ++ take (count - 1) piece) within
    ∙ ap (λ xs. complete (story wanted v.limits (settled xs))) (ap (λ xs. bytes ++ xs) cut-off ∙ sym (append_assoc bytes q.front dark))
    ∙ dark-same wanted v.limits (bytes ++ q.front) dark front-fresh q.one ∙ part-rows wanted v bytes q.front g.b q.mid out.rows q.rows s g.is r fresh in
    let count-all = ap length all ∙ length-append (complete (story wanted v.limits (settled bytes))) r.pushed in
    let count-rows = ap length r.rows ∙ length-append out.rows r.pushed in
    omega (arith, count-all, count-rows, q.left, ap length (done-within wanted v.limits bytes s.within))
