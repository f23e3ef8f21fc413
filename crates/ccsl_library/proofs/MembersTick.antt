-- The laws of the library's members, of calls with any arguments in any system that is elaborated with the library.
use Rattle.std.proofs.Common.{◌≡◌, ℕ, suc, ◌+◌, ◌-◌, ◌<◌, List, [], ◌∷◌, map, length, ◌&&◌, nat_le, refl, sym, ap, ap₂, ◌∙◌, arith}
use Rattle.ccsl_formula.specs.Formula.{FFalse, FVar, eval}
use Rattle.ccsl_words.specs.Word.{letter}
use Rattle.ccsl_ast.specs.Trees.{PlainFile}
use Rattle.ccsl_kernel.specs.declared.actual.Actual.TheVariants as actual
use Rattle.ccsl_kernel.specs.declared.expr.Value.TheVariants as value
use Rattle.ccsl_kernel.specs.Syntax.{System, root_of}
use Rattle.ccsl_kernel.specs.Actuals.{number_of, suffix_of, word_of}
use Rattle.ccsl_kernel.specs.Ticks.{count}
use Rattle.ccsl_kernel.specs.Table.{Now, filter_row, delay_row}
use Rattle.ccsl_kernel.specs.Lives.{Step, steps, step_at, ticks_at, over_one}
use Rattle.ccsl_kernel.specs.Meaning.{named, life_given, dead_below}
use Rattle.ccsl_kernel.proofs.GuardedCalls.{AreGuarded}
use Rattle.ccsl_kernel.proofs.AcceptedParts.{accepted_guarded}
use Rattle.ccsl_kernel.proofs.Quiet.{eval_cond}
use Rattle.ccsl_kernel.proofs.TableHolds.{meaning_calls}
use Rattle.ccsl_kernel.proofs.Silent.{AreGoneQuiet, clocks_quiet}
use Rattle.ccsl_rules.specs.Expansion.{expand}
use Rattle.ccsl_accepts.proofs.Accepts.{files-expand}
use Rattle.ccsl_library.specs.Library.{the_library}
use Rattle.ccsl_library.specs.Members.{periodic_root, skip_root, filter_by_root}
use Rattle.ccsl_library.specs.Laws.{is_multiple, FiltersTick, SkipsTick, PeriodsTick, LibraryTicks}
use Rattle.ccsl_library.proofs.Accepted.{is-library}
use Rattle.ccsl_library.proofs.Filters.{filter_by-filter}
use Rattle.ccsl_library.proofs.Periodic.{periodic-turns}
use Rattle.ccsl_library.proofs.Skip.{skip-delay}

module _ (K : System) (T : List Step) (ok : AreGuarded K) (quiet : (y : ℕ) → AreGoneQuiet T (dead_below K T y)) (many : 2 < length K.groups) where
  filters : root_of K 2 0 ≡ filter_by_root → FiltersTick K T
  filters is y x c w ρ b n clock l u =
      let gone = dead_below K T y in
      let W = (suffix_of K.words w ρ).word in
      let o = (suffix_of K.words w ρ).offset in
      let call = meaning_calls K T gone ok 2 0 (value.Clock c ∷ value.Word w ∷ []) ρ many b n l (omega arith) in
      ap (λ (now : Now). eval now.formula (step_at T n)) call
      ∙ ap₂ (λ e a. eval (life_given K T gone e (a ∷ actual.Word W o ∷ []) b n).formula (step_at T n)) is clock
      ∙ filter_by-filter K T gone ok (quiet y) many is x W (suc (length T - b)) o b n (omega arith) l u
      ∙ sym (eval_cond (letter (word_of K.words W) (o + count (map (λ i. eval (FVar x) (step_at T i)) (steps b n)))) (FVar x) FFalse (step_at T n))
      ∙ sym (ap (λ a. eval (over_one T (filter_row (word_of K.words W) o) (named K T gone a) b n).formula (step_at T n)) clock)

  skips : root_of K 1 0 ≡ skip_root → SkipsTick K T
  skips is y x c m ρ b n clock l u =
      let gone = dead_below K T y in
      let call = meaning_calls K T gone ok 1 0 (value.Clock c ∷ value.Number m ∷ []) ρ (omega arith) b n l (omega arith) in
      ap (λ (now : Now). eval now.formula (step_at T n)) call
      ∙ ap₂ (λ e a. eval (life_given K T gone e (a ∷ actual.Number (number_of m ρ) ∷ []) b n).formula (step_at T n)) is clock
      ∙ skip-delay K T gone x (number_of m ρ) b n l
      ∙ sym (eval_cond (nat_le (number_of m ρ) (count (map (λ i. eval (FVar x) (step_at T i)) (steps b n)))) (FVar x) FFalse (step_at T n))
      ∙ sym (ap (λ a. eval (over_one T (delay_row (number_of m ρ)) (named K T gone a) b n).formula (step_at T n)) clock)

  periods : root_of K 0 0 ≡ periodic_root → PeriodsTick K T
  periods is y x c m ρ b n clock l u =
      let gone = dead_below K T y in
      let call = meaning_calls K T gone ok 0 0 (value.Clock c ∷ value.Number m ∷ []) ρ (omega arith) b n l (omega arith) in
      ap (λ (now : Now). eval now.formula (step_at T n)) call
      ∙ ap₂ (λ e a. eval (life_given K T gone e (a ∷ actual.Number (number_of m ρ) ∷ []) b n).formula (step_at T n)) is clock
      ∙ periodic-turns K T gone ok (quiet y) (omega arith) is x (number_of m ρ) (suc (length T - b)) b n (omega arith) l u
      ∙ sym (ap (λ a. ticks_at T (named K T gone a) b n && is_multiple (number_of m ρ) (suc (count (map (ticks_at T (named K T gone a) b) (steps b n))))) clock)

pub members-tick : LibraryTicks
members-tick file is none T obeys =
    let K : System = expand the_library file in
    let ok = accepted_guarded K (files-expand the_library file is-library is none) in
    let quiet : (y : ℕ) → AreGoneQuiet T (dead_below K T y) = λ y. clocks_quiet K T ok obeys y in
    record {
      filters = filters K T ok.bodies quiet (three file) refl;
      skips = skips K T ok.bodies quiet (three file) refl;
      periods =
          periods K T ok.bodies quiet (three file) refl;
    }
  where
    three : (file : PlainFile) → 2 < length (expand the_library file).groups
    three file = omega arith
