-- What follows a trace, one row more and one block more.
use Rattle.std.proofs.Common.{◌≡◌, ℕ, ◌+◌, ◌<◌, ◌^◌, List, [], ◌∷◌, ◌++◌, length, take, slice_get, Some, sym, ap, ◌∙◌, subst, arith, append_assoc}
use Rattle.ccsl_base.specs.declared.rows.Row.{Row}
use Rattle.ccsl_kernel.specs.Syntax.{System}
use Rattle.ccsl_kernel.specs.Lives.{Step}
use Rattle.ccsl_kernel.specs.Runs.{full_step, declared_part}
use Rattle.ccsl_kernel.specs.Verdict.{completed_rows}
use Rattle.ccsl_state.specs.Held as states
use Rattle.ccsl_relate.proofs.Blocks.{few-rows, take-more}
use Rattle.ccsl_relate.proofs.History.{X-more, X-length}
use Rattle.ccsl_certify.specs.Replaying.{AreAfter}

pub after-more : (K : System) (rows : List Row) (row : Row) (h h' : states.Held) (d : Step) → AreAfter K rows h → d ≡ declared_part K row.ticks
    → h'.system ≡ h.system
    → ((T : List Step) → states.StandsFor h T → length T + 1 < 2 ^ 64 → states.StandsFor h' (T ++ full_step h.system T d ∷ [])) → length rows + 1 < 2 ^ 64
    → AreAfter K (rows ++ row ∷ []) h'
after-more K rows row h h' d a e system goes few =
    let T = completed_rows K rows in
    record {
      system = system ∙ a.system;
      stands =
          subst (states.StandsFor h')
          (ap (λ (X : System). T ++ full_step X T d ∷ []) a.system ∙ ap (λ f. T ++ full_step K T f ∷ []) e ∙ sym (X-more K rows row))
          (goes T a.stands (omega (arith, X-length K rows, few)));
    }

-- one row more of a block
pub block-more : (K K' : System) (rows block : List Row) (i : ℕ) (row : Row) (h h' : states.Held) → K' ≡ K → slice_get block i ≡ Some row → i < length block
    → AreAfter K (rows ++ take i block) h
    → ((rs : List Row) → AreAfter K' rs h → length rs + 1 < 2 ^ 64 → AreAfter K' (rs ++ row ∷ []) h') → length rows + length block < 2 ^ 64
    → AreAfter K (rows ++ take (i + 1) block) h'
block-more K K' rows block i row h h' same e l a step few =
    subst (λ rs. AreAfter K rs h') (append_assoc rows (take i block) (row ∷ []) ∙ ap (λ rs. rows ++ rs) (sym (take-more block i row e)))
    (subst (λ (X : System). AreAfter X ((rows ++ take i block) ++ row ∷ []) h') same
    (step (rows ++ take i block) (subst (λ (X : System). AreAfter X (rows ++ take i block) h) (sym same) a) (few-rows block i rows l few)))
