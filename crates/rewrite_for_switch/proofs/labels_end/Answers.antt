-- `rewrite_for_switch::labels_end` meets its contract. Assumes nothing.
use Rattle.std.proofs.Common.{arith, rules, refl, ◌∙◌, ◌≡◌, ◌+◌, ◌-◌, ◌≤◌, ◌<◌, ℕ, zero, suc, List, true, false}
use Rattle.std.specs.Prelude.{Option, Some, None, MatchOption, unwrap_or}
use Rattle.std.proofs.lemmas.Iterator.{first_from_Range}
use Rattle.tables.specs.Loops.{until, go_on, run_out, stopped}
use Rattle.rewrite_for_switch.specs.For.{is_loop_f, next_row, labels_end_f}
use Rattle.rewrite_for_switch.proofs.labels_end.Goals as goal

module _ (t : List ℕ) where
  -- past d Labels
  past : (d i : ℕ) → d ≤ 65535 - i → ((j : ℕ) → i ≤ j → j < i + d → is_loop_f t j ≡ false)
      → until (65535 - i) (is_loop_f t) next_row i ≡ until (65535 - (i + d)) (is_loop_f t) next_row (i + d)
  past zero i h e = let z : i + 0 ≡ i = omega arith in rw z
  past (suc d) i h e =
      let s : i + 1 + d ≡ i + suc d = omega arith in
      go_on 65535 i (is_loop_f t) next_row _ i refl (omega arith) (e i (omega arith) (omega arith))
      ∙ rw s at (past d (i + 1) (omega arith) (λ j a b. e j (omega arith) (omega arith)))

  first_loop : (i : ℕ) (r : Option ℕ) → i ≤ 65535
      → MatchOption r ((k : ℕ) → i ≤ k → k < 65535 → is_loop_f t k ≡ false)
      (λ k. (i ≤ k) × (k < 65535) × (is_loop_f t k ≡ true) × ((j : ℕ) → i ≤ j → j < k → is_loop_f t j ≡ false))
      → unwrap_or r 65535 ≡ labels_end_f t i
  unfolding labels_end_f
  first_loop i None l h =
      let s : i + (65535 - i) ≡ 65535 = omega (arith, l) in
      rw s at (run_out 65535 (i + (65535 - i)) (is_loop_f t) next_row _ _ (past (65535 - i) i (omega arith) (λ j a b. h j a (omega (arith, l)))) (omega (arith, l)))
  first_loop i (Some k) l h =
      let s : i + (k - i) ≡ k = omega (arith, h.0) in
      stopped (65535 - k) (is_loop_f t) next_row _ k (rw s at (past (k - i) i (omega (arith, h.0, h.1)) (λ j a b. h.3 j a (omega (arith, h.0))))) h.2

pub returns : goal.returns
returns c =
    let first = first_from_Range _ _ _ _ (λ k. is_loop_f c.args.records.now k ≡ true) (λ k. is_loop_f c.args.records.now k ≡ false) c.find.ensures.ran
    (λ x q k. search rules) (λ x q k. (search rules, search rules)) in
    c.unwrap_or.ensures ∙ first_loop c.args.records.now c.args.after.0 _ (search rules) first
