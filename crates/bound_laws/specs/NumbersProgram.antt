-- The numbers of a rewritten ForOf or Program keep to the bound.
-- Assumes nothing.
use Rattle.std.specs.Prelude.{if◌then◌else◌, Bool, ℕ, ◌≤◌}
use mathlib.Core.List.{List, [], ◌∷◌}
use native.Mathlib.Omega.{arith}
use Rattle.std.proofs.Math.Dec.{eqb}
use Rattle.meaning.specs.Numbers.Tag
use Rattle.meaning.specs.Tree.{Head, Forest, none, more, one}
use Rattle.meaning.specs.Scoping.{Store}
use Rattle.meaning.specs.Statements.{is_using}
use Rattle.meaning.specs.Contexts.{names_in}
use Rattle.meaning.specs.Shapes.{block, declaration, read}
use Rattle.meaning.specs.ForOf.{bound_symbol, rebind, insert_using, wrap_body, enter_for_of_statement}
use Rattle.meaning.specs.Program.{
  preserve_class_expression_name,
  transform_class_decl,
  Split,
  bound_names,
  specifiers,
  top_level_class,
  top_level_declaration,
  exported_declaration,
  exported_class,
  default_class,
  as_expression,
  default_value,
  ItemAct,
  item_as,
  program_item,
  program_items,
  enter_program,
}
use Rattle.charge_laws.proofs.Growth.Items.{Anything, anything, ChosenItem, as_kept, as_moved, as_class, as_declaration, as_exported_declaration, as_exported_class, as_default_class, as_default_value, chosen_item}
use Rattle.bound_laws.specs.Numbers.{
  All,
  UpTo,
  HeadWithin,
  TreeWithin,
  StoreWithin,
  Keeps,
  Rewritten,
  step,
  gives,
  got,
  branch,
  either,
  all_++,
  symbol_at_lem,
  within_&,
  scope_below_kept,
  symbol_kept,
  binding_kept,
  flags_kept,
  flags_of_kept,
}
use Rattle.bound_laws.specs.NumbersContexts.{declared_within}

module _ {B : ℕ} (big : 32 ≤ B) where
  -- ---- a ForOf's using

  bound_most : (k : Forest) → TreeWithin B k → bound_symbol k ≤ B
  unfolding bound_symbol
  bound_most none w = omega arith
  bound_most (more h none r) w = omega arith
  bound_most (more h (more h₁ k₁ r₁) r) w = w.1.0.1

  rebound : (y : ℕ) (k : Forest) → y ≤ B → TreeWithin B k → TreeWithin B (rebind y k)
  unfolding rebind
  rebound y none l w = tt
  rebound y (more h none r) l w = w
  rebound y (more h (more h₁ k₁ r₁) r) l w = (w.0, (omega arith, w.1.1, w.1.2), w.2)

  for_of_body : (wraps : Bool) (y kind temp scope : ℕ) (h : Head) (k : Forest) (st : Store) → y ≤ B → kind ≤ B → scope ≤ B
      → HeadWithin B h → TreeWithin B k
      → Keeps B (temp ≤ B) (TreeWithin B) st
      ((if wraps then wrap_body y (declaration kind y (read temp)) scope (one h k)
      else insert_using y (declaration kind y (read temp)) h k) st)
  unfolding wrap_body insert_using
  for_of_body wraps y kind temp scope h k st l m n p w =
      branch wraps _ _ st
      (step (scope_below_kept big scope (one h k) st) (λ _. n)
      (step (binding_kept big y _ _) (λ (_, new). new)
      (gives (λ ((t, new), _). (omega arith, declared_within big kind y (read temp) (one h k) m l (omega arith, tt, tt) (p, w, tt), tt)))))
      (step (binding_kept big y h.a st) (λ _. p.1)
      (gives (λ (t, _). (p, declared_within big kind y (read temp) k m l (omega arith, tt, tt) w, tt))))

  pub for_of_kept : (wraps : Bool) (h : Head) (k : Forest) (st : Store) → HeadWithin B h → TreeWithin B k
      → Rewritten B st (enter_for_of_statement wraps h k st)
  unfolding enter_for_of_statement
  for_of_kept wraps h none st p w = gives (λ _. (p, w))
  for_of_kept wraps h (more h₁ k₁ none) st p w = gives (λ _. (p, w))
  for_of_kept wraps h (more h₁ k₁ (more h₂ k₂ none)) st p w = gives (λ _. (p, w))
  for_of_kept wraps h (more h₁ k₁ (more h₂ k₂ (more h₃ k₃ r))) st p w =
      let y = bound_symbol k₁ in
      let v = w.2.2 in
      got
      (step (symbol_kept big _ 6 h.a 1 st) (λ (_, m). ((symbol_at_lem big st y m).0, omega arith, p.1, omega arith))
      (step (for_of_body wraps y h₁.a _ h.a h₃ k₃ _ (bound_most k₁ w.1) w.0.1 p.1 v.0 v.1) (λ (_, temp). temp)
      (gives (λ ((_, temp), body). (
        p,
        (omega arith, rebound _ k₁ temp w.1, (w.2.0, w.2.1, within_& big _ r body v.2)),
      )))))

  -- ---- classes

  class_kept : (h : Head) (k : Forest) (st : Store) → HeadWithin B h → TreeWithin B k
      → Keeps B (Unit {0}) (TreeWithin B) st (transform_class_decl h k st)
  unfolding transform_class_decl preserve_class_expression_name
  class_kept h k st p w =
      got
      (step (symbol_kept big _ 8 h.b _ st) (λ (_, m). let y = symbol_at_lem big st h.c m in (y.0, omega arith, p.2, y.3))
      (step (flags_kept big h.c 1 _) (λ _. omega arith)
      (gives (λ ((_, inner), _). (omega arith, (omega arith, (omega arith, tt, (omega arith, w, tt)), tt), tt)))))

  -- ---- Program's items

  abbrev SplitWithin : Split → Type 0
  SplitWithin s = TreeWithin B s.kept × TreeWithin B s.moved

  names_most : (f : Forest) → TreeWithin B f → All (UpTo B) (names_in f)
  unfolding names_in
  names_most none w = tt
  names_most (more h k r) w =
      either (All (UpTo B)) (eqb h.tag Tag.Name) (w.0.1, names_most r w.2) (names_most r w.2)

  bound_names_most : (f : Forest) → TreeWithin B f → All (UpTo B) (bound_names f)
  unfolding bound_names
  bound_names_most none w = tt
  bound_names_most (more h k r) w =
      all_++ (UpTo B) (if eqb h.tag Tag.Declarator then names_in k else []) (bound_names r)
      (either (All (UpTo B)) (eqb h.tag Tag.Declarator) {y = []} (names_most k w.1) tt)
      (bound_names_most r w.2)

  specifiers_within : (st : Store) (ys : List ℕ) → StoreWithin B st → All (UpTo B) ys → TreeWithin B (specifiers st ys)
  unfolding specifiers
  specifiers_within st [] m l = tt
  specifiers_within st (y ∷ ys) m l =
      let x = symbol_at_lem big st y m in
      (omega arith, tt, specifiers_within st ys m l.1)

  expression_within : (h : Head) → HeadWithin B h → HeadWithin B (as_expression h)
  unfolding as_expression
  expression_within h p = either (HeadWithin B) (eqb h.tag Tag.Class) (omega arith) p

  item_kept : {x : ItemAct} {h : Head} {k : Forest} (st : Store) → HeadWithin B h → TreeWithin B k → ChosenItem Anything x h k
      → Keeps B (Unit {0}) SplitWithin st (item_as x h k st)
  unfolding item_as top_level_class top_level_declaration exported_declaration exported_class default_class default_value
  item_kept st p w (as_kept s) = gives (λ _. ((p, w, tt), tt))
  item_kept st p w (as_moved e₁₃ e₁₇ e₁₈ e₁₉ e₁₅ e₅) = gives (λ _. (tt, (p, w, tt)))
  item_kept {h = h} {k = k} st p w as_class = step (class_kept h k st p w) (λ _. tt) (gives (λ (_, class). (tt, class)))
  item_kept {h = h} {k = k} st p w as_declaration =
      step (flags_of_kept big (bound_names k) 1 st) (λ _. omega arith)
      (gives (λ _. (tt, ((omega arith, omega arith, either (UpTo B) (is_using h) p.1 (omega arith), omega arith), w, tt))))
  item_kept st p w (as_exported_declaration {k = k} anything) =
      step (flags_of_kept big (bound_names k) 1 st) (λ _. omega arith)
      (got
      (gives (λ (_, m). (
        (omega arith, specifiers_within _ (bound_names k) m (bound_names_most k w.1), tt),
        (omega arith, w.1, tt),
      ))))
  item_kept st p w (as_exported_class {z = z} {k = k} anything) =
      let q = w.0 in
      got
      (step (class_kept _ k st q w.1) (λ _. tt)
      (gives (λ ((_, m), class). let y = symbol_at_lem big st z m in ((omega arith, (omega arith, tt, tt), tt), class))))
  item_kept st p w (as_default_class {k = k} named anything) =
      let q = w.0 in
      step (class_kept _ k st q w.1) (λ _. tt) (gives (λ (_, class). ((omega arith, (omega arith, tt, tt), tt), class)))
  item_kept st p w (as_default_value {h = h} e d anything) =
      step (symbol_kept big 4 1 1 0 st) (λ _. omega arith)
      (gives (λ (_, y). (
        (omega arith, (omega arith, tt, tt), tt),
        (omega arith, (omega arith, (omega arith, tt, (expression_within h w.0, w.1, tt)), tt), tt),
      )))

  items_kept_lem : (f : Forest) (st : Store) → TreeWithin B f → Keeps B (Unit {0}) SplitWithin st (program_items f st)
  unfolding program_items program_item
  items_kept_lem none st w = gives (λ _. (tt, tt))
  items_kept_lem (more h k r) st w =
      step (item_kept st w.0 w.1 (chosen_item h k)) (λ _. tt)
      (step (items_kept_lem r _ w.2) (λ _. tt)
      (gives (λ ((_, item), rest). (within_& big _ _ item.0 rest.0, within_& big _ _ item.1 rest.1))))

  pub program_kept : (h : Head) (k : Forest) (st : Store) → HeadWithin B h → TreeWithin B k
      → Rewritten B st (enter_program h k st)
  unfolding enter_program
  program_kept h k st p w =
      step (items_kept_lem k st w) (λ _. tt)
      (step (scope_below_kept big h.a _ _) (λ _. p.1)
      (gives (λ ((_, parts), scope). (p, within_& big _ (block _ _) parts.0 (omega arith, parts.1, tt)))))
