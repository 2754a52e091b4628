-- A FOROF around the changed word: its own lines are the same, but where the word stands in the list of its body Block and that takes its using.
-- Assumes nothing.
use Rattle.std.specs.Prelude.{if◌then◌else◌, ◌≡◌, Bool, false, not, ◌&&◌, List, [], ◌∷◌, ◌++◌, eqb}
use Rattle.std.proofs.Math.Path.{refl, sym, ap}
use Rattle.std.proofs.Common.{◌∙◌, arith}
use Rattle.std.proofs.Math.Bool.{true}
use borrow.Author.Tests.{eqb-true}
use Rattle.meaning.specs.Numbers.Tag
use Rattle.meaning.specs.Tree.{one_of, Head, Forest, none, more}
use Rattle.meaning.specs.File.{Symbol}
use Rattle.meaning.specs.Statements.{is_using, any_using}
use Rattle.meaning.specs.ForOf.{binds_identifier, bound_symbol, binds_name, as_is, insert, wrap, for_of_act}
use Rattle.meaning.specs.Charges.{
  of_block,
  Line,
  context,
  wrapped,
  for_of,
  for_of_block,
  ◌⊕◌,
  total,
  initializers,
  wraps,
  context_lines,
  body_lines,
  for_of_lines,
  own_lines,
  tree_lines,
}
use Rattle.spec_laws.specs.Bools.{and-false}
use Rattle.spec_laws.specs.Tags.{clash, and_left, other_than}
use Rattle.charge_laws.proofs.Fit.ForOf.{no_wraps}
use Rattle.one_word_laws.specs.Changed.{WordChanged, list_tags, TreeChanged, in_list_lem, inside, beside}
use Rattle.one_word_laws.proofs.Alike.{word_using, word_wraps, word_lines, alike}
use Rattle.one_word_laws.proofs.Grown.{Grown, body_grown, same_first, same_before, same_behind}

-- its lines: with a using of an identifier, a body Block that takes it, and a using in that Block's own list
abbrev lines_by : Bool → Bool → Bool → List Line
lines_by used taken own =
    if used then (if taken then for_of ∷ wrapped 1 ∷ (if own then [] else (context of_block ∷ [])) else (for_of_block ∷ wrapped 1 ∷ context of_block ∷ []))
    else []

abbrev takes : List Symbol → Head → Forest → Bool
takes ys h₃ k₁ = eqb h₃.tag Tag.Block && not (binds_name ys h₃.a (bound_symbol k₁))

abbrev loop_lines : List Symbol → Forest → List Line
loop_lines ys k = for_of_lines (for_of_act ys k) k

lines_by_lem : (ys : List Symbol) (h₁ : Head) (k₁ : Forest) (h₂ : Head) (k₂ : Forest) (h₃ : Head) (k₃ r : Forest)
    → loop_lines ys (more h₁ k₁ (more h₂ k₂ (more h₃ k₃ r))) ≡ lines_by (is_using h₁ && binds_identifier k₁) (takes ys h₃ k₁) (any_using k₃)
unfolding for_of_act for_of_lines body_lines
lines_by_lem ys h₁ k₁ h₂ k₂ h₃ k₃ r = go (is_using h₁ && binds_identifier k₁) (takes ys h₃ k₁)
  where
    go : (used taken : Bool)
        → for_of_lines (if used then (if taken then insert else wrap) else as_is) (more h₁ k₁ (more h₂ k₂ (more h₃ k₃ r)))
        ≡ lines_by used taken (any_using k₃)
    go true true = refl
    go true false = refl
    go false taken = refl

no_using : (h : Head) → one_of list_tags h.tag ≡ true → is_using h ≡ false
unfolding is_using
no_using h e = rw (other_than list_tags h.tag Tag.Declaration e refl)

module _ {d : Forest} where
  -- ---- the Declarators of its left side

  -- they bind an identifier as before, and the same one
  binds_same : {k k' : Forest} → TreeChanged d k k' → binds_identifier k ≡ binds_identifier k'
  unfolding binds_identifier
  binds_same (in_list_lem e w) = refl
  binds_same (inside t) = refl
  binds_same (beside t) = refl

  first_same : (h : Head) (r : Forest) {k k' : Forest} → TreeChanged d k k' → bound_symbol (more h k r) ≡ bound_symbol (more h k' r)
  unfolding bound_symbol
  first_same h r (in_list_lem e w) = refl
  first_same h r (inside t) = refl
  first_same h r (beside t) = refl

  bound_same : {k k' : Forest} → TreeChanged d k k' → binds_identifier k ≡ true → bound_symbol k ≡ bound_symbol k'
  unfolding binds_identifier bound_symbol
  bound_same (in_list_lem {h = h} e w) b =
      absurd (clash (other_than list_tags h.tag Tag.Declarator e refl) (and_left (eqb h.tag Tag.Declarator) (eqb h.a 0) b))
  bound_same (inside {h = h} {r = r} t) b = first_same h r t
  bound_same (beside {k = none} t) b = refl
  bound_same (beside {k = more h₁ k₁ r₁} t) b = refl

  -- ---- its own lines

  -- the word is in the left side
  left_same : (ys : List Symbol) (h₁ h₃ : Head) {k₁ k₁' : Forest} (own : Bool) → TreeChanged d k₁ k₁'
      → lines_by (is_using h₁ && binds_identifier k₁) (takes ys h₃ k₁) own ≡ lines_by (is_using h₁ && binds_identifier k₁') (takes ys h₃ k₁') own
  left_same ys h₁ h₃ {k₁} {k₁'} own t = go (binds_identifier k₁) refl (binds_same t)
    where
      go : (b : Bool) → binds_identifier k₁ ≡ b → binds_identifier k₁ ≡ binds_identifier k₁'
          → lines_by (is_using h₁ && binds_identifier k₁) (takes ys h₃ k₁) own ≡ lines_by (is_using h₁ && binds_identifier k₁') (takes ys h₃ k₁') own
      go true is e = rw (← e, bound_same t is)
      go false is e = rw (← e, is, and-false (is_using h₁))

  -- ---- its lines and those below it

  -- the word is in the list of the body Block, which takes the using
  body_first : (h : Head) {k k' : Forest} (ys : List Symbol) → h.tag ≡ Tag.Block → WordChanged d k k'
      → Grown (initializers d)
      (total (lines_by true true (any_using k)) ⊕ total (own_lines ys Tag.ForOf h k))
      (total (lines_by true true (any_using k')) ⊕ total (own_lines ys Tag.ForOf h k'))
  unfolding total own_lines context_lines
  body_first h {k} ys e w =
      rw (e, word_using w, word_wraps w) (omega (arith, body_grown (any_using k) (wraps k) (initializers d) (no_wraps k)))

  module _ (ys : List Symbol) (h₁ : Head) (k₁ : Forest) (h₂ : Head) (k₂ : Forest) (h₃ : Head) {k₃ k₃' : Forest} (r : Forest) (w : WordChanged d k₃ k₃') where
    abbrev loop : Forest → Forest
    loop k = more h₁ k₁ (more h₂ k₂ (more h₃ k r))

    abbrev LoopGrown : Bool → Bool → Type 0
    LoopGrown used taken =
        Grown (initializers d)
        (total (lines_by used taken (any_using k₃)) ⊕ total (tree_lines ys Tag.ForOf (loop k₃)))
        (total (lines_by used taken (any_using k₃')) ⊕ total (tree_lines ys Tag.ForOf (loop k₃')))

    taken_grown : h₃.tag ≡ Tag.Block → LoopGrown true true
    unfolding tree_lines
    taken_grown e =
        let n = initializers d in
        let x = total (lines_by true true (any_using k₃)) in
        let y = total (lines_by true true (any_using k₃')) in
        rw (← word_lines ys h₃.tag w)
        (same_before n x y (own_lines ys Tag.ForOf h₁ k₁) _ _
        (same_before n x y (tree_lines ys h₁.tag k₁) _ _
        (same_before n x y (own_lines ys Tag.ForOf h₂ k₂) _ _
        (same_before n x y (tree_lines ys h₂.tag k₂) _ _
        (same_behind n x y (own_lines ys Tag.ForOf h₃ k₃) (own_lines ys Tag.ForOf h₃ k₃') (tree_lines ys h₃.tag k₃ ++ tree_lines ys Tag.ForOf r)
        (body_first h₃ ys e w))))))

    body_loop : (used taken : Bool) → (taken ≡ true → h₃.tag ≡ Tag.Block)
        → Grown (initializers d) (total (tree_lines ys Tag.ForOf (loop k₃))) (total (tree_lines ys Tag.ForOf (loop k₃'))) → LoopGrown used taken
    body_loop true true block g = taken_grown (block refl)
    body_loop true false block g = same_first (initializers d) _ _ refl g
    body_loop false taken block g = same_first (initializers d) _ _ refl g

  pub loop_grown : (ys : List Symbol) {f f' : Forest} → TreeChanged d f f'
      → Grown (initializers d) (total (tree_lines ys Tag.ForOf f)) (total (tree_lines ys Tag.ForOf f'))
      → Grown (initializers d)
      (total (loop_lines ys f) ⊕ total (tree_lines ys Tag.ForOf f))
      (total (loop_lines ys f') ⊕ total (tree_lines ys Tag.ForOf f'))
  unfolding for_of_act for_of_lines
  loop_grown ys (in_list_lem {r = none} e w) g = same_first (initializers d) _ _ refl g
  loop_grown ys (in_list_lem {r = more h₂ k₂ none} e w) g = same_first (initializers d) _ _ refl g
  loop_grown ys (in_list_lem {h = h₁} {r = more h₂ k₂ (more h₃ k₃ r)} e w) g =
      same_first (initializers d) _ _ (rw (no_using h₁ e)) g
  loop_grown ys (inside {r = none} t) g = same_first (initializers d) _ _ refl g
  loop_grown ys (inside {r = more h₂ k₂ none} t) g = same_first (initializers d) _ _ refl g
  loop_grown ys (inside {h = h₁} {k = k₁} {k' = k₁'} {r = more h₂ k₂ (more h₃ k₃ r)} t) g =
      same_first (initializers d) _ _
      (lines_by_lem ys h₁ k₁ h₂ k₂ h₃ k₃ r ∙ left_same ys h₁ h₃ (any_using k₃) t ∙ sym (lines_by_lem ys h₁ k₁' h₂ k₂ h₃ k₃ r))
      g
  loop_grown ys (beside (in_list_lem {r = none} e w)) g = same_first (initializers d) _ _ refl g
  loop_grown ys (beside {h = h₁} {k = k₁} (in_list_lem {h = h₂} {k = k₂} {k' = k₂'} {r = more h₃ k₃ r} e w)) g =
      same_first (initializers d) _ _ (lines_by_lem ys h₁ k₁ h₂ k₂ h₃ k₃ r ∙ sym (lines_by_lem ys h₁ k₁ h₂ k₂' h₃ k₃ r)) g
  loop_grown ys (beside (inside {r = none} t)) g = same_first (initializers d) _ _ refl g
  loop_grown ys (beside {h = h₁} {k = k₁} (inside {h = h₂} {k = k₂} {k' = k₂'} {r = more h₃ k₃ r} t)) g =
      same_first (initializers d) _ _ (lines_by_lem ys h₁ k₁ h₂ k₂ h₃ k₃ r ∙ sym (lines_by_lem ys h₁ k₁ h₂ k₂' h₃ k₃ r)) g
  loop_grown ys (beside {h = h₁} {k = k₁} (beside {h = h₂} {k = k₂} (in_list_lem {h = h₃} {k = k₃} {k' = k₃'} {r = r} e w))) g =
      let block : takes ys h₃ k₁ ≡ true → h₃.tag ≡ Tag.Block =
      λ b. eqb-true h₃.tag Tag.Block (and_left (eqb h₃.tag Tag.Block) (not (binds_name ys h₃.a (bound_symbol k₁))) b) in
      rw (lines_by_lem ys h₁ k₁ h₂ k₂ h₃ k₃ r, lines_by_lem ys h₁ k₁ h₂ k₂ h₃ k₃' r)
      (body_loop ys h₁ k₁ h₂ k₂ h₃ r w (is_using h₁ && binds_identifier k₁) (takes ys h₃ k₁) block g)
  loop_grown ys (beside {h = h₁} {k = k₁} (beside {h = h₂} {k = k₂} (inside {h = h₃} {k = k₃} {k' = k₃'} {r = r} t))) g =
      same_first (initializers d) _ _
      (lines_by_lem ys h₁ k₁ h₂ k₂ h₃ k₃ r
      ∙ ap (lines_by (is_using h₁ && binds_identifier k₁) (takes ys h₃ k₁)) (alike t).1
      ∙ sym (lines_by_lem ys h₁ k₁ h₂ k₂ h₃ k₃' r))
      g
  loop_grown ys (beside {h = h₁} {k = k₁} (beside {h = h₂} {k = k₂} (beside {h = h₃} {k = k₃} {r = r} {r' = r'} t))) g =
      same_first (initializers d) _ _ (lines_by_lem ys h₁ k₁ h₂ k₂ h₃ k₃ r ∙ sym (lines_by_lem ys h₁ k₁ h₂ k₂ h₃ k₃ r')) g
