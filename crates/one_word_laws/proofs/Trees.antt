-- THE CHARGES OF A TREE with a changed word: they grow by the calls of its initializers, and by a context at most.
-- Assumes nothing.
use Rattle.std.specs.Prelude.{if◌then◌else◌, ◌≡◌, refl, Bool, true, false, ◌&&◌, List, [], ◌∷◌, ◌++◌, ◌⊎◌, ℕ, ◌+◌, eqb}
use Rattle.std.proofs.Math.Bool.{or-true}
use Rattle.std.proofs.Math.Logic.{inl, inr}
use Rattle.std.proofs.Common.{⊎_elim, eqb-true}
use native.Mathlib.Omega.{arith}
use Rattle.meaning.specs.Numbers.Tag
use Rattle.meaning.specs.Tree.{one_of, Head, hd, Forest, more}
use Rattle.meaning.specs.File.{Symbol}
use Rattle.meaning.specs.Statements.{any_using}
use Rattle.meaning.specs.Contexts.{any_case_using}
use Rattle.meaning.specs.Charges.{
  of_block,
  of_body,
  of_static_block,
  of_try_part,
  of_switch,
  ◌⊕◌,
  total,
  initializers,
  case_wraps,
  own_lines,
  tree_lines,
}
use Rattle.spec_laws.specs.Tags.{Seen, other, here, there, seen, clash}
use Rattle.spec_laws.specs.Figures.{total_++}
use Rattle.charge_laws.proofs.Counts.Fits.{FitsIn, Fits}
use Rattle.one_word_laws.specs.Changed.{WordChanged, list_tags, TreeChanged, in_list_lem, inside, beside}
use Rattle.one_word_laws.proofs.Alike.{word_using, word_wraps, word_lines, alike}
use Rattle.one_word_laws.proofs.Grown.{Grown, context_grown, same_first}
use Rattle.one_word_laws.proofs.Lists.{no_case_wraps, list_grown, own_same}
use Rattle.one_word_laws.proofs.ForOf.{loop_grown}

module _ (d : Forest) (ys : List Symbol) where
  -- the lines of records below one with the tag `up`
  abbrev LinesGrown : ℕ → Forest → Forest → Type 0
  LinesGrown up f f' = Grown (initializers d) (total (tree_lines ys up f)) (total (tree_lines ys up f'))

  -- the word is in a Case of this list: its Switch is charged for it
  abbrev InCase : ℕ → Forest → Forest → Type 0
  InCase up f f' = (any_case_using f' ≡ true) × (case_wraps f' ≡ initializers d + case_wraps f) × (tree_lines ys up f ≡ tree_lines ys up f')

  -- it is elsewhere
  abbrev Elsewhere : ℕ → Forest → Forest → Type 0
  Elsewhere up f f' = (any_case_using f ≡ any_case_using f') × (case_wraps f ≡ case_wraps f') × LinesGrown up f f'

  -- only a Switch has Cases
  abbrev GrownIn : Bool → ℕ → Forest → Forest → Type 0
  GrownIn in_switch up f f' = ((in_switch ≡ true) × InCase up f f') ⊎ Elsewhere up f f'

  -- ---- the record with the word in its list

  own_word : {t : ℕ} (a b c up : ℕ) {k k' : Forest} → Seen list_tags t → one_of list_tags t ≡ true → eqb t Tag.Case ≡ false → WordChanged d k k'
      → Grown (initializers d) (total (own_lines ys up (hd t a b c) k)) (total (own_lines ys up (hd t a b c) k'))
  unfolding own_lines
  own_word a b c up here e n w = list_grown (if one_of (Tag.Try ∷ Tag.Catch ∷ []) up then of_try_part else of_block) w
  own_word a b c up (there _ here) e n w = list_grown of_body w
  own_word a b c up (there _ (there _ here)) e n w = list_grown of_static_block w
  own_word a b c up (there _ (there _ (there _ here))) e n w = absurd (clash n refl)
  own_word a b c up (there e₁ (there e₂ (there e₃ (there e₄ other)))) e n w = absurd (clash (rw (e₁, e₂, e₃, e₄)) e)

  -- it is no Case
  in_own : (up : ℕ) (h : Head) {k k' : Forest} (r : Forest) → one_of list_tags h.tag ≡ true → eqb h.tag Tag.Case ≡ false → WordChanged d k k'
      → Elsewhere up (more h k r) (more h k' r)
  unfolding tree_lines any_case_using case_wraps
  in_own up h {k} {k'} r e n w =
      let beside = tree_lines ys h.tag k ++ tree_lines ys up r in (
        rw n,
        rw n,
        rw (← word_lines ys h.tag w)
            (omega (
              arith,
              own_word h.a h.b h.c up (seen list_tags h.tag) e n w,
              total_++ (own_lines ys up h k) beside,
              total_++ (own_lines ys up h k') beside,
            )),
      )

  -- it is one
  in_case_lem : (up : ℕ) (h : Head) {k k' : Forest} (r : Forest) → h.tag ≡ Tag.Case → WordChanged d k k' → InCase up (more h k r) (more h k' r)
  unfolding tree_lines own_lines any_case_using case_wraps
  in_case_lem up h r e w = (rw (e, word_using w), rw (e, word_wraps w) (omega arith), rw (e, word_lines ys Tag.Case w))

  direct : (up : ℕ) (in_switch : Bool) (h : Head) {k k' : Forest} (r : Forest) → one_of list_tags h.tag ≡ true → WordChanged d k k'
      → (in_switch ≡ false → eqb h.tag Tag.Case ≡ true → any_using k' ≡ false) → GrownIn in_switch up (more h k r) (more h k' r)
  direct up in_switch h {k} {k'} r e w only = go (eqb h.tag Tag.Case) in_switch refl only
    where
      go : (b s : Bool) → eqb h.tag Tag.Case ≡ b → (s ≡ false → eqb h.tag Tag.Case ≡ true → any_using k' ≡ false)
          → GrownIn s up (more h k r) (more h k' r)
      go true true is only = inl (refl, in_case_lem up h r (eqb-true h.tag Tag.Case is) w)
      go true false is only = absurd (clash (only refl is) (word_using w))
      go false s is only = inr (in_own up h r e is w)

  -- ---- a record around it, with its own lines

  abbrev NodeGrown : ℕ → Head → Forest → Forest → Type 0
  NodeGrown up h k k' =
      Grown (initializers d)
      (total (own_lines ys up h k) ⊕ total (tree_lines ys h.tag k))
      (total (own_lines ys up h k') ⊕ total (tree_lines ys h.tag k'))

  switch_grown : (up : ℕ) (h : Head) (k k' : Forest) → h.tag ≡ Tag.Switch → GrownIn true h.tag k k' → NodeGrown up h k k'
  unfolding own_lines
  switch_grown up h k k' e (inl (_, (used, wrapped, same))) =
      rw (← same, e, used, wrapped)
      (omega (arith, context_grown of_switch (any_case_using k) (case_wraps k) (initializers d) (no_case_wraps k)))
  switch_grown up h k k' e (inr (used, wrapped, g)) = same_first (initializers d) _ _ (rw (e, used, wrapped)) g

  for_of_grown : (up : ℕ) (h : Head) {k k' : Forest} → TreeChanged d k k' → h.tag ≡ Tag.ForOf → LinesGrown h.tag k k' → NodeGrown up h k k'
  unfolding own_lines
  for_of_grown up h t e g = rw e (loop_grown ys t (rw e at g))

  node_grown : (up : ℕ) (h : Head) {k k' : Forest} → TreeChanged d k k' → GrownIn (eqb h.tag Tag.Switch) h.tag k k' → NodeGrown up h k k'
  node_grown up h {k} {k'} t i = go (eqb h.tag Tag.Switch) (eqb h.tag Tag.ForOf) refl refl i
    where
      go : (s l : Bool) → eqb h.tag Tag.Switch ≡ s → eqb h.tag Tag.ForOf ≡ l → GrownIn s h.tag k k' → NodeGrown up h k k'
      go true l is loop i = switch_grown up h k k' (eqb-true h.tag Tag.Switch is) i
      go false l is loop (inl (never, _)) = absurd (clash refl never)
      go false true is loop (inr (_, _, g)) = for_of_grown up h t (eqb-true h.tag Tag.ForOf loop) g
      go false false is loop (inr (_, _, g)) = same_first (initializers d) _ _ (own_same ys up h t loop is) g

  around : (up : ℕ) (h : Head) {k k' : Forest} (r : Forest) → TreeChanged d k k' → NodeGrown up h k k' → Elsewhere up (more h k r) (more h k' r)
  unfolding tree_lines any_case_using case_wraps
  around up h {k} {k'} r t g =
      let same = alike t in
      let kids = tree_lines ys h.tag k in
      let kids' = tree_lines ys h.tag k' in
      let beside = tree_lines ys up r in (
        rw same.1,
        rw same.2,
        omega (
          arith,
          g,
          total_++ (own_lines ys up h k) (kids ++ beside),
          total_++ kids beside,
          total_++ (own_lines ys up h k') (kids' ++ beside),
          total_++ kids' beside,
        ),
      )

  -- ---- a record beside it

  next : (up : ℕ) (in_switch : Bool) (h : Head) (k r r' : Forest) → GrownIn in_switch up r r' → GrownIn in_switch up (more h k r) (more h k r')
  unfolding tree_lines any_case_using case_wraps
  next up in_switch h k r r' (inl (s, (used, wrapped, same))) =
      inl (s, (rw used (or-true (eqb h.tag Tag.Case && any_using k)), omega (arith, wrapped), rw same))
  next up in_switch h k r r' (inr (used, wrapped, g)) =
      let own = own_lines ys up h k in
      let kids = tree_lines ys h.tag k in
      inr (
        rw used,
        rw wrapped,
        omega (
          arith,
          g,
          total_++ own (kids ++ tree_lines ys up r),
          total_++ kids (tree_lines ys up r),
          total_++ own (kids ++ tree_lines ys up r'),
          total_++ kids (tree_lines ys up r'),
        ),
      )

  -- ---- the tree

  grown_in : (up : ℕ) (in_switch : Bool) {f f' : Forest} → TreeChanged d f f' → FitsIn in_switch f' → GrownIn in_switch up f f'
  grown_in up in_switch (in_list_lem {h = h} {r = r} e w) p = direct up in_switch h r e w p.0.taken
  grown_in up in_switch (inside {h = h} {r = r} t) p =
      inr (around up h r t (node_grown up h t (grown_in h.tag (eqb h.tag Tag.Switch) t p.1)))
  grown_in up in_switch (beside {h = h} {k = k} {r = r} {r' = r'} t) p = next up in_switch h k r r' (grown_in up in_switch t p.2)

  -- The second tree is one of an accepted file, so that its Cases stand in Switches.
  pub lines_grown : (up : ℕ) {f f' : Forest} → TreeChanged d f f' → Fits f' → LinesGrown up f f'
  lines_grown up t p = ⊎_elim (λ (never, _). absurd (clash refl never)) (λ (_, _, g). g) (grown_in up false t p)
