-- A Program with a using: what stays of its items, and its Block.
-- Assumes nothing.
use Rattle.std.specs.Prelude.{if◌then◌else◌, ◌≡◌, Bool, ◌||◌, ℕ, suc, ◌+◌, eqb}
use Rattle.std.proofs.Math.Path.{refl, ap, ap₂}
use Rattle.std.proofs.Common.{sym, ◌∙◌, arith, eqb-true}
use Rattle.std.proofs.Math.Bool.{true, false}
use mathlib.Core.List.{List, [], ◌∷◌, ◌++◌, append_assoc}
use Rattle.std.proofs.Math.ListN.{length}
use Rattle.meaning.specs.Numbers.Tag
use Rattle.meaning.specs.Numbers.Kind
use Rattle.meaning.specs.Numbers.Form
use Rattle.meaning.specs.Tree.{one_of, Head, hd, Forest, none, more, one, ◌&◌}
use Rattle.meaning.specs.File.{Symbol}
use Rattle.meaning.specs.Scoping.{Store, create_symbol, set_flags_of, insert_scope_below}
use Rattle.meaning.specs.Shapes.{declaration}
use Rattle.meaning.specs.Statements.{is_using, any_using}
use Rattle.meaning.specs.Program.{transform_class_decl, preserve_class_expression_name, Split, bound_names, specifiers, top_level_class, top_level_declaration, exported_declaration, exported_class, default_class, as_expression, default_value, ItemAct, item_act, item_as, program_item, program_items, enter_program}
use Rattle.meaning.specs.Walk.{program, block, act_if, act_of}
use Rattle.meaning.specs.Charges.{Line, of_block, initializers, wraps, context_lines, context, wrapped}
use Rattle.meaning.specs.Due.{enter_lines}
use Rattle.charge_laws.specs.VisitCharges.{standing, taken_up, declarators, kept, moved, skipped, next, Visits, around, free, visits_as, visits_standing, visits_taken_up, visits_kept, visits_moved, visits_of, visits_in}
use Rattle.spec_laws.specs.Tags.{clash}
use Rattle.charge_laws.proofs.Growth.Items.{Exports, Alone, alone, staying_tag, ChosenItem, as_kept, as_moved, as_class, as_declaration, as_exported_declaration, as_exported_class, as_default_class, as_default_value, only_item}
use Rattle.charge_laws.proofs.Counts.Visits.{++-nil, spread, visits_&, none_skipped}
use Rattle.charge_laws.proofs.Counts.Tries.{Opens}
use Rattle.charge_laws.proofs.Counts.ForOf.{standing_at}

-- the usings of a list have their own kind, none being recorded
abbrev pub Kinds : Forest → Type 0
Kinds none = Unit {0}
Kinds (more h k r) = (is_using h ≡ true → one_of (Kind.Using ∷ Kind.AwaitUsing ∷ []) h.a ≡ true) × Kinds r

module _ (ys : List Symbol) where
  -- what an item leaves, before others
  abbrev Item : ItemAct → Head → Forest → Split → Type 0
  Item x h k s =
      ((g : Forest) → visits_in ys (s.kept & g) standing ≡ spread ys (visits_kept ys x h k) k (visits_in ys g standing))
      × ((g : Forest) → visits_in ys (s.moved & g) taken_up ≡ spread ys (visits_moved ys x h k) k (visits_in ys g taken_up))
      × ((g : Forest) → any_using (s.moved & g) ≡ (is_using h || any_using g))
      × ((g : Forest) → wraps (s.moved & g) ≡ (if is_using h then initializers k else 0) + wraps g)

  -- so many visits, and none below
  only : (n : ℕ) (k : Forest) (xs : List (List Line)) → free n ++ xs ≡ spread ys (around (free n) skipped []) k xs
  only n k xs = ap (λ (v : List (List Line)). free n ++ (v ++ xs)) (sym (none_skipped ys k))

  -- a made Declaration with one record as its initializer
  declared_moved : (y : ℕ) (h : Head) (k g : Forest)
      → visits_in ys (declaration Kind.Var y (one h k) & g) taken_up ≡ free 3 ++ (visits_in ys (one h k) standing ++ visits_in ys g taken_up)
  unfolding visits_in visits_of visits_taken_up visits_standing visits_as act_of next is_using ◌&◌
  declared_moved y h k g =
      ap (λ (v : List (List Line)). free 3 ++ (v ++ visits_in ys g taken_up)) (++-nil (visits_in ys (one h k) standing))

  -- a Class as an expression is visited as it was
  class_same : (h : Head) (k : Forest) (a b c : ℕ) → h.tag ≡ Tag.Class → visits_in ys (one (hd Tag.Class a b c) k) standing ≡ visits_in ys (one h k) standing
  unfolding visits_in visits_of visits_standing visits_as act_of next
  class_same h k a b c e = ap (λ (v : Visits). spread ys v k []) (sym (standing_at ys h k 15 e))

  class_moved : (h : Head) (k : Forest) (st : Store) (g : Forest) → h.tag ≡ Tag.Class
      → visits_in ys ((transform_class_decl h k st).0 & g) taken_up ≡ free 3 ++ (visits_in ys (one h k) standing ++ visits_in ys g taken_up)
  unfolding transform_class_decl
  class_moved h k st g e =
      let y = (preserve_class_expression_name h st).0 in
      declared_moved h.c (hd Tag.Class Form.Expression h.b y) k g
      ∙ ap (λ (v : List (List Line)). free 3 ++ (v ++ visits_in ys g taken_up)) (class_same h k 1 h.b y e)

  expression_same : (b : Bool) (h : Head) (k : Forest) → eqb h.tag Tag.Class ≡ b
      → visits_in ys (one (if b then hd Tag.Class Form.Expression h.b h.c else h) k) standing ≡ visits_in ys (one h k) standing
  expression_same true h k e = class_same h k 1 h.b h.c (eqb-true h.tag Tag.Class e)
  expression_same false h k e = refl

  -- ---- an item

  specifiers_visits : (st : Store) (names : List ℕ) → visits_in ys (specifiers st names) standing ≡ free (length names)
  unfolding specifiers visits_in visits_of visits_standing visits_as act_of next
  specifiers_visits st [] = refl
  specifiers_visits st (y ∷ names) = ap (◌∷◌ []) (specifiers_visits st names)

  one_more_lem : (n : ℕ) (xs : List (List Line)) → [] ∷ (free n ++ xs) ≡ free (1 + n) ++ xs
  one_more_lem n xs = let e : suc n ≡ 1 + n = omega arith in ap (λ (m : ℕ). free m ++ xs) e

  recorded : (u : Bool) (a : ℕ) → (u ≡ true → one_of (3 ∷ 4 ∷ []) a ≡ true) → is_using (hd Tag.Declaration Kind.Var (if u then a else 0) 0) ≡ u
  unfolding is_using
  recorded true a e = e refl
  recorded false a e = refl

  program_item_lem : {x : ItemAct} {h : Head} {k : Forest} (st : Store) → (is_using h ≡ true → one_of (Kind.Using ∷ Kind.AwaitUsing ∷ []) h.a ≡ true)
      → ChosenItem Alone x h k → Item x h k (item_as x h k st).0
  unfolding item_as top_level_class top_level_declaration exported_declaration exported_class default_class default_value transform_class_decl as_expression visits_in visits_of visits_kept visits_moved visits_taken_up visits_standing visits_as act_of next any_using is_using wraps ◌&◌
  program_item_lem {k = k} st u (as_kept s) =
      let t = (staying_tag s).1 in rw t ((λ g. refl), (λ g. only 0 k (visits_in ys g taken_up)), (λ g. refl), (λ g. omega arith))
  program_item_lem {k = k} st u (as_moved e₁₃ e₁₇ e₁₈ e₁₉ e₁₅ e₅) =
      rw e₅ ((λ g. only 0 k (visits_in ys g standing)), (λ g. refl), (λ g. refl), (λ g. refl))
  program_item_lem {h = h} {k = k} st u as_class = (
    (λ g. only 0 k (visits_in ys g standing)),
    (λ g.
        class_moved h k st g refl
        ∙ ap (λ (v : List (List Line)). free 4 ++ (v ++ visits_in ys g taken_up)) (++-nil (visits_in ys k standing))),
    (λ g. refl),
    (λ g. omega arith),
  )
  program_item_lem {h = h} {k = k} st u as_declaration =
      let r = recorded (is_using h) h.a u in (
        (λ g. only 0 k (visits_in ys g standing)),
        (λ g. ap (λ (u : Bool). spread ys (if u then around (free 1) declarators [] else around (free 1) standing []) k (visits_in ys g taken_up)) r),
        (λ g. ap (λ (u : Bool). u || any_using g) r),
        (λ g. ap (λ (u : Bool). (if u then initializers k else 0) + wraps g) r),
      )
  program_item_lem {k = k} st u (as_exported_declaration {k = k₁} alone) =
      let names = bound_names k₁ in (
        (λ g.
            ap (λ (v : List (List Line)). [] ∷ (v ++ visits_in ys g standing)) (specifiers_visits (set_flags_of names 1 st).1 names)
            ∙ one_more_lem (length names) (visits_in ys g standing)
            ∙ only (1 + length names) k (visits_in ys g standing)),
        (λ g. ap (λ (v : List (List Line)). [] ∷ (v ++ visits_in ys g taken_up)) (sym (++-nil (visits_in ys k₁ standing)))),
        (λ g. refl),
        (λ g. omega arith),
      )
  program_item_lem {k = k} st u (as_exported_class {x = x} {y = y} {z = z} {k = k₁} alone) = (
    (λ g. only 2 k (visits_in ys g standing)),
    (λ g. class_moved (hd Tag.Class x y z) k₁ st g refl),
    (λ g. refl),
    (λ g. omega arith),
  )
  program_item_lem {k = k} st u (as_default_class {y = y} {z = z} {k = k₁} named alone) = (
    (λ g. only 2 k (visits_in ys g standing)),
    (λ g. class_moved (hd Tag.Class Form.Declaration y z) k₁ st g refl),
    (λ g. refl),
    (λ g. omega arith),
  )
  program_item_lem {k = k} st u (as_default_value {h = h₁} {k = k₁} e d alone) = (
    (λ g. only 2 k (visits_in ys g standing)),
    (λ g.
        declared_moved (create_symbol 4 1 1 0 st).0 (as_expression h₁) k₁ g
        ∙ ap (λ (v : List (List Line)). free 3 ++ (v ++ visits_in ys g taken_up)) (expression_same (eqb h₁.tag Tag.Class) h₁ k₁ refl)),
    (λ g. refl),
    (λ g. omega arith),
  )

  -- ---- all items

  abbrev Items : Forest → Split → Type 0
  Items f s =
      (visits_in ys s.kept standing ≡ visits_in ys f kept)
      × (visits_in ys s.moved taken_up ≡ visits_in ys f moved)
      × (any_using s.moved ≡ any_using f)
      × (wraps s.moved ≡ wraps f)

  items : (f : Forest) (st : Store) → Exports f → Kinds f → Items f (program_items f st).0
  unfolding program_items program_item visits_in visits_of next any_using wraps
  items none st x u = (refl, refl, refl, refl)
  items (more h k r) st x u =
      let i = program_item_lem st u.0 (only_item h k x.0) in
      let rest = (program_items r (program_item h k st).1).0 in
      let j = items r (program_item h k st).1 x.1 u.1 in (
        i.0 rest.kept ∙ ap (λ (v : List (List Line)). spread ys (visits_kept ys (item_act h k) h k) k v) j.0,
        i.1 rest.moved ∙ ap (λ (v : List (List Line)). spread ys (visits_moved ys (item_act h k) h k) k v) j.1,
        i.2 rest.moved ∙ ap (λ (b : Bool). is_using h || b) j.2,
        i.3 rest.moved ∙ ap (λ (n : ℕ). (if is_using h then initializers k else 0) + n) j.3,
      )

  -- ---- the Program

  block_last : (a b m e xs : List (List Line)) → a ++ ((b ++ m) ++ (e ++ xs)) ≡ (a ++ (b ++ (m ++ e))) ++ xs
  block_last a b m e xs = simp append_assoc

  -- its Block, by the test of the moved items
  block_visits : (u : Bool) (scope : ℕ) (list : Forest) → any_using list ≡ u → u ≡ true
      → spread ys (visits_as (act_if u block) (hd Tag.Block scope 0 0) list) list []
      ≡ (context of_block ∷ wrapped (wraps list) ∷ []) ∷ (free 5 ++ (visits_in ys list taken_up ++ free 6))
  unfolding visits_as enter_lines context_lines
  block_visits true scope list e d = rw e
  block_visits false scope list e d = absurd (clash refl d)

  pub program_opens : (h : Head) (k : Forest) (st : Store) → Exports k → Kinds k → any_using k ≡ true → Opens ys program h k (enter_program h k st)
  unfolding enter_program visits_as visits_in visits_of visits_standing act_of context_lines next
  program_opens h k st x p u xs =
      let s = program_items k st in
      let scope = (insert_scope_below h.a s.0.moved s.1).0 in
      let i = items k st x p in
      let l = context of_block ∷ wrapped (wraps k) ∷ [] in
      rw u
      (ap (◌∷◌ (enter_lines program h k))
      (block_last (visits_in ys k kept) (l ∷ free 5) (visits_in ys k moved) (free 6) xs
      ∙ ap (λ (v : List (List Line)). v ++ xs)
      (sym
      (visits_& ys s.0.kept (one (hd Tag.Block scope 0 0) s.0.moved)
      ∙ ap₂ (λ (v w : List (List Line)). v ++ w) i.0
      (block_visits (any_using s.0.moved) scope s.0.moved refl (i.2 ∙ u)
      ∙ ap₂ (λ (n : ℕ) (v : List (List Line)). (context of_block ∷ wrapped n ∷ []) ∷ (free 5 ++ (v ++ free 6))) i.3 i.1)))))
