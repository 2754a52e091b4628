-- PROGRAM'S ITEMS are charged as before: a changed word is deeper than what their lines are told by.
-- Assumes nothing.
use Rattle.std.specs.Prelude.{if◌then◌else◌, ◌≡◌, Bool, true, false, not, ◌&&◌, ℕ, length}
use Rattle.std.proofs.Math.Path.{refl, ap}
use Rattle.std.proofs.Common.{sym, ap₂, ◌∙◌}
use mathlib.Core.List.{List, [], ◌∷◌, ◌++◌}
use Rattle.std.proofs.Math.Dec.{eqb}
use Rattle.meaning.specs.Numbers.Tag
use Rattle.meaning.specs.Numbers.Form
use Rattle.meaning.specs.Tree.{one_of, Head, Forest, more}
use Rattle.meaning.specs.Contexts.{names_in}
use Rattle.meaning.specs.Program.{
  bound_names,
  ItemAct,
  stay,
  move,
  lower_class,
  lower_declaration,
  export_declaration,
  export_class,
  export_default_class,
  export_default_value,
  export_act,
  keeps_default,
  default_act,
  item_act,
}
use Rattle.meaning.specs.Charges.{Line, top_level_class, exported_class, default_export, exported_names, act_lines, item_lines}
use Rattle.spec_laws.specs.Tags.{other_than}
use Rattle.one_word_laws.specs.Changed.{WordChanged, here, behind, list_tags, TreeChanged, in_list_lem, inside, beside}

-- ---- the lines of an item

default_lines : (h : Head) (k r : Forest) → act_lines (default_act (more h k r)) ≡ (if keeps_default h then [] else (default_export ∷ []))
unfolding default_act act_lines
default_lines h k r = go (keeps_default h) (eqb h.tag Tag.Class && eqb h.a Form.Declaration && not (eqb h.c 0))
  where
    go : (b c : Bool)
        → act_lines (if b then stay else if c then export_default_class h k else export_default_value h k) ≡ (if b then [] else (default_export ∷ []))
    go true c = refl
    go false true = refl
    go false false = refl

-- an exported record that binds these names
abbrev exported : Head → List ℕ → List Line
exported h ys =
    if eqb h.tag Tag.Class then exported_class ∷ [] else if eqb h.tag Tag.Declaration then exported_names (length ys) ∷ [] else []

export_lines : (h : Head) (k r : Forest) → act_lines (export_act (more h k r)) ≡ exported h (bound_names k)
unfolding export_act act_lines
export_lines h k r = go (eqb h.tag Tag.Class) (eqb h.tag Tag.Declaration)
  where
    go : (b c : Bool)
        → act_lines (if b then export_class h k else if c then export_declaration k else stay)
        ≡ (if b then exported_class ∷ [] else if c then exported_names (length (bound_names k)) ∷ [] else [])
    go true c = refl
    go false true = refl
    go false false = refl

item_lines_lem : (h : Head) (k : Forest)
    → act_lines (item_act h k)
    ≡ (if one_of (Tag.Function ∷ Tag.ModuleLine ∷ []) h.tag then []
    else if eqb h.tag Tag.DefaultExport then act_lines (default_act k)
    else if eqb h.tag Tag.ExportedDeclaration then act_lines (export_act k)
    else if eqb h.tag Tag.Class then top_level_class ∷ []
    else [])
unfolding item_act act_lines
item_lines_lem h k =
    let t = h.tag in
    go
    (one_of (Tag.Function ∷ Tag.ModuleLine ∷ []) t) (eqb t Tag.DefaultExport) (eqb t Tag.ExportedDeclaration) (eqb t Tag.Class) (eqb t Tag.Declaration)
    (default_act k) (export_act k)
  where
    go : (a b c d e : Bool) (x y : ItemAct)
        → act_lines (if a then stay else if b then x else if c then y else if d then lower_class else if e then lower_declaration else move)
        ≡ (if a then [] else if b then act_lines x else if c then act_lines y else if d then top_level_class ∷ [] else [])
    go true b c d e x y = refl
    go false true c d e x y = refl
    go false false true d e x y = refl
    go false false false true e x y = refl
    go false false false false true x y = refl
    go false false false false false x y = refl

-- an item that is a list's record is told by its tag
word_item : (h : Head) (k k' : Forest) → one_of list_tags h.tag ≡ true → act_lines (item_act h k) ≡ act_lines (item_act h k')
unfolding item_act
word_item h k k' e = rw (other_than list_tags h.tag Tag.DefaultExport e refl, other_than list_tags h.tag Tag.ExportedDeclaration e refl)

module _ {d : Forest} where
  -- ---- the names bound

  word_names : {f f' : Forest} → WordChanged d f f' → names_in f ≡ names_in f'
  unfolding names_in
  word_names (here u) = refl
  word_names (behind {h = h} w) = ap (λ (ys : List ℕ). if eqb h.tag Tag.Name then h.a ∷ ys else ys) (word_names w)

  tree_names : {f f' : Forest} → TreeChanged d f f' → names_in f ≡ names_in f'
  unfolding names_in
  tree_names (in_list_lem e w) = refl
  tree_names (inside t) = refl
  tree_names (beside {h = h} t) = ap (λ (ys : List ℕ). if eqb h.tag Tag.Name then h.a ∷ ys else ys) (tree_names t)

  word_bound : {f f' : Forest} → WordChanged d f f' → bound_names f ≡ bound_names f'
  unfolding bound_names
  word_bound (here u) = refl
  word_bound (behind {h = h} {k = k} w) = ap (◌++◌ (if eqb h.tag Tag.Declarator then names_in k else [])) (word_bound w)

  tree_bound : {f f' : Forest} → TreeChanged d f f' → bound_names f ≡ bound_names f'
  unfolding bound_names
  tree_bound (in_list_lem {h = h} {r = r} e w) =
      ap (λ (ys : List ℕ). (if eqb h.tag Tag.Declarator then ys else []) ++ bound_names r) (word_names w)
  tree_bound (inside {h = h} {r = r} t) =
      ap (λ (ys : List ℕ). (if eqb h.tag Tag.Declarator then ys else []) ++ bound_names r) (tree_names t)
  tree_bound (beside {h = h} {k = k} t) = ap (◌++◌ (if eqb h.tag Tag.Declarator then names_in k else [])) (tree_bound t)

  -- ---- the lines of the items

  default_same : {f f' : Forest} → TreeChanged d f f' → act_lines (default_act f) ≡ act_lines (default_act f')
  default_same (in_list_lem {h = h} {k = k} {k' = k'} {r = r} e w) = default_lines h k r ∙ sym (default_lines h k' r)
  default_same (inside {h = h} {k = k} {k' = k'} {r = r} t) = default_lines h k r ∙ sym (default_lines h k' r)
  default_same (beside {h = h} {k = k} {r = r} {r' = r'} t) = default_lines h k r ∙ sym (default_lines h k r')

  export_same : {f f' : Forest} → TreeChanged d f f' → act_lines (export_act f) ≡ act_lines (export_act f')
  export_same (in_list_lem {h = h} {k = k} {k' = k'} {r = r} e w) =
      export_lines h k r ∙ ap (exported h) (word_bound w) ∙ sym (export_lines h k' r)
  export_same (inside {h = h} {k = k} {k' = k'} {r = r} t) =
      export_lines h k r ∙ ap (exported h) (tree_bound t) ∙ sym (export_lines h k' r)
  export_same (beside {h = h} {k = k} {r = r} {r' = r'} t) = export_lines h k r ∙ sym (export_lines h k r')

  tree_item : (h : Head) {k k' : Forest} → TreeChanged d k k' → act_lines (item_act h k) ≡ act_lines (item_act h k')
  tree_item h {k} {k'} t =
      item_lines_lem h k
      ∙ ap₂ (λ (xs ys : List Line).
      if one_of (Tag.Function ∷ Tag.ModuleLine ∷ []) h.tag then []
      else if eqb h.tag Tag.DefaultExport then xs
      else if eqb h.tag Tag.ExportedDeclaration then ys
      else if eqb h.tag Tag.Class then top_level_class ∷ []
      else []) (default_same t) (export_same t)
      ∙ sym (item_lines_lem h k')

  pub items_same : {f f' : Forest} → TreeChanged d f f' → item_lines f ≡ item_lines f'
  unfolding item_lines
  items_same (in_list_lem {h = h} {k = k} {k' = k'} {r = r} e w) = ap (λ (ls : List Line). ls ++ item_lines r) (word_item h k k' e)
  items_same (inside {h = h} {r = r} t) = ap (λ (ls : List Line). ls ++ item_lines r) (tree_item h t)
  items_same (beside {h = h} {k = k} t) = ap (◌++◌ (act_lines (item_act h k))) (items_same t)
