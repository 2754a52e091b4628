-- What Program's items are charged.
-- Assumes nothing.
use Rattle.std.specs.Prelude.{if◌then◌else◌, ◌≡◌, Bool, true, false, not, ◌&&◌, List, [], ◌∷◌, ℕ, suc, ◌+◌, length}
use Rattle.std.proofs.Math.Path.{refl}
use native.Mathlib.Omega.{arith}
use Rattle.std.proofs.Math.ListN.{length-append}
use Rattle.std.proofs.Math.Dec.{eqb}
use Rattle.meaning.specs.Numbers.Tag
use Rattle.meaning.specs.Numbers.Form
use Rattle.meaning.specs.Tree.{Head, hd, Forest, none, more, count}
use Rattle.meaning.specs.File.{Symbol}
use Rattle.meaning.specs.Statements.{is_using, any_using}
use Rattle.meaning.specs.Contexts.{names_in}
use Rattle.meaning.specs.Program.{bound_names, ItemAct, keeps_default, item_act}
use Rattle.meaning.specs.Charges.{
  Line,
  Figures,
  ◌⊕◌,
  line_charge,
  total,
  act_lines,
  item_lines,
}
use Rattle.figures.specs.declared.tally.Tally.{Tally}
use Rattle.figures.specs.declared.tally.Role.{Role}
use Rattle.figures.specs.declared.tally.Role.TheVariants.{Plain, Part, Item, Default, Exported, ExportedDeclarator, ExportedName, Held, Body}
use Rattle.figures.specs.Tally.{role_index, is_role, role_of, body_of, inserts_in, one_if, is_export, items_kept, own, tally_of}
use Rattle.spec_laws.specs.Tags.{Seen, other, here, there, seen, clash}
use Rattle.charge_laws.proofs.Growth.Items.{Exports, Alone, alone, function, module_line, no_default, default_function, no_export, export_other, ChosenItem, as_kept, as_moved, as_class, as_declaration, as_exported_declaration, as_exported_class, as_default_class, as_default_value, only_item}
use Rattle.charge_laws.proofs.Totals.Roles.{LacksBelow, Regular, role_of_all, body_of_all}
use Rattle.charge_laws.proofs.Totals.Lists.{usings_are}
use Rattle.spec_laws.specs.Figures.{Same, total_++}
use Rattle.charge_laws.proofs.Totals.Sums.{total_three, item_figures, items_of, program_own, no_program, program_lines}

-- ---- roles

-- the roles that are no item's and no part of one
pub data Apart : Role → Type 0 where
  plain : Apart Plain
  part : Apart Part
  held : Apart Held
  body : {y : ℕ} → Apart (Body y)

-- below such a record all roles are apart
abbrev Ends : Role → ℕ → Type 0
Ends u t =
    (eqb t Tag.Program ≡ false) × ((is_role u Exported && eqb t Tag.Declaration) ≡ false) × ((is_role u ExportedDeclarator && eqb t Tag.Declarator) ≡ false)
    × ((is_role u Item && eqb t Tag.DefaultExport) ≡ false) × ((is_role u Item && eqb t Tag.ExportedDeclaration) ≡ false)

ends_below : (u : Role) (t : ℕ) (kept : Bool) (k : Forest) → Ends u t → (i : ℕ) → Apart (role_of u t kept (body_of k) i)
ends_below u t kept k e i =
    role_of_all Apart u t kept (body_of k) i plain held (λ _. part) (λ d. absurd (clash e.0 d)) (λ _. body_of_all Apart plain (λ y. body) k)
    (λ d x. absurd (clash e.1 (rw (x, d)))) (λ d x. absurd (clash e.2 (rw (x, d))))
    (λ d x. absurd (clash e.3 (rw (x, d)))) (λ d x. absurd (clash e.4 (rw (x, d))))

apart_ends : {u : Role} → Apart u → (t : ℕ) → eqb t Tag.Program ≡ false → Ends u t
unfolding role_index
apart_ends plain t e = (e, refl, refl, refl, refl)
apart_ends part t e = (e, refl, refl, refl, refl)
apart_ends held t e = (e, refl, refl, refl, refl)
apart_ends body t e = (e, refl, refl, refl, refl)

-- what `own` adds by the role
abbrev role_items : Role → Head → Figures
role_items u h =
    item_figures (one_if (is_role u Item && eqb h.tag Tag.Class)) (one_if (is_export u h)) (one_if (is_role u Exported && eqb h.tag Tag.Declaration))
    (one_if (is_role u ExportedName && eqb h.tag Tag.Name))

apart_items : {u : Role} → Apart u → (h : Head) → Same (role_items u h) (item_figures 0 0 0 0)
unfolding role_index is_export
apart_items plain h = omega arith
apart_items part h = omega arith
apart_items held h = omega arith
apart_items body h = omega arith

-- ---- lines

length_if : (b : Bool) (y : ℕ) (ys : List ℕ) → length (if b then y ∷ ys else ys) ≡ one_if b + length ys
length_if true y ys = omega arith
length_if false y ys = omega arith

-- a Program's items are dropped, if its list has no using
kept_items : (any : Bool) (kids : Tally) (items : List Line) → Same (items_of kids) (total items)
    → Same
    (item_figures (if not any then 0 else kids.classes) (if not any then 0 else kids.exports) (if not any then 0 else kids.declarations)
    (if not any then 0 else kids.names))
    (total (if any then items else []))
unfolding total
kept_items true kids items e = e
kept_items false kids items e = omega arith

no_programs : (f : Forest) → LacksBelow Tag.Program f → program_lines f ≡ []
unfolding program_lines program_own
no_programs none l = refl
no_programs (more h k r) l = rw (l.0, no_programs k l.1, no_programs r l.2)

-- ---- items

-- Each lemma `..-are` is about records beside each other that have one role, the one above it about one of them.
module _ (as_read : List Symbol) where
  abbrev below : Role → Head → Forest → Tally
  below u h k = tally_of as_read (role_of u h.tag (is_using h) (body_of k)) 0 k

  abbrev record_tally : Role → Head → Forest → Tally
  record_tally u h k = own u (inserts_in as_read u h) h (count k) (below u h k)

  own_items : (u : Role) (h : Head) (k : Forest) → eqb h.tag Tag.Program ≡ false
      → Same (items_of (record_tally u h k)) (items_of (below u h k) ⊕ role_items u h)
  unfolding own items_kept
  own_items u h k e = rw e (omega arith)

  -- nothing is charged where all roles are apart
  no_items : (f : Forest) (ups : ℕ → Role) (i : ℕ) → LacksBelow Tag.Program f → ((j : ℕ) → Apart (ups j))
      → Same (items_of (tally_of as_read ups i f)) (item_figures 0 0 0 0)
  unfolding tally_of
  no_items none ups i l a = omega arith
  no_items (more h k r) ups i l a =
      let u = ups i in
      omega (
        arith,
        own_items u h k l.0,
        apart_items (a i) h,
        no_items k (role_of u h.tag (is_using h) (body_of k)) 0 l.1
            (ends_below u h.tag (is_using h) k (apart_ends (a i) h.tag l.0)),
        no_items r ups (suc i) l.2 a,
      )

  ends_items : (u : Role) (h : Head) (k : Forest) → LacksBelow Tag.Program k → Ends u h.tag
      → Same (items_of (record_tally u h k)) (role_items u h)
  ends_items u h k l e =
      omega (
        arith,
        own_items u h k e.0,
        no_items k (role_of u h.tag (is_using h) (body_of k)) 0 l (ends_below u h.tag (is_using h) k e),
      )

  -- the Names of an exported Declaration, in its Declarators
  names_are : (f : Forest) (i : ℕ) → LacksBelow Tag.Program f
      → Same (items_of (tally_of as_read (λ _. ExportedName) i f)) (item_figures 0 0 0 (length (names_in f)))
  unfolding tally_of names_in role_index is_export
  names_are none i l = omega arith
  names_are (more h k r) i l =
      omega (
        arith,
        ends_items ExportedName h k l.1 (l.0, refl, refl, refl, refl),
        length_if (eqb h.tag Tag.Name) h.a (names_in r),
        names_are r (suc i) l.2,
      )

  declarator_names : {t : ℕ} (a b c : ℕ) (k : Forest) → LacksBelow Tag.Program k → eqb t Tag.Program ≡ false → Seen (Tag.Declarator ∷ []) t
      → Same (items_of (record_tally ExportedDeclarator (hd t a b c) k)) (item_figures 0 0 0 (length (if eqb t Tag.Declarator then names_in k else [])))
  unfolding role_index is_export role_of
  declarator_names a b c k l e here =
      omega (arith, own_items ExportedDeclarator (hd Tag.Declarator a b c) k e, names_are k 0 l)
  declarator_names {t} a b c k l e (there e₆ other) =
      rw e₆ (omega (arith, ends_items ExportedDeclarator (hd t a b c) k l (e, refl, e₆, refl, refl)))

  bound_are : (f : Forest) (i : ℕ) → LacksBelow Tag.Program f
      → Same (items_of (tally_of as_read (λ _. ExportedDeclarator) i f)) (item_figures 0 0 0 (length (bound_names f)))
  unfolding tally_of bound_names
  bound_are none i l = omega arith
  bound_are (more h k r) i l =
      omega (
        arith,
        declarator_names h.a h.b h.c k l.1 l.0 (seen (Tag.Declarator ∷ []) h.tag),
        length-append (if eqb h.tag Tag.Declarator then names_in k else []) (bound_names r),
        bound_are r (suc i) l.2,
      )

  -- Program's items
  program_item_lem : {x : ItemAct} {h : Head} {k : Forest} → LacksBelow Tag.Program k → eqb h.tag Tag.Program ≡ false → ChosenItem Alone x h k
      → Same (items_of (record_tally Item h k)) (total (act_lines x))
  unfolding role_index is_export role_of tally_of keeps_default act_lines total line_charge
  program_item_lem {h = h} {k = k} l e (as_kept function) = omega (arith, ends_items Item h k l (refl, refl, refl, refl, refl))
  program_item_lem {h = h} {k = k} l e (as_kept module_line) = omega (arith, ends_items Item h k l (refl, refl, refl, refl, refl))
  program_item_lem {h = h} {k = k} l e (as_kept no_default) = omega (arith, own_items Item h k e)
  program_item_lem {h = h} {k = k} l e (as_kept (default_function {y = y} {z = z} {k = k₁} alone)) =
      omega (arith, own_items Item h k e, ends_items Default (hd Tag.Function Form.Declaration y z) k₁ l.1 (refl, refl, refl, refl, refl))
  program_item_lem {h = h} {k = k} l e (as_kept no_export) = omega (arith, own_items Item h k e)
  program_item_lem {h = h} {k = k} l e (as_kept (export_other {h = h₁} {k = k₁} e₁₅ e₅ alone)) =
      omega (arith, own_items Item h k e, rw (e₁₅, e₅) at (ends_items Exported h₁ k₁ l.1 (l.0, e₅, refl, refl, refl)))
  program_item_lem {h = h} {k = k} l e (as_moved e₁₃ e₁₇ e₁₈ e₁₉ e₁₅ e₅) = omega (arith, rw e₁₅ at (ends_items Item h k l (e, refl, refl, e₁₈, e₁₉)))
  program_item_lem {h = h} {k = k} l e as_class = omega (arith, ends_items Item h k l (refl, refl, refl, refl, refl))
  program_item_lem {h = h} {k = k} l e as_declaration = omega (arith, ends_items Item h k l (refl, refl, refl, refl, refl))
  program_item_lem {h = h} {k = k} l e (as_exported_declaration {x = x} {y = y} {z = z} {k = k₁} alone) =
      omega (arith, own_items Item h k e, own_items Exported (hd Tag.Declaration x y z) k₁ refl, bound_are k₁ 0 l.1)
  program_item_lem {h = h} {k = k} l e (as_exported_class {x = x} {y = y} {z = z} {k = k₁} alone) =
      omega (arith, own_items Item h k e, ends_items Exported (hd Tag.Class x y z) k₁ l.1 (refl, refl, refl, refl, refl))
  program_item_lem {h = h} {k = k} l e (as_default_class {y = y} {z = z} {k = k₁} named alone) =
      omega (arith, own_items Item h k e, ends_items Default (hd Tag.Class Form.Declaration y z) k₁ l.1 (refl, refl, refl, refl, refl))
  program_item_lem {h = h} {k = k} l e (as_default_value {h = h₁} {k = k₁} d c alone) =
      omega (arith, own_items Item h k e, rw d at (ends_items Default h₁ k₁ l.1 (l.0, refl, refl, refl, refl)))

  item_lines_are : (f : Forest) (i : ℕ) → LacksBelow Tag.Program f → Exports f → Same (items_of (tally_of as_read (λ _. Item) i f)) (total (item_lines f))
  unfolding tally_of item_lines total
  item_lines_are none i l x = omega arith
  item_lines_are (more h k r) i l x =
      omega (
        arith,
        program_item_lem l.1 l.0 (only_item h k x.0),
        total_++ (act_lines (item_act h k)) (item_lines r),
        item_lines_are r (suc i) l.2 x.1,
      )

  -- a Program, and any record
  program_items_lem : {u : Role} → Apart u → (a b c : ℕ) (k : Forest) → LacksBelow Tag.Program k × Exports k
      → Same (items_of (record_tally u (hd Tag.Program a b c) k)) (total (program_own 1 k))
  unfolding own items_kept program_own role_of
  program_items_lem {u} x a b c k l =
      rw (usings_are as_read k (λ _. Item) 0)
      (omega (
        arith,
        apart_items x (hd Tag.Program a b c),
        kept_items (any_using k) (tally_of as_read (λ _. Item) 0 k) (item_lines k) (item_lines_are k 0 l.0 l.1),
      ))

  record_items : {u : Role} → Apart u → {t : ℕ} (a b c : ℕ) (k : Forest) → (eqb t Tag.Program ≡ true → LacksBelow Tag.Program k × Exports k) → Seen (Tag.Program ∷ []) t
      → (((j : ℕ) → Apart (role_of u t (is_using (hd t a b c)) (body_of k) j)) → Same (items_of (below u (hd t a b c) k)) (total (program_lines k)))
      → Same (items_of (record_tally u (hd t a b c) k)) (total (program_own t k) ⊕ total (program_lines k))
  unfolding total
  record_items x a b c k l here i = rw (no_programs k (l refl).0) (omega (arith, program_items_lem x a b c k (l refl)))
  record_items {u} x {t} a b c k l (there e other) i =
      omega (
        arith,
        own_items u (hd t a b c) k e,
        apart_items x (hd t a b c),
        i (ends_below u t (is_using (hd t a b c)) k (apart_ends x t e)),
        no_program t k e,
      )

  pub items_are : (f : Forest) (ups : ℕ → Role) (i : ℕ) → Regular f → ((j : ℕ) → Apart (ups j))
      → Same (items_of (tally_of as_read ups i f)) (total (program_lines f))
  unfolding tally_of program_lines total
  items_are none ups i s a = omega arith
  items_are (more h k r) ups i s a =
      omega (
        arith,
        record_items (a i) h.a h.b h.c k s.1 (seen (Tag.Program ∷ []) h.tag)
            (items_are k (role_of (ups i) h.tag (is_using h) (body_of k)) 0 s.2),
        items_are r ups (suc i) s.3 a,
        total_three (program_own h.tag k) (program_lines k) (program_lines r),
      )
