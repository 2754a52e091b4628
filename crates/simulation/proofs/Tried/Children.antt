-- The children of a Try: parts, and a Catch with parts of its own.
-- Assumes nothing.
use Rattle.std.specs.Prelude.{if◌then◌else◌, ◌≡◌, refl, ◌++◌, Bool, true, false, ℕ, ◌+◌, eqb}
use Rattle.std.proofs.Common.{ap, ◌∙◌}
use Rattle.meaning.specs.Numbers.Tag
use Rattle.meaning.specs.Tree.{Head, Forest, none, more, one, Node, single, count}
use Rattle.meaning.specs.Scoping.{Store, Change}
use Rattle.meaning.specs.Contexts.{transform_try_parts}
use Rattle.spec_laws.specs.Trees.{transform_handler}
use Rattle.charge_laws.proofs.Totals.Roles.{Lacks}
use Rattle.tables.specs.Table.{row_f}
use Rattle.tables.specs.declared.Row.{Row}
use Rattle.representation.specs.Gap.Cells.{line, rows_of}
use Rattle.representation.proofs.Gap.Rows.{next_gapped}
use Rattle.representation.proofs.Store.Agreed.{Agreed}
use Rattle.rewrite_contexts.specs.Tries.{PartingF, transform_part_f, transform_handler_f, transform_child_f, transform_children_f}
use Rattle.table_laws.specs.Streamed.Places.{one_row}
use Rattle.table_laws.specs.Streamed.Parts.{own_rows, part_rows, child_rows, try_rows}
use Rattle.table_laws.proofs.Streamed.Parts.{Catches}
use Rattle.simulation.proofs.Tried.Passing.{Rewrites}
use Rattle.simulation.proofs.Tried.Part.{part_of, part_law}
use Rattle.simulation.proofs.Tried.Parts.{no_record, next_record_lem}
use Rattle.simulation.proofs.Tried.Handler.{handler_law}

-- a child, by whether it is a Catch
abbrev child_if : Bool → ℕ → ℕ → Head → Forest → Change Node
child_if b cur hoist h k = if b then transform_handler h k (transform_try_parts cur hoist k) else part_of cur hoist h k

child_by : (b : Bool) (cur hoist : ℕ) (h : Head) (k : Forest) (st : Store) → (b ≡ true → Lacks Tag.Catch k) → Agreed st
    → (let e = child_if b cur hoist h k st in
    Rewrites (if b then transform_handler_f cur hoist else transform_part_f cur hoist) (if b then part_rows k else own_rows h k)
    (rows_of (one h k)) (rows_of (single e.0)) st e.1)
child_by true cur hoist h k st l a = handler_law cur hoist h k st (l refl) a
child_by false cur hoist h k st l a = part_law cur hoist h k st a

choose : (b : Bool) (f g : PartingF → PartingF) (s : PartingF) → (if b then f s else g s) ≡ (if b then f else g) s
choose true f g s = refl
choose false f g s = refl

child_law : (cur hoist : ℕ) (h : Head) (k : Forest) (st : Store) → (eqb h.tag Tag.Catch ≡ true → Lacks Tag.Catch k) → Agreed st
    → (let e = child_if (eqb h.tag Tag.Catch) cur hoist h k st in
    Rewrites (transform_child_f cur hoist) (child_rows h k) (rows_of (one h k)) (rows_of (single e.0)) st e.1)
unfolding transform_child_f row_f
child_law cur hoist h k st l a =
    let b = eqb h.tag Tag.Catch in
    let p = child_by b cur hoist h k st l a in
    let x = line h (count k) in
    record {
      passes =
          λ z zs zy c g v room fits.
          let m = child_rows h k + g in
          let u = rows_of k ++ v in
          rw (one_row h k, ap (λ (r : Row). r.tag) (next_gapped z c m x u))
          (choose b (transform_handler_f cur hoist) (transform_part_f cur hoist) _
          ∙ (rw (one_row h k) at (p.passes z zs zy c g v room fits)));
      longer = p.longer;
      later = p.later;
      agreed = p.agreed;
    }

-- THE CHILDREN OF A TRY
pub children_law : (f : Forest) (cur hoist : ℕ) (st : Store) → Catches f → Agreed st
    → (let e = transform_try_parts cur hoist f st in
    Rewrites (transform_children_f cur hoist (count f)) (try_rows f) (rows_of f) (rows_of e.0) st e.1)
unfolding transform_children_f transform_try_parts try_rows count
children_law none cur hoist st l a = no_record (transform_child_f cur hoist) st a
children_law (more h k r) cur hoist st l a =
    let e = child_if (eqb h.tag Tag.Catch) cur hoist h k st in
    let p = child_law cur hoist h k st l.0 a in
    next_record_lem h k r e.0 _ p (children_law r cur hoist e.1 l.1 p.agreed)
