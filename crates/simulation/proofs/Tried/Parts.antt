-- Parts beside each other, none of them a Catch.
-- Assumes nothing.
use Rattle.std.specs.Prelude.{if◌then◌else◌, ◌≡◌, refl, List, ◌∷◌, Bool, true, false, ◌&&◌, ℕ, suc, ◌+◌, eqb, length}
use Rattle.std.proofs.Common.{ap, ◌∙◌, append-nil, zero-add, arith, eqb-true}
use Rattle.meaning.specs.Numbers.Tag
use Rattle.meaning.specs.Tree.{Head, Forest, none, more, one, Node, single, count, ◌&◌}
use Rattle.meaning.specs.Scoping.{Store}
use Rattle.meaning.specs.Statements.{any_using}
use Rattle.meaning.specs.Contexts.{transform_try_block, names_in, transform_try_parts}
use Rattle.spec_laws.specs.Tags.{and_left}
use Rattle.charge_laws.proofs.Totals.Roles.{Lacks}
use Rattle.tables.specs.Loops.{turns}
use Rattle.representation.specs.Gap.Cells.{rows_of, rows_&}
use Rattle.representation.proofs.Store.Agreed.{Agreed}
use Rattle.scoping_laws.specs.Created.Held.{free_scopes, free_symbols}
use Rattle.rewrite_contexts.specs.Tries.{PartingF, transform_part_f, transform_parts_f}
use Rattle.table_laws.specs.Streamed.Parts.{part_rows}
use Rattle.simulation.proofs.Tried.Passing.{Rewrites, none_new, rewrites_then}
use Rattle.simulation.proofs.Tried.Part.{part_if, part_of, part_law}

-- ---- one record after another

pub no_record : (f : PartingF → PartingF) (st : Store) → Agreed st → Rewrites (turns 0 f) 0 (rows_of none) (rows_of none) st st
unfolding turns rows_of free_scopes free_symbols
no_record f st a =
    record {
      passes = λ z zs zy b g v room fits. rw (zero-add, append-nil, none_new (length st.scopes), none_new (length st.symbols));
      longer = omega arith;
      later = omega arith;
      agreed = a;
    }

pub next_record_lem : {f : PartingF → PartingF} {m₁ m₂ : ℕ} {st₁ st₂ st₃ : Store} (h : Head) (k r : Forest) (n : Node) (r' : Forest)
    → Rewrites f m₁ (rows_of (one h k)) (rows_of (single n)) st₁ st₂ → Rewrites (turns (count r) f) m₂ (rows_of r) (rows_of r') st₂ st₃
    → Rewrites (turns (count (more h k r)) f) (m₁ + m₂) (rows_of (more h k r)) (rows_of (single n & r')) st₁ st₃
unfolding turns count ◌&◌
next_record_lem h k r n r' p q = rw (rows_& (one h k) r, rows_& (single n) r') (rewrites_then p q)

-- PARTS
pub parts_law : (f : Forest) (cur hoist : ℕ) (st : Store) → Lacks Tag.Catch f → Agreed st
    → (let e = transform_try_parts cur hoist f st in
    Rewrites (transform_parts_f cur hoist (count f)) (part_rows f) (rows_of f) (rows_of e.0) st e.1)
unfolding transform_parts_f transform_try_parts part_rows count
parts_law none cur hoist st l a = no_record (transform_part_f cur hoist) st a
parts_law (more h k r) cur hoist st l a =
    let e = part_of cur hoist h k st in
    let p = part_law cur hoist h k st a in
    rw l.0 (next_record_lem h k r e.0 _ p (parts_law r cur hoist e.1 l.1 p.agreed))

-- ---- what stays

-- as many records
pub parts_count : (f : Forest) (cur hoist : ℕ) (st : Store) → count (transform_try_parts cur hoist f st).0 ≡ count f
unfolding transform_try_parts count ◌&◌
parts_count none cur hoist st = refl
parts_count (more h k r) cur hoist st = ap suc (parts_count r cur hoist _)

names_if : (b : Bool) (cur hoist : ℕ) (h : Head) (k : Forest) (st : Store) (r : Forest) → (b ≡ true → h.tag ≡ Tag.Block)
    → names_in (single (part_if b cur hoist h k st).0 & r) ≡ names_in (more h k r)
unfolding transform_try_block names_in ◌&◌
names_if true cur hoist h k st r e = rw (e refl)
names_if false cur hoist h k st r e = refl

-- the same Names
pub parts_names : (f : Forest) (cur hoist : ℕ) (st : Store) → Lacks Tag.Catch f → names_in (transform_try_parts cur hoist f st).0 ≡ names_in f
unfolding transform_try_parts names_in
parts_names none cur hoist st l = refl
parts_names (more h k r) cur hoist st l =
    rw l.0
    (names_if (eqb h.tag Tag.Block && any_using k) cur hoist h k st _ (λ e. eqb-true h.tag Tag.Block (and_left (eqb h.tag Tag.Block) (any_using k) e))
    ∙ ap (λ (ys : List ℕ). if eqb h.tag Tag.Name then h.a ∷ ys else ys) (parts_names r cur hoist _ l.1))
