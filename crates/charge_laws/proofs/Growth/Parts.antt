-- The parts of a Try.
-- Assumes nothing.
use Rattle.std.specs.Prelude.{if◌then◌else◌, ◌≡◌, refl, Bool, true, false, ◌&&◌, [], ℕ, ◌+◌, ◌*◌, eqb}
use Rattle.std.proofs.Common.{arith, eqb-true}
use Rattle.meaning.specs.Numbers.Tag
use Rattle.meaning.specs.Tree.{Head, hd, Forest, none, more, one, node, single, size, ◌&◌}
use Rattle.meaning.specs.Scoping.{Store, Change, return, insert_scope_between, move_bindings}
use Rattle.meaning.specs.Statements.{any_using, transform_statements}
use Rattle.meaning.specs.Contexts.{
  transform_try_block,
  names_in,
  last_block_scope,
  any_part_using,
  move_catch_names,
  transform_try_parts,
  enter_try_statement,
}
use Rattle.meaning.specs.Charges.{of_try_part, context_charge, wraps, context_lines, record_bytes}
use Rattle.meaning.specs.Due.{part_lines}
use Rattle.spec_laws.specs.Trees.{transform_handler}
use Rattle.charge_laws.proofs.Growth.Rows.{Grown, both, either, unchanged, scope_between, binding_moved, bindings_moved}
use Rattle.charge_laws.proofs.Growth.Trees.{More, block_bytes_lem}
use Rattle.charge_laws.proofs.Growth.Made.{context_pays, statements_grow, statements_more, try_grows, try_more}
use Rattle.charge_laws.proofs.Growth.Charged.{Pays, PaysFor, pays_nothing, pays_then, pays_below, pays_both}

-- ---- one part

part_grows : (cur hoist : ℕ) (h : Head) (k : Forest) (st : Store) → Grown true 4 2 1 st (transform_try_block cur hoist h k st).1
unfolding transform_try_block
part_grows cur hoist h k st =
    both (both (both (statements_grow cur h.a k st) (scope_between h.a 0 _)) (try_grows h.a _ _ _ _ _)) (binding_moved _ hoist _)

part_more : (cur hoist : ℕ) (h : Head) (k : Forest) (st : Store) → h.tag ≡ Tag.Block
    → More (12 + wraps k) (90 + 9 * wraps k) (one h k) (single (transform_try_block cur hoist h k st).0)
unfolding transform_try_block size record_bytes
part_more cur hoist h k st e =
    let t = transform_statements cur h.a k st in
    let s = insert_scope_between h.a 0 t.1 in
    omega (
      arith,
      block_bytes_lem h e,
      block_bytes_lem (hd Tag.Block s.0 0 0) refl,
      statements_more cur h.a k st,
      try_more h.a t.0.statements t.0.using_ctx s.0 t.0.needs_await s.1,
    )

part_pays : (cur hoist : ℕ) (h : Head) (k : Forest) (st : Store) → h.tag ≡ Tag.Block → any_using k ≡ true
    → PaysFor (context_lines of_try_part k) (one h k) st (transform_try_block cur hoist h k st)
unfolding context_charge
part_pays cur hoist h k st e u =
    context_pays 12 4 90 of_try_part k (omega arith) u (part_grows cur hoist h k st) (part_more cur hoist h k st e)

-- a Catch, by its parts
handler_pays : (h : Head) (k : Forest) (inside : Change Forest) (st : Store)
    → Pays (part_lines k) k (inside st).0 st (inside st).1
    → PaysFor (part_lines k) (one h k) st (transform_handler h k inside st)
unfolding move_catch_names
handler_pays h k inside st i =
    let e = inside st in
    pays_below h
    (pays_then i
    (either (any_part_using k) (move_bindings (names_in k) (last_block_scope e.0)) (return tt) e.1
    (bindings_moved (names_in k) (last_block_scope e.0) e.1)
    (unchanged e.1)))

-- by the tests of tag and list
one_part : (a b u : Bool) (cur hoist : ℕ) (h : Head) (k : Forest) (inside : Change Forest) (st : Store)
    → (b ≡ true → h.tag ≡ Tag.Block) → any_using k ≡ u → Pays (part_lines k) k (inside st).0 st (inside st).1
    → PaysFor (if a then part_lines k else if b then context_lines of_try_part k else []) (one h k) st
    ((if a then transform_handler h k inside else if b && u then transform_try_block cur hoist h k else return (node h k)) st)
unfolding context_lines
one_part true b u cur hoist h k inside st t e i = handler_pays h k inside st i
one_part false true true cur hoist h k inside st t e i = part_pays cur hoist h k st (t refl) e
one_part false true false cur hoist h k inside st t e i = rw e (pays_nothing (one h k) st)
one_part false false u cur hoist h k inside st t e i = pays_nothing (one h k) st

-- ---- all of them

parts_pay : (f : Forest) (cur hoist : ℕ) (st : Store)
    → Pays (part_lines f) f (transform_try_parts cur hoist f st).0 st (transform_try_parts cur hoist f st).1
unfolding part_lines transform_try_parts ◌&◌
parts_pay none cur hoist st = pays_nothing none st
parts_pay (more h k r) cur hoist st =
    pays_both
    (one_part (eqb h.tag Tag.Catch) (eqb h.tag Tag.Block) (any_using k) cur hoist h k (transform_try_parts cur hoist k) st
    (eqb-true h.tag Tag.Block)
    refl
    (parts_pay k cur hoist st))
    (parts_pay r cur hoist _)

pub try_pays : (cur hoist : ℕ) (h : Head) (k : Forest) (st : Store)
    → PaysFor (part_lines k) (one h k) st (enter_try_statement cur hoist h k st)
unfolding enter_try_statement
try_pays cur hoist h k st = pays_below h (parts_pay k cur hoist st)
