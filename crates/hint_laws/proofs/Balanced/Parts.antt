-- The parts of a Try: what they become counts what they counted.
-- Assumes nothing.
use Rattle.std.specs.Prelude.{if◌then◌else◌, ◌≡◌, Bool, ◌&&◌, List, [], ◌∷◌, ℕ, ◌≤◌, length, eqb}
use Rattle.std.proofs.Math.Path.{refl, sym}
use Rattle.std.proofs.Common.{◌∙◌}
use Rattle.std.proofs.Math.Bool.{true, false}
use native.Mathlib.Omega.{arith}
use Rattle.meaning.specs.Numbers.Tag
use Rattle.meaning.specs.Tree.{Head, hd, Forest, none, more, one, Node, node, single, ◌&◌}
use Rattle.meaning.specs.Scoping.{Store, Change, return, insert_scope_between}
use Rattle.meaning.specs.HelperLoader.{helper_load}
use Rattle.meaning.specs.Statements.{is_using, any_using, any_await_using, make_context, transform_statements, create_try_stmt}
use Rattle.meaning.specs.Contexts.{transform_try_block, move_catch_names, transform_try_parts, enter_try_statement}
use Rattle.spec_laws.specs.Trees.{transform_handler}
use Rattle.spec_laws.specs.Tags.{Seen, other, here, there, seen, clash}
use Rattle.charge_laws.proofs.Growth.Parts.{try_pays}
use Rattle.hint_laws.specs.Hints.{usings_in, asks_for, calls_in}
use Rattle.hint_laws.specs.Balanced.Balance.{waits, done_in, gives}
use Rattle.hint_laws.proofs.Balanced.Sums.{worth, balance_more, beside}
use Rattle.hint_laws.proofs.Balanced.Lists.{worth_plain}
use Rattle.hint_laws.proofs.Balanced.Contexts.{Keeps, Counts, taken_try, list_counts, below_list}

-- parts only add symbols
parts_grow : (f : Forest) (cur hoist : ℕ) (st : Store) → length st.symbols ≤ length (transform_try_parts cur hoist f st).1.symbols
unfolding enter_try_statement
parts_grow f cur hoist st = omega (arith, (try_pays cur hoist (hd Tag.Try 0 0 0) f st).rows.symbols)

part_grows : (cur hoist : ℕ) (h : Head) (k : Forest) (st : Store)
    → length st.symbols
    ≤ length
    ((if eqb h.tag Tag.Catch then transform_handler h k (transform_try_parts cur hoist k)
    else if eqb h.tag Tag.Block && any_using k then transform_try_block cur hoist h k
    else return (node h k))
    st).1.symbols
unfolding transform_try_parts
part_grows cur hoist h k st = parts_grow (one h k) cur hoist st

module _ (w : List ℕ → List ℕ → ℕ → ℕ) (read : ℕ) where
  part_keeps : (cur hoist a b c : ℕ) (k : Forest) (st : Store) → read ≤ length st.symbols
      → Keeps w read (hd Tag.Block a b c) k (transform_try_block cur hoist (hd Tag.Block a b c) k st)
  unfolding transform_try_block transform_statements create_try_stmt worth waits gives asks_for usings_in done_in is_using
  part_keeps cur hoist a b d k st new =
      let c = make_context a st in
      let l = helper_load cur c.1 in
      let s = insert_scope_between a 0 l.1 in
      below_list w read 2 _ _ (taken_try w read a k a cur s.0 (any_await_using k) st c.1 s.1 new) refl s.0 0 0
      ∙ sym (list_counts w read a b d k)

  -- a Block, by the test of its list
  block_part : (u : Bool) (cur hoist a b c : ℕ) (k r r' : Forest) (st : Store) → read ≤ length st.symbols → Counts w read r r'
      → Counts w read (more (hd Tag.Block a b c) k r)
      (single ((if u then transform_try_block cur hoist (hd Tag.Block a b c) k else return (node (hd Tag.Block a b c) k)) st).0 & r')
  unfolding transform_try_block calls_in ◌&◌
  block_part true cur hoist a b c k r r' st new i =
      (beside w read (hd Tag.Block a b c) _ k _ r r' (part_keeps cur hoist a b c k st new) i.0, omega arith)
  block_part false cur hoist a b c k r r' st new i =
      (beside w read (hd Tag.Block a b c) (hd Tag.Block a b c) k k r r' refl i.0, omega arith)

  -- neither a Catch nor a Block
  other_part : (x y u : Bool) (h : Head) (k r r' : Forest) (catches blocks : Change Node) (st : Store) → x ≡ false → y ≡ false → Counts w read r r'
      → Counts w read (more h k r) (single ((if x then catches else if y && u then blocks else return (node h k)) st).0 & r')
  unfolding calls_in ◌&◌
  other_part true y u h k r r' catches blocks st e d i = absurd (clash e refl)
  other_part false true u h k r r' catches blocks st e d i = absurd (clash d refl)
  other_part false false u h k r r' catches blocks st e d i =
      (beside w read h h k k r r' refl i.0, omega arith)

  one_part : {t : ℕ} (cur hoist a b c : ℕ) (k r r' : Forest) (inside : Change Forest) (st : Store) → read ≤ length st.symbols
      → Seen (Tag.Catch ∷ Tag.Block ∷ []) t → Counts w read k (inside st).0 → Counts w read r r'
      → let h = hd t a b c in
      Counts w read (more h k r)
      (single
      ((if eqb t Tag.Catch then transform_handler h k inside
      else if eqb t Tag.Block && any_using k then transform_try_block cur hoist h k
      else return (node h k))
      st).0
      & r')
  unfolding move_catch_names calls_in ◌&◌
  one_part cur hoist a b c k r r' inside st new here i j =
      let h = hd Tag.Catch a b c in
      let k' = (inside st).0 in (
        omega (
          arith,
          balance_more w read h k r,
          balance_more w read h k' r',
          worth_plain w read Tag.Catch k refl refl,
          worth_plain w read Tag.Catch k' refl refl,
        ),
        omega arith,
      )
  one_part cur hoist a b c k r r' inside st new (there e₁₂ here) i j = block_part (any_using k) cur hoist a b c k r r' st new j
  one_part {t} cur hoist a b c k r r' inside st new (there e₁₂ (there e₂ other)) i j =
      let h = hd t a b c in
      other_part (eqb t Tag.Catch) (eqb t Tag.Block) (any_using k) h k r r' (transform_handler h k inside) (transform_try_block cur hoist h k) st e₁₂ e₂ j

  parts_count : (f : Forest) (cur hoist : ℕ) (st : Store) → read ≤ length st.symbols
      → Counts w read f (transform_try_parts cur hoist f st).0
  unfolding transform_try_parts
  parts_count none cur hoist st new = (refl, refl)
  parts_count (more h k r) cur hoist st new =
      one_part cur hoist h.a h.b h.c k r _ (transform_try_parts cur hoist k) st new (seen (Tag.Catch ∷ Tag.Block ∷ []) h.tag)
      (parts_count k cur hoist st new)
      (parts_count r cur hoist _ (omega (arith, part_grows cur hoist h k st)))

  pub try_keeps : (cur hoist a b c : ℕ) (k : Forest) (st : Store) → read ≤ length st.symbols
      → Keeps w read (hd Tag.Try a b c) k (enter_try_statement cur hoist (hd Tag.Try a b c) k st)
  unfolding enter_try_statement
  try_keeps cur hoist a b c k st new =
      let h = hd Tag.Try a b c in
      let k' = (transform_try_parts cur hoist k st).0 in
      omega (
        arith,
        parts_count k cur hoist st new,
        balance_more w read h k none,
        balance_more w read h k' none,
        worth_plain w read Tag.Try k refl refl,
        worth_plain w read Tag.Try k' refl refl,
      )
