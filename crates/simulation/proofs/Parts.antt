-- What a visit changes of the records in the rows, and that the part of the tables that is counted anew covers it.
-- Assumes nothing.
use Rattle.std.specs.Prelude.{if◌then◌else◌, ◌≡◌, Bool, List, [], ◌∷◌, ◌++◌, eqb}
use Rattle.std.proofs.Math.Path.{refl, sym, ap}
use Rattle.std.proofs.Common.{◌∙◌, append_assoc, append-nil}
use Rattle.std.proofs.Math.Bool.{true, false}
use Prim.Native.Nat.{ℕ, suc, ◌+◌, ◌-◌, ◌≤◌}
use native.Mathlib.Omega.{arith}
use Rattle.std.proofs.Math.ListN.{length, length-append}
use Rattle.meaning.specs.Numbers.Tag
use Rattle.meaning.specs.Tree.{one_of, Head, Forest, none, more, one, Node, node, count, size, ◌&◌}
use Rattle.meaning.specs.Scoping.{Store}
use Rattle.meaning.specs.Walk.{act_of, enter_as, enter, leave, Crumb, crumb, Spot, at, leaving, over, is_over, current_scope, hoist_scope, visit}
use Rattle.spec_laws.specs.Tags.{clash, or_none}
use Rattle.tables.specs.Table.{cap_one, end_f}
use Rattle.mentions.specs.Sums.{heads_of}
use Rattle.representation.specs.Gap.Cells.{free, rows_of, length_free}
use Rattle.representation.proofs.Gap.Streams.{end_one}
use Rattle.representation.specs.Spots.Spots.{open_rows_of, after_rows_of, opens_at, visited_at, rest_at, Rest, walk_at, held}
use Rattle.representation.proofs.Spots.Lengths.{inner_length, rest_at_lem}
use Rattle.representation.proofs.Counts.Rows.{heads, heads_length, heads_&}
use Rattle.representation.proofs.Counts.Heads.{open_heads, after_heads, open_heads_lem, at_stands, leaving_stands, settle_stands}
use Rattle.walk.specs.Plain.{rewritten}
use Rattle.walk.specs.Counted.{part_f}
use Rattle.simulation.proofs.Entering.{tag_is}
use Rattle.simulation.specs.Visit.{not_leaving}
use Rattle.simulation.proofs.Visit.{is_leaving}

-- ---- a record that asks for no rewrite

plain_enter : (cur hoist : ℕ) (h : Head) (k : Forest) (st : Store) → one_of rewritten h.tag ≡ false → enter cur hoist h k st ≡ (node h k, st)
unfolding enter act_of enter_as
plain_enter cur hoist h k st e =
    let t = h.tag in
    let n₁ = or_none (eqb t Tag.Program) _ e in
    let n₂ = or_none (eqb t Tag.Block) _ n₁.1 in
    let n₄ = or_none (eqb t Tag.Label) _ n₂.1 in
    let n₇ = or_none (eqb t Tag.For) _ n₄.1 in
    let n₈ = or_none (eqb t Tag.ForOf) _ n₇.1 in
    let n₉ = or_none (eqb t Tag.Switch) _ n₈.1 in
    let n₁₁ = or_none (eqb t Tag.Try) _ n₉.1 in
    let n₁₄ = or_none (eqb t Tag.Body) _ n₁₁.1 in
    rw (n₁.0, n₂.0, n₄.0, n₇.0, n₈.0, n₉.0, n₁₁.0, n₁₄.0)

-- ---- how many

heads_size : (f : Forest) → length (heads_of f) ≡ size f
unfolding heads_of size
heads_size none = refl
heads_size (more h k r) = omega (arith, length-append (heads_of k) (heads_of r), heads_size k, heads_size r)

open_size : (path : List Crumb) (n left : ℕ) → length (open_rows_of path n left) ≡ length (open_heads path)
open_size path n left = sym (heads_length (open_rows_of path n left)) ∙ ap length (open_heads_lem path n left)

-- ---- the parts

-- The records visited are `kept` and `old`, and `kept` and `new` after the visit; those to visit begin with `old_rest`, and after it with `new_rest`.
-- The tables' part is `old` and `old_rest`.
pub record Parts (s : Spot) (g : ℕ) (z : Rest) : Type 0 where
  pub kept : List Head
  pub old : List Head
  pub new : List Head
  pub old_rest : List Head
  pub new_rest : List Head
  pub behind : List Head
  pub visited : heads (visited_at s) ≡ kept ++ old
  pub rest : heads (rest_at s) ≡ old_rest ++ behind
  pub visited_after : heads (visited_at (visit s)) ≡ kept ++ new
  pub rest_after : heads (rest_at (visit s)) ≡ new_rest ++ behind
  pub from : (part_f (held s g z).records (held s g z).walk).from.0 ≡ length kept
  pub end : (part_f (held s g z).records (held s g z).walk).end.0 ≡ (held s g z).walk.gap.0 + length old_rest

-- ---- before a record

module _ (done : Forest) (h : Head) (k r : Forest) (path : List Crumb) (st : Store) (g : ℕ) (z : Rest) where
  abbrev s : Spot
  s = at done h k r path st

  abbrev e : Node × Store
  e = enter (current_scope path) (hoist_scope path) h k st

  entered : heads (visited_at (visit s)) ≡ (open_heads path ++ heads_of done) ++ e.0.head ∷ []
  unfolding visit open_heads heads_of
  entered =
      let i = settle_stands (crumb e.0.head done r ∷ path) none e.0.children e.1 in
      i.visited ∙ simp (append_assoc, append-nil)

  to_come : heads (rest_at (visit s)) ≡ heads_of e.0.children ++ (heads_of r ++ after_heads path)
  unfolding visit after_heads
  to_come = (settle_stands (crumb e.0.head done r ∷ path) none e.0.children e.1).rest

  open_and_done : length (visited_at s) ≡ length (open_heads path ++ heads_of done)
  open_and_done = sym (heads_length (visited_at s)) ∙ ap length (at_stands done h k r path st).visited

  -- where the record ends
  ends : length (visited_at s) + g + length (rest_at s) ≤ 65535
      → end_f (held s g z).records (length (visited_at s) + g) 1 ≡ length (visited_at s) + g + suc (size k)
  unfolding held rest_at rows_of size
  ends fits =
      let a = visited_at s ++ free g in
      let n : length (visited_at s) + g ≡ length a = omega (arith, length-append (visited_at s) (free g), length_free g) in
      rw n (end_one z.records h k a (rows_of r ++ after_rows_of path) _ (simp append_assoc) (omega (arith, rest_at_lem st done h k r path)))

  -- where the part begins and ends
  part_ends : (b : Bool) (n : ℕ) → one_of rewritten h.tag ≡ b → length (visited_at s) + g + length (rest_at s) ≤ 65535
      → n ≡ (if b then suc (size k) else 1)
      → let p = part_f (held s g z).records (held s g z).walk in
      (p.from.0 ≡ length (open_heads path ++ heads_of done)) × (p.end.0 ≡ (held s g z).walk.gap.0 + n)
  unfolding part_f held walk_at size
  part_ends true n b fits d =
      rw (not_leaving done h k r path st g z, tag_is done h k r path st g z, b, d) (open_and_done, ends fits)
  part_ends false n b fits d =
      rw (not_leaving done h k r path st g z, tag_is done h k r path st g z, b, d)
      (open_and_done, cap_one _ (omega (arith, rest_at_lem st done h k r path)))

  at_parts : (b : Bool) → one_of rewritten h.tag ≡ b → length (visited_at s) + g + length (rest_at s) ≤ 65535 → Parts s g z
  unfolding heads_of
  at_parts true b fits =
      let stands = at_stands done h k r path st in
      let ends = part_ends true (suc (length (heads_of k))) b fits (omega (arith, heads_size k)) in
      record {
        kept = open_heads path ++ heads_of done;
        old = [];
        new = e.0.head ∷ [];
        old_rest = h ∷ heads_of k;
        new_rest = heads_of e.0.children;
        behind = heads_of r ++ after_heads path;
        visited = stands.visited ∙ sym (append-nil (open_heads path ++ heads_of done));
        rest = stands.rest ∙ simp append_assoc;
        visited_after = entered;
        rest_after = to_come;
        from = ends.0;
        end = ends.1;
      }
  at_parts false b fits =
      let stands = at_stands done h k r path st in
      let ends = part_ends false 1 b fits refl in
      let same : e.0.children ≡ k = ap (λ (n : Node × Store). n.0.children) (plain_enter (current_scope path) (hoist_scope path) h k st b) in
      record {
        kept = open_heads path ++ heads_of done;
        old = [];
        new = e.0.head ∷ [];
        old_rest = h ∷ [];
        new_rest = [];
        behind = heads_of k ++ (heads_of r ++ after_heads path);
        visited = stands.visited ∙ sym (append-nil (open_heads path ++ heads_of done));
        rest = stands.rest ∙ simp append_assoc;
        visited_after = entered;
        rest_after = to_come ∙ ap (λ (f : Forest). heads_of f ++ (heads_of r ++ after_heads path)) same;
        from = ends.0;
        end = ends.1;
      }

-- ---- at the end of a StaticBlock

module _ (kids : Forest) (h : Head) (before after : Forest) (path : List Crumb) (st : Store) (g : ℕ) (z : Rest) where
  abbrev s₁ : Spot
  s₁ = leaving kids h before after path st

  abbrev e₁ : Node × Store
  e₁ = leave h kids st

  block_from : (held s₁ g z).walk.inner.0 - 1 ≡ length (open_heads path ++ heads_of before)
  unfolding held walk_at opens_at
  block_from =
      omega (
        arith,
        inner_length h before after path (count kids) 0,
        open_size path (count before + suc (count after)) (count after),
        length-append (open_heads path) (heads_of before),
        heads_size before,
      )

  leaving_parts : Parts s₁ g z
  unfolding part_f visit open_heads after_heads heads_of
  leaving_parts =
      let stands = leaving_stands kids h before after path st in
      let next = settle_stands path (before & one e₁.0.head e₁.0.children) after e₁.1 in
      record {
        kept = open_heads path ++ heads_of before;
        old = h ∷ heads_of kids;
        new = e₁.0.head ∷ heads_of e₁.0.children;
        old_rest = [];
        new_rest = [];
        behind = heads_of after ++ after_heads path;
        visited = stands.visited ∙ simp append_assoc;
        rest = stands.rest;
        visited_after =
            next.visited ∙ ap (◌++◌ (open_heads path)) (heads_& before (one e₁.0.head e₁.0.children)) ∙ simp (append_assoc, append-nil);
        rest_after = next.rest;
        from = rw (is_leaving kids h before after path st g z) block_from;
        end = rw (is_leaving kids h before after path st g z) (omega arith);
      }

-- THE PARTS of every visit
pub parts : (s : Spot) (g : ℕ) (z : Rest) → is_over s ≡ false → length (visited_at s) + g + length (rest_at s) ≤ 65535 → Parts s g z
unfolding is_over
parts (at done h k r path st) g z o fits = at_parts done h k r path st g z (one_of rewritten h.tag) refl fits
parts (leaving kids h before after path st) g z o fits = leaving_parts kids h before after path st g z
parts (over tree st) g z o fits = absurd (clash o refl)
