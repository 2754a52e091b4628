-- WHAT A CHANGED WORD LEAVES AS IT IS: in its own list the number of records, and in every list around it what is counted there.
-- Assumes nothing.
use Rattle.std.specs.Prelude.{if◌then◌else◌, ◌≡◌, Bool, true, ◌||◌, ◌&&◌, List, ◌++◌}
use Rattle.std.proofs.Math.Path.{refl, ap}
use Rattle.std.proofs.Math.Bool.{or-true}
use Prim.Native.Nat.{ℕ, suc, ◌+◌, ◌≤◌}
use Rattle.std.proofs.Common.{arith}
use Rattle.std.proofs.Math.Dec.{eqb, ltb}
use Rattle.meaning.specs.Numbers.Tag
use Rattle.meaning.specs.Tree.{Forest, count, size}
use Rattle.meaning.specs.File.{Symbol}
use Rattle.meaning.specs.Statements.{is_using, any_using}
use Rattle.meaning.specs.Charges.{initializers, wraps, record_bytes, tree_lines, own_lines}
use Rattle.charge_laws.proofs.Counts.Enter.{Alike}
use Rattle.one_word_laws.specs.Changed.{WordChanged, here, behind, TreeChanged, in_list_lem, inside, beside}

module _ {d : Forest} where
  -- ---- the list itself

  pub word_count : {f f' : Forest} → WordChanged d f f' → count f ≡ count f'
  unfolding count
  word_count (here u) = refl
  word_count (behind w) = ap suc (word_count w)

  word_initializers : {f f' : Forest} → WordChanged d f f' → initializers f ≡ initializers f'
  unfolding initializers
  word_initializers (here u) = refl
  word_initializers (behind {h = h} {k = k} w) =
      ap (λ (n : ℕ). (if eqb h.tag Tag.Declarator && ltb h.b (count k) then 1 else 0) + n) (word_initializers w)

  word_size : {f f' : Forest} → WordChanged d f f' → (size f ≡ size f') × (record_bytes f ≡ record_bytes f') × (1 + size d ≤ size f)
  unfolding size record_bytes
  word_size (here u) = (refl, refl, omega arith)
  word_size (behind w) = omega (arith, word_size w)

  -- there is a using now, and its initializers are wrapped
  pub word_using : {f f' : Forest} → WordChanged d f f' → any_using f' ≡ true
  unfolding any_using is_using
  word_using (here u) = rw u
  word_using (behind {h = h} w) = rw (word_using w) (or-true (is_using h))

  pub word_wraps : {f f' : Forest} → WordChanged d f f' → wraps f' ≡ initializers d + wraps f
  unfolding wraps is_using
  word_wraps (here u) = rw u (omega arith)
  word_wraps (behind w) = omega (arith, word_wraps w)

  -- no line is charged below a Declaration for its kind
  pub word_lines : (ys : List Symbol) (up : ℕ) {f f' : Forest} → WordChanged d f f' → tree_lines ys up f ≡ tree_lines ys up f'
  unfolding tree_lines own_lines
  word_lines ys up (here u) = refl
  word_lines ys up (behind {h = h} {k = k} w) =
      ap (λ ls. own_lines ys up h k ++ (tree_lines ys h.tag k ++ ls)) (word_lines ys up w)

  -- ---- the lists around it

  pub alike : {f f' : Forest} → TreeChanged d f f' → Alike f f'
  unfolding count any_using wraps initializers
  alike (in_list_lem {h = h} {r = r} e w) = (
    refl,
    refl,
    ap (λ (n : ℕ). (if is_using h then n else 0) + wraps r) (word_initializers w),
    ap (λ (n : ℕ). (if eqb h.tag Tag.Declarator && ltb h.b n then 1 else 0) + initializers r) (word_count w),
  )
  alike (inside {h = h} {r = r} t) =
      let same = alike t in (
        refl,
        refl,
        ap (λ (n : ℕ). (if is_using h then n else 0) + wraps r) same.3,
        ap (λ (n : ℕ). (if eqb h.tag Tag.Declarator && ltb h.b n then 1 else 0) + initializers r) same.0,
      )
  alike (beside {h = h} {k = k} t) =
      let same = alike t in (
        ap suc same.0,
        ap (λ (b : Bool). is_using h || b) same.1,
        ap (λ (n : ℕ). (if is_using h then initializers k else 0) + n) same.2,
        ap (λ (n : ℕ). (if eqb h.tag Tag.Declarator && ltb h.b (count k) then 1 else 0) + n) same.3,
      )

  -- the tree keeps its records, and has the Declaration's and two more
  pub tree_size : {f f' : Forest} → TreeChanged d f f' → (size f ≡ size f') × (record_bytes f ≡ record_bytes f') × (2 + size d ≤ size f)
  unfolding size record_bytes
  tree_size (in_list_lem e w) = omega (arith, word_size w)
  tree_size (inside t) = omega (arith, tree_size t)
  tree_size (beside t) = omega (arith, tree_size t)
