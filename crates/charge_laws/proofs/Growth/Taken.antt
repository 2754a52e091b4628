-- THE VIEW OF TAKING UP: what becomes of each record of a list whose usings a context takes up. A law that goes by it is one recursion, in place of
-- one through `take_up`, another through the Declarators and a third through the initializer.
-- Assumes nothing.
use Rattle.std.specs.Prelude.{if◌then◌else◌, ◌≡◌, Bool, true, false, ◌&&◌, eqb, ltb}
use Rattle.std.proofs.Math.Path.{refl}
use Prim.Native.Nat.{ℕ, zero, suc, ◌+◌, ◌≤◌}
use Rattle.std.proofs.Common.{zero-add, arith, eqb-true}
use Rattle.std.proofs.Math.Dec.{leb-zero, leb-suc-zero, leb-suc-suc}
use Rattle.meaning.specs.Numbers.Tag
use Rattle.meaning.specs.Tree.{Head, hd, Forest, none, more, one, count, ◌&◌}
use Rattle.meaning.specs.Statements.{
  is_using,
  is_await_using,
  letter_if,
  wrap_initializer,
  wrap_initializers,
  as_taken_up,
  take_up,
}
use Rattle.meaning.specs.Contexts.{take_up_for, take_up_cases}
use Rattle.meaning.specs.Charges.{initializers, wraps}
use Rattle.charge_laws.proofs.Growth.Rows.{one_if}

-- the first list and what it becomes, so many initializers being wrapped
pub data Taken (ctx : ℕ) : ℕ → Forest → Forest → Type 0 where
  nothing : Taken ctx 0 none none
  passed : {n : ℕ} {h : Head} {k r r' : Forest} → Taken ctx n r r' → Taken ctx n (more h k r) (more h k r')
  as_const : {m n : ℕ} {h : Head} {k k' r r' : Forest} → is_using h ≡ true → Taken ctx m k k' → Taken ctx n r r'
      → Taken ctx (m + n) (more h k r) (more (as_taken_up h) k' r')
  in_declarator_lem : {m n : ℕ} {h : Head} {k k' r r' : Forest} → h.tag ≡ Tag.Declarator → Taken ctx m k k' → Taken ctx n r r'
      → Taken ctx (m + n) (more h k r) (more h k' r')
  called : {letter : ℕ} {h : Head} {k r : Forest} → letter ≤ 1 → Taken ctx 1 (more h k r) (more (hd Tag.Call letter ctx 0) (one h k) r)

module _ (ctx : ℕ) where
  pub unchanged : (f : Forest) → Taken ctx 0 f f
  unchanged none = nothing
  unchanged (more h k r) = passed (unchanged r)

  module _ (letter : ℕ) (l : letter ≤ 1) where
    initializer_view : (m : ℕ) (f : Forest) → Taken ctx (one_if (ltb m (count f))) f (wrap_initializer letter ctx m f)
    unfolding wrap_initializer count ◌&◌
    initializer_view m none = rw (leb-suc-zero m) nothing
    initializer_view zero (more h k r) = rw (leb-suc-suc 0 (count r), leb-zero (count r)) (called l)
    initializer_view (suc m) (more h k r) = rw (leb-suc-suc (suc m) (count r)) (passed (initializer_view m r))

    declarator_view : (b : Bool) (h : Head) (k : Forest) {n : ℕ} {r r' : Forest} → eqb h.tag Tag.Declarator ≡ b → Taken ctx n r r'
        → Taken ctx (one_if (b && ltb h.b (count k)) + n) (more h k r) (more h (if b then wrap_initializer letter ctx h.b k else k) r')
    declarator_view true h k e t = in_declarator_lem (eqb-true h.tag Tag.Declarator e) (initializer_view h.b k) t
    declarator_view false h k e t = rw zero-add (passed t)

    initializers_view : (f : Forest) → Taken ctx (initializers f) f (wrap_initializers letter ctx f)
    unfolding wrap_initializers initializers
    initializers_view none = nothing
    initializers_view (more h k r) = declarator_view (eqb h.tag Tag.Declarator) h k refl (initializers_view r)

  letter_most : (b : Bool) → letter_if b ≤ 1
  letter_most true = omega arith
  letter_most false = omega arith

  using_view : (b : Bool) (h : Head) (k : Forest) {n : ℕ} {r r' : Forest} → is_using h ≡ b → Taken ctx n r r'
      → Taken ctx ((if b then initializers k else 0) + n) (more h k r)
      (if b then more (as_taken_up h) (wrap_initializers (letter_if (is_await_using h)) ctx k) r' else more h k r')
  using_view true h k u t = as_const u (initializers_view (letter_if (is_await_using h)) (letter_most (is_await_using h)) k) t
  using_view false h k u t = rw zero-add (passed t)

  pub taken : (f : Forest) → Taken ctx (wraps f) f (take_up ctx f)
  unfolding take_up wraps
  taken none = nothing
  taken (more h k r) = using_view (is_using h) h k refl (taken r)

-- ---- a For with its Labels, and a Switch

-- lists that are taken up, or records around such lists
pub data TakenIn (ctx : ℕ) : Forest → Forest → Type 0 where
  in_list_lem : {n : ℕ} {f f' : Forest} → Taken ctx n f f' → TakenIn ctx f f'
  around : {h : Head} {k k' r r' : Forest} → TakenIn ctx k k' → TakenIn ctx r r' → TakenIn ctx (more h k r) (more h k' r')

module _ (ctx : ℕ) where
  either_view : (b : Bool) {k f g : Forest} → TakenIn ctx k f → TakenIn ctx k g → TakenIn ctx k (if b then f else g)
  either_view true p q = p
  either_view false p q = q

  pub taken_for : (f : Forest) → TakenIn ctx f (take_up_for ctx f)
  unfolding take_up_for
  taken_for none = in_list_lem nothing
  taken_for (more h k r) = around (either_view (eqb h.tag Tag.Label) (taken_for k) (in_list_lem (taken ctx k))) (in_list_lem (unchanged ctx r))

  pub taken_cases : (f : Forest) → TakenIn ctx f (take_up_cases ctx f)
  unfolding take_up_cases
  taken_cases none = in_list_lem nothing
  taken_cases (more h k r) = around (either_view (eqb h.tag Tag.Case) (in_list_lem (taken ctx k)) (in_list_lem (unchanged ctx k))) (taken_cases r)
