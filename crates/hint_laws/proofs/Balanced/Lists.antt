-- What taking up the usings of a list does to its balance: what they asked for, the list then gives.
-- Assumes nothing.
use Rattle.std.specs.Prelude.{if◌then◌else◌, ◌≡◌, Bool, List, [], ◌∷◌}
use Rattle.std.proofs.Math.Path.{refl, ap, ap₂}
use Rattle.std.proofs.Common.{◌∙◌}
use Rattle.std.proofs.Math.Bool.{true, false}
use Prim.Native.Nat.{ℕ, zero, suc, ◌+◌, ◌<◌}
use native.Mathlib.Omega.{arith}
use Rattle.std.proofs.Math.Dec.{eqb}
use borrow.Author.Tests.{lt-ltb}
use Rattle.meaning.specs.Numbers.Tag
use Rattle.meaning.specs.Numbers.Kind
use Rattle.meaning.specs.Tree.{Head, hd, Forest, none, more, one, ◌&◌}
use Rattle.meaning.specs.Statements.{is_using, is_await_using, letter_if, wrap_initializer, wrap_initializers, as_taken_up, take_up}
use Rattle.spec_laws.specs.Tags.{Seen, other, here, there, seen}
use Rattle.charge_laws.proofs.Growth.Trees.{using_tag}
use Rattle.hint_laws.specs.Hints.{
  names_of,
  of_initializer,
  over_declarators,
  wanted,
  takes_up,
  usings_in,
  asks_for,
  called,
  calls_in,
}
use Rattle.hint_laws.specs.Balanced.Balance.{waits, done_in, gives, balance_of}
use Rattle.hint_laws.proofs.Balanced.Sums.{own_letter, worth, in_list, balance_more, balance_none}

names_wrapped : (f : Forest) (letter ctx m : ℕ) → names_of m (wrap_initializer letter ctx m f) ≡ names_of m f
unfolding names_of wrap_initializer
names_wrapped f letter ctx zero = refl
names_wrapped none letter ctx (suc m) = refl
names_wrapped (more h k r) letter ctx (suc m) =
    ap (λ (names : List ℕ). (if eqb h.tag Tag.Name then h.a else 0) ∷ names) (names_wrapped r letter ctx m)

-- values by tests that fail
by_tests : (s o : Bool) (a b c d : ℕ) → s ≡ false → o ≡ false → (if s then a else if o then b else 0) + (if s then c else d) ≡ d
by_tests s o a b c d p q = rw (p, q) (omega arith)

module _ (w : List ℕ → List ℕ → ℕ → ℕ) (read : ℕ) where
  -- the balance
  abbrev sum : Forest → ℕ
  sum f = balance_of w read f

  -- ---- a record that is no list and no ForOf

  pub worth_plain : (t : ℕ) (k : Forest) → takes_up t ≡ false → eqb t Tag.ForOf ≡ false → worth w read t k ≡ calls_in w read k
  unfolding worth waits gives asks_for
  worth_plain t k p q = by_tests (takes_up t) (eqb t Tag.ForOf) _ _ _ (calls_in w read k) p q

  -- ---- initializers

  initializer_kept : (f : Forest) (letter ctx m : ℕ)
      → calls_in w read (wrap_initializer letter ctx m f) + sum (wrap_initializer letter ctx m f) ≡ calls_in w read f + sum f
  unfolding wrap_initializer calls_in ◌&◌
  initializer_kept none letter ctx m = refl
  initializer_kept (more h k r) letter ctx zero =
      omega (
        arith,
        balance_more w read h k r,
        balance_more w read (hd Tag.Call letter ctx 0) (one h k) r,
        balance_more w read h k none,
        balance_none w read,
        worth_plain 27 (one h k) refl refl,
      )
  initializer_kept (more h k r) letter ctx (suc m) =
      omega (
        arith,
        balance_more w read h k r,
        balance_more w read h k (wrap_initializer letter ctx m r),
        initializer_kept r letter ctx m,
      )

  -- one record of a Declaration, the rest being done
  declarator_kept : {t : ℕ} (a b c : ℕ) (k r r' : Forest) (letter ctx : ℕ) → Seen (Tag.Declarator ∷ []) t
      → (sum r' ≡ sum r) × (calls_in w read r' ≡ calls_in w read r)
      → let h = hd t a b c in
      let f' = more h (if eqb t Tag.Declarator then wrap_initializer letter ctx b k else k) r' in
      (sum f' ≡ sum (more h k r)) × (calls_in w read f' ≡ calls_in w read (more h k r))
  unfolding calls_in
  declarator_kept a b c k r r' letter ctx here i =
      let h = hd Tag.Declarator a b c in
      let k' = wrap_initializer letter ctx b k in (
        omega (
          arith,
          balance_more w read h k r,
          balance_more w read h k' r',
          worth_plain 6 k refl refl,
          worth_plain 6 k' refl refl,
          initializer_kept k letter ctx b,
        ),
        omega arith,
      )
  declarator_kept {t} a b c k r r' letter ctx (there e other) i =
      let h = hd t a b c in
      rw e (omega (arith, balance_more w read h k r, balance_more w read h k r'), omega arith)

  initializers_kept : (f : Forest) (letter ctx : ℕ)
      → (sum (wrap_initializers letter ctx f) ≡ sum f) × (calls_in w read (wrap_initializers letter ctx f) ≡ calls_in w read f)
  unfolding wrap_initializers
  initializers_kept none letter ctx = (refl, refl)
  initializers_kept (more h k r) letter ctx =
      declarator_kept h.a h.b h.c k r (wrap_initializers letter ctx r) letter ctx (seen (Tag.Declarator ∷ []) h.tag) (initializers_kept r letter ctx)

  -- ---- below a list

  using_kept : (u : Bool) (h : Head) (k r r' : Forest) (letter ctx : ℕ) → is_using h ≡ u → sum r' ≡ sum r
      → sum (if u then more (as_taken_up h) (wrap_initializers letter ctx k) r' else more h k r') ≡ sum (more h k r)
  unfolding as_taken_up
  using_kept true h k r r' letter ctx u e =
      let k' = wrap_initializers letter ctx k in
      let i = initializers_kept k letter ctx in
      omega (
        arith,
        balance_more w read h k r,
        balance_more w read (as_taken_up h) k' r',
        ap (λ (t : ℕ). worth w read t k) (using_tag h u),
        worth_plain 5 k refl refl,
        worth_plain 5 k' refl refl,
      )
  using_kept false h k r r' letter ctx u e = omega (arith, balance_more w read h k r, balance_more w read h k r')

  pub taken_kept : (f : Forest) (ctx : ℕ) → sum (take_up ctx f) ≡ sum f
  unfolding take_up
  taken_kept none ctx = refl
  taken_kept (more h k r) ctx =
      using_kept (is_using h) h k r (take_up ctx r) (letter_if (is_await_using h)) ctx refl (taken_kept r ctx)

  -- ---- in the list

  module _ (ctx : ℕ) (new : read < ctx) where
    -- a wrapped initializer is called through the context
    initializer_called : (names : List ℕ) (letter m : ℕ) (f : Forest)
        → of_initializer (called w read names) m (wrap_initializer letter ctx m f) ≡ of_initializer (wanted w letter names) m f
    unfolding of_initializer wrap_initializer called ◌&◌
    initializer_called names letter zero none = refl
    initializer_called names letter (suc m) none = refl
    initializer_called names letter zero (more h k r) = let e = lt-ltb read ctx new in rw e
    initializer_called names letter (suc m) (more h k r) = initializer_called names letter m r

    declarator_called : (b : Bool) (letter m : ℕ) (k : Forest)
        → let k' = (if b then wrap_initializer letter ctx m k else k) in
        (if b then of_initializer (called w read (names_of m k')) m k' else 0)
        ≡ (if b then of_initializer (wanted w letter (names_of m k)) m k else 0)
    declarator_called true letter m k =
        ap (λ (names : List ℕ). of_initializer (called w read names) m (wrap_initializer letter ctx m k)) (names_wrapped k letter ctx m)
        ∙ initializer_called (names_of m k) letter m k
    declarator_called false letter m k = refl

    initializers_called : (letter : ℕ) (f : Forest)
        → over_declarators (called w read) (wrap_initializers letter ctx f) ≡ over_declarators (wanted w letter) f
    unfolding over_declarators wrap_initializers
    initializers_called letter none = refl
    initializers_called letter (more h k r) = ap₂ ◌+◌ (declarator_called (eqb h.tag Tag.Declarator) letter h.b k) (initializers_called letter r)

    const_done : (b : Bool) (letter : ℕ) (k r : Forest)
        → done_in w read (more (hd Tag.Declaration (if b then Kind.Const else Kind.Var) 0 0) (wrap_initializers letter ctx k) r)
        ≡ over_declarators (wanted w letter) k + done_in w read r
    unfolding done_in is_using
    const_done true letter k r = ap (λ (n : ℕ). n + done_in w read r) (initializers_called letter k)
    const_done false letter k r = ap (λ (n : ℕ). n + done_in w read r) (initializers_called letter k)

    using_done : (u : Bool) (h : Head) (k r r' : Forest) → is_using h ≡ u → done_in w read r' ≡ in_list w read r
        → done_in w read (if u then more (as_taken_up h) (wrap_initializers (letter_if (is_await_using h)) ctx k) r' else more h k r')
        ≡ in_list w read (more h k r)
    unfolding done_in usings_in as_taken_up own_letter
    using_done true h k r r' u e =
        let five = ap (λ (t : ℕ). eqb t Tag.Declaration) (using_tag h u) in
        rw (u, five) (omega (arith, const_done (eqb h.b 0) (letter_if (is_await_using h)) k r'))
    using_done false h k r r' u e = rw u (omega arith)

    -- what the usings of a list asked for, it gives once they are taken up
    pub taken_done : (f : Forest) → done_in w read (take_up ctx f) ≡ in_list w read f
    unfolding take_up done_in usings_in
    taken_done none = refl
    taken_done (more h k r) = using_done (is_using h) h k r (take_up ctx r) refl (taken_done r)
