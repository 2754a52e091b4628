-- A ForOf with a using: what it asked for, its body asks for.
-- Assumes nothing.
use Rattle.std.specs.Prelude.{if◌then◌else◌, ◌≡◌, Bool, ◌&&◌, List, [], ◌∷◌, eqb, ltb, length}
use Rattle.std.proofs.Math.Path.{refl, ap}
use Rattle.std.proofs.Common.{◌∙◌}
use Rattle.std.proofs.Math.Bool.{true, false}
use Prim.Native.Nat.{ℕ, zero, suc, ◌+◌, ◌≤◌, ◌<◌}
use native.Mathlib.Omega.{arith}
use borrow.Author.Tests.{eqb-true, ltb-false}
use Rattle.meaning.specs.Numbers.Tag
use Rattle.meaning.specs.Numbers.Kind
use Rattle.meaning.specs.Tree.{one_of, Head, hd, Forest, none, more, one, count, ◌&◌}
use Rattle.meaning.specs.Scoping.{Store, symbol_in, create_symbol, insert_scope_below}
use Rattle.meaning.specs.Shapes.{declaration}
use Rattle.meaning.specs.Hint.{hint_of, letter_of}
use Rattle.meaning.specs.Statements.{is_using, is_await_using}
use Rattle.meaning.specs.ForOf.{binds_identifier, bound_symbol, rebind, insert_using, wrap_body, enter_for_of_statement}
use Rattle.meaning.specs.Charges.{initializers}
use Rattle.spec_laws.specs.Tags.{Seen, other, here, there, seen, clash, and_left}
use Rattle.charge_laws.proofs.Growth.Trees.{using_tag}
use Rattle.charge_laws.proofs.Growth.ForOf.{Named}
use Rattle.charge_laws.proofs.Counts.Enter.{Begins}
use Rattle.hint_laws.specs.Hints.{
  sum_over,
  names_of,
  of_initializer,
  over_declarators,
  shown,
  letter_for,
  usings_in,
  for_of_using,
  asks_for,
  called,
  calls_in,
}
use Rattle.hint_laws.specs.Balanced.Balance.{waits, done_in, gives, balance_of}
use Rattle.hint_laws.proofs.Balanced.Sums.{own_letter, worth, worth_list, balance_more, balance_none, plain_one}
use Rattle.hint_laws.proofs.Balanced.Alike.{held_by, of_three}
use Rattle.hint_laws.proofs.Balanced.Lists.{worth_plain}
use Rattle.hint_laws.proofs.Balanced.Tries.{listed}
use Rattle.hint_laws.proofs.Balanced.Contexts.{Keeps, Counts}

module _ (w : List ℕ → List ℕ → ℕ → ℕ) (read : ℕ) where
  -- what the using of a ForOf asks for, by its symbol and kind
  abbrev asks : ℕ → ℕ → ℕ
  asks y kind = w (y ∷ []) [] (letter_of (hint_of kind))

  held_asks : (kind : ℕ) (k : Forest) → binds_identifier k ≡ true → Named k → Begins k
      → held_by w read (letter_of (hint_of kind)) k ≡ asks (bound_symbol k) kind
  unfolding held_by binds_identifier bound_symbol names_of
  held_asks kind none b n s = absurd s
  held_asks kind (more d none r) b n s = absurd s
  held_asks kind (more d (more x k r₁) r) b n s = rw (b, n)

  -- a Read of a new symbol is taken for no initializer
  abbrev pub Unseen : Type 0
  Unseen = (y t letter : ℕ) → read < t → w (y ∷ []) (shown (Rattle.meaning.specs.Shapes.read t)) letter ≡ w (y ∷ []) [] letter

  -- the using that goes into the body
  made_using : {kind : ℕ} (y temp : ℕ) (g : Forest) → Unseen → read < temp
      → Seen (Kind.Using ∷ Kind.AwaitUsing ∷ []) kind → one_of (Kind.Using ∷ Kind.AwaitUsing ∷ []) kind ≡ true
      → listed w read (declaration kind y (Rattle.meaning.specs.Shapes.read temp) & g) ≡ asks y kind + listed w read g
  unfolding balance_of sum_over waits gives asks_for calls_in usings_in done_in over_declarators of_initializer names_of is_using is_await_using own_letter hint_of letter_of ◌&◌
  made_using y temp g seen new here e = omega (arith, seen y temp 0 new)
  made_using y temp g seen new (there e₃ here) e = omega (arith, seen y temp 1 new)
  made_using y temp g seen new (there e₃ (there e₄ other)) e = absurd (clash (rw (e₃, e₄)) e)

  -- ---- the left side

  -- Declarators without initializers call nothing
  past_names : (v : Head → Forest → ℕ) (m : ℕ) (k : Forest) → count k ≤ m → of_initializer v m k ≡ 0
  unfolding of_initializer count
  past_names v m none e = refl
  past_names v zero (more h k r) e = absurd (omega arith)
  past_names v (suc m) (more h k r) e = past_names v m r (omega arith)

  bare_declarator : (d i : Bool) (v : Head → Forest → ℕ) (m n : ℕ) (k : Forest) → ltb m (count k) ≡ i → (if d && i then 1 else 0) + n ≡ 0
      → ((if d then of_initializer v m k else 0) ≡ 0) × (n ≡ 0)
  bare_declarator true true v m n k l e = absurd (omega arith)
  bare_declarator true false v m n k l e = (past_names v m k (ltb-false m (count k) l), omega arith)
  bare_declarator false i v m n k l e = (refl, omega arith)

  bare_declarators : (v : List ℕ → Head → Forest → ℕ) (k : Forest) → initializers k ≡ 0 → over_declarators v k ≡ 0
  unfolding initializers over_declarators
  bare_declarators v none e = refl
  bare_declarators v (more h k r) e =
      let q =
      bare_declarator (eqb h.tag Tag.Declarator) (ltb h.b (count k)) (v (names_of h.b k)) h.b (initializers r) k refl e in
      omega (arith, q.0, bare_declarators v r q.1)

  rebind_bare : (y : ℕ) (k : Forest) → initializers (rebind y k) ≡ initializers k
  unfolding rebind initializers count
  rebind_bare y none = refl
  rebind_bare y (more d none r) = refl
  rebind_bare y (more d (more x k r₁) r) = refl

  -- a Declaration of such Declarators, and what is no Declaration, before others
  calls_behind : (h : Head) (k r : Forest) → over_declarators (called w read) k ≡ 0 → calls_in w read (more h k r) ≡ calls_in w read r
  unfolding calls_in
  calls_behind h k r e = rw e (none_first (eqb h.tag Tag.Declaration) (calls_in w read r))
    where
      none_first : (b : Bool) (n : ℕ) → (if b then 0 else 0) + n ≡ n
      none_first true n = omega arith
      none_first false n = omega arith

  calls_past : (h : Head) (k r : Forest) → eqb h.tag Tag.Declaration ≡ false → calls_in w read (more h k r) ≡ calls_in w read r
  unfolding calls_in
  calls_past h k r e = rw e (omega arith)

  rebind_counts : (y : ℕ) (k : Forest) → binds_identifier k ≡ true → Named k → Counts w read k (rebind y k)
  unfolding rebind binds_identifier calls_in
  rebind_counts y none b n = (refl, refl)
  rebind_counts y (more d none r) b n = (refl, refl)
  rebind_counts y (more d (more x k r₁) r) b n =
      let six = eqb-true d.tag Tag.Declarator (and_left (eqb d.tag Tag.Declarator) (eqb d.a 0) b) in
      let kids = more x k r₁ in
      let kids' = more (hd Tag.Name y 0 0) k r₁ in
      let same : calls_in w read kids' ≡ calls_in w read kids = rw n in (
        omega (
          arith,
          same,
          balance_more w read d kids r,
          balance_more w read d kids' r,
          ap (λ (t : ℕ). worth w read t kids) six,
          ap (λ (t : ℕ). worth w read t kids') six,
          worth_plain w read Tag.Declarator kids refl refl,
          worth_plain w read Tag.Declarator kids' refl refl,
          balance_more w read x k r₁,
          balance_more w read (hd Tag.Name y 0 0) k r₁,
          ap (λ (t : ℕ). worth w read t k) n,
        ),
        rw six,
      )

  -- ---- the ForOf

  module _ (a b c : ℕ) (h₁ : Head) (k₁ : Forest) (h₂ : Head) (k₂ : Forest) (h₃ : Head) (k₃ r : Forest) (st : Store)
      (u : is_using h₁ ≡ true) (i : binds_identifier k₁ ≡ true) (n : Named k₁) (s : Begins k₁) (kind : one_of (Kind.Using ∷ Kind.AwaitUsing ∷ []) h₁.a ≡ true)
      (body : eqb h₃.tag Tag.Declaration ≡ false) (bare : initializers k₁ ≡ 0) where
    abbrev h : Head
    h = hd Tag.ForOf a b c

    abbrev sides : Forest
    sides = more h₁ k₁ (more h₂ k₂ (more h₃ k₃ r))

    -- with a body that asks for the using, and a const on the left
    sides_keep : (y : ℕ) (h₃' : Head) (k₃' : Forest) → eqb h₃'.tag Tag.Declaration ≡ false
        → balance_of w read (one h₃' k₃') ≡ asks (bound_symbol k₁) h₁.a + balance_of w read (one h₃ k₃)
        → balance_of w read (one h (more (hd Tag.Declaration Kind.Const 0 0) (rebind y k₁) (more h₂ k₂ (more h₃' k₃' r)))) ≡ balance_of w read (one h sides)
    unfolding worth waits gives asks_for calls_in is_using
    sides_keep y h₃' k₃' body' e =
        let k₁' = rebind y k₁ in
        let left = hd Tag.Declaration Kind.Const 0 0 in
        let five = using_tag h₁ u in
        let was : for_of_using w sides ≡ asks (bound_symbol k₁) h₁.a =
        of_three w read h₁ k₁ h₂ k₂ h₃ k₃ r
        ∙ ap (λ (x : Bool). if x then held_by w read (letter_for h₁) k₁ else 0) u
        ∙ held_asks h₁.a k₁ i n s in
        let beside : calls_in w read (more h₂ k₂ (more h₃' k₃' r)) ≡ calls_in w read (more h₂ k₂ (more h₃ k₃ r)) =
        rw (calls_past h₃ k₃ r body, calls_past h₃' k₃' r body') in
        omega (
          arith,
          was,
          beside,
          calls_behind h₁ k₁ (more h₂ k₂ (more h₃ k₃ r)) (bare_declarators (called w read) k₁ bare),
          calls_behind left k₁' (more h₂ k₂ (more h₃' k₃' r)) (bare_declarators (called w read) k₁' (rebind_bare y k₁ ∙ bare)),
          of_three w read left k₁' h₂ k₂ h₃' k₃' r,
          rebind_counts y k₁ i n,
          balance_more w read h sides none,
          balance_more w read h (more left k₁' (more h₂ k₂ (more h₃' k₃' r))) none,
          balance_more w read h₁ k₁ (more h₂ k₂ (more h₃ k₃ r)),
          balance_more w read left k₁' (more h₂ k₂ (more h₃' k₃' r)),
          balance_more w read h₂ k₂ (more h₃ k₃ r),
          balance_more w read h₂ k₂ (more h₃' k₃' r),
          balance_more w read h₃ k₃ r,
          balance_more w read h₃' k₃' r,
          balance_more w read h₃ k₃ none,
          balance_more w read h₃' k₃' none,
          ap (λ (t : ℕ). worth w read t k₁) five,
        )

    -- its new symbol is behind the rows read
    new_symbol : read ≤ length st.symbols → read < (create_symbol (symbol_in st (bound_symbol k₁)).name 6 h.a 1 st).0
    unfolding create_symbol
    new_symbol new = omega arith

    pub insert_keeps : Unseen → read ≤ length st.symbols → h₃.tag ≡ Tag.Block → Keeps w read h sides (enter_for_of_statement false h sides st)
    unfolding enter_for_of_statement insert_using ◌&◌
    insert_keeps seen_as new e =
        let t = (create_symbol (symbol_in st (bound_symbol k₁)).name 6 h.a 1 st).0 in
        let list = declaration h₁.a (bound_symbol k₁) (Rattle.meaning.specs.Shapes.read t) & k₃ in
        sides_keep t h₃ list body
        (omega (
          arith,
          made_using (bound_symbol k₁) t k₃ seen_as (new_symbol new) (seen (Kind.Using ∷ Kind.AwaitUsing ∷ []) h₁.a) kind,
          balance_more w read h₃ k₃ none,
          balance_more w read h₃ list none,
          ap (λ (x : ℕ). worth w read x k₃) e,
          ap (λ (x : ℕ). worth w read x list) e,
          worth_list w read k₃,
          worth_list w read list,
        ))

    pub wrap_keeps : Unseen → read ≤ length st.symbols → Keeps w read h sides (enter_for_of_statement true h sides st)
    unfolding enter_for_of_statement wrap_body ◌&◌
    wrap_keeps seen_as new =
        let m = create_symbol (symbol_in st (bound_symbol k₁)).name 6 h.a 1 st in
        let t = m.0 in
        let scope = (insert_scope_below h.a (one h₃ k₃) m.1).0 in
        let list = declaration h₁.a (bound_symbol k₁) (Rattle.meaning.specs.Shapes.read t) & one h₃ k₃ in
        sides_keep t (hd Tag.Block scope 0 0) list refl
        (omega (
          arith,
          made_using (bound_symbol k₁) t (one h₃ k₃) seen_as (new_symbol new) (seen (Kind.Using ∷ Kind.AwaitUsing ∷ []) h₁.a) kind,
          plain_one w read h₃ k₃ body,
          balance_more w read (hd Tag.Block scope 0 0) list none,
          balance_none w read,
          worth_list w read list,
        ))
