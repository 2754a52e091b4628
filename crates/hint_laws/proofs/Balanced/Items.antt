-- What the items of a Program count, and what is made of them.
-- Assumes nothing.
use Rattle.std.specs.Prelude.{if◌then◌else◌, ◌≡◌, Bool, ℕ, ◌+◌}
use Rattle.std.proofs.Math.Path.{refl, ap}
use Rattle.std.proofs.Common.{sym}
use Rattle.std.proofs.Math.Bool.{true, false}
use mathlib.Core.List.{List, [], ◌∷◌}
use native.Mathlib.Omega.{arith}
use Rattle.std.proofs.Math.Dec.{eqb}
use Rattle.meaning.specs.Numbers.Tag
use Rattle.meaning.specs.Numbers.Kind
use Rattle.meaning.specs.Numbers.Form
use Rattle.meaning.specs.Tree.{one_of, Head, hd, Forest, none, more, one}
use Rattle.meaning.specs.Scoping.{Store, symbol_in, create_symbol}
use Rattle.meaning.specs.Shapes.{declaration, export_named, specifier}
use Rattle.meaning.specs.Hint.{hint_of, letter_of}
use Rattle.meaning.specs.Statements.{is_using, is_await_using}
use Rattle.meaning.specs.Program.{
  preserve_class_expression_name,
  transform_class_decl,
  Split,
  split,
  specifiers,
  as_expression,
  default_value,
}
use Rattle.spec_laws.specs.Tags.{Seen, other, here, there, seen, clash}
use Rattle.hint_laws.specs.Hints.{names_of, of_initializer, over_declarators, letter_for, takes_up, usings_in, called, calls_in}
use Rattle.hint_laws.proofs.Requested.Asked.{OldCall, called_none}
use Rattle.hint_laws.specs.Balanced.Balance.{done_in, balance_of}
use Rattle.hint_laws.proofs.Balanced.Sums.{own_letter, worth, balance_more, balance_none, plain_one}
use Rattle.hint_laws.proofs.Balanced.Lists.{worth_plain}
use Rattle.hint_laws.proofs.Balanced.Tries.{listed}
use Rattle.spec_laws.specs.Trees.{expression_tag}

module _ (w : List ℕ → List ℕ → ℕ → ℕ) (read : ℕ) where
  -- items with what they count for their Program
  abbrev pub itemed : Forest → ℕ
  itemed f = usings_in w letter_for f + (done_in w read f + balance_of w read f)

  -- what an item leaves
  abbrev pub Item : Head → Forest → Split → Type 0
  Item h k s = itemed s.kept + listed w read s.moved ≡ itemed (one h k)

  pub nothing : (itemed none ≡ 0) × (listed w read none ≡ 0)
  unfolding usings_in done_in
  nothing = omega (arith, balance_none w read)

  pub stays : (h : Head) (k : Forest) → Item h k (split (one h k) none)
  stays h k = omega (arith, nothing)

  -- no Declaration
  pub plain_item : (h : Head) (k : Forest) → eqb h.tag Tag.Declaration ≡ false → itemed (one h k) ≡ balance_of w read (one h k)
  unfolding usings_in done_in is_using
  plain_item h k e = rw e (omega arith)

  pub moves : (h : Head) (k : Forest) → eqb h.tag Tag.Declaration ≡ false → Item h k (split none (one h k))
  moves h k e = omega (arith, nothing, plain_item h k e, plain_one w read h k e)

  -- ---- what is made

  -- `var y = e`
  declared : (y : ℕ) (h : Head) (k : Forest)
      → listed w read (declaration Kind.Var y (one h k)) ≡ called w read (y ∷ []) h k + (calls_in w read (one h k) + balance_of w read (one h k))
  unfolding usings_in done_in calls_in over_declarators of_initializer names_of is_using
  declared y h k =
      let name = hd Tag.Name y 0 0 in
      let kids = more name none (one h k) in
      let declarator = hd Tag.Declarator 0 1 0 in
      omega (
        arith,
        balance_more w read (hd Tag.Declaration Kind.Var 0 0) (one declarator kids) none,
        balance_more w read declarator kids none,
        balance_more w read name none (one h k),
        balance_none w read,
        worth_plain w read Tag.Declaration (one declarator kids) refl refl,
        worth_plain w read Tag.Declarator kids refl refl,
        worth_plain w read Tag.Name none refl refl,
      )

  -- a record counts by its tag
  retagged : (h h' : Head) (k : Forest) → h'.tag ≡ h.tag
      → calls_in w read (one h' k) + balance_of w read (one h' k) ≡ calls_in w read (one h k) + balance_of w read (one h k)
  unfolding calls_in
  retagged h h' k e =
      omega (
        arith,
        balance_more w read h k none,
        balance_more w read h' k none,
        ap (λ (t : ℕ). worth w read t k) e,
        ap (λ (t : ℕ). if eqb t Tag.Declaration then over_declarators (called w read) k else 0) e,
      )

  -- an exported Declaration, as var
  pub var_counts : (a b c : ℕ) (k : Forest)
      → listed w read (one (hd Tag.Declaration Kind.Var 0 0) k) ≡ calls_in w read (one (hd Tag.Declaration a b c) k) + balance_of w read (one (hd Tag.Declaration a b c) k)
  unfolding usings_in done_in calls_in is_using
  var_counts a b c k = omega (arith, balance_more w read (hd Tag.Declaration Kind.Var 0 0) k none, balance_more w read (hd Tag.Declaration a b c) k none)

  -- a using that is recorded has the letter of its kind
  recorded : {a : ℕ} (b c : ℕ) (k : Forest) → Seen (3 ∷ 4 ∷ []) a → one_of (3 ∷ 4 ∷ []) a ≡ true
      → listed w read (one (hd Tag.Declaration Kind.Var a 0) k) ≡ itemed (one (hd Tag.Declaration a b c) k)
  unfolding usings_in done_in is_using is_await_using own_letter hint_of letter_of
  recorded b c k here e = omega (arith, balance_more w read (hd Tag.Declaration Kind.Var 3 0) k none, balance_more w read (hd Tag.Declaration Kind.Using b c) k none)
  recorded b c k (there e₃ here) e = omega (arith, balance_more w read (hd Tag.Declaration Kind.Var 4 0) k none, balance_more w read (hd Tag.Declaration Kind.AwaitUsing b c) k none)
  recorded b c k (there e₃ (there e₄ other)) e = absurd (clash (rw (e₃, e₄)) e)

  pub declaration_counts : (u : Bool) (a b c : ℕ) (k : Forest) → is_using (hd Tag.Declaration a b c) ≡ u → (u ≡ true → one_of (3 ∷ 4 ∷ []) a ≡ true)
      → listed w read (one (hd Tag.Declaration Kind.Var (if u then a else 0) 0) k) ≡ itemed (one (hd Tag.Declaration a b c) k)
  unfolding usings_in done_in calls_in
  declaration_counts true a b c k u e = recorded b c k (seen (3 ∷ 4 ∷ []) a) (e refl)
  declaration_counts false a b c k u e = rw u (omega (arith, var_counts a b c k))

  -- a Class is called nowhere
  pub class_counts : (h : Head) (k : Forest) (st : Store) → h.tag ≡ Tag.Class
      → listed w read (transform_class_decl h k st).0 ≡ calls_in w read (one h k) + balance_of w read (one h k)
  unfolding transform_class_decl called
  class_counts h k st e =
      let y = (preserve_class_expression_name h st).0 in
      omega (arith, declared h.c (hd Tag.Class Form.Expression h.b y) k, retagged h (hd Tag.Class Form.Expression h.b y) k (sym e))

  -- records that count nothing, for the one above them either
  abbrev pub Idle : Forest → Type 0
  Idle f = (calls_in w read f ≡ 0) × (balance_of w read f ≡ 0)

  pub none_idle : Idle none
  unfolding calls_in
  none_idle = (refl, balance_none w read)

  pub specifier_idle : (y name : ℕ) (f : Forest) → Idle f → Idle (specifier y name f)
  unfolding calls_in
  specifier_idle y name f i =
      (omega arith, omega (arith, balance_more w read (hd Tag.Specifier y name 0) none f, none_idle, worth_plain w read Tag.Specifier none refl refl))

  pub specifiers_idle : (st : Store) (names : List ℕ) → Idle (specifiers st names)
  unfolding specifiers
  specifiers_idle st [] = none_idle
  specifiers_idle st (y ∷ names) = specifier_idle y (symbol_in st y).name (specifiers st names) (specifiers_idle st names)

  -- an export of names
  pub named : (f : Forest) → Idle f → itemed (export_named f) ≡ 0
  named f i =
      let h = hd Tag.ModuleLine 2 0 0 in
      omega (arith, plain_item h f refl, balance_more w read h f none, balance_none w read, worth_plain w read Tag.ModuleLine f refl refl)

  -- ---- below 18 and 19

  -- an export of one record, before
  pub export_counts : (h : Head) (k : Forest) → eqb h.tag Tag.Declaration ≡ false → takes_up h.tag ≡ false → eqb h.tag Tag.ForOf ≡ false
      → itemed (one h k) ≡ calls_in w read k + balance_of w read k
  export_counts h k e p q =
      omega (arith, plain_item h k e, balance_more w read h k none, balance_none w read, worth_plain w read h.tag k p q)

  -- a value that was read is not called through a context that lowering made
  old_expression : (b : Bool) (h : Head) → OldCall read h → OldCall read (if b then hd Tag.Class Form.Expression h.b h.c else h)
  old_expression true h o = λ e. absurd (clash refl e)
  old_expression false h o = o

  pub value_counts : (h : Head) (k : Forest) (st : Store) → OldCall read h
      → listed w read (default_value h k st).0.moved ≡ calls_in w read (one h k) + balance_of w read (one h k)
  unfolding default_value as_expression
  value_counts h k st o =
      let y = (create_symbol 4 1 1 0 st).0 in
      let h' = as_expression h in
      omega (
        arith,
        declared y h' k,
        called_none w read (y ∷ []) h' k (old_expression (eqb h.tag Tag.Class) h o),
        retagged h h' k (expression_tag (eqb h.tag Tag.Class) h refl),
      )
