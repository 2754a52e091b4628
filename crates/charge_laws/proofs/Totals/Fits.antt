-- The final figures of an accepted file fit 16 bits: what is charged is less than the bytes of the records that it is charged for.
-- Assumes nothing.
use Rattle.std.specs.Prelude.{Ok, if◌then◌else◌, ◌≡◌, Bool, true, not, ◌||◌, ◌&&◌, List, [], ◌∷◌, ℕ, zero, suc, ◌+◌, ◌*◌, ◌≤◌, length, eqb, leb, ltb}
use Rattle.std.proofs.Math.Path.{refl}
use Rattle.std.proofs.Common.{◌∙◌, eqb-true, ne_eqb, leb-true}
use Rattle.std.proofs.Math.Bool.{false}
use native.Mathlib.Omega.{arith}
use Rattle.std.proofs.Math.Dec.{eqb-suc-zero}
use Rattle.meaning.specs.Numbers.Tag
use Rattle.meaning.specs.Numbers.Kind
use Rattle.meaning.specs.Tree.{one_of, Head, Forest, none, more, count}
use Rattle.meaning.specs.File.{settings_bytes, scope_bytes, symbol_bytes, Symbol, File, numbers_of, has_children, own_numbers, field_bytes}
use Rattle.meaning.specs.Grammar.{tags_of, is, allowed, field_of, declaration_right, right, children_of, place_of}
use Rattle.meaning.specs.Reading.{read_file}
use Rattle.meaning.specs.declared.Place.{Place}
use Rattle.meaning.specs.declared.Place.TheVariants.{ForOfLeft}
use Rattle.meaning.specs.declared.Field.{Field}
use Rattle.meaning.specs.Statements.{is_using}
use Rattle.meaning.specs.ForOf.{binds_identifier, bound_symbol}
use Rattle.meaning.specs.Program.{keeps_default}
use Rattle.meaning.specs.Charges.{helper, import_line, line_charge, total, record_bytes, helper_lines, import_lines, final_figures}
use Rattle.figures.specs.declared.tally.Tally.{Tally}
use Rattle.figures.specs.declared.tally.Role.{Role}
use Rattle.figures.specs.declared.tally.Role.TheVariants.{Plain, Part, Item, Default, Exported, ExportedDeclarator, ExportedName, Held, Body}
use Rattle.figures.specs.Tally.{
  role_index,
  is_role,
  role_of,
  body_of,
  inserts_in,
  one_if,
  takes_up,
  takes_up_cases,
  is_block,
  is_body,
  gets_context,
  is_export,
  own,
  tally_of,
  tally_figures,
}
use Rattle.spec_laws.specs.Tags.{Seen, other, here, there, seen, clash}
use Rattle.parsing.specs.Parsed.{same_tag, Parsed, parsed_none, parsed_more}
use Rattle.parsing.specs.Counts.{parsed_bytes}
use Rattle.parsing.specs.Files.{file_parsed}
use Rattle.charge_laws.proofs.Totals.Roles.{role_of_all}
use Rattle.charge_laws.proofs.Totals.Bound.{one_most, kept_most}
use Rattle.charge_laws.proofs.Totals.Total.{figures_are}
use Rattle.parsing.specs.Places.{either}
use Rattle.charge_laws.proofs.Totals.Accepted.{accepted_is}
use Rattle.spec_laws.specs.Bools.{or-false}

-- ---- what pays

-- the Declarators of a list
unfoldable pub declarators : Forest → ℕ
declarators none = 0
declarators (more h k r) = one_if (eqb h.tag Tag.Declarator) + declarators r

-- a Declaration has a Declarator, and 18 one child
abbrev pub Sound : Forest → Type 0
Sound none = Unit {0}
Sound (more h k r) = (one_if (eqb h.tag Tag.Declaration) ≤ declarators k) × (eqb h.tag Tag.DefaultExport ≡ true → count k ≡ 1) × Sound k × Sound r

-- what a record is charged that the one around it pays: at a ForOf's body, and below 18
owed : Role → ℕ
owed Plain = 0
owed Part = 0
owed Item = 0
owed Default = 4
owed Exported = 0
owed ExportedDeclarator = 0
owed ExportedName = 0
owed Held = 0
owed (Body y) = 17

debt : (ℕ → Role) → ℕ → Forest → ℕ
debt ups i none = 0
debt ups i (more h k r) = owed (ups i) + debt ups (suc i) r

-- the records of a tally's figures, with what its list may yet be charged: a context for each using, and initializers
abbrev spent : Tally → ℕ
spent t = (tally_figures t).records + 12 * t.usings + t.wraps + 12 * t.case_usings + t.case_wraps

-- ---- the debts of a record's children

no_debt : (f : Forest) (ups : ℕ → Role) (i : ℕ) → ((j : ℕ) → i ≤ j → owed (ups j) ≡ 0) → debt ups i f ≡ 0
unfolding debt
no_debt none ups i n = refl
no_debt (more h k r) ups i n = omega (arith, n i (omega arith), no_debt r ups (suc i) (λ j l. n j (omega arith)))

one_debt : (f : Forest) (ups : ℕ → Role) → owed (ups 0) ≤ 4 → count f ≡ 1 → debt ups 0 f ≤ 4
unfolding debt count
one_debt none ups l e = omega arith
one_debt (more h k none) ups l e = omega arith
one_debt (more h k (more h₁ k₁ r)) ups l e = omega arith

default_owed : (b : Bool) → owed (if b then Default else Plain) ≤ 4
unfolding owed
default_owed true = omega arith
default_owed false = omega arith

body_owed : (b c : Bool) (y : ℕ) → owed (if b && c then Body y else Plain) ≤ 12 * one_if b + 5
unfolding owed
body_owed true true y = omega arith
body_owed true false y = omega arith
body_owed false c y = omega arith

module _ (as_read : List Symbol) (u : Role) (held : Bool) where
  abbrev usings_below : ℕ → Forest → ℕ
  usings_below t k = (tally_of as_read (role_of u t held (body_of k)) 0 k).usings

  for_of_debt : (k : Forest) → debt (role_of u 8 held (body_of k)) 0 k ≤ 12 * usings_below 8 k + 5
  unfolding debt owed role_of body_of tally_of own
  for_of_debt none = omega arith
  for_of_debt (more h₁ k₁ none) = omega arith
  for_of_debt (more h₁ k₁ (more h₂ k₂ none)) = omega arith
  for_of_debt (more h₁ k₁ (more h₂ k₂ (more h₃ k₃ r))) =
      let b = is_using h₁ && binds_identifier k₁ in
      let body : Role = if b then Body (bound_symbol k₁) else Plain in
      omega (
        arith,
        body_owed (is_using h₁) (binds_identifier k₁) (bound_symbol k₁),
        no_debt r (role_of u 8 held body) 3 (λ j l. rw (ne_eqb j 2 (λ e. omega arith))),
      )

  no_owed : (t : ℕ) (body : Role) (i : ℕ) → eqb t Tag.ForOf ≡ false → eqb t Tag.DefaultExport ≡ false → owed (role_of u t held body i) ≡ 0
  unfolding owed
  no_owed t body i e₈ e₁₈ =
      role_of_all (λ (x : Role). owed x ≡ 0) u t held body i refl refl (λ _. refl) (λ _. refl) (λ d. absurd (clash e₈ d)) (λ _ _. refl)
      (λ _ _. refl) (λ d _. absurd (clash e₁₈ d)) (λ _ _. refl)

  debt_below : {t : ℕ} (k : Forest) → (eqb t Tag.DefaultExport ≡ true → count k ≡ 1) → Seen (Tag.ForOf ∷ Tag.DefaultExport ∷ []) t
      → debt (role_of u t held (body_of k)) 0 k ≤ 12 * (if eqb t Tag.ForOf then usings_below t k else 0) + 5 * one_if (eqb t Tag.ForOf) + 4 * one_if (eqb t Tag.DefaultExport)
  unfolding role_of
  debt_below k n here = omega (arith, for_of_debt k)
  debt_below k n (there e₈ here) = omega (arith, one_debt k (role_of u 18 held (body_of k)) (default_owed (is_role u Item)) (n refl))
  debt_below {t} k n (there e₈ (there e₁₈ other)) =
      omega (arith, no_debt k (role_of u t held (body_of k)) 0 (λ j l. no_owed t (body_of k) j e₈ e₁₈))

-- ---- what one record pays

one_first : (b c : Bool) → one_if (b && c) ≤ one_if b
one_first true c = one_most c
one_first false c = omega arith

one_last : (b c : Bool) → one_if (b && c) ≤ one_if c
one_last true c = omega arith
one_last false c = omega arith

using_tag : (h : Head) → one_if (is_using h) ≤ one_if (eqb h.tag Tag.Declaration)
unfolding is_using
using_tag h = one_first (eqb h.tag Tag.Declaration) (one_of (Kind.Using ∷ Kind.AwaitUsing ∷ []) h.a || one_of (3 ∷ 4 ∷ []) h.b)

held_tag : (held declarator initializer : Bool) → one_if (held && declarator && initializer) ≤ one_if declarator
held_tag true declarator initializer = one_first declarator initializer
held_tag false declarator initializer = omega arith

-- its role: the record around it pays, or a Class
body_cost : (inserts any : Bool)
    → 11 * one_if (not inserts || any) + 1 + 4 * one_if inserts + 5 * one_if (not inserts) ≤ 17
body_cost true any = omega (arith, one_most any)
body_cost false any = omega arith

role_paid : (u : Role) (inserts : Bool) (h : Head) (usings : ℕ)
    → 11 * one_if (gets_context u inserts usings) + one_if (is_body u) + 4 * one_if (is_body u && inserts) + 5 * one_if (is_body u && not inserts)
    + 4 * one_if (is_export u h)
    ≤ owed u + 4 * one_if (eqb h.tag Tag.Class)
unfolding owed role_index gets_context is_export
role_paid Plain inserts h usings = omega arith
role_paid Part inserts h usings = omega arith
role_paid Item inserts h usings = omega arith
role_paid Default inserts h usings = omega (arith, one_most (not (keeps_default h) || false))
role_paid Exported inserts h usings = omega arith
role_paid ExportedDeclarator inserts h usings = omega arith
role_paid ExportedName inserts h usings = omega arith
role_paid Held inserts h usings = omega arith
role_paid (Body y) inserts h usings = omega (arith, body_cost inserts (eqb usings 0))

-- its tag: its bytes pay, and those of a Declaration's Declarator
tag_paid : {t : ℕ} → Seen (Tag.Declaration ∷ Tag.Declarator ∷ Tag.ForOf ∷ Tag.Class ∷ Tag.DefaultExport ∷ Tag.Name ∷ []) t
    → 1 + 12 * one_if (eqb t Tag.Declaration) + 7 * one_if (eqb t Tag.Declarator) + 5 * one_if (eqb t Tag.ForOf) + 7 * one_if (eqb t Tag.Class) + 4 * one_if (eqb t Tag.DefaultExport) + one_if (eqb t Tag.Name)
    ≤ field_bytes t + 6 * one_if (eqb t Tag.Declaration)
unfolding field_bytes numbers_of
tag_paid here = omega arith
tag_paid (there e₅ here) = omega arith
tag_paid (there e₅ (there e₆ here)) = omega arith
tag_paid (there e₅ (there e₆ (there e₈ here))) = omega arith
tag_paid (there e₅ (there e₆ (there e₈ (there e₁₅ here)))) = omega arith
tag_paid (there e₅ (there e₆ (there e₈ (there e₁₅ (there e₁₈ here))))) = omega arith
tag_paid (there e₅ (there e₆ (there e₈ (there e₁₅ (there e₁₈ (there e₂₆ other)))))) = rw (e₅, e₆, e₈, e₁₅, e₁₈, e₂₆) (omega arith)

-- its list: the usings pay
any_most : (n : ℕ) → one_if (not (eqb n 0)) ≤ n
any_most zero = omega arith
any_most (suc n) = rw eqb-suc-zero (omega arith)

list_cost_lem : (any block : Bool) (n w : ℕ) → one_if any ≤ n
    → 11 * one_if (any && block) + 12 * one_if (any && not block) + (if any then w else 0) + one_if (any && false) ≤ 12 * n + w
list_cost_lem true true n w l = omega arith
list_cost_lem true false n w l = omega arith
list_cost_lem false block n w l = omega arith

program_cost_lem : (any : Bool) (n w : ℕ) → one_if any ≤ n
    → 11 * one_if (any && true) + 12 * one_if (any && false) + (if any then w else 0) + one_if (any && true) ≤ 12 * n + w
program_cost_lem true n w l = omega arith
program_cost_lem false n w l = omega arith

switch_cost : (any : Bool) (n w : ℕ) → one_if any ≤ n → 12 * one_if any + (if any then w else 0) ≤ 12 * n + w
switch_cost true n w l = omega arith
switch_cost false n w l = omega arith

module _ (u : Role) (kids : Tally) where
  abbrev list_cost : ℕ → ℕ
  list_cost t =
      let takes = takes_up t kids.usings in
      let cases = takes_up_cases t kids.case_usings in
      11 * one_if (takes && is_block u t) + 12 * one_if (takes && not (is_block u t)) + 12 * one_if cases + (if takes then kids.wraps else 0)
      + (if cases then kids.case_wraps else 0)
      + one_if (takes && eqb t Tag.Program)

  list_paid : {t : ℕ} → Seen (Tag.Program ∷ Tag.Block ∷ Tag.Declaration ∷ Tag.For ∷ Tag.ForOf ∷ Tag.Switch ∷ Tag.Case ∷ Tag.Body ∷ Tag.StaticBlock ∷ []) t
      → list_cost t + (if eqb t Tag.Declaration then kids.wraps else 0) + 12 * (if eqb t Tag.ForOf then kids.usings else 0)
      + 12 * (if eqb t Tag.Case then kids.usings else 0)
      + (if eqb t Tag.Case then kids.wraps else 0)
      ≤ 12 * kids.usings + kids.wraps + 12 * kids.case_usings + kids.case_wraps
  unfolding takes_up takes_up_cases is_block
  list_paid here = omega (arith, program_cost_lem (not (eqb kids.usings 0)) kids.usings kids.wraps (any_most kids.usings))
  list_paid (there e₁ here) =
      omega (arith, list_cost_lem (not (eqb kids.usings 0)) (not (is_role u Part)) kids.usings kids.wraps (any_most kids.usings))
  list_paid (there e₁ (there e₂ here)) = omega arith
  list_paid (there e₁ (there e₂ (there e₅ here))) =
      omega (arith, list_cost_lem (not (eqb kids.usings 0)) false kids.usings kids.wraps (any_most kids.usings))
  list_paid (there e₁ (there e₂ (there e₅ (there e₇ here)))) = omega arith
  list_paid (there e₁ (there e₂ (there e₅ (there e₇ (there e₈ here))))) =
      omega (
        arith,
        switch_cost (not (eqb kids.case_usings 0)) kids.case_usings kids.case_wraps (any_most kids.case_usings),
      )
  list_paid (there e₁ (there e₂ (there e₅ (there e₇ (there e₈ (there e₉ here)))))) = omega arith
  list_paid (there e₁ (there e₂ (there e₅ (there e₇ (there e₈ (there e₉ (there e₁₀ here))))))) =
      omega (arith, list_cost_lem (not (eqb kids.usings 0)) false kids.usings kids.wraps (any_most kids.usings))
  list_paid (there e₁ (there e₂ (there e₅ (there e₇ (there e₈ (there e₉ (there e₁₀ (there e₁₄ here)))))))) =
      omega (arith, list_cost_lem (not (eqb kids.usings 0)) false kids.usings kids.wraps (any_most kids.usings))
  list_paid (there e₁ (there e₂ (there e₅ (there e₇ (there e₈ (there e₉ (there e₁₀ (there e₁₄ (there e₁₆ other))))))))) =
      rw (e₁, e₂, e₅, e₇, e₈, e₉, e₁₀, e₁₄, e₁₆) (omega arith)

-- what a record is charged, and what it hands on, is paid by its bytes, by what its children handed on, and by the record around it
own_paid : (u : Role) (inserts : Bool) (h : Head) (n : ℕ) (kids : Tally) (d due : ℕ) → one_if (eqb h.tag Tag.Declaration) ≤ d
    → due ≤ 12 * (if eqb h.tag Tag.ForOf then kids.usings else 0) + 5 * one_if (eqb h.tag Tag.ForOf) + 4 * one_if (eqb h.tag Tag.DefaultExport)
    → spent (own u inserts h n kids) + 6 * one_if (eqb h.tag Tag.Declarator) + due ≤ spent kids + 6 * d + field_bytes h.tag + owed u
unfolding own tally_figures
own_paid u inserts h n kids d due l m =
    let t = h.tag in
    omega (
      arith,
      role_paid u inserts h kids.usings,
      tag_paid (seen (Tag.Declaration ∷ Tag.Declarator ∷ Tag.ForOf ∷ Tag.Class ∷ Tag.DefaultExport ∷ Tag.Name ∷ []) t),
      list_paid u kids (seen (Tag.Program ∷ Tag.Block ∷ Tag.Declaration ∷ Tag.For ∷ Tag.ForOf ∷ Tag.Switch ∷ Tag.Case ∷ Tag.Body ∷ Tag.StaticBlock ∷ []) t),
      using_tag h,
      held_tag (is_role u Held) (eqb t Tag.Declarator) (ltb h.b n),
      one_last (is_role u Item) (eqb t Tag.Class),
      one_last (is_role u ExportedName) (eqb t Tag.Name),
      kept_most t kids.usings kids.classes,
      kept_most t kids.usings kids.exports,
      kept_most t kids.usings kids.names,
    )

-- PAID. The charged records and those of the source are no more than the source's bytes.
all_paid : (as_read : List Symbol) (f : Forest) (ups : ℕ → Role) (i : ℕ) → Sound f
    → spent (tally_of as_read ups i f) + 6 * declarators f ≤ record_bytes f + debt ups i f
unfolding tally_of tally_figures record_bytes debt declarators
all_paid as_read none ups i s = omega arith
all_paid as_read (more h k r) ups i s =
    let u = ups i in
    let t = h.tag in
    let below = role_of u t (is_using h) (body_of k) in
    omega (
      arith,
      own_paid u (inserts_in as_read u h) h (count k) (tally_of as_read below 0 k) (declarators k) (debt below 0 k) s.0
          (debt_below as_read u (is_using h) k s.1 (seen (Tag.ForOf ∷ Tag.DefaultExport ∷ []) t)),
      all_paid as_read k below 0 s.2,
      all_paid as_read r ups (suc i) s.3,
    )

-- ---- places below a record

-- its place takes one tag
Only : ℕ → Place → Type 0
Only n p = (t : ℕ) → allowed p t ≡ true → eqb t n ≡ true

below_declaration : (p : Place) (x : Field) → x.tag ≡ Tag.Declaration → (k : ℕ) → Only 6 (place_of p x k)
unfolding Only place_of allowed tags_of
below_declaration p x e k =
    rw e (either (Only 6) (is p ForOfLeft) (λ t. or-false (eqb t Tag.Declarator)) (λ t. or-false (eqb t Tag.Declarator)))

-- ---- the numbers of children

some_children : (b c : Bool) (n : ℕ) → (b && (if c then eqb n 1 else leb 1 n)) ≡ true → 1 ≤ n
some_children true true n e = omega (arith, eqb-true n 1 e)
some_children true false n e = leb-true 1 n e
some_children false c n e = absurd (clash refl e)

declaration_children : (p : Place) (syms : ℕ) (x : Field) → x.tag ≡ Tag.Declaration → right p syms x ≡ true → 1 ≤ children_of x
unfolding right declaration_right children_of own_numbers has_children numbers_of
declaration_children p syms x e r = rw e (some_children (leb x.a 4) (is p ForOfLeft) x.b (rw e at r))

default_child : (p : Place) (syms : ℕ) (x : Field) → x.tag ≡ Tag.DefaultExport → right p syms x ≡ true → children_of x ≡ 1
unfolding right children_of own_numbers has_children numbers_of
default_child p syms x e r = rw e (eqb-true x.a 1 (rw e at r))

-- ---- what is read

a_declarator : (b : Bool) (p : Place) (x : Field) (syms d : ℕ) → eqb x.tag Tag.Declaration ≡ b → right p syms x ≡ true
    → (((k : ℕ) → Only 6 (place_of p x k)) → d ≡ children_of x) → one_if b ≤ d
a_declarator true p x syms d e r g =
    let t = eqb-true x.tag Tag.Declaration e in
    omega (arith, g (below_declaration p x t), declaration_children p syms x t r)
a_declarator false p x syms d e r g = omega arith

module _ {f : List ℕ} {syms : ℕ} where
  all_declarators : {place : ℕ → Place} {i cur at next : ℕ} {m o : List ℕ} {t : Forest} → ((j : ℕ) → Only 6 (place j))
      → Parsed f syms place i cur at m t next o → declarators t ≡ count t
  unfolding declarators count Only
  all_declarators only parsed_none = refl
  all_declarators {i = i} only (parsed_more y k r) =
      rw (same_tag y, only i _ y.field.taken) (omega (arith, all_declarators only r))

  sound : {place : ℕ → Place} {i cur at next : ℕ} {m o : List ℕ} {t : Forest} → Parsed f syms place i cur at m t next o → Sound t
  sound parsed_none = tt
  sound {place} {i} {at = at} (parsed_more {k = kids} y k r) =
      let p = place i in
      let x = field_of f at in (
        rw (same_tag y)
            (a_declarator (eqb x.tag Tag.Declaration) p x syms (declarators kids) refl y.numbers (λ only. all_declarators only k ∙ y.children)),
        λ e. y.children ∙ default_child p syms x (eqb-true x.tag Tag.DefaultExport (rw (same_tag y) at e)) y.numbers,
        sound k,
        sound r,
      )

-- ---- the file

pub record Room (g : File) : Type 0 where
  pub sound : Sound g.tree
  pub bytes : settings_bytes + scope_bytes * length g.scopes + symbol_bytes * length g.symbols + record_bytes g.tree ≤ 65535

pub accepted_room : (f : List ℕ) (g : File) → read_file f ≡ Ok g → Room g
accepted_room f g e =
    let q = file_parsed f g e in
    record {
      sound = sound q.tree;
      bytes =
          omega (
            arith,
            q.small,
            q.scope_rows.next_is,
            q.symbol_rows.next_is,
            q.scopes_many,
            q.symbols_many,
            parsed_bytes q.tree,
          );
    }

helper_most : (b : Bool)
    → ((total (if b then helper ∷ [] else [])).records ≡ 0) × ((total (if b then helper ∷ [] else [])).scopes ≡ 0)
    × ((total (if b then helper ∷ [] else [])).symbols ≤ 1)
unfolding total line_charge
helper_most true = omega arith
helper_most false = omega arith

-- the settings' bytes pay for the import line
import_most : (b : Bool)
    → ((total (if b then import_line ∷ [] else [])).records ≤ 2) × ((total (if b then import_line ∷ [] else [])).scopes ≡ 0)
    × ((total (if b then import_line ∷ [] else [])).symbols ≡ 0)
unfolding total line_charge
import_most true = omega arith
import_most false = omega arith

-- THE FIT. The final figures of an accepted file fit 16 bits.
pub accepted_fits : (b : List ℕ) (f : File) → read_file b ≡ Ok f
    → ((final_figures f).records ≤ 65535) × ((final_figures f).scopes ≤ 65535) × ((final_figures f).symbols ≤ 65535)
unfolding tally_figures helper_lines import_lines owed
accepted_fits b f e =
    let t : Tally = tally_of f.symbols (λ _. Plain) 0 f.tree in
    let a = accepted_is b f e in
    let r = accepted_room b f e in
    rw (figures_are f a.regular)
    (omega (
      arith,
      all_paid f.symbols f.tree (λ _. Plain) 0 r.sound,
      no_debt f.tree (λ _. Plain) 0 (λ j l. refl),
      r.bytes,
      helper_most (eqb f.mode 0 && not (eqb (tally_figures t).contexts 0)),
      import_most (eqb f.mode 0 && eqb f.is_module 1 && not (eqb (tally_figures t).contexts 0)),
    ))
