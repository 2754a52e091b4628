-- What the records are charged, Program's items left out: contexts and ForOfs.
-- Assumes nothing.
use Rattle.std.specs.Prelude.{if◌then◌else◌, ◌≡◌, Bool, ◌||◌, ◌&&◌, List, [], ◌∷◌, ◌++◌, ℕ, suc, ◌+◌, ◌≤◌, eqb}
use Rattle.std.proofs.Math.Path.{refl}
use Rattle.std.proofs.Math.Bool.{true, false, not}
use Rattle.std.proofs.Common.{append-nil, eqb-true, ne_eqb}
use native.Mathlib.Omega.{arith}
use Rattle.meaning.specs.Numbers.Tag
use Rattle.meaning.specs.Tree.{one_of, Head, hd, Forest, none, more, count, size}
use Rattle.meaning.specs.File.{Symbol, field_bytes}
use Rattle.meaning.specs.Statements.{is_using, any_using}
use Rattle.meaning.specs.Contexts.{any_case_using}
use Rattle.meaning.specs.ForOf.{binds_identifier, bound_symbol, binds_name, as_is, insert, wrap, for_of_act}
use Rattle.meaning.specs.Charges.{
  ContextKind,
  of_block,
  of_body,
  of_static_block,
  of_try_part,
  of_for,
  of_switch,
  Line,
  context,
  wrapped,
  for_of,
  for_of_block,
  program_block,
  Figures,
  figures,
  ◌⊕◌,
  context_charge,
  line_charge,
  total,
  wraps,
  case_wraps,
  context_lines,
  item_lines,
  body_lines,
  for_of_lines,
  own_lines,
  tree_lines,
  record_bytes,
}
use Rattle.figures.specs.declared.tally.Tally.{Tally}
use Rattle.figures.specs.declared.tally.Role.{Role}
use Rattle.figures.specs.declared.tally.Role.TheVariants.{Plain, Part, Body}
use Rattle.figures.specs.Tally.{
  role_index,
  is_role,
  role_of,
  body_of,
  inserts_in,
  one_if,
  takes_up,
  takes_up_cases,
  is_block,
  is_body,
  gets_context,
  own,
  tally_of,
}
use Rattle.spec_laws.specs.Tags.{Seen, other, here, there, seen}
use Rattle.charge_laws.proofs.Totals.Roles.{Regular, no_body, part_below}
use Rattle.charge_laws.proofs.Totals.Lists.{Lists, lists}
use Rattle.spec_laws.specs.Figures.{Same, total_++}
use Rattle.charge_laws.proofs.Totals.Sums.{total_three, context_figures, for_of_figures, statement_figures, program_own, program_lines}

-- ---- a ForOf's lines, at its body

-- `body`: it is one; `inserts`: the using goes into it; `any`: its list has a using
body_own : Bool → Bool → Bool → List Line
body_own false inserts any = []
body_own true true any = for_of ∷ wrapped 1 ∷ (if any then [] else (context of_block ∷ []))
body_own true false any = for_of_block ∷ wrapped 1 ∷ context of_block ∷ []

body_own_figures : (body inserts any : Bool)
    → Same
    (context_figures (one_if (body && (not inserts || not any))) 0 (one_if body) 0
    ⊕ for_of_figures (one_if (body && inserts)) (one_if (body && not inserts)))
    (total (body_own body inserts any))
unfolding body_own total line_charge context_charge
body_own_figures false inserts any = omega arith
body_own_figures true true true = omega arith
body_own_figures true true false = omega arith
body_own_figures true false any = omega arith

module _ (as_read : List Symbol) where
  -- of the records beside each other, by their roles
  pub bodies_in : (ℕ → Role) → ℕ → Forest → List Line
  bodies_in ups i none = []
  bodies_in ups i (more h k r) =
      body_own (is_body (ups i)) (inserts_in as_read (ups i) h) (any_using k) ++ bodies_in ups (suc i) r

  pub no_bodies : (f : Forest) (ups : ℕ → Role) (i : ℕ) → ((j : ℕ) → i ≤ j → is_body (ups j) ≡ false) → bodies_in ups i f ≡ []
  unfolding bodies_in body_own
  no_bodies none ups i n = refl
  no_bodies (more h k r) ups i n = rw (n i (omega arith)) (no_bodies r ups (suc i) (λ j l. n j (omega arith)))

  -- the body is the third child
  body_lines_lem : (b : Bool) (any : Bool) (k : Forest) → body_lines k ≡ (if any then [] else (context of_block ∷ []))
      → body_own true b any ≡ for_of_lines (if b then insert else wrap) k
  unfolding body_own for_of_lines
  body_lines_lem true any k e = rw e
  body_lines_lem false any k e = refl

  third_lines : (b : Bool) (y : ℕ) (h : Head) (any : Bool) (k : Forest) → body_lines k ≡ (if any then [] else (context of_block ∷ []))
      → body_own (is_body (if b then Body y else Plain)) (inserts_in as_read (if b then Body y else Plain) h) any
      ≡ for_of_lines (if b then (if eqb h.tag Tag.Block && not (binds_name as_read h.a y) then insert else wrap) else as_is) k
  unfolding role_index inserts_in body_own for_of_lines
  third_lines true y h any k e = body_lines_lem (eqb h.tag Tag.Block && not (binds_name as_read h.a y)) any k e
  third_lines false y h any k e = refl

  for_of_lines_lem : (u : Role) (held : Bool) (k : Forest) → bodies_in (role_of u 8 held (body_of k)) 0 k ≡ for_of_lines (for_of_act as_read k) k
  unfolding bodies_in body_own role_of role_index body_of for_of_act for_of_lines body_lines
  for_of_lines_lem u held none = refl
  for_of_lines_lem u held (more h₁ k₁ none) = refl
  for_of_lines_lem u held (more h₁ k₁ (more h₂ k₂ none)) = refl
  for_of_lines_lem u held (more h₁ k₁ (more h₂ k₂ (more h₃ k₃ r))) =
      let b = is_using h₁ && binds_identifier k₁ in
      let body : Role = if b then Body (bound_symbol k₁) else Plain in
      rw (no_bodies r (role_of u 8 held body) 3 (λ j l. rw (ne_eqb j 2 (λ e. omega arith))), append-nil)
      (third_lines b (bound_symbol k₁) h₃ (any_using k₃) (more h₁ k₁ (more h₂ k₂ (more h₃ k₃ r))) refl)

  -- below any record
  below_lines : (b : Bool) (u : Role) (t : ℕ) (held : Bool) (k : Forest) → eqb t Tag.ForOf ≡ b
      → bodies_in (role_of u t held (body_of k)) 0 k ≡ (if b then for_of_lines (for_of_act as_read k) k else [])
  below_lines true u t held k e = rw (eqb-true t 8 e) (for_of_lines_lem u held k)
  below_lines false u t held k e = no_bodies k (role_of u t held (body_of k)) 0 (λ j l. no_body u t held (body_of k) j e)

-- ---- a record's own lines

-- what `own` adds for a list with a using or Cases with one, and for a body
abbrev list_figures : Role → ℕ → Tally → Figures
list_figures u t kids =
    let takes = takes_up t kids.usings in
    let cases = takes_up_cases t kids.case_usings in
    context_figures (one_if (takes && is_block u t)) (one_if (takes && not (is_block u t)) + one_if cases)
    ((if takes then kids.wraps else 0) + (if cases then kids.case_wraps else 0)) (one_if (takes && eqb t Tag.Program))

abbrev body_figures : Role → Bool → Tally → Figures
body_figures u inserts kids =
    context_figures (one_if (gets_context u inserts kids.usings)) 0 (one_if (is_body u)) 0
    ⊕ for_of_figures (one_if (is_body u && inserts)) (one_if (is_body u && not inserts))

-- `any`: a list has a using; `block`: its context is a Block statement's
context_lines_lem : (any block : Bool) (kind : ContextKind) (w : ℕ) → Same (context_charge kind) (context_figures (one_if block) (one_if (not block)) 0 0)
    → Same
    (context_figures (one_if (not (not any) && block)) (one_if (not (not any) && not block) + 0) ((if not (not any) then w else 0) + 0)
    (one_if (not (not any) && false))
    ⊕ (total [] ⊕ total []))
    (total (if any then context kind ∷ wrapped w ∷ [] else []))
unfolding total line_charge
context_lines_lem true block kind w e = omega arith
context_lines_lem false block kind w e = omega arith

block_charge : (part : Bool)
    → Same (context_charge (if part then of_try_part else of_block)) (context_figures (one_if (not part)) (one_if (not (not part))) 0 0)
unfolding context_charge
block_charge true = omega arith
block_charge false = omega arith

program_lines_lem : (any : Bool) (w : ℕ) (items : List Line)
    → Same
    (context_figures (one_if (not (not any) && true)) (one_if (not (not any) && false) + 0) ((if not (not any) then w else 0) + 0)
    (one_if (not (not any) && true))
    ⊕ (total (if any then items else []) ⊕ total []))
    (total (if any then program_block ∷ ((if any then context of_block ∷ wrapped w ∷ [] else []) ++ items) else []))
unfolding total line_charge context_charge
program_lines_lem true w items = omega arith
program_lines_lem false w items = omega arith

switch_lines : (any : Bool) (w : ℕ)
    → Same (context_figures 0 (0 + one_if (not (not any))) (0 + (if not (not any) then w else 0)) 0 ⊕ (total [] ⊕ total []))
    (total (if any then context of_switch ∷ wrapped w ∷ [] else []))
unfolding total line_charge context_charge
switch_lines true w = omega arith
switch_lines false w = omega arith

module _ (as_read : List Symbol) (u : Role) (up a b c : ℕ) (k : Forest) (kids : Tally) (p : is_role u Part ≡ one_of (11 ∷ 12 ∷ []) up) where
  own_lines_lem : {t : ℕ} → Seen (Tag.Program ∷ Tag.Block ∷ Tag.For ∷ Tag.ForOf ∷ Tag.Switch ∷ Tag.Body ∷ Tag.StaticBlock ∷ []) t → Lists t k kids
      → Same (list_figures u t kids ⊕ (total (program_own t k) ⊕ total (if eqb t Tag.ForOf then for_of_lines (for_of_act as_read k) k else [])))
      (total (own_lines as_read up (hd t a b c) k))
  unfolding program_own own_lines takes_up takes_up_cases is_block context_lines context_charge total
  own_lines_lem here l = rw (l.usings, l.wraps refl) (program_lines_lem (any_using k) (wraps k) (item_lines k))
  own_lines_lem (there e₁ here) l =
      rw (l.usings, l.wraps refl, p)
      (context_lines_lem (any_using k) (not (one_of (11 ∷ 12 ∷ []) up)) _ (wraps k) (block_charge (one_of (11 ∷ 12 ∷ []) up)))
  own_lines_lem (there e₁ (there e₂ here)) l =
      rw (l.usings, l.wraps refl) (context_lines_lem (any_using k) false of_for (wraps k) (omega arith))
  own_lines_lem (there e₁ (there e₂ (there e₇ here))) l = omega arith
  own_lines_lem (there e₁ (there e₂ (there e₇ (there e₈ here)))) l =
      rw (l.case_usings, l.case_wraps) (switch_lines (any_case_using k) (case_wraps k))
  own_lines_lem (there e₁ (there e₂ (there e₇ (there e₈ (there e₉ here))))) l =
      rw (l.usings, l.wraps refl) (context_lines_lem (any_using k) false of_body (wraps k) (omega arith))
  own_lines_lem (there e₁ (there e₂ (there e₇ (there e₈ (there e₉ (there e₁₄ here)))))) l =
      rw (l.usings, l.wraps refl) (context_lines_lem (any_using k) false of_static_block (wraps k) (omega arith))
  own_lines_lem (there e₁ (there e₂ (there e₇ (there e₈ (there e₉ (there e₁₄ (there e₁₆ other))))))) l =
      rw (e₁, e₂, e₇, e₈, e₉, e₁₄, e₁₆) (omega arith)

-- ---- forests

own_statements : (u : Role) (inserts : Bool) (h : Head) (n : ℕ) (kids : Tally)
    → Same (statement_figures (own u inserts h n kids))
    (statement_figures kids ⊕ figures 1 0 0 0 (field_bytes h.tag) ⊕ list_figures u h.tag kids ⊕ body_figures u inserts kids)
unfolding own
own_statements u inserts h n kids = omega arith

body_figures_lem : (u : Role) (inserts : Bool) (k : Forest) (kids : Tally) → eqb kids.usings 0 ≡ not (any_using k)
    → Same (body_figures u inserts kids) (total (body_own (is_body u) inserts (any_using k)))
unfolding gets_context
body_figures_lem u inserts k kids e = rw e (body_own_figures (is_body u) inserts (any_using k))

module _ (as_read : List Symbol) where
  -- a record with what stands below it
  record_figures : (u : Role) (up : ℕ) (h : Head) (k : Forest) (kids : Tally) (bodies : List Line) → is_role u Part ≡ one_of (11 ∷ 12 ∷ []) up
      → Lists h.tag k kids → bodies ≡ (if eqb h.tag Tag.ForOf then for_of_lines (for_of_act as_read k) k else [])
      → Same (statement_figures kids ⊕ total (program_lines k)) (figures (size k) 0 0 0 (record_bytes k) ⊕ (total (tree_lines as_read h.tag k) ⊕ total bodies))
      → Same (statement_figures (own u (inserts_in as_read u h) h (count k) kids) ⊕ (total (program_own h.tag k) ⊕ total (program_lines k)))
      (figures (suc (size k)) 0 0 0 (field_bytes h.tag + record_bytes k)
      ⊕ (total (own_lines as_read up h k) ⊕ total (tree_lines as_read h.tag k) ⊕ total (body_own (is_body u) (inserts_in as_read u h) (any_using k))))
  record_figures u up h k kids bodies p l e below =
      omega (
        arith,
        own_statements u (inserts_in as_read u h) h (count k) kids,
        rw (← e) at (own_lines_lem as_read u up h.a h.b h.c k kids p (seen (Tag.Program ∷ Tag.Block ∷ Tag.For ∷ Tag.ForOf ∷ Tag.Switch ∷ Tag.Body ∷ Tag.StaticBlock ∷ []) h.tag) l),
        body_figures_lem u (inserts_in as_read u h) k kids l.usings,
      )

  -- The tally's figures but items, with the lines of items, are those of the records, of their lines, and of what their roles bring.
  pub statements_are : (f : Forest) (ups : ℕ → Role) (i up : ℕ) → Regular f → ((j : ℕ) → is_role (ups j) Part ≡ one_of (11 ∷ 12 ∷ []) up)
      → Same (statement_figures (tally_of as_read ups i f) ⊕ total (program_lines f))
      (figures (size f) 0 0 0 (record_bytes f) ⊕ (total (tree_lines as_read up f) ⊕ total (bodies_in as_read ups i f)))
  unfolding tally_of program_lines size record_bytes tree_lines bodies_in total
  statements_are none ups i up s p = omega arith
  statements_are (more h k r) ups i up s p =
      let u = ups i in
      let t = h.tag in
      let below = role_of u t (is_using h) (body_of k) in
      omega (
        arith,
        record_figures u up h k (tally_of as_read below 0 k) (bodies_in as_read below 0 k) (p i) (lists as_read u t (is_using h) k s.2)
            (below_lines as_read (eqb t Tag.ForOf) u t (is_using h) k refl)
            (statements_are k below 0 t s.2 (λ j. part_below u t (is_using h) k j (seen (Tag.Try ∷ Tag.Catch ∷ []) t))),
        statements_are r ups (suc i) up s.3 p,
        total_three (program_own t k) (program_lines k) (program_lines r),
        total_three (own_lines as_read up h k) (tree_lines as_read t k) (tree_lines as_read up r),
        total_++ (body_own (is_body u) (inserts_in as_read u h) (any_using k)) (bodies_in as_read ups (suc i) r),
      )
