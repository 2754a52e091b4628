-- What a change of the store adds to its rows.
-- Assumes nothing.
use Rattle.meaning.specs.Due.{missing}
use Rattle.std.specs.Prelude.{if◌then◌else◌, ◌≡◌, refl, Bool, true, false, not, ◌||◌, ◌&&◌, List, [], ◌∷◌, ℕ, ◌+◌, length, eqb}
use Rattle.std.proofs.Common.{sym, ap, ◌∙◌, arith, length-append}
use Rattle.meaning.specs.Tree.{Forest, none, more}
use Rattle.meaning.specs.Grammar.{scope_of}
use Rattle.meaning.specs.Scoping.{
  Store,
  Change,
  in_scope,
  with_flags,
  create_child_scope,
  change_scope_parent,
  set_scope_flags,
  insert_scope_between,
  move_scopes,
  insert_scope_below,
  create_symbol,
  move_binding,
  set_symbol_flags,
  move_bindings,
  set_flags_of,
}
use Rattle.spec_laws.specs.Bools.{and-false}
use Rattle.spec_laws.specs.Trees.{length_set_row}
use Rattle.charge_laws.proofs.Growth.Names.{NamesKept, same_names, new_names, row_names, HelperRow, row_kept}

abbrev pub one_if : Bool → ℕ
one_if b = if b then 1 else 0

-- So many scopes, symbols and contexts are added, and the runtime helper if one is `used` and missing; the rest stays, and the helper's row
-- keeps its name.
pub record Grown (used : Bool) (s y c : ℕ) (st st' : Store) : Type 0 where
  pub scopes : length st'.scopes ≡ length st.scopes + s
  pub symbols : length st'.symbols ≡ length st.symbols + (y + one_if (missing st && used))
  pub contexts : st'.contexts ≡ st.contexts + c
  pub helper : eqb st'.helper 0 ≡ (eqb st.helper 0 && not (eqb st.mode 0 && used))
  pub mode : st'.mode ≡ st.mode
  pub is_module : st'.is_module ≡ st.is_module
  pub as_read : st'.as_read ≡ st.as_read
  pub row : HelperRow st → HelperRow st'

-- a change that uses no helper
abbrev pub Adds : ℕ → ℕ → ℕ → Store → Store → Type 0
Adds s y c st st' =
    (length st'.scopes ≡ length st.scopes + s) × (length st'.symbols ≡ length st.symbols + y)
    × (st'.contexts ≡ st.contexts + c) × (st'.helper ≡ st.helper) × (st'.mode ≡ st.mode) × (st'.is_module ≡ st.is_module)
    × (st'.as_read ≡ st.as_read) × NamesKept st.symbols st'.symbols

not_used : (m h : Bool) → (h && not (m && false)) ≡ h
not_used true true = refl
not_used true false = refl
not_used false true = refl
not_used false false = refl

pub grown : {s y c : ℕ} {st st' : Store} → Adds s y c st st' → Grown false s y c st st'
grown {st = st} {st' = st'} e =
    record {
      scopes = e.0;
      symbols = rw (and-false (missing st)) (omega (arith, e.1));
      contexts = e.2;
      helper = ap (λ (n : ℕ). eqb n 0) e.3 ∙ sym (not_used (eqb st.mode 0) (eqb st.helper 0));
      mode = e.4;
      is_module = e.5;
      as_read = e.6;
      row = row_kept st st' e.3 (omega (arith, e.1)) e.7;
    }

-- ---- one after another

then_helper : (m h u v : Bool) → ((h && not (m && u)) && not (m && v)) ≡ (h && not (m && (u || v)))
then_helper true true true v = refl
then_helper true true false v = refl
then_helper true false u v = refl
then_helper false true u v = refl
then_helper false false u v = refl

then_symbol : (m h u v : Bool)
    → one_if ((m && h) && u) + one_if ((m && (h && not (m && u))) && v) ≡ one_if ((m && h) && (u || v))
then_symbol true true true v = refl
then_symbol true true false v = omega arith
then_symbol true false u v = refl
then_symbol false h u v = refl

pub both : {u v : Bool} {s y c s' y' c' : ℕ} {a b d : Store}
    → Grown u s y c a b → Grown v s' y' c' b d → Grown (u || v) (s + s') (y + y') (c + c') a d
both {u} {v} {a = a} {b = b} p q =
    let m : eqb b.mode 0 ≡ eqb a.mode 0 = ap (λ (n : ℕ). eqb n 0) p.mode in
    record {
      scopes = omega arith;
      symbols =
          omega (
            arith,
            rw (m, p.helper) at q.symbols,
            then_symbol (eqb a.mode 0) (eqb a.helper 0) u v,
          );
      contexts = omega arith;
      helper = (rw (m, p.helper) at q.helper) ∙ then_helper (eqb a.mode 0) (eqb a.helper 0) u v;
      mode = q.mode ∙ p.mode;
      is_module = q.is_module ∙ p.is_module;
      as_read = q.as_read ∙ p.as_read;
      row = λ r. q.row (p.row r);
    }

-- the same numbers, counted otherwise
pub counted : {u : Bool} {s y c s' y' c' : ℕ} {a b : Store}
    → Grown u s y c a b → (s ≡ s') × (y ≡ y') × (c ≡ c') → Grown u s' y' c' a b
counted p e =
    record {
      scopes = omega arith;
      symbols = omega arith;
      contexts = omega arith;
      helper = p.helper;
      mode = p.mode;
      is_module = p.is_module;
      as_read = p.as_read;
      row = p.row;
    }

pub unchanged : (st : Store) → Grown false 0 0 0 st st
unchanged st = grown (omega arith, omega arith, omega arith, refl, refl, refl, refl, same_names st.symbols)

-- one of two changes
pub either : {A : Type 0} {u : Bool} {s y c : ℕ} (b : Bool) (m n : Change A) (st : Store)
    → Grown u s y c st (m st).1 → Grown u s y c st (n st).1 → Grown u s y c st ((if b then m else n) st).1
either true m n st p q = p
either false m n st p q = q

-- ---- scopes

pub child_scope : (parent flags : ℕ) (st : Store) → Grown false 1 0 0 st (create_child_scope parent flags st).1
unfolding create_child_scope
child_scope parent flags st = grown (simp length-append, omega arith, omega arith, refl, refl, refl, refl, same_names st.symbols)

pub scope_parent : (s parent : ℕ) (st : Store) → Grown false 0 0 0 st (change_scope_parent s parent st).1
unfolding change_scope_parent
scope_parent s parent st = grown (simp length_set_row (omega arith), omega arith, omega arith, refl, refl, refl, refl, same_names st.symbols)

pub scope_flags : (s flags : ℕ) (st : Store) → Grown false 0 0 0 st (set_scope_flags s flags st).1
unfolding set_scope_flags
scope_flags s flags st = grown (simp length_set_row (omega arith), omega arith, omega arith, refl, refl, refl, refl, same_names st.symbols)

pub scope_between : (s flags : ℕ) (st : Store) → Grown false 1 0 0 st (insert_scope_between s flags st).1
unfolding insert_scope_between
scope_between s flags st = both (child_scope _ flags st) (scope_parent s _ _)

scopes_moved : (f : Forest) (parent : ℕ) (st : Store) → Grown false 0 0 0 st (move_scopes f parent st).1
unfolding move_scopes
scopes_moved none parent st = unchanged st
scopes_moved (more h k r) parent st =
    both
    (either (eqb (scope_of h) 0) (move_scopes k parent) (change_scope_parent (scope_of h) parent) st
    (scopes_moved k parent st)
    (scope_parent (scope_of h) parent st))
    (scopes_moved r parent _)

pub scope_below : (s : ℕ) (f : Forest) (st : Store) → Grown false 1 0 0 st (insert_scope_below s f st).1
unfolding insert_scope_below
scope_below s f st = both (child_scope s 0 st) (scopes_moved f _ _)

-- ---- symbols

pub symbol_made : (name flags scope made : ℕ) (st : Store) → Grown false 0 1 0 st (create_symbol name flags scope made st).1
unfolding create_symbol
symbol_made name flags scope made st = grown (omega arith, simp length-append, omega arith, refl, refl, refl, refl, new_names st.symbols _)

pub binding_moved : (y scope : ℕ) (st : Store) → Grown false 0 0 0 st (move_binding y scope st).1
unfolding move_binding
binding_moved y scope st =
    grown (omega arith, simp length_set_row (omega arith), omega arith, refl, refl, refl, refl, row_names (λ x. in_scope x scope) (λ x. (refl, refl)) st.symbols y)

pub symbol_flags : (y flags : ℕ) (st : Store) → Grown false 0 0 0 st (set_symbol_flags y flags st).1
unfolding set_symbol_flags
symbol_flags y flags st =
    grown (omega arith, simp length_set_row (omega arith), omega arith, refl, refl, refl, refl, row_names (λ x. with_flags x flags) (λ x. (refl, refl)) st.symbols y)

pub bindings_moved : (ys : List ℕ) (scope : ℕ) (st : Store) → Grown false 0 0 0 st (move_bindings ys scope st).1
unfolding move_bindings
bindings_moved [] scope st = unchanged st
bindings_moved (y ∷ ys) scope st = both (binding_moved y scope st) (bindings_moved ys scope _)

pub flags_of : (ys : List ℕ) (flags : ℕ) (st : Store) → Grown false 0 0 0 st (set_flags_of ys flags st).1
unfolding set_flags_of
flags_of [] flags st = unchanged st
flags_of (y ∷ ys) flags st = both (symbol_flags y flags st) (flags_of ys flags _)
