-- What a visit is charged, against what it adds.
-- Assumes nothing.
use Rattle.std.specs.Prelude.{if◌then◌else◌, ◌≡◌, refl, Bool, true, false, not, ◌||◌, ◌&&◌, List, [], ◌∷◌, ◌++◌, ℕ, ◌+◌, ◌*◌, length, eqb}
use Rattle.std.proofs.Common.{ap, ◌∙◌, arith}
use Rattle.meaning.specs.File.{scope_bytes, symbol_bytes}
use Rattle.meaning.specs.Tree.{Head, Forest, one, Node, single, size, ◌&◌}
use Rattle.meaning.specs.Scoping.{Store}
use Rattle.meaning.specs.Charges.{Line, helper, Figures, figures, charge, ◌⊕◌, line_charge, total, record_bytes}
use Rattle.meaning.specs.Due.{is_context, any_context, missing}
use Rattle.charge_laws.proofs.Growth.Names.{HelperRow}
use Rattle.charge_laws.proofs.Growth.Rows.{Grown, one_if, both, counted, unchanged}
use Rattle.charge_laws.proofs.Growth.Trees.{More, more_&}
use Rattle.spec_laws.specs.Figures.{Same, total_++}

-- the figures of a store and the records given
unfoldable pub counts : Store → Forest → Figures
counts st f =
    figures
    (size f)
    (length st.scopes)
    (length st.symbols)
    st.contexts
    (scope_bytes * length st.scopes + (symbol_bytes * length st.symbols + record_bytes f))

-- the runtime helper comes with a context, if it is missing
unfoldable pub helper_line : Store → List Line → List Line
helper_line st ls = if missing st && any_context ls then helper ∷ [] else []

-- ---- changes that pay for lines

-- Some records and the store grow by what the lines charge, the helper's aside.
pub record Pays (ls : List Line) (f f' : Forest) (st st' : Store) : Type 0 where
  pub rows : Grown (any_context ls) (total ls).scopes (total ls).symbols (total ls).contexts st st'
  pub records : size f' ≡ size f + (total ls).records
  pub bytes : record_bytes f' + (scope_bytes * (total ls).scopes + symbol_bytes * (total ls).symbols) ≡ record_bytes f + (total ls).bytes

-- by a rewrite of one record
abbrev pub PaysFor : List Line → Forest → Store → Node × Store → Type 0
PaysFor ls f st e = Pays ls f (single e.0) st e.1

used_as : {u v : Bool} {s y c : ℕ} {st st' : Store} → u ≡ v → Grown v s y c st st' → Grown u s y c st st'
used_as e p = rw e p

pub pays : {u : Bool} {s y c : ℕ} {f f' : Forest} {st st' : Store} (n b : ℕ) (ls : List Line)
    → any_context ls ≡ u → Same (total ls) (charge n s y c b) → Grown u s y c st st' → More n b f f' → Pays ls f f' st st'
pays n b ls a t p q =
    record {
      rows = used_as a (counted p (omega arith));
      records = omega arith;
      bytes = omega arith;
    }

-- nothing happens
pub pays_nothing : (f : Forest) (st : Store) → Pays [] f f st st
unfolding total any_context
pays_nothing f st = pays 0 0 [] refl (omega arith) (unchanged st) (omega arith)

or-false : (b : Bool) → b ≡ (b || false)
or-false true = refl
or-false false = refl

-- rows move afterwards
pub pays_then : {ls : List Line} {f f' : Forest} {a b d : Store} → Pays ls f f' a b → Grown false 0 0 0 b d → Pays ls f f' a d
pays_then {ls} p q =
    record {
      rows = used_as (or-false (any_context ls)) (counted (both p.rows q) (omega arith));
      records = p.records;
      bytes = p.bytes;
    }

-- one line more, without a context
pub pays_line : {s y : ℕ} {ls : List Line} {f f' f'' : Forest} {a b d : Store} (n m : ℕ) (l : Line)
    → is_context l ≡ false → Same (line_charge l) (charge n s y 0 m)
    → Pays ls f f' a b → Grown false s y 0 b d → More n m f' f'' → Pays (l ∷ ls) f f'' a d
unfolding total any_context
pays_line {ls = ls} n m l c t p q r =
    record {
      rows =
          used_as (ap (λ (v : Bool). v || any_context ls) c ∙ or-false (any_context ls))
          (counted (both p.rows q) (omega arith));
      records = omega arith;
      bytes = omega arith;
    }

-- below a record that stays
pub pays_below : {ls : List Line} {k k' : Forest} {a b : Store} (h : Head) → Pays ls k k' a b → Pays ls (one h k) (one h k') a b
unfolding size record_bytes
pays_below h p = record { rows = p.rows; records = omega arith; bytes = omega arith }

-- ---- lines

or_assoc : (a b c : Bool) → (a || (b || c)) ≡ ((a || b) || c)
or_assoc true b c = refl
or_assoc false b c = refl

any_++ : (xs ys : List Line) → any_context (xs ++ ys) ≡ (any_context xs || any_context ys)
unfolding any_context
any_++ [] ys = refl
any_++ (x ∷ xs) ys = ap (λ (b : Bool). is_context x || b) (any_++ xs ys) ∙ or_assoc (is_context x) (any_context xs) (any_context ys)

-- beside each other, one after another
pub pays_both : {ls ls' : List Line} {f f' g g' : Forest} {a b d : Store}
    → Pays ls f f' a b → Pays ls' g g' b d → Pays (ls ++ ls') (f & g) (f' & g') a d
pays_both {ls} {ls'} {f} {f'} {g} {g'} p q =
    let t = total_++ ls ls' in
    record {
      rows = used_as (any_++ ls ls') (counted (both p.rows q.rows) (omega arith));
      records = omega (arith, more_& f g, more_& f' g');
      bytes = omega (arith, more_& f g, more_& f' g');
    }

-- ---- visits

-- A visit adds its lines, and the helper's if that comes with them; the settings and the symbols as read stay.
pub record Visited (ls : List Line) (f : Forest) (st : Store) (e : Node × Store) : Type 0 where
  pub adds : Same (counts e.1 (single e.0)) (counts st f ⊕ (total ls ⊕ total (helper_line st ls)))
  pub helper : eqb e.1.helper 0 ≡ (eqb st.helper 0 && not (eqb st.mode 0 && any_context ls))
  pub mode : e.1.mode ≡ st.mode
  pub is_module : e.1.is_module ≡ st.is_module
  pub as_read : e.1.as_read ≡ st.as_read
  pub row : HelperRow st → HelperRow e.1

helper_total : (b : Bool) → Same (total (if b then helper ∷ [] else [])) (charge 0 0 (one_if b) 0 0)
unfolding total line_charge
helper_total true = omega arith
helper_total false = omega arith

pub visited : {ls : List Line} {f : Forest} {st : Store} {e : Node × Store} → PaysFor ls f st e → Visited ls f st e
unfolding counts helper_line
visited {ls} {st = st} p =
    record {
      adds = omega (arith, helper_total (missing st && any_context ls));
      helper = p.rows.helper;
      mode = p.rows.mode;
      is_module = p.rows.is_module;
      as_read = p.rows.as_read;
      row = p.rows.row;
    }
