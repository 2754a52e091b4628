-- The charge of each visit, found in the source: one list of lines a visit, in the walk's order.
-- Assumes nothing.
use Rattle.std.specs.Prelude.{if◌then◌else◌, List, [], ◌∷◌, ◌++◌, Bool, true, false, not, ◌&&◌, ℕ, zero, suc, ◌+◌, length, replicate, eqb}
use Rattle.meaning.specs.Numbers.Tag
use Rattle.meaning.specs.Numbers.Mode
use Rattle.meaning.specs.Tree.{Head, Forest, none, more, one}
use Rattle.meaning.specs.File.{Symbol, File}
use Rattle.meaning.specs.Statements.{is_using, any_using}
use Rattle.meaning.specs.ForOf.{ForOfAct, as_is, insert, wrap}
use Rattle.meaning.specs.Program.{
  bound_names,
  ItemAct,
  stay,
  move,
  lower_class,
  lower_declaration,
  export_declaration,
  export_class,
  export_default_class,
  export_default_value,
  item_act,
}
use Rattle.meaning.specs.Walk.{
  is_static_block,
  Act,
  keep,
  program,
  block,
  function_body,
  try_parts,
  for_loop,
  switch,
  for_of_insert,
  for_of_wrap,
  act_of,
}
use Rattle.meaning.specs.Charges.{of_block, of_static_block, Line, context, wrapped, helper, wraps, context_lines}
use Rattle.meaning.specs.Due.{enter_lines, any_context}

-- ---- the visits to records beside each other

-- What a rewrite above has done to records of the source before they are visited.
pub data Treatment : Type 0 where
  -- nothing; a list whose usings a context took up; the Declarators of such a using; their children, so many Names being left
  standing taken_up declarators : Treatment
  initializer : ℕ → Treatment
  -- a For with its Labels; the children of a Switch; those of a Try or a Catch
  loop cases parts : Treatment
  -- Program's items: what stays of them, and what moves into the Block
  kept moved skipped : Treatment
  -- the children of a ForOf
  left right body : ForOfAct → Treatment

-- the mode of the next record
unfoldable pub next : Treatment → Treatment
next standing = standing
next taken_up = taken_up
next declarators = declarators
next (initializer zero) = standing
next (initializer (suc m)) = initializer m
next loop = standing
next cases = cases
next parts = parts
next kept = kept
next moved = moved
next skipped = skipped
next (left a) = right a
next (right a) = body a
next (body a) = standing

-- The visits to a record: those before its children, how its children are visited, and those behind them. `again`: Program's items are visited a
-- second time, in its Block.
pub record Visits : Type 0 where
  pub before : List (List Line)
  pub inside : Treatment
  pub again : Bool
  pub behind : List (List Line)

abbrev pub around : List (List Line) → Treatment → List (List Line) → Visits
around before inside behind = record { before = before; inside = inside; again = false; behind = behind }

-- visits without a charge
abbrev pub free : ℕ → List (List Line)
free n = replicate n []

-- In a made Try five records stand before the list (Block, and the context's Declaration, Declarator, Name and Load), and six behind it (Catch,
-- Name, Block, Step; Block, Step).
abbrev pub in_try : List (List Line) → Treatment → Visits
in_try before inside = around (before ++ free 5) inside (free 6)

-- so many visits more before it
abbrev pub behind_free : ℕ → Visits → Visits
behind_free n v = record { before = free n ++ v.before; inside = v.inside; again = v.again; behind = v.behind }

-- a record that no rewrite above has changed
unfoldable pub visits_as : Act → Head → Forest → Visits
visits_as keep h k = around (free 1) standing (if is_static_block h then context_lines of_static_block k ∷ [] else [])
visits_as program h k = record { before = enter_lines program h k ∷ []; inside = kept; again = true; behind = free 6 }
visits_as block h k = in_try (enter_lines block h k ∷ []) taken_up
visits_as function_body h k = in_try (enter_lines function_body h k ∷ free 1) taken_up
visits_as try_parts h k = around (enter_lines try_parts h k ∷ []) parts []
visits_as for_loop h k = around (enter_lines for_loop h k ∷ free 6) (if eqb h.tag Tag.Label then loop else taken_up) (free 6)
visits_as switch h k = around (enter_lines switch h k ∷ free 6) cases (free 6)
visits_as for_of_insert h k = around (enter_lines for_of_insert h k ∷ []) (left insert) []
visits_as for_of_wrap h k = around (enter_lines for_of_wrap h k ∷ []) (left wrap) []

module _ (as_read : List Symbol) where
  unfoldable pub visits_standing : Head → Forest → Visits
  visits_standing h k = visits_as (act_of as_read h k) h k

  unfoldable pub visits_taken_up : Head → Forest → Visits
  visits_taken_up h k = if is_using h then around (free 1) declarators [] else visits_standing h k

  -- the body of a ForOf: a context for it, and five records for the using that went in
  unfoldable pub visits_body : ForOfAct → Head → Forest → Visits
  visits_body as_is h k = visits_standing h k
  visits_body insert h k = in_try ((context of_block ∷ wrapped (1 + wraps k) ∷ []) ∷ free 5) taken_up
  visits_body wrap h k =
      let v = visits_taken_up h k in
      record {
        before = (context of_block ∷ wrapped (1 + wraps (one h k)) ∷ []) ∷ (free 10 ++ v.before);
        inside = v.inside;
        again = v.again;
        behind = v.behind ++ free 6;
      }

  -- what a Program's item leaves among the items that stay: itself, or an export with a Specifier for each name
  unfoldable pub visits_kept : ItemAct → Head → Forest → Visits
  visits_kept stay h k = visits_standing h k
  visits_kept move h k = around [] skipped []
  visits_kept lower_class h k = around [] skipped []
  visits_kept lower_declaration h k = around [] skipped []
  visits_kept (export_declaration k₁) h k = around (free (1 + length (bound_names k₁))) skipped []
  visits_kept (export_class h₁ k₁) h k = around (free 2) skipped []
  visits_kept (export_default_class h₁ k₁) h k = around (free 2) skipped []
  visits_kept (export_default_value h₁ k₁) h k = around (free 2) skipped []

  -- what it leaves in the Block: for a class or a default export, a Declaration, a Declarator and a Name before it
  unfoldable pub visits_moved : ItemAct → Head → Forest → Visits
  visits_moved stay h k = around [] skipped []
  visits_moved move h k = visits_standing h k
  visits_moved lower_class h k = behind_free 3 (visits_standing h k)
  visits_moved lower_declaration h k = visits_taken_up h k
  visits_moved (export_declaration k₁) h k = around [] standing []
  visits_moved (export_class h₁ k₁) h k = around (free 3) standing []
  visits_moved (export_default_class h₁ k₁) h k = around (free 3) standing []
  visits_moved (export_default_value h₁ k₁) h k = around (free 3) standing []

  unfoldable pub visits_of : Treatment → Head → Forest → Visits
  visits_of standing h k = visits_standing h k
  visits_of taken_up h k = visits_taken_up h k
  visits_of declarators h k = if eqb h.tag Tag.Declarator then around (free 1) (initializer h.b) [] else visits_standing h k
  visits_of (initializer zero) h k = behind_free 1 (visits_standing h k)
  visits_of (initializer (suc m)) h k = visits_standing h k
  visits_of loop h k = around (free 1) (if eqb h.tag Tag.Label then loop else taken_up) []
  visits_of cases h k = if eqb h.tag Tag.Case then around (free 1) taken_up [] else visits_standing h k
  visits_of parts h k =
      if eqb h.tag Tag.Catch then around (free 1) parts []
      else if eqb h.tag Tag.Block && any_using k then in_try (free 2) taken_up
      else visits_standing h k
  visits_of kept h k = visits_kept (item_act h k) h k
  visits_of moved h k = visits_moved (item_act h k) h k
  visits_of skipped h k = around [] skipped []
  visits_of (left a) h k = visits_standing h k
  visits_of (right a) h k = visits_standing h k
  visits_of (body a) h k = visits_body a h k

  -- the Block of a lowered Program: its own visit, with the context, and those of its Try around the items
  abbrev pub program_visits : Bool → Forest → (Unit {0} → List (List Line)) → List (List Line)
  program_visits true items inside = context_lines of_block items ∷ (free 5 ++ inside tt)
  program_visits false items inside = []

  unfoldable pub visits_in : Forest → Treatment → List (List Line)
  visits_in none m = []
  visits_in (more h k r) m =
      let v = visits_of m h k in
      v.before
      ++ (visits_in k v.inside
      ++ (program_visits v.again k (λ _. visits_in k moved)
      ++ (v.behind
      ++ visits_in r (next m))))

-- ---- the runtime helper

-- it comes with the first context, if it is still missing
unfoldable pub add_helper : Bool → List (List Line) → List (List Line)
add_helper missing [] = []
add_helper missing (x ∷ xs) =
    (if missing && any_context x then helper ∷ x else x) ∷ add_helper (missing && not (any_context x)) xs

-- the charges of the visits, in order
unfoldable pub visit_charges : File → List (List Line)
visit_charges f = add_helper (eqb f.mode Mode.Runtime) (visits_in f.symbols f.tree standing)
