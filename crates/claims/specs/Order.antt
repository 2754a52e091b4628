-- Scopes in tree order (02, request 9), said of what a caller of a lowering holds: the bytes that it wrote.
-- Assumes nothing.
use Rattle.std.specs.Prelude.{Ok, if◌then◌else◌, ◌≡◌, refl, Bool, true, ◌&&◌, ℕ, suc, ◌-◌, ◌≤◌, length, get_or, eqb}
use Rattle.std.proofs.Common.{sym, ap₂, subst, ◌∙◌, arith, leb-true, ne_eqb}
use Rattle.std.proofs.Math.Path.{ap}
use mathlib.Core.List.{List, [], ◌∷◌, ◌++◌, map, append_assoc, append-nil}
use Rattle.meaning.specs.Numbers.Tag
use Rattle.meaning.specs.Tree.{Head, Forest, none, more, Row, flatten}
use Rattle.meaning.specs.Mentions.{mentions}
use Rattle.meaning.specs.File.{Scope, scope_row, Symbol, File, numbers_of, has_children, own_numbers, written}
use Rattle.meaning.specs.Reading.{read_file}
use Rattle.meaning.specs.Grammar.{is_row, scope_of, below}
use Rattle.meaning.specs.Agreement.{names_scope, enclosing_scopes, ScopesAgree}
use Rattle.meaning.specs.Renumbering.{named_scopes, new_number, renumbered_symbol, renumbered}
use Rattle.meaning.specs.Walk.{file_at}
use Rattle.meaning.specs.Charges.{Figures, figures_in, final_figures}
use Rattle.meaning.specs.Lowering.{final_spot, lowered_file}
use Rattle.spec_laws.specs.Trees.{Bytes}
use Rattle.bound_laws.specs.Numbers.{All}
use Rattle.readback_laws.specs.ReadBack.{Read, fields_of, scope_reads, symbol_reads, record_reads, fields_for, field_count, Tagged}
use Rattle.readback_laws.proofs.ReadBack.{read_back, counts_back}
use Rattle.readback_laws.specs.Decoded.{tree_in}
use Rattle.readback_laws.proofs.Mapped.{mapped}
use Rattle.readback_laws.proofs.Back.{plain_head, plain, tree_back}
use Rattle.renumbering_laws.specs.Heads.{scope_plain}
use Rattle.renumbering_laws.specs.Order.{up_from}
use Rattle.renumbering_laws.specs.Named.{new_place, new_row, new_most, one_to_one}
use Rattle.renumbering_laws.specs.Files.{renumbered_scopes, in_order, already_ordered}
use Rattle.renumbering_laws.specs.Agree.{tells, names_told, renumbered_agrees}
use Rattle.renumbering_laws.specs.Final.{final_agrees, final_scopes, lowered_figures, lowered_tagged, lowered_childless, lowered_order}
use Rattle.lowering.specs.Lower.{lower_f}
use Rattle.claims.specs.Twice.{Run, Wrote, wrote_lowered}

-- ---- what is claimed

-- In the tree that the bytes of a written file say, the scopes are named 1, 2, 3 and so on, as many as the bytes have scope rows.
abbrev pub InTreeOrder : Run → Type 0
InTreeOrder run =
    (bytes r s y o file : List ℕ) → Bytes bytes → Wrote run bytes r s y o file
    → named_scopes (tree_in file) ≡ up_from 1 (field_count (λ t. eqb t Tag.Scope) (fields_of file))

-- the scope rows that the fields of a file say
unfoldable pub scopes_said : List Read → List Scope
scopes_said [] = []
scopes_said (x ∷ xs) =
    if eqb x.tag Tag.Scope then scope_row (get_or x.numbers 0 0) (get_or x.numbers 1 0) ∷ scopes_said xs else scopes_said xs

-- They agree with the tree that its bytes say, as 01 asks of a file.
abbrev pub AgreesInBytes : Run → Type 0
AgreesInBytes run =
    (bytes r s y o file : List ℕ) → Bytes bytes → Wrote run bytes r s y o file → ScopesAgree (scopes_said (fields_of file)) (tree_in file)

-- The new numbers of the scopes of a file: the k-th scope that its tree names gets k; a row's is a row's, and no other's.
pub record OneToOne (g : File) : Type 0 where
  pub place : (s : ℕ) → is_row (length g.scopes) s ≡ true → get_or (named_scopes g.tree) (new_number (named_scopes g.tree) s - 1) 0 ≡ s
  pub rows : (s : ℕ) → is_row (length g.scopes) s ≡ true → is_row (length g.scopes) (new_number (named_scopes g.tree) s) ≡ true
  pub different : (s t : ℕ) → is_row (length g.scopes) s ≡ true
      → new_number (named_scopes g.tree) s ≡ new_number (named_scopes g.tree) t → s ≡ t

-- ---- the order

pub in_tree_order : InTreeOrder lower_f
unfolding figures_in
in_tree_order b r s y o file bytes wrote =
    let (f, read, is) = wrote_lowered b r s y o file bytes wrote in
    let rows = (counts_back (lowered_file f) (lowered_tagged b f read bytes)).1 in
    let scopes : field_count (λ t. eqb t Tag.Scope) (fields_of (written (lowered_file f))) ≡ (final_figures f).scopes =
    rows ∙ ap (λ (x : Figures). x.scopes) (lowered_figures b f read) ∙ final_scopes b f read in
    subst (λ (x : List ℕ). named_scopes (tree_in x) ≡ up_from 1 (field_count (λ t. eqb t Tag.Scope) (fields_of x))) (sym is)
    (lowered_order b f read bytes ∙ ap (up_from 1) (sym scopes))

-- ---- the rows read back

records_skipped : (f : Forest) (rest : List Row) → Tagged f → scopes_said (record_reads (flatten f ++ rest)) ≡ scopes_said (record_reads rest)
unfolding scopes_said record_reads flatten
records_skipped none rest q = refl
records_skipped (more h k r) rest q =
    let few = leb-true h.tag Tag.Step q.0 in
    let no_scope_lem = ne_eqb h.tag Tag.Scope (λ e. omega arith) in
    rw (no_scope_lem, append_assoc (flatten k) (flatten r) rest) (records_skipped k (flatten r ++ rest) q.1 ∙ records_skipped r rest q.2)

symbols_skipped : (count : ℕ → ℕ) (k : ℕ) (ys : List Symbol) (rest : List Read) → scopes_said (symbol_reads count k ys ++ rest) ≡ scopes_said rest
unfolding scopes_said symbol_reads
symbols_skipped count k [] rest = refl
symbols_skipped count k (y ∷ ys) rest = symbols_skipped count (suc k) ys rest

scopes_said_lem : (ss : List Scope) (rest : List Read) → scopes_said (scope_reads ss ++ rest) ≡ ss ++ scopes_said rest
unfolding scopes_said scope_reads
scopes_said_lem [] rest = refl
scopes_said_lem (s ∷ ss) rest = ap (◌∷◌ s) (scopes_said_lem ss rest)

scopes_back : (g : File) → Tagged g.tree → scopes_said (fields_of (written g)) ≡ g.scopes
unfolding scopes_said fields_for record_reads
scopes_back g q =
    let counts : ℕ → ℕ = λ y. mentions y g.tree in
    let rows = flatten g.tree in
    ap scopes_said (read_back g)
    ∙ scopes_said_lem g.scopes (symbol_reads counts 1 g.symbols ++ record_reads rows)
    ∙ ap (◌++◌ g.scopes)
    (symbols_skipped counts 1 g.symbols (record_reads rows)
    ∙ ap (λ (rs : List Row). scopes_said (record_reads rs)) (sym (append-nil rows))
    ∙ records_skipped g.tree [] q)
    ∙ append-nil g.scopes

-- ---- the tree as it is written names the same scopes in the same places

names_plain : (h : Head) → names_scope (plain_head h) ≡ names_scope h
unfolding plain_head
names_plain h = names_told (plain_head h) ∙ ap (λ (x : ℕ). tells h.tag (eqb x 0)) (scope_plain h) ∙ sym (names_told h)

around_plain : (s : ℕ) (f : Forest) (cur : ℕ) → enclosing_scopes s cur (plain f) ≡ enclosing_scopes s cur f
unfolding enclosing_scopes mapped
around_plain s none cur = refl
around_plain s (more h k r) cur =
    let test = ap₂ (λ (m : Bool) (x : ℕ). m && eqb x s) (names_plain h) (scope_plain h) in
    ap₂ ◌++◌ (ap (λ (b : Bool). if b then cur ∷ [] else []) test)
    (ap₂ ◌++◌ (ap (λ (x : ℕ). enclosing_scopes s (below cur x) (plain k)) (scope_plain h) ∙ around_plain s k (below cur (scope_of h))) (around_plain s r cur))

plain_agrees : (ss : List Scope) (f : Forest) → ScopesAgree ss f → ScopesAgree ss (plain f)
unfolding mapped plain_head own_numbers has_children numbers_of
plain_agrees ss f q =
    record {
      rows = λ s e. around_plain s f 0 ∙ q.rows s e;
      others = λ s e. around_plain s f 0 ∙ q.others s e;
      program = (plain q.program.0, ap plain q.program.1);
    }

lowered_agrees : (b : List ℕ) (f : File) → read_file b ≡ Ok f → ScopesAgree (lowered_file f).scopes (lowered_file f).tree
unfolding lowered_file
lowered_agrees b f read = renumbered_agrees (file_at (final_spot f)) (final_agrees b f read)

pub agrees_in_bytes : AgreesInBytes lower_f
agrees_in_bytes b r s y o file bytes wrote =
    let (f, read, is) = wrote_lowered b r s y o file bytes wrote in
    let tagged = lowered_tagged b f read bytes in
    let scopes = scopes_back (lowered_file f) tagged in
    let tree = tree_back (lowered_file f) tagged (lowered_childless b f read) in
    subst (λ (x : List ℕ). ScopesAgree (scopes_said (fields_of x)) (tree_in x)) (sym is)
    (subst (λ (ss : List Scope). ScopesAgree ss (tree_in (written (lowered_file f)))) (sym scopes)
    (subst (ScopesAgree (lowered_file f).scopes) (sym tree) (plain_agrees (lowered_file f).scopes (lowered_file f).tree (lowered_agrees b f read))))

-- ---- the numbers

module _ (b : List ℕ) (f : File) (read : read_file b ≡ Ok f) where
  abbrev left : File
  left = file_at (final_spot f)

  pub final_one_to_one : OneToOne left
  final_one_to_one =
      record {
        place = new_place left.scopes left.tree (final_agrees b f read);
        rows = new_row left.scopes left.tree (final_agrees b f read);
        different = one_to_one left.scopes left.tree (final_agrees b f read);
      }

  -- numbered once more, the file stays as it is
  symbols_few : (ys : List Symbol) → All (λ y. y.scope ≤ length (renumbered left).scopes) (map (renumbered_symbol (new_number (named_scopes left.tree))) ys)
  unfolding renumbered_symbol
  symbols_few [] = tt
  symbols_few (y ∷ ys) = (
    omega (arith, renumbered_scopes left (final_agrees b f read), new_most left.scopes left.tree (final_agrees b f read) y.scope),
    symbols_few ys,
  )

  pub numbered_once : renumbered (lowered_file f) ≡ lowered_file f
  unfolding lowered_file renumbered
  numbered_once =
      let agree = final_agrees b f read in
      already_ordered (renumbered left) (renumbered_agrees left agree)
      (in_order left agree ∙ ap (up_from 1) (sym (renumbered_scopes left agree)))
      (symbols_few left.symbols)
