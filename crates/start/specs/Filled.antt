-- The tables that are filled hold the file just read.
-- Assumes nothing.
use Rattle.meaning.specs.declared.Reason.TheVariants as Reason
use Rattle.meaning.specs.Refusals.{Outcome}
use Rattle.std.specs.Prelude.{Ok, Err, ◌≡◌, Bool, true, false, List, [], ◌++◌, leb}
use Rattle.std.proofs.Math.Path.{refl}
use Rattle.std.proofs.Common.{ap, subst, append-nil, zero-add, leb-true}
use Prim.Native.Nat.{ℕ, ◌+◌, ◌-◌, ◌/◌, ◌≤◌, min}
use native.Mathlib.Omega.{arith}
use Rattle.std.proofs.Math.ListN.{length}
use Rattle.meaning.specs.Tree.{Forest, none, more, size}
use Rattle.meaning.specs.File.{File}
use Rattle.meaning.specs.Scoping.{Store}
use Rattle.meaning.specs.Reading.{◌>>◌, ensure, read_file}
use Rattle.meaning.specs.Walk.{settle, store_at, store_of, start}
use Rattle.meaning.specs.Charges.{figures_in, walk_figures, final_figures}
use Rattle.meaning.specs.Lowering.{Lent, check_mode, check_rows, check_file, admit}
use Rattle.parsing.specs.Outcomes.{Holds, bind, bind_any}
use Rattle.parsing.specs.Parsed.{ParsedFile}
use Rattle.parsing.specs.Files.{file_parsed}
use Rattle.charge_laws.proofs.Totals.Fits.{accepted_fits}
use Rattle.checking.specs.Survey.{layout_of}
use Rattle.path.specs.declared.Walk.{Walk}
use Rattle.path.specs.Path.{Tables, tables}
use Rattle.tables.specs.declared.Row.{Row}
use Rattle.representation.specs.Gap.Cells.{table, free, rows_of, length_rows}
use Rattle.representation.specs.Store.Held.{scope_cells, symbol_cells, ctx_of}
use Rattle.representation.specs.Spots.Spots.{Rest, open_rows_of, after_rows_of, opens_at, visited_at, rest_at, walk_at, held}
use Rattle.start.specs.Start.{lent_in, free_rows, zeros_behind}
use Rattle.start.specs.Flat.{walk_f, fill_f}
use Rattle.start.specs.Rows.{scopes_are, symbols_are}
use Rattle.start.specs.Records.{records_are}
use Rattle.representation.proofs.Run.{parsed_run}

tables_eq : {x y : Tables} → x.records ≡ y.records → x.scopes ≡ y.scopes → x.symbols ≡ y.symbols → x.walk ≡ y.walk → x ≡ y
tables_eq e₁ e₂ e₃ e₄ = λ i. record { records = e₁ i; scopes = e₂ i; symbols = e₃ i; walk = e₄ i }

-- ---- before the first visit

-- nothing is visited or open
abbrev first_walk : Store → ℕ → ℕ → Walk
first_walk st g end =
    record {
      visited = record { 0 = 0 };
      gap = record { 0 = g };
      end = record { 0 = end };
      inner = record { 0 = 0 };
      ctx = ctx_of st;
    }

first_held : (t : Forest) (st : Store) (g : ℕ) (z : Rest)
    → held (settle none t [] st) g z
    ≡ tables
    (table (free g ++ rows_of t) z.records)
    (scope_cells st.scopes z.scopes)
    (symbol_cells st.symbols st.as_read z.symbols)
    (first_walk st g (g + length (rows_of t)))
unfolding settle held walk_at opens_at visited_at rest_at store_at open_rows_of after_rows_of rows_of
first_held none st g z = rw zero-add
first_held (more h k r) st g z =
    rw zero-add
    (ap (λ (v : List Row).
    tables
    (table (free g ++ v) z.records)
    (scope_cells st.scopes z.scopes)
    (symbol_cells st.symbols st.as_read z.symbols)
    (first_walk st g (g + length v)))
    (append-nil (rows_of (more h k r))))

-- ---- how many rows

-- the final figures count what was read
pub read_most : (f : File)
    → (size f.tree ≤ (final_figures f).records) × (length f.scopes ≤ (final_figures f).scopes)
    × (length f.symbols ≤ (final_figures f).symbols)
unfolding final_figures walk_figures figures_in
read_most f = (omega arith, omega arith, omega arith)

-- ---- the tables

module _ (b : List ℕ) (f : File) (q : ParsedFile b f)
    (fits : ((final_figures f).records ≤ 65535) × ((final_figures f).scopes ≤ 65535) × ((final_figures f).symbols ≤ 65535)) where
  -- where its layout says that the symbol rows and Program stand
  offsets : ((layout_of f).first ≡ q.first) × ((layout_of f).tree ≡ q.root)
  offsets = (
    omega (arith, q.scopes_many, q.scope_rows.next_is),
    omega (arith, q.scopes_many, q.symbols_many, q.scope_rows.next_is, q.symbol_rows.next_is),
  )

  fill_is : (r s y : List ℕ) → (final_figures f).records ≤ length r / 7 → (final_figures f).scopes ≤ length s / 3
      → (final_figures f).symbols ≤ length y / 5
      → fill_f b (layout_of f) (min (final_figures f).records 65535) r s y ≡ held (start f) (free_rows f) (zeros_behind f r s y)
  unfolding fill_f walk_f free_rows zeros_behind start store_of
  fill_is r s y h₁ h₂ h₃ =
      let most = read_most f in
      let rs = rows_of f.tree in
      let long = length_rows f.tree in
      let end = (final_figures f).records in
      let g = end - size f.tree in
      let all : g + length rs ≡ end = omega arith in
      let fit : min end 65535 ≡ end = omega arith in
      let run = parsed_run q.tree in
      rw (fit, offsets.1, offsets.0, first_held f.tree (store_of f) g (zeros_behind f r s y), all)
      (tables_eq
      (records_are b rs q.root (length b) g end r run all (omega arith))
      (rw (q.scopes_many, q.scopes) (scopes_are b q.scope_number_lem s (omega (arith, q.scopes_many))))
      (rw (q.symbols_many, q.symbols) (symbols_are b q.first q.symbol_number_lem y (omega (arith, q.symbols_many))))
      refl)

-- ---- a file that is admitted

-- it is read, and the rows that it takes are lent
abbrev pub Admitted : List ℕ → Lent → File → Type 0
Admitted bytes lent f =
    let x = final_figures f in
    (read_file bytes ≡ Ok f) × (x.records ≤ lent.records) × (x.scopes ≤ lent.scopes) × (x.symbols ≤ lent.symbols)

module _ (bytes : List ℕ) (lent : Lent) where
  itself : (o : Outcome File) → read_file bytes ≡ o → Holds (λ f. read_file bytes ≡ Ok f) o
  itself (Ok f) e = e
  itself (Err r) e = tt

  by_rows_lem : (f : File) (b₁ b₂ b₃ : Bool) → leb (final_figures f).records lent.records ≡ b₁
      → leb (final_figures f).scopes lent.scopes ≡ b₂ → leb (final_figures f).symbols lent.symbols ≡ b₃ → read_file bytes ≡ Ok f
      → Holds (Admitted bytes lent) ((ensure b₁ Reason.FewRows 0 >> (ensure b₂ Reason.FewRows 1 >> ensure b₃ Reason.FewRows 2)) >> Ok f)
  by_rows_lem f true true true e₁ e₂ e₃ e = (e, leb-true _ _ e₁, leb-true _ _ e₂, leb-true _ _ e₃)
  by_rows_lem f true true false e₁ e₂ e₃ e = tt
  by_rows_lem f true false b₃ e₁ e₂ e₃ e = tt
  by_rows_lem f false b₂ b₃ e₁ e₂ e₃ e = tt

  -- an admitted file is one that is read, with the rows it takes
  admits : Holds (Admitted bytes lent) (admit bytes lent)
  unfolding admit check_file check_rows
  admits =
      let Is : File → Type 0 = λ f. read_file bytes ≡ Ok f in
      bind Is (Admitted bytes lent) (check_file bytes) _
      (bind Is Is (read_file bytes) _ (itself (read_file bytes) refl) (λ f e. bind_any Is (check_mode f) _ (λ _. e)))
      (λ f e. by_rows_lem f _ _ _ refl refl refl e)

-- ---- its tables

module _ (bytes r s y : List ℕ) (f : File) (e : admit bytes (lent_in r s y) ≡ Ok f) where
  pub admitted : Admitted bytes (lent_in r s y) f
  admitted = subst (Holds (Admitted bytes (lent_in r s y))) e (admits bytes (lent_in r s y))

  -- THE TABLES FILLED with an admitted file hold its walk before the first visit.
  pub fill_law : fill_f bytes (layout_of f) (min (final_figures f).records 65535) r s y ≡ held (start f) (free_rows f) (zeros_behind f r s y)
  unfolding lent_in
  fill_law =
      let a = admitted in
      fill_is bytes f (file_parsed bytes f a.0) (accepted_fits bytes f a.0) r s y a.1 a.2 (omega (arith, a.3))
