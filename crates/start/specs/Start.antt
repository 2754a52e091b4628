-- What start answers and leaves in the lent tables.
-- Assumes nothing.
use Rattle.meaning.specs.Refusals.{Outcome}
use Rattle.std.specs.Prelude.{Ok, Err, List, ◌++◌, ℕ, ◌*◌, ◌-◌, ◌/◌, length, replicate}
use Rattle.meaning.specs.Tree.{size}
use Rattle.meaning.specs.Mentions.{mentions}
use Rattle.meaning.specs.File.{File}
use Rattle.meaning.specs.Walk.{start}
use Rattle.meaning.specs.Charges.{final_figures}
use Rattle.meaning.specs.Lowering.{Lent, admit}
use Rattle.tables.specs.Columns.RecordTable
use Rattle.tables.specs.Columns.ScopeTable
use Rattle.tables.specs.Columns.SymbolTable
use Rattle.tables.specs.Table.{counts_at}
use Rattle.mentions.specs.Sums.{counts_from}
use Rattle.path.specs.declared.Walk.{Walk}
use Rattle.path.specs.Path.{Tables}
use Rattle.representation.specs.Spots.Spots.{Rest, held}

-- the answer and the tables
pub record Begun : Type 0 where
  pub answer : Outcome Walk
  pub records : List ℕ
  pub scopes : List ℕ
  pub symbols : List ℕ

abbrev pub begun : Outcome Walk → List ℕ → List ℕ → List ℕ → Begun
begun a r s y = record { answer = a; records = r; scopes = s; symbols = y }

-- the rows of the tables
unfoldable pub lent_in : List ℕ → List ℕ → List ℕ → Lent
lent_in r s y = record { records = length r / RecordTable.Numbers; scopes = length s / ScopeTable.Lent; symbols = length y / SymbolTable.Lent }

-- the free rows among those that the lowered tree takes
unfoldable pub free_rows : File → ℕ
free_rows f = (final_figures f).records - size f.tree

-- the tables are 0 behind their rows
unfoldable pub zeros_behind : File → List ℕ → List ℕ → List ℕ → Rest
zeros_behind f r s y =
    record {
      records = replicate (length r - RecordTable.Numbers * (final_figures f).records) 0;
      scopes = replicate (length s - ScopeTable.Numbers * length f.scopes) 0;
      symbols = replicate (length y - SymbolTable.Numbers * length f.symbols) 0;
    }

-- and as start leaves them: 0, but for the counts of symbols
unfoldable pub counts_behind : File → List ℕ → List ℕ → List ℕ → Rest
counts_behind f r s y =
    let z = zeros_behind f r s y in
    record {
      records = z.records;
      scopes = z.scopes;
      symbols =
          replicate (counts_at y - SymbolTable.Numbers * length f.symbols) 0
          ++ counts_from (λ n. mentions n f.tree) (length y - counts_at y) 1;
    }

abbrev pub ready : Tables → Begun
ready t = begun (Ok t.walk) t.records t.scopes t.symbols

-- an accepted file before its first visit; a refused one changes nothing
abbrev pub start_of : Outcome File → List ℕ → List ℕ → List ℕ → Begun
start_of (Ok f) r s y = ready (held (start f) (free_rows f) (counts_behind f r s y))
start_of (Err why) r s y = begun (Err why) r s y

unfoldable pub start_f : List ℕ → List ℕ → List ℕ → List ℕ → Begun
start_f bytes r s y = start_of (admit bytes (lent_in r s y)) r s y
