-- What `desk_start` and `desk_visit` answer and leave, in numbers.
-- Assumes nothing.
use Rattle.meaning.specs.Refusals.{Outcome}
use Rattle.std.specs.Prelude.{Ok, Err, ◌≡◌, refl, ℕ, cond, List, [], ◌∷◌, get_or}
use Rattle.path.specs.declared.Walk.{Walk}
use Rattle.path.specs.Path.{Tables}
use Rattle.start.specs.Start.{Begun}
use Rattle.walk.specs.Visit.{is_over_f}
use Rattle.desk_numbers.specs.Answers.{started_numbers}

-- ---- where a walk stands

abbrev pub walk_numbers : Walk → List ℕ
walk_numbers w =
    let c = w.ctx in
    w.visited.0 ∷ w.gap.0 ∷ w.end.0 ∷ w.inner.0 ∷ c.mode ∷ c.esm ∷ c.scopes ∷ c.symbols ∷ c.read ∷ c.helper.0 ∷ c.contexts ∷ []

abbrev pub walk_in : List ℕ → Walk
walk_in l =
    record {
      visited = record { 0 = get_or l 0 0 };
      gap = record { 0 = get_or l 1 0 };
      end = record { 0 = get_or l 2 0 };
      inner = record { 0 = get_or l 3 0 };
      ctx =
          record {
            mode = get_or l 4 0;
            esm = get_or l 5 0;
            scopes = get_or l 6 0;
            symbols = get_or l 7 0;
            read = get_or l 8 0;
            helper = record { 0 = get_or l 9 0 };
            contexts = get_or l 10 0;
          };
    }

-- they lose nothing
pub numbers_kept : (w : Walk) → walk_in (walk_numbers w) ≡ w
numbers_kept w = refl

-- ---- what each call leaves

-- an answer, the walk's numbers and the tables
pub record Begins : Type 0 where
  pub answer : List ℕ
  pub walk : List ℕ
  pub records : List ℕ
  pub scopes : List ℕ
  pub symbols : List ℕ

abbrev pub begun : List ℕ → List ℕ → List ℕ → List ℕ → List ℕ → Begins
begun a w r s y = record { answer = a; walk = w; records = r; scopes = s; symbols = y }

-- the walk's numbers behind a start: a refusal leaves them as they were
abbrev pub walk_after : List ℕ → Outcome Walk → List ℕ
walk_after old (Ok w) = walk_numbers w
walk_after old (Err r) = old

abbrev pub begun_numbers : List ℕ → Begun → Begins
begun_numbers old b = begun (started_numbers b.answer) (walk_after old b.answer) b.records b.scopes b.symbols

-- 1 or 0, the walk's numbers and the tables
pub record Visits : Type 0 where
  pub over : ℕ
  pub walk : List ℕ
  pub records : List ℕ
  pub scopes : List ℕ
  pub symbols : List ℕ

abbrev pub visited : ℕ → List ℕ → List ℕ → List ℕ → List ℕ → Visits
visited o w r s y = record { over = o; walk = w; records = r; scopes = s; symbols = y }

abbrev pub visited_numbers : Tables → Visits
visited_numbers t =
    visited (cond (is_over_f t.records t.walk) 1 0) (walk_numbers t.walk) t.records t.scopes t.symbols
