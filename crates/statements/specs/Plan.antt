-- What the usings of a list come to, counted before it is rewritten.
-- Assumes nothing.
use Rattle.std.specs.Prelude.{if◌then◌else◌, List, ℕ}
use Rattle.meaning.specs.Statements.{is_using, is_await_using}
use Rattle.tables.specs.Loops.{turns}
use Rattle.tables.specs.Table.{capped, row_f, head_f, end_f}
use Rattle.statements.specs.TakeUp.{has_initializer_f}
use Rattle.statements.specs.declared.Counting.{Counting}
use Rattle.statements.specs.declared.Plan.{Plan}

abbrev pub counting : ℕ → ℕ → Counting
counting at sum = record { at = record { 0 = at }; sum = sum }

unfoldable pub count_one_f : List ℕ → Counting → Counting
count_one_f t s =
    counting (end_f t s.at.0 1) (capped s.sum (if has_initializer_f (row_f t s.at.0) then 1 else 0))

-- the initializers of n Declarators after a row
unfoldable pub initializers_f : List ℕ → ℕ → ℕ → ℕ
initializers_f t after n = (turns n (count_one_f t) (counting after 0)).sum

-- what taking up the item after a row wraps
unfoldable pub wraps_f : List ℕ → ℕ → ℕ
wraps_f t after =
    let r = row_f t after in
    if is_using (head_f r) then initializers_f t (capped after 1) r.n else 0

abbrev pub plan : ℕ → ℕ → ℕ → ℕ → Plan
plan at usings awaits wraps = record { at = record { 0 = at }; usings = usings; awaits = awaits; wraps = wraps }

abbrev pub no_plan : ℕ → Plan
no_plan after = plan after 0 0 0

unfoldable pub plan_one_f : List ℕ → Plan → Plan
plan_one_f t p =
    let h = head_f (row_f t p.at.0) in
    plan
    (end_f t p.at.0 1)
    (capped p.usings (if is_using h then 1 else 0))
    (capped p.awaits (if is_await_using h then 1 else 0))
    (capped p.wraps (wraps_f t p.at.0))

-- n items more
unfoldable pub plan_f : List ℕ → Plan → ℕ → Plan
plan_f t p n = turns n (plan_one_f t) p
