-- A call for the next visit, on any tables: the visit, and after the last one the import line (02, request 1), with the counts of symbols (02, request 7).
-- Assumes nothing.
use Rattle.std.specs.Prelude.{if◌then◌else◌, ◌≡◌, true, false}
use Rattle.path.specs.Path.{Tables, tables}
use Rattle.walk.specs.Over.{is_over_in}
use Rattle.walk.specs.Counted.{Counted, counted, visit_counted_f, complete_counted_f, complete_counted_in}

unfoldable pub visit_call_f : Tables → Tables
visit_call_f q =
    let q₁ = visit_counted_f q in
    if is_over_in q then q
    else if is_over_in q₁ then complete_counted_in q₁
    else q₁

-- ---- by what is told before and after the visit

pub call_last : (q q₁ : Tables) (c : Counted) → is_over_in q ≡ false → q₁ ≡ visit_counted_f q → is_over_in q₁ ≡ true
    → c ≡ complete_counted_f (counted q₁.records q₁.symbols q₁.walk)
    → tables c.records q₁.scopes c.symbols c.walk ≡ visit_call_f q
unfolding visit_call_f
call_last q q₁ c o e l d = rw (o, ← e, l, ← d)

pub call_goes_on : (q q₁ : Tables) → is_over_in q ≡ false → q₁ ≡ visit_counted_f q → is_over_in q₁ ≡ false → q₁ ≡ visit_call_f q
unfolding visit_call_f
call_goes_on q q₁ o e l = rw (o, ← e, l)

-- A CALL WHEN THE WALK IS OVER leaves every number of the tables and the walk as it is.
pub over_unchanged : (q : Tables) → is_over_in q ≡ true → visit_call_f q ≡ q
unfolding visit_call_f
over_unchanged q e = rw e
