-- What the numbers of a start and of a visit tell.
-- Assumes nothing.
use Rattle.std.specs.Prelude.{◌≡◌, refl, true, false, cond, List, ℕ, Ok, Err}
use Rattle.std.proofs.Common.{ap}
use Rattle.path.specs.declared.Walk.{Walk}
use Rattle.path.specs.Path.{Tables}
use Rattle.meaning.specs.declared.Refusal.{Refusal}
use Rattle.walk.specs.Visit.{is_over_f}
use Rattle.desk_numbers.specs.Numbers.{walk_in, walk_after, visited_numbers}

-- ---- `desk_start`: the walk begins, or its numbers are as they were

pub start_ready : (old : List ℕ) (w : Walk) → walk_in (walk_after old (Ok w)) ≡ w
start_ready old w = refl

pub start_refused : (old : List ℕ) (r : Refusal) → walk_after old (Err r) ≡ old
start_refused old r = refl

-- ---- `desk_visit`: 1 says that the walk is over

pub visit_over : (t : Tables) → is_over_f t.records t.walk ≡ true → (visited_numbers t).over ≡ 1
visit_over t e = ap (λ b. cond b 1 0) e

pub visit_goes_on : (t : Tables) → is_over_f t.records t.walk ≡ false → (visited_numbers t).over ≡ 0
visit_goes_on t e = ap (λ b. cond b 1 0) e
