-- Request 4 of document 02: in a switch, too, a using has the letter of its own declaration. The rewrite of before is kept here, for this claim
-- alone.
-- Assumes nothing.
use Rattle.std.specs.Prelude.{if◌then◌else◌, ◌≡◌, refl, Bool, true, false, ◌||◌, ℕ, zero, suc, eqb}
use Rattle.meaning.specs.Numbers.Tag
use Rattle.meaning.specs.Numbers.Kind
use Rattle.meaning.specs.Tree.{Head, hd, Forest, none, more, one, Node, single, ◌&◌}
use Rattle.meaning.specs.Shapes.{declaration}
use Rattle.meaning.specs.Scoping.{Store, Change, ◌>>=◌, ◌>>◌, create_child_scope, change_scope_parent}
use Rattle.meaning.specs.HelperLoader.{helper_load}
use Rattle.meaning.specs.Statements.{
  is_using,
  is_await_using,
  any_await_using,
  letter_if,
  wrap_initializer,
  wrap_initializers,
  as_taken_up,
  take_up,
  make_context,
  create_catch_clause,
  create_finally_block,
  create_try_stmt,
}
use Rattle.meaning.specs.Contexts.{any_case_await_using, take_up_cases, transform_switch_statement}

-- ---- before: the letter follows needs_await so far

unfoldable pub take_up_before : ℕ → Bool → Forest → Forest
take_up_before ctx needs_await none = none
take_up_before ctx needs_await (more h k r) =
    let awaits = needs_await || is_await_using h in
    let rest = take_up_before ctx awaits r in
    if is_using h then more (as_taken_up h) (wrap_initializers (letter_if awaits) ctx k) rest else more h k rest

unfoldable pub take_up_cases_before : ℕ → Bool → Forest → Forest
take_up_cases_before ctx needs_await none = none
take_up_cases_before ctx needs_await (more h k r) =
    if eqb h.tag Tag.Case then more h (take_up_before ctx needs_await k) (take_up_cases_before ctx (needs_await || any_await_using k) r)
    else more h k (take_up_cases_before ctx needs_await r)

-- `transform_switch_statement`, by what it makes of the children with a context, and by whether the release is awaited
unfoldable pub switch_by : (ℕ → Forest → Forest) → (Forest → Bool) → ℕ → Head → Forest → Change Node
switch_by cases awaited cur h k = do
  ctx ← make_context cur
  scope ← create_child_scope cur 0
  change_scope_parent h.a scope
  helper ← helper_load cur
  create_try_stmt scope (declaration Kind.Var ctx helper & one h (cases ctx k)) ctx cur (awaited k)

abbrev pub switch_before : ℕ → Head → Forest → Change Node
switch_before = switch_by (λ ctx k. take_up_cases_before ctx false k) any_case_await_using

-- ---- without letters

-- a tree, the letter of each Call made 0
unfoldable pub unlettered : Forest → Forest
unlettered none = none
unlettered (more h k r) = more (if eqb h.tag Tag.Call then hd Tag.Call 0 h.b h.c else h) (unlettered k) (unlettered r)

initializer_same : (f : Forest) (l l' ctx m : ℕ) → unlettered (wrap_initializer l ctx m f) ≡ unlettered (wrap_initializer l' ctx m f)
unfolding unlettered wrap_initializer ◌&◌
initializer_same none l l' ctx m = refl
initializer_same (more h k r) l l' ctx zero = refl
initializer_same (more h k r) l l' ctx (suc m) = rw (initializer_same r l l' ctx m)

declarator_same : (b : Bool) (k : Forest) (l l' ctx m : ℕ)
    → unlettered (if b then wrap_initializer l ctx m k else k) ≡ unlettered (if b then wrap_initializer l' ctx m k else k)
declarator_same true k l l' ctx m = initializer_same k l l' ctx m
declarator_same false k l l' ctx m = refl

initializers_same : (f : Forest) (l l' ctx : ℕ) → unlettered (wrap_initializers l ctx f) ≡ unlettered (wrap_initializers l' ctx f)
unfolding unlettered wrap_initializers
initializers_same none l l' ctx = refl
initializers_same (more h k r) l l' ctx =
    rw (declarator_same (eqb h.tag Tag.Declarator) k l l' ctx h.b, initializers_same r l l' ctx)

using_same : (b : Bool) (h : Head) (k r r' : Forest) (l l' ctx : ℕ) → unlettered r ≡ unlettered r'
    → unlettered (if b then more (as_taken_up h) (wrap_initializers l ctx k) r else more h k r)
    ≡ unlettered (if b then more (as_taken_up h) (wrap_initializers l' ctx k) r' else more h k r')
unfolding unlettered
using_same true h k r r' l l' ctx e = rw (initializers_same k l l' ctx, e)
using_same false h k r r' l l' ctx e = rw e

list_same : (f : Forest) (ctx : ℕ) (needs_await : Bool) → unlettered (take_up ctx f) ≡ unlettered (take_up_before ctx needs_await f)
unfolding take_up take_up_before
list_same none ctx needs_await = refl
list_same (more h k r) ctx needs_await =
    let awaits = needs_await || is_await_using h in
    using_same (is_using h) h k _ _ (letter_if (is_await_using h)) (letter_if awaits) ctx (list_same r ctx awaits)

case_same : (b : Bool) (h : Head) (k r r₁ r₂ : Forest) (ctx : ℕ) (needs_await : Bool) → unlettered r ≡ unlettered r₁ → unlettered r ≡ unlettered r₂
    → unlettered (more h (if b then take_up ctx k else k) r)
    ≡ unlettered (if b then more h (take_up_before ctx needs_await k) r₁ else more h k r₂)
unfolding unlettered
case_same true h k r r₁ r₂ ctx needs_await e d = rw (list_same k ctx needs_await, e)
case_same false h k r r₁ r₂ ctx needs_await e d = rw d

cases_same : (f : Forest) (ctx : ℕ) (needs_await : Bool) → unlettered (take_up_cases ctx f) ≡ unlettered (take_up_cases_before ctx needs_await f)
unfolding take_up_cases take_up_cases_before
cases_same none ctx needs_await = refl
cases_same (more h k r) ctx needs_await =
    case_same (eqb h.tag Tag.Case) h k _ _ _ ctx needs_await (cases_same r ctx (needs_await || any_await_using k)) (cases_same r ctx needs_await)

-- ---- the rewrite

-- A rewrite of a Switch makes the same rows as the one of before, and the same tree but for letters; its Step is the same.
abbrev pub ButLetters : (ℕ → Head → Forest → Change Node) → Type 0
ButLetters switch =
    (cur : ℕ) (h : Head) (k : Forest) (st : Store)
    → ((switch cur h k st).1 ≡ (switch_before cur h k st).1)
    × (unlettered (single (switch cur h k st).0) ≡ unlettered (single (switch_before cur h k st).0))

pub letters_alone : ButLetters transform_switch_statement
unfolding transform_switch_statement switch_by create_try_stmt create_catch_clause create_finally_block unlettered ◌&◌
letters_alone cur h k st = (refl, rw (cases_same k (make_context cur st).0 false))
