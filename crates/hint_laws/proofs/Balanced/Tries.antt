-- The Try that a context makes counts what its list counts, and a list that is taken up counts what it counted.
-- Assumes nothing.
use Rattle.std.specs.Prelude.{if◌then◌else◌, ◌≡◌, Bool, List, ℕ, ◌+◌, ◌<◌, eqb}
use Rattle.std.proofs.Common.{◌∙◌}
use Rattle.std.proofs.Math.Bool.{true, false}
use native.Mathlib.Omega.{arith}
use Rattle.meaning.specs.Numbers.Kind
use Rattle.meaning.specs.Tree.{Forest, single, ◌&◌}
use Rattle.meaning.specs.Scoping.{Store}
use Rattle.meaning.specs.Shapes.{declaration, load}
use Rattle.meaning.specs.HelperLoader.{load_runtime, load_external, helper_load}
use Rattle.meaning.specs.Statements.{is_using, take_up, create_catch_clause, create_finally_block, create_try_stmt}
use Rattle.charge_laws.proofs.Counts.TakenUp.{none_left}
use Rattle.hint_laws.specs.Hints.{sum_over, of_initializer, over_declarators, usings_in, asks_for, called, calls_in}
use Rattle.hint_laws.proofs.Outline.{no_usings}
use Rattle.hint_laws.specs.Balanced.Balance.{letter_in, waits, done_in, gives, balance_of}
use Rattle.hint_laws.proofs.Balanced.Sums.{own_letter, in_list}
use Rattle.hint_laws.proofs.Balanced.Lists.{taken_kept, taken_done}

module _ (w : List ℕ → List ℕ → ℕ → ℕ) (read : ℕ) where
  -- a list with what it counts for its record
  abbrev pub listed : Forest → ℕ
  listed f = in_list w read f + balance_of w read f

  -- the context's declaration before a list
  loaded : (ctx form y : ℕ) (list : Forest) → listed (declaration Kind.Var ctx (load form y) & list) ≡ listed list
  unfolding balance_of sum_over waits gives asks_for calls_in usings_in done_in over_declarators of_initializer called is_using ◌&◌
  loaded ctx form y list = omega arith

  loaded_if : (b : Bool) (ctx cur : ℕ) (st : Store) (list : Forest)
      → listed (declaration Kind.Var ctx ((if b then load_runtime else load_external cur) st).0 & list) ≡ listed list
  unfolding load_runtime load_external
  loaded_if true ctx cur st list = loaded ctx 0 _ list
  loaded_if false ctx cur st list = loaded ctx 1 _ list

  declared_list : (ctx cur : ℕ) (st : Store) (list : Forest) → listed (declaration Kind.Var ctx (helper_load cur st).0 & list) ≡ listed list
  unfolding helper_load
  declared_list ctx cur st list = loaded_if (eqb st.mode 0) ctx cur st list

  made_try : (scope : ℕ) (list : Forest) (ctx parent : ℕ) (needs_await : Bool) (st : Store)
      → balance_of w read (single (create_try_stmt scope list ctx parent needs_await st).0) ≡ listed list
  unfolding create_try_stmt create_catch_clause create_finally_block balance_of sum_over waits gives asks_for calls_in usings_in done_in is_using letter_in own_letter ◌&◌
  made_try scope list ctx parent needs_await st = omega arith

  pub try_listed : (scope : ℕ) (list : Forest) (ctx cur ctx' parent : ℕ) (needs_await : Bool) (st st' : Store)
      → balance_of w read (single (create_try_stmt scope (declaration Kind.Var ctx (helper_load cur st).0 & list) ctx' parent needs_await st').0)
      ≡ listed list
  try_listed scope list ctx cur ctx' parent needs_await st st' =
      made_try scope (declaration Kind.Var ctx (helper_load cur st).0 & list) ctx' parent needs_await st' ∙ declared_list ctx cur st list

  pub taken_listed : (ctx : ℕ) (f : Forest) → read < ctx → listed (take_up ctx f) ≡ listed f
  taken_listed ctx f new =
      omega (
        arith,
        no_usings w own_letter (take_up ctx f) (none_left f ctx),
        taken_done w read ctx new f,
        taken_kept w read f ctx,
      )
