-- The runtime helper is made at its first load.
-- Assumes nothing.
use Rattle.std.specs.Prelude.{if◌then◌else◌, ◌≡◌, refl, Bool, true, false, ◌&&◌, ℕ, ◌≤◌, length, eqb}
use Rattle.std.proofs.Common.{ap, arith, length-append}
use Rattle.std.proofs.Math.Dec.{eqb-suc-zero}
use Rattle.meaning.specs.Numbers.KnownName
use Rattle.meaning.specs.Numbers.SymbolFlag
use Rattle.meaning.specs.Tree.{Forest, size}
use Rattle.meaning.specs.File.{Symbol, symbol_row, field_bytes, numbers_of}
use Rattle.meaning.specs.Scoping.{Store, symbol_in, create_symbol}
use Rattle.meaning.specs.HelperLoader.{make_helper, load_runtime, load_external, helper_load}
use Rattle.meaning.specs.Charges.{record_bytes}
use Rattle.charge_laws.proofs.Growth.Names.{get_d_last}
use Rattle.charge_laws.proofs.Growth.Rows.{Grown}

-- its row
made_row : (st : Store)
    → (let st' = (make_helper st).1 in
    (st'.helper ≤ length st'.symbols) × ((symbol_in st' st'.helper).name ≡ KnownName.UsingCtx) × ((symbol_in st' st'.helper).made ≡ 1))
unfolding make_helper create_symbol
made_row st =
    let e = get_d_last st.symbols (symbol_row KnownName.UsingCtx (if eqb st.is_module 1 then SymbolFlag.Import else SymbolFlag.FunctionScoped) 1 1) in
    (simp length-append (omega arith), ap (λ (y : Symbol). y.name) e, ap (λ (y : Symbol). y.made) e)

-- at a Load, by the tests of mode and helper
runtime_grows : (b : Bool) (st : Store) → eqb st.mode 0 ≡ true → eqb st.helper 0 ≡ b
    → Grown true 0 0 0 st ((if b then make_helper else (λ (s : Store). (st.helper, s))) st).1
unfolding make_helper create_symbol
runtime_grows true st m e =
    record {
      scopes = omega arith;
      symbols = rw (m, e) (simp length-append);
      contexts = omega arith;
      helper = rw (m, e) (eqb-suc-zero (length st.symbols));
      mode = refl;
      is_module = refl;
      as_read = refl;
      row = λ r d. made_row st;
    }
runtime_grows false st m e =
    record {
      scopes = omega arith;
      symbols = rw (m, e) (omega arith);
      contexts = omega arith;
      helper = rw (m, e);
      mode = refl;
      is_module = refl;
      as_read = refl;
      row = λ r. r;
    }

and-true : (h : Bool) → h ≡ (h && true)
and-true true = refl
and-true false = refl

load_if : (b : Bool) (cur : ℕ) (st : Store) → eqb st.mode 0 ≡ b
    → Grown true 0 0 0 st ((if b then load_runtime else load_external cur) st).1
unfolding load_runtime load_external
load_if true cur st m = runtime_grows (eqb st.helper 0) st m refl
load_if false cur st m =
    record {
      scopes = omega arith;
      symbols = rw m (omega arith);
      contexts = omega arith;
      helper = rw m (and-true (eqb st.helper 0));
      mode = refl;
      is_module = refl;
      as_read = refl;
      row = λ r. r;
    }

pub load_grows : (cur : ℕ) (st : Store) → Grown true 0 0 0 st (helper_load cur st).1
unfolding helper_load
load_grows cur st = load_if (eqb st.mode 0) cur st refl

-- a load is one record of 7 bytes
abbrev Load : Forest → Type 0
Load f = (size f ≡ 1) × (record_bytes f ≡ 7)

load_one : (b : Bool) (cur : ℕ) (st : Store) → Load ((if b then load_runtime else load_external cur) st).0
unfolding load_runtime load_external size record_bytes field_bytes numbers_of
load_one true cur st = (refl, refl)
load_one false cur st = (refl, refl)

pub load_sized : (cur : ℕ) (st : Store) → Load (helper_load cur st).0
unfolding helper_load
load_sized cur st = load_one (eqb st.mode 0) cur st
