-- The figures of a tally, summed in parts.
-- Assumes nothing.
use mathlib.Core.Path.{◌≡◌}
use Prim.Native.Nat.{ℕ, ◌+◌, ◌*◌}
use native.Mathlib.Omega.{arith}
use Rattle.meaning.specs.File.{settings_bytes, scope_bytes, symbol_bytes}
use Rattle.meaning.specs.Charges.{import_bytes}
use Rattle.figures.specs.Tally.{import_records, tally_figures}
use Rattle.figures.specs.declared.tally.Tally.{Tally}
use Rattle.figures.specs.declared.FinalFigures.{FinalFigures}
use Rattle.figures.specs.Figures.{helper_f, import_f, final_f}

-- what each part of the sums is
pub record Parts (mode esm : ℕ) (t : Tally) (contexts helper import cb fb ib cr fr ir scopes cs is : ℕ) : Type 0 where
  pub are_contexts : contexts ≡ t.blocks + t.parts
  pub is_helper : helper ≡ helper_f mode contexts
  pub is_import : import ≡ import_f mode esm contexts
  pub context_bytes_lem : cb ≡ t.bytes + 130 * t.blocks + 144 * t.parts + 9 * t.wrapped
  pub for_of_bytes_lem : fb ≡ 39 * t.for_ofs + 53 * t.for_of_blocks + 14 * t.programs
  pub item_bytes : ib ≡ 34 * t.classes + 45 * t.exports + 4 * t.declarations + 7 * t.names
  pub context_records : cr ≡ t.records + 11 * t.blocks + 12 * t.parts + t.wrapped
  pub for_of_records_lem : fr ≡ 4 * t.for_ofs + 5 * t.for_of_blocks + t.programs
  pub item_records : ir ≡ 3 * t.classes + 4 * t.exports + t.names
  pub new_scopes_lem : scopes ≡ 3 * t.blocks + 4 * t.parts + t.for_of_blocks + t.programs
  pub context_symbols_lem : cs ≡ 2 * t.blocks + 2 * t.parts + t.for_ofs
  pub item_symbols_lem : is ≡ t.for_of_blocks + t.classes + t.exports

pub final_is : {mode esm : ℕ} {t : Tally} {contexts helper import cb fb ib cr fr ir ns cs is : ℕ} (scopes symbols : ℕ)
    → Parts mode esm t contexts helper import cb fb ib cr fr ir ns cs is
    → ◌≡◌ {A = FinalFigures}
    (record {
      records = cr + fr + ir + import_records * import;
      scopes = scopes + ns;
      symbols = symbols + (cs + is) + helper;
      contexts = contexts;
      bytes = settings_bytes + scope_bytes * scopes + symbol_bytes * symbols + (cb + fb + ib) + symbol_bytes * helper + import_bytes * import;
    })
    (final_f mode esm scopes symbols t)
unfolding final_f tally_figures
final_is {mode} {esm} {t} {contexts} {helper} {import} {cb} {fb} {ib} {cr} {fr} {ir} {ns} {cs} {is} scopes symbols p =
    let x = final_f mode esm scopes symbols t in
    let h : helper ≡ helper_f mode (t.blocks + t.parts) = rw p.are_contexts at p.is_helper in
    let j : import ≡ import_f mode esm (t.blocks + t.parts) = rw p.are_contexts at p.is_import in
    let records : cr + fr + ir + import_records * import ≡ x.records = omega arith in
    let scopes' : scopes + ns ≡ x.scopes = omega arith in
    let symbols' : symbols + (cs + is) + helper ≡ x.symbols = omega arith in
    let bytes : settings_bytes + scope_bytes * scopes + symbol_bytes * symbols + (cb + fb + ib) + symbol_bytes * helper + import_bytes * import ≡ x.bytes = omega arith in
    λ i. record { records = records i; scopes = scopes' i; symbols = symbols' i; contexts = p.are_contexts i; bytes = bytes i }
