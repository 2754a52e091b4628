-- The table of lengths is 01's: one test computed over the whole table, which is the rule at each entry.
-- Assumes nothing.
use Rattle.std.specs.Prelude.{◌≡◌, refl, List, [], ◌∷◌, ℕ, ◌≤◌, get_or}
use Rattle.std.proofs.Common.{ap, ◌∙◌, arith, ne_eqb}
use Rattle.meaning.specs.Numbers.Tag
use Rattle.meaning.specs.File.{numbers_of}
use Rattle.fields.specs.Lengths.{lengths, length_of}
use Rattle.fields.specs.Ranges.{values, values_entry, values_behind, above, below_or_not}

-- the test
lengths_test : lengths ≡ values length_of 0 43
unfolding lengths numbers_of
lengths_test = refl

-- no tag is above 42
none_behind : (t : ℕ) → 43 ≤ t → 0 ≡ length_of t
unfolding numbers_of
none_behind t h =
    rw (
      above (Tag.Body ∷ Tag.DefaultExport ∷ Tag.ExportedDeclaration ∷ Tag.Read ∷ Tag.Name ∷ []) 43 t refl h,
      above
          (Tag.Program ∷ Tag.Block ∷ Tag.Label ∷ Tag.Declaration ∷ Tag.For ∷ Tag.Switch ∷ Tag.Case ∷ Tag.Try ∷ Tag.StaticBlock ∷ Tag.Specifier
          ∷ Tag.Expression ∷ Tag.Load ∷ Tag.Settings ∷ Tag.Scope ∷ [])
          43 t refl h,
      above (Tag.Plain ∷ Tag.Declarator ∷ Tag.ForOf ∷ Tag.ModuleLine ∷ Tag.Call ∷ Tag.Step ∷ []) 43 t refl h,
      above (Tag.Catch ∷ Tag.Function ∷ Tag.Class ∷ []) 43 t refl h,
      ne_eqb t Tag.Symbol (λ e. omega arith),
    )

pub lengths_behind : (t : ℕ) → 43 ≤ t → get_or lengths t 0 ≡ 0
lengths_behind t h = ap (λ (table : List ℕ). get_or table t 0) lengths_test ∙ values_behind length_of 0 43 t h

-- the rule, at each entry and behind the last
pub lengths_right : (t : ℕ) → get_or lengths t 0 ≡ length_of t
lengths_right t =
    below_or_not t 43
    (λ h. ap (λ (table : List ℕ). get_or table t 0) lengths_test ∙ values_entry length_of 0 43 t t (omega arith) h)
    (λ h. lengths_behind t h ∙ none_behind t h)
