-- Rows on their way through the gap, with the rows of a store: what one rewrite after another does to them.
-- Assumes nothing.
use Rattle.std.specs.Prelude.{◌≡◌, List, ◌∷◌, ◌++◌, Bool, ℕ, zero, suc, ◌+◌, ◌-◌, ◌≤◌, length}
use Rattle.std.proofs.Common.{ap, ◌∙◌, append_assoc, zero-add, suc-add, add_assoc, arith, length-append}
use Rattle.meaning.specs.Scoping.{Store}
use Rattle.charge_laws.proofs.Growth.Rows.{Grown}
use Rattle.tables.specs.Stream.{Buf}
use Rattle.tables.specs.declared.Row.{Row}
use Rattle.representation.specs.Gap.Cells.{gapped}
use Rattle.representation.specs.Store.Held.{scope_cells, symbol_cells, ctx_of}
use Rattle.representation.proofs.Store.Agreed.{Agreed}
use Rattle.scoping_laws.specs.Created.Held.{free_scopes, free_symbols, Room}
use Rattle.rewrite_contexts.specs.Tries.{PartingF, parting_f}
use Rattle.scoping_laws.proofs.Itemized.Program.{free_more as symbols_more}

-- the rows of a store, and a table with a gap: the rows before it, g free ones, and those behind it
abbrev pub beside : List ℕ → List ℕ → Store → Buf → PartingF
beside zs zy st b = parting_f b (scope_cells st.scopes zs) (symbol_cells st.symbols st.as_read zy) (ctx_of st)

abbrev pub passing : List ℕ → List ℕ → List ℕ → List Row → ℕ → List Row → Store → PartingF
passing z zs zy a g v st = beside zs zy st (gapped z a g v)

-- ---- a store and a later one

abbrev pub new_scopes : Store → Store → ℕ
new_scopes st st' = length st'.scopes - length st.scopes

abbrev pub new_symbols : Store → Store → ℕ
new_symbols st st' = length st'.symbols - length st.symbols

-- nothing is lost
abbrev pub Later : Store → Store → Type 0
Later st st' =
    (length st.scopes ≤ length st'.scopes) × (length st.symbols ≤ length st'.symbols) × (st.contexts ≤ st'.contexts)

pub grown_later : {used : Bool} {s y c : ℕ} {st st' : Store} → Grown used s y c st st' → Later st st'
grown_later g = omega (arith, g.scopes, g.symbols, g.contexts)

room_earlier : (st st' : Store) → Later st st' → Room st' → Room st
room_earlier st st' l r = omega arith

pub none_new : (n : ℕ) → n - n ≡ 0
none_new n = omega arith

pub scopes_more : (m n : ℕ) (z : List ℕ) → free_scopes (m + n) z ≡ free_scopes m (free_scopes n z)
unfolding free_scopes
scopes_more zero n z = rw zero-add
scopes_more (suc m) n z = rw (suc-add m n) (ap (λ (t : List ℕ). 0 ∷ 0 ∷ t) (scopes_more m n z))

-- ---- rewrites

-- The next rows w become w', and the store st becomes st': this takes m free rows, and the new scope and symbol rows.
pub record Rewrites (f : PartingF → PartingF) (m : ℕ) (w w' : List Row) (st st' : Store) : Type 0 where
  pub passes : (z zs zy : List ℕ) (a : List Row) (g : ℕ) (v : List Row) → Room st' → length a + (m + g) + length w ≤ 65535
      → f (passing z (free_scopes (new_scopes st st') zs) (free_symbols (new_symbols st st') zy) a (m + g) (w ++ v) st)
      ≡ passing z zs zy (a ++ w') g v st'
  pub longer : length w' ≡ length w + m
  pub later : Later st st'
  pub agreed : Agreed st'

-- ONE AFTER ANOTHER
pub rewrites_then : {f₁ f₂ : PartingF → PartingF} {m₁ m₂ : ℕ} {w₁ w₁' w₂ w₂' : List Row} {st₁ st₂ st₃ : Store}
    → Rewrites f₁ m₁ w₁ w₁' st₁ st₂ → Rewrites f₂ m₂ w₂ w₂' st₂ st₃
    → Rewrites (λ s. f₂ (f₁ s)) (m₁ + m₂) (w₁ ++ w₂) (w₁' ++ w₂') st₁ st₃
rewrites_then {f₁} {f₂} {m₁} {m₂} {w₁} {w₁'} {w₂} {w₂'} {st₁} {st₂} {st₃} p q =
    let l = length-append w₁ w₂ in
    let s : new_scopes st₁ st₃ ≡ new_scopes st₁ st₂ + new_scopes st₂ st₃ = omega (arith, p.later, q.later) in
    let y : new_symbols st₁ st₃ ≡ new_symbols st₁ st₂ + new_symbols st₂ st₃ = omega (arith, p.later, q.later) in
    record {
      passes =
          λ z zs zy a g v room fits.
          ap (λ (x : PartingF). f₂ (f₁ x))
          (rw (
            s,
            y,
            scopes_more (new_scopes st₁ st₂) (new_scopes st₂ st₃) zs,
            symbols_more (new_symbols st₁ st₂) (new_symbols st₂ st₃) zy,
            add_assoc m₁ m₂ g,
            append_assoc w₁ w₂ v,
          ))
          ∙ ap f₂ (p.passes z _ _ a (m₂ + g) (w₂ ++ v) (room_earlier st₂ st₃ q.later room) (omega arith))
          ∙ q.passes z zs zy (a ++ w₁') g v room (omega (arith, length-append a w₁', p.longer))
          ∙ rw (append_assoc a w₁' w₂');
      longer = omega (arith, length-append w₁' w₂', p.longer, q.longer);
      later = omega (arith, p.later, q.later);
      agreed = q.agreed;
    }
