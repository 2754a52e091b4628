-- The file with what is stored of a text that is being read.
-- Assumes nothing.
use Rattle.std.specs.Prelude.{if◌then◌else◌, ◌≡◌, refl, Bool, true, false, List, [], ◌∷◌, ◌++◌, ℕ, suc, ◌+◌, ◌*◌, ◌-◌, ◌/◌, ◌%◌, ◌<◌, eqb, length, get_or, set, None, Some, unwrap_or}
use Rattle.std.proofs.Common.{sym, ap, ◌∙◌, arith, eqb-true}
use Rattle.std.proofs.lemmas.List.Edits.{sets}
use Rattle.std.proofs.lemmas.List.{set_comm}
use Rattle.meaning.specs.File.{two_bytes}
use Rattle.spec_laws.specs.Trees.{two_length, sets_++}
use Rattle.notation.specs.Notation.{Part, space, is_digit, is_space, field_from, numbered, fielded, dotted, after}
use Rattle.notation.specs.Spots.{Reads}
use Rattle.notation.specs.declared.Spot.{Spot}

-- a field whose length is not stored yet
unfoldable pub opened : List ℕ → ℕ → List ℕ → List ℕ
opened out at [] = out
opened out at (t ∷ ns) = sets (set out at (t % 256)) (at + 3) (two_bytes ns)

-- what is stored so far
unfoldable pub file_of : List ℕ → Part → List ℕ
file_of out p = opened (sets out 0 p.bytes) (length p.bytes) p.numbers

-- ---- stores

-- a store before others may come after them
set_before : (xs l : List ℕ) (i j a : ℕ) → i < j → set (sets l j xs) i a ≡ sets (set l i a) j xs
set_before [] l i j a h = refl
set_before (x ∷ xs) l i j a h =
    set_before xs (set l j x) i (suc j) a (omega arith)
    ∙ rw (set_comm l j i x a (λ e. omega arith))

two_++ : (ns ms : List ℕ) → two_bytes (ns ++ ms) ≡ two_bytes ns ++ two_bytes ms
unfolding two_bytes
two_++ [] ms = refl
two_++ (n ∷ ns) ms = rw (two_++ ns ms)

-- ---- a number more

opened_tag : (out ns : List ℕ) (at v : ℕ) → length ns ≡ 0 → opened out at (ns ++ v ∷ []) ≡ set (opened out at ns) at (v % 256)
unfolding opened two_bytes
opened_tag out [] at v h = refl
opened_tag out (n ∷ ns) at v h = absurd (omega arith)

opened_number : (out ns : List ℕ) (at k v : ℕ) → k ≡ length ns → 0 < k
    → opened out at (ns ++ v ∷ []) ≡ sets (opened out at ns) (at + 1 + 2 * k) (two_bytes (v ∷ []))
unfolding opened
opened_number out [] at k v e h = absurd (omega arith)
opened_number out (t ∷ ns) at k v e h =
    let d : at + 1 + 2 * k ≡ at + 3 + length (two_bytes ns) = omega (arith, two_length ns) in
    rw (two_++ ns (v ∷ []), d) (sets_++ (two_bytes ns) (two_bytes (v ∷ [])) (set out at (t % 256)) (at + 3))

-- ---- a field

opened_field : (out ns : List ℕ) (at k : ℕ) → k ≡ length ns → 0 < k
    → sets (opened out at ns) (at + 1) (two_bytes (2 * (k - 1) % 65536 ∷ [])) ≡ sets out at (field_from ns)
unfolding opened field_from two_bytes
opened_field out [] at k e h = absurd (omega arith)
opened_field out (t ∷ ns) at k e h =
    let one : at + 1 ≡ suc at = omega arith in
    let three : at + 3 ≡ suc (suc (suc at)) = omega arith in
    let d : k - 1 ≡ length ns = omega arith in
    let n = 2 * length ns % 65536 in
    let o = set out at (t % 256) in
    rw (one, three, d, set_before (two_bytes ns) o (suc at) (suc (suc (suc at))) (n / 256) (omega arith))
    (set_before (two_bytes ns) (set o (suc at) (n / 256)) (suc (suc at)) (suc (suc (suc at))) (n % 256) (omega arith))

opened_none : (out ns : List ℕ) (at : ℕ) → length ns ≡ 0 → opened out at ns ≡ sets out at (field_from ns)
unfolding opened field_from
opened_none out [] at h = refl
opened_none out (t ∷ ns) at h = absurd (omega arith)

opened_byte : (out ns : List ℕ) (at : ℕ) → length ns ≡ 1 → opened out at ns ≡ sets out at (get_or ns 0 0 % 256 ∷ [])
unfolding opened two_bytes
opened_byte out [] at h = absurd (omega arith)
opened_byte out (t ∷ []) at h = refl
opened_byte out (t ∷ n ∷ ns) at h = absurd (omega arith)

-- bytes behind others, with no field open
behind : (bs xs out : List ℕ) → sets (sets out 0 bs) (length bs) xs ≡ opened (sets out 0 (bs ++ xs)) (length (bs ++ xs)) []
unfolding opened
behind bs xs out =
    let e : 0 + length bs ≡ length bs = omega arith in
    sym (rw e at (sets_++ bs xs out 0))

-- ---- THE FILE, behind each thing that a character may end

module _ (out : List ℕ) (p : Part) (s : Spot) (h : Reads p s) where
  pub file_same : s.value ≡ None → file_of out p ≡ file_of out (numbered p)
  unfolding file_of numbered
  file_same e = rw (← h.digits_is, e)

  -- the value of the digits that are read
  value_read : (v : ℕ) → s.value ≡ Some v → v ≡ p.value
  value_read v e = sym (ap (λ o. unwrap_or o 0) e) ∙ h.value_is

  pub file_tag : (v : ℕ) → s.value ≡ Some v → s.count ≡ 0 → set (file_of out p) s.at (v % 256) ≡ file_of out (numbered p)
  unfolding file_of numbered
  file_tag v e z =
      rw (← h.digits_is, e, h.at_is, value_read v e)
      (sym (opened_tag (sets out 0 p.bytes) p.numbers (length p.bytes) p.value (sym h.count_is ∙ z)))

  pub file_number : (v : ℕ) → s.value ≡ Some v → 0 < s.count
      → sets (file_of out p) (s.at + 1 + 2 * s.count) (two_bytes (v ∷ [])) ≡ file_of out (numbered p)
  unfolding file_of numbered
  file_number v e z =
      rw (← h.digits_is, e, h.at_is, value_read v e)
      (sym (opened_number (sets out 0 p.bytes) p.numbers (length p.bytes) s.count p.value h.count_is z))

  pub file_none : s.count ≡ 0 → file_of out p ≡ file_of out (fielded p)
  unfolding file_of fielded
  file_none z =
      opened_none (sets out 0 p.bytes) p.numbers (length p.bytes) (sym h.count_is ∙ z)
      ∙ behind p.bytes (field_from p.numbers) out

  pub file_field : 0 < s.count
      → sets (file_of out p) (s.at + 1) (two_bytes (2 * (s.count - 1) % 65536 ∷ [])) ≡ file_of out (fielded p)
  unfolding file_of fielded
  file_field z =
      rw h.at_is
      (opened_field (sets out 0 p.bytes) p.numbers (length p.bytes) s.count h.count_is z
      ∙ behind p.bytes (field_from p.numbers) out)

dotted_by : (out : List ℕ) (p : Part) (b : Bool) → eqb (length p.numbers) 1 ≡ b → file_of out p ≡ file_of out (dotted p)
unfolding file_of dotted
dotted_by out p true e =
    rw e
    (opened_byte (sets out 0 p.bytes) p.numbers (length p.bytes) (eqb-true _ _ e)
    ∙ behind p.bytes (get_or p.numbers 0 0 % 256 ∷ []) out)
dotted_by out p false e = rw e

-- a dot stores nothing
pub file_rest : (out : List ℕ) (p : Part) (b : Bool) → file_of out p ≡ file_of out (if b then dotted p else p)
file_rest out p true = dotted_by out p _ refl
file_rest out p false = refl

-- a space leaves no field open
pub file_end : (out : List ℕ) (p : Part) → file_of out (after space p) ≡ sets out 0 (after space p).bytes
unfolding file_of opened after is_digit is_space fielded
file_end out p = refl
