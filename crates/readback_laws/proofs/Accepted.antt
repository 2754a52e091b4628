-- An accepted file and its walk, read back: the records have tags of records, and the tree that is read is the tree that the bytes say.
-- Assumes nothing.
use Rattle.std.specs.Prelude.{Ok, if◌then◌else◌, ◌≡◌, refl, Bool, true, false, List, [], ℕ, suc, ltb}
use Rattle.std.proofs.Common.{sym, ap, subst, ◌∙◌, le-leb}
use Rattle.meaning.specs.Numbers.Tag
use Rattle.meaning.specs.Tree.{Forest, none, more, ◌&◌}
use Rattle.meaning.specs.File.{File, own_numbers}
use Rattle.meaning.specs.Grammar.{place_of, head_of}
use Rattle.meaning.specs.Reading.{read_file}
use Rattle.meaning.specs.Walk.{visits, store_of, start, plug, tree_at}
use Rattle.meaning.specs.ImportLine.{completed}
use Rattle.meaning.specs.declared.Place.{Place}
use Rattle.meaning.specs.declared.Place.TheVariants.{Program}
use Rattle.meaning.specs.declared.Field.{Field}
use Rattle.spec_laws.specs.Trees.{Bytes}
use Rattle.spec_laws.specs.Calls.{start_complete}
use Rattle.charge_laws.proofs.Counts.Figures.{settled}
use Rattle.charge_laws.proofs.Fit.Placed.{Placed, accepted_placed}
use Rattle.bound_laws.specs.Numbers.{TreeWithin}
use Rattle.bound_laws.specs.Completed.{calls_fit}
use Rattle.readback_laws.specs.ReadBack.{Tagged}
use Rattle.readback_laws.specs.Decoded.{tree_in}
use Rattle.readback_laws.proofs.Mapped.{mapped}
use Rattle.readback_laws.proofs.Back.{plain_head, plain, Childless, tree_back}
use Rattle.readback_laws.proofs.Childless.{calls_childless}
use Rattle.readback_laws.proofs.Written.{file_written}

-- ---- tags

within_tagged : (f : Forest) → TreeWithin 65535 f → Tagged f
within_tagged none p = tt
within_tagged (more h k r) p = (le-leb h.tag Tag.Step p.0.0, within_tagged k p.1, within_tagged r p.2)

-- Wherever calls for visits lead, all records have tags of records.
pub calls_tagged : (b : List ℕ) (f : File) (k : ℕ) → Bytes b → read_file b ≡ Ok f → Tagged (tree_at (completed (visits k (start f))))
calls_tagged b f k bytes e = within_tagged (tree_at (completed (visits k (start f)))) (calls_fit b f k bytes e)

-- ---- the tree just read

-- what holds wherever calls lead holds of it
pub just_read : (P : Forest → Type 0) (f : File) → P (tree_at (completed (visits 0 (start f)))) → P f.tree
unfolding visits start plug ◌&◌
just_read P f p = subst P (ap tree_at (start_complete f) ∙ (settled [] none f.tree (store_of f)).0) p

pub read_tagged : (b : List ℕ) (f : File) → Bytes b → read_file b ≡ Ok f → Tagged f.tree
read_tagged b f bytes e = just_read Tagged f (calls_tagged b f 0 bytes e)

-- it has no numbers that are not written
twice : (b : Bool) (n : ℕ) → (if b then if b then n else 0 else 0) ≡ (if b then n else 0)
twice true n = refl
twice false n = refl

plain_head_lem : (x : Field) → plain_head (head_of x) ≡ head_of x
unfolding plain_head head_of
plain_head_lem x =
    let own = own_numbers x.tag in
    rw (twice (ltb 0 own) x.a, twice (ltb 1 own) x.b, twice (ltb 2 own) x.c)

plain_read : (syms : ℕ) (f : Forest) (place : ℕ → Place) (i : ℕ) → Placed syms place i f → plain f ≡ f
unfolding mapped
plain_read syms none place i q = refl
plain_read syms (more h k r) place i q =
    let e : plain_head h ≡ h = ap plain_head q.1.head ∙ plain_head_lem q.0 ∙ sym q.1.head in
    rw (e, plain_read syms k (place_of (place i) q.0) 0 q.2, plain_read syms r place (suc i) q.3)

-- THE TREE OF AN ACCEPTED FILE is the one that its bytes say.
pub tree_read : (b : List ℕ) (f : File) → Bytes b → read_file b ≡ Ok f → tree_in b ≡ f.tree
tree_read b f bytes e =
    let q = accepted_placed b f e in
    ap tree_in (sym (file_written b f bytes e))
    ∙ tree_back f (read_tagged b f bytes e) (just_read Childless f (calls_childless b f 0 e))
    ∙ plain_read q.0 f.tree (λ _. Program) 0 q.1
