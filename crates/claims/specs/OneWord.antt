-- One word changed (02, request 13): what `figures` answers for the two files, and the rows to lend so that the change still fits.
-- Assumes nothing.
use Rattle.meaning.specs.Refusals.{Outcome, refused}
use Rattle.std.specs.Prelude.{Ok, Err, ◌≡◌, refl, true, ◌&&◌, List, [], ◌∷◌, ℕ, ◌+◌, ◌*◌, ◌/◌, ◌≤◌, length}
use Rattle.std.proofs.Math.Path.{ap, subst}
use Rattle.std.proofs.Common.{arith}
use Rattle.std.proofs.Math.Dec.{eqb}
use Rattle.meaning.specs.Numbers.Tag
use Rattle.meaning.specs.Numbers.Mode
use Rattle.meaning.specs.Tree.{one_of, hd, Forest, none, more, one}
use Rattle.meaning.specs.File.{File, written}
use Rattle.meaning.specs.Reading.{read_file}
use Rattle.meaning.specs.Charges.{Figures, figures, ◌⊕◌, call_bytes, import_bytes, initializers, final_figures}
use Rattle.meaning.specs.Lowering.{check_mode, check_file, figures_of, lowered_file, Written}
use Rattle.meaning.specs.Computing.{computing}
use Rattle.cases.specs.TableWord.{const_in_body, using_in_body, const_after_using, using_after_using}
use Rattle.spec_laws.specs.Tags.{other_than}
use Rattle.spec_laws.specs.Bools.{at_most}
use Rattle.figures.specs.Figures.{shown_figures}
use Rattle.start.specs.Start.{lent_in}
use Rattle.lowering.specs.Lower.{finished, zeros_for, written_over, lower_of, lower_f}
use Rattle.one_word_laws.specs.Changed.{here, behind, in_list_lem, inside, beside, OneWord, most_records, most_scopes, most_symbols, most_bytes, most_import, in_runtime_module, Growth}
use Rattle.one_word_laws.proofs.Final.{half_initializers, final_grown}
use Rattle.claims.specs.Refusals.Small.{Enough, enough_admitted, enough_output}

-- ---- what is claimed

-- Two files that reading accepts, in runtime or external mode, differ in one word, in a Declaration with the children d.
pub record WordPair (bytes bytes' : List ℕ) (f f' : File) (d : Forest) : Type 0 where
  pub before : read_file bytes ≡ Ok f
  pub after : read_file bytes' ≡ Ok f'
  pub word : OneWord d f f'
  pub mode : one_of (Mode.Runtime ∷ Mode.External ∷ []) f.mode ≡ true

-- Whatever tells figures tells them of both, and the second grow as little as `Growth` says.
abbrev pub GrowsLittle : (List ℕ → Outcome Figures) → Type 0
GrowsLittle tells =
    (bytes bytes' : List ℕ) (f f' : File) (d : Forest) → WordPair bytes bytes' f f' d
    → (g : Figures) × (g' : Figures) × (tells bytes ≡ Ok g) × (tells bytes' ≡ Ok g') × Growth f d g g'

-- What to lend so that one word with n initializers may change: n + 14 record rows, 4 scope rows and 3 symbol rows more than the figures say, and
-- 9 * n + 173 bytes more of output.
abbrev pub with_room : ℕ → Figures → Figures
with_room n g =
    g ⊕ figures (n + (most_records + most_import)) most_scopes most_symbols 1 (call_bytes * n + (most_bytes + import_bytes))

-- ---- the figures

-- the checks after reading pass
mode_passes : (bytes : List ℕ) (f : File) → read_file bytes ≡ Ok f → one_of (Mode.Runtime ∷ Mode.External ∷ []) f.mode ≡ true
    → check_file bytes ≡ Ok f
unfolding check_file check_mode
mode_passes bytes f read mode = rw (read, other_than (Mode.Runtime ∷ Mode.External ∷ []) f.mode Mode.Inline mode refl)

told : (bytes : List ℕ) (f : File) → check_file bytes ≡ Ok f → figures_of bytes ≡ Ok (final_figures f)
unfolding figures_of
told bytes f e = rw e

module _ (bytes bytes' : List ℕ) (f f' : File) (d : Forest) (p : WordPair bytes bytes' f f' d) where
  passes_after : check_file bytes' ≡ Ok f'
  passes_after = mode_passes bytes' f' p.after (rw (← p.word.mode) p.mode)

  grows : Growth f d (final_figures f) (final_figures f')
  grows = final_grown d f f' p.word bytes' p.after

  told_before : figures_of bytes ≡ Ok (final_figures f)
  told_before = told bytes f (mode_passes bytes f p.before p.mode)

pub grows_little : GrowsLittle figures_of
grows_little bytes bytes' f f' d p =
    (final_figures f, final_figures f', told_before bytes bytes' f f' d p, told bytes' f' (passes_after bytes bytes' f f' d p), grows bytes bytes' f f' d p)

-- ---- the room

-- a call that is accepted: it writes the lowered file and answers its figures, the tables are 0, and the output behind the file is as it was
abbrev pub LowersTo : List ℕ → File → List ℕ → List ℕ → List ℕ → List ℕ → Type 0
LowersTo bytes f r s y o =
    lower_f bytes r s y o
    ≡ finished (Ok (shown_figures (final_figures f))) (zeros_for r) (zeros_for s) (zeros_for y) (written_over (written (lowered_file f)) o)

module _ (bytes bytes' : List ℕ) (f f' : File) (d : Forest) (p : WordPair bytes bytes' f f' d) (g : Figures) (answer : figures_of bytes ≡ Ok g) where
  answered : final_figures f ≡ g
  answered = let told = told_before bytes bytes' f f' d p in cc

  -- with room for n initializers
  pub room_enough : (r s y o : List ℕ) (n : ℕ) → initializers d ≤ n → Enough (lent_in r s y) (with_room n g) → (with_room n g).bytes ≤ length o
      → LowersTo bytes' f' r s y o
  unfolding lower_f
  room_enough r s y o n few rows long =
      let grown : Growth f d g (final_figures f') = subst (λ (x : Figures). Growth f d x (final_figures f')) answered (grows bytes bytes' f f' d p) in
      let imports = at_most (eqb f.mode Mode.Runtime && eqb f.is_module 1) in
      let admits = enough_admitted bytes' (lent_in r s y) f' (passes_after bytes bytes' f f' d p) (omega (arith, imports most_import)) in
      ap (λ (a : Outcome Written). lower_of a r s y o)
      (enough_output bytes' (lent_in r s y) (length o) f' admits (omega (arith, imports import_bytes)))

  -- there are never more than half as many as records
  pub half_enough : initializers d ≤ g.records / 2
  half_enough = omega (arith, ap (λ (x : Figures). x.records) answered, half_initializers d f f' p.word)

-- ---- the bounds are reached

-- each figure grows by as much as it may, and by as little
abbrev pub GrowsMost : File → Forest → Figures → Figures → Type 0
GrowsMost f d g g' =
    (g'.records ≡ g.records + (initializers d + most_records + in_runtime_module f most_import)) × (g'.scopes ≡ g.scopes + most_scopes)
    × (g'.symbols ≡ g.symbols + most_symbols) × (g'.contexts ≡ g.contexts + 1)
    × (g'.bytes ≡ g.bytes + (call_bytes * initializers d + most_bytes + in_runtime_module f import_bytes))

abbrev pub GrowsLeast : File → Forest → Figures → Figures → Type 0
GrowsLeast f d g g' =
    (g'.records ≡ g.records + initializers d) × (g'.scopes ≡ g.scopes) × (g'.symbols ≡ g.symbols) × (g'.contexts ≡ g.contexts)
    × (g'.bytes ≡ g.bytes + call_bytes * initializers d)

-- by a pair of files, with so many initializers
abbrev pub ReachedBy : (File → Forest → Figures → Figures → Type 0) → ℕ → List ℕ → List ℕ → Type 0
ReachedBy grow n bytes bytes' =
    (f : File) × (f' : File) × (d : Forest) × WordPair bytes bytes' f f' d × (initializers d ≡ n)
    × (g : Figures) × (g' : Figures) × (figures_of bytes ≡ Ok g) × (figures_of bytes' ≡ Ok g') × grow f d g g'

abbrev pub file_of : Outcome File → File
file_of (Ok f) = f
file_of (Err r) = record { mode = 0; is_module = 0; scopes = []; symbols = []; tree = none }

-- the one Declarator of `const_in_body`: an identifier with an initializer
abbrev pub declarator : Forest
declarator = one (hd Tag.Declarator 0 1 0) (more (hd Tag.Name 1 0 0) none (one (hd Tag.Expression 7 0 0) none))

pub body_pair : WordPair const_in_body using_in_body (file_of (read_file const_in_body)) (file_of (read_file using_in_body)) declarator
unfolding computing
body_pair =
    record {
      before = refl;
      after = refl;
      word = record { mode = refl; is_module = refl; scopes = refl; symbols = refl; tree = inside (inside (beside (in_list_lem refl (here refl)))) };
      mode = refl;
    }

pub most_reached : ReachedBy GrowsMost 1 const_in_body using_in_body
unfolding figures_of computing
most_reached = (
  file_of (read_file const_in_body),
  file_of (read_file using_in_body),
  declarator,
  body_pair,
  refl,
  figures 8 2 1 0 92,
  figures 23 6 4 1 274,
  refl,
  refl,
  (refl, refl, refl, refl, refl),
)

-- the two Declarators of `const_after_using`, of which one has an initializer
abbrev pub declarators : Forest
declarators =
    more (hd Tag.Declarator 0 1 0) (more (hd Tag.Name 2 0 0) none (one (hd Tag.Expression 8 0 0) none))
    (one (hd Tag.Declarator 0 1 0) (one (hd Tag.Name 3 0 0) none))

pub after_pair : WordPair const_after_using using_after_using (file_of (read_file const_after_using)) (file_of (read_file using_after_using)) declarators
unfolding computing
after_pair =
    record {
      before = refl;
      after = refl;
      word = record { mode = refl; is_module = refl; scopes = refl; symbols = refl; tree = inside (in_list_lem refl (behind (here refl))) };
      mode = refl;
    }

pub least_reached : ReachedBy GrowsLeast 1 const_after_using using_after_using
unfolding figures_of computing
least_reached = (
  file_of (read_file const_after_using),
  file_of (read_file using_after_using),
  declarators,
  after_pair,
  refl,
  figures 24 5 5 1 283,
  figures 25 5 5 1 292,
  refl,
  refl,
  (refl, refl, refl, refl, refl),
)
